use Rattle.std.proofs.Common.{rules, refl}
use Rattle.restore_model.specs.Walks.{walk_on}
use Rattle.journal.proofs.Laws.Walked.{walk_end, walk_next}
use Rattle.journal.proofs.walk.walk.Goals as goal

pub loop-i-init : goal.loop-i-init
unfolding walk_on
loop-i-init c = refl

pub loop-i-preserved : goal.loop-i-preserved
loop-i-preserved c = search (walk_next, rules)

pub returns : goal.returns
returns c = walk_end _ _ _ _ _ c.loop-i.invariant c.loop-i-test.false
