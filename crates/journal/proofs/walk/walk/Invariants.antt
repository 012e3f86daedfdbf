use Rattle.std.proofs.Common.{◌≡◌, drop}
use Rattle.restore_model.specs.Walks.{walk_from, walk_on}
use Rattle.journal.proofs.walk.walk.Given as goal

abbrev pub invariant-loop-i : goal.invariant-loop-i
invariant-loop-i l = walk_from l.n l.journal l.i (drop l.i l.journal) l.w ≡ walk_on l.n l.journal
