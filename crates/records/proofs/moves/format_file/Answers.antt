use Rattle.std.proofs.Common.{refl, arith}
use Rattle.model.specs.Moves.{file_made}
use Rattle.records.proofs.Laws.Moves.{made_all, made_short, made_next}
use Rattle.records.proofs.moves.format_file.Goals as goal

pub loop-p-init : goal.loop-p-init
unfolding file_made
loop-p-init c = refl

pub returns-in_default : goal.returns-in_default
returns-in_default c = made_short _ _ _ _ c.loop-p.invariant (let h = c.in_default.ensures in omega arith)

pub loop-p-preserved : goal.loop-p-preserved
loop-p-preserved c = let h = c.in-Some.ensures in made_next _ _ _ _ _ _ _ c.loop-p.invariant (omega arith) h.0 h.1 h.2 c.format_page.ensures

pub returns : goal.returns
returns c = made_all _ _ _ _ c.loop-p.invariant (omega arith)
