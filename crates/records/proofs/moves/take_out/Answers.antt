use Rattle.model.specs.Moves.{take_out}
use Rattle.records.proofs.Laws.Moves.{page_off, page_on}
use Rattle.records.proofs.moves.take_out.Goals as goal

pub returns-in-Some : goal.returns-in-Some
unfolding take_out
returns-in-Some c = let h = c.in-Some.ensures in page_on _ _ _ _ _ h.0 h.1 h.2 c.take_line.ensures

pub returns-in_default : goal.returns-in_default
unfolding take_out
returns-in_default c = page_off _ _ _ c.in_default.ensures
