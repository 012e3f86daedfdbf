use Rattle.model.specs.Moves.{put_in}
use Rattle.records.proofs.Laws.Moves.{page_off, page_on}
use Rattle.records.proofs.moves.put_in.Goals as goal

pub returns-in-Some : goal.returns-in-Some
unfolding put_in
returns-in-Some c = let h = c.in-Some.ensures in page_on _ _ _ _ _ h.0 h.1 h.2 c.put_record.ensures

pub returns-in_default : goal.returns-in_default
unfolding put_in
returns-in_default c = page_off _ _ _ c.in_default.ensures
