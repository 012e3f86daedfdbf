use Rattle.modifies.proofs.Laws.Modifying.{data_nowhere, data_past, data_there}
use Rattle.modifies.proofs.modifying.put_data.Goals as goal

pub returns-then-at-file : goal.returns-then-at-file
returns-then-at-file c = data_there _ _ _ _ c.find.ensures _ c.in-Some.is _ c.put_part.ensures

pub returns-else-at-file : goal.returns-else-at-file
returns-else-at-file c = data_past _ _ _ _ c.find.ensures _ c.in-Some.is c.if-at-file.false

pub returns-in_default : goal.returns-in_default
returns-in_default c = data_nowhere _ _ _ _ c.find.ensures c.in_default.is
