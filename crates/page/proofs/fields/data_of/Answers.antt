use Rattle.std.proofs.Common.{◌∙◌}
use Rattle.page.proofs.Laws.Fields.{data_none, data_some}
use Rattle.page.proofs.fields.data_of.Goals as goal

pub returns-in_default : goal.returns-in_default
returns-in_default c = data_none _ _ _ c.find.ensures _ c.in_default.is

pub returns : goal.returns
returns c = c.part_off.ensures ∙ rw c.kind_word-n.ensures (data_some _ _ _ c.find.ensures _ c.in-Some.is _ _ c.two_at-kind.ensures)
