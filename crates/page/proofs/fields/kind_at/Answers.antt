use Rattle.std.proofs.Common.{◌∙◌}
use Rattle.page.proofs.Laws.Fields.{kind_none, kind_some}
use Rattle.page.proofs.fields.kind_at.Goals as goal

pub returns-in-Some : goal.returns-in-Some
returns-in-Some c = c.two_at.ensures ∙ kind_some _ _ _ c.find.ensures _ c.in-Some.is

pub returns-in-None : goal.returns-in-None
returns-in-None c = kind_none _ _ _ c.find.ensures c.in-None.is
