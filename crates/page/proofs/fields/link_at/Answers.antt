use Rattle.std.proofs.Common.{◌∙◌}
use Rattle.page.proofs.Laws.Fields.{link_none, link_some, kind_some}
use Rattle.page.proofs.fields.link_at.Goals as goal

pub returns-in_default : goal.returns-in_default
returns-in_default c = link_none _ _ _ c.find.ensures _ c.in_default.is

pub returns : goal.returns
returns c =
    let kind = c.two_at-kind.ensures ∙ kind_some _ _ _ c.find.ensures _ c.in-Some.is in
    c.three_off.ensures ∙ rw (c.offset.ensures, kind) (link_some _ _ _ c.find.ensures _ c.in-Some.is _)
