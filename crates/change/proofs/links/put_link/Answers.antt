use Rattle.std.proofs.Common.{◌∙◌}
use Rattle.page.proofs.Laws.Fields.{kind_some}
use Rattle.change.proofs.Laws.Links.{link_off, link_on}
use Rattle.change.proofs.links.put_link.Goals as goal

pub returns-in-Some : goal.returns-in-Some
returns-in-Some c =
    let kind = c.two_at-kind.ensures ∙ kind_some _ _ _ c.find.ensures _ c.in-Some.is in
    link_on _ _ _ _ _ c.find.ensures _ c.in-Some.is ∙ (rw (c.offset.ensures, kind) at c.put_three_off.ensures)

pub returns-in_default : goal.returns-in_default
returns-in_default c = link_off _ _ _ _ _ c.find.ensures c.in_default.is
