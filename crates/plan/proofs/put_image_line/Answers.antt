use Rattle.plan.proofs.Laws.Planned.{image_unnamed, image_beyond, image_room, image_put_lem}
use Rattle.plan.proofs.put_image_line.Goals as goal
use Rattle.plan.proofs.put_image_line.Goals.{then-page-eq0-via-then-page-eq0, then-page-eq0-via-else-page-eq0+then-before-page, then-page-eq0-via-else-page-eq0+else-before-page+then-out}

pub returns-then-page-eq0 : goal.returns-then-page-eq0
returns-then-page-eq0 c =
    elim c.then-page-eq0.branch [
      | then-page-eq0-via-then-page-eq0 w ↦ image_unnamed _ _ _ w.if-page-eq0.true
      | then-page-eq0-via-else-page-eq0+then-before-page w ↦ image_beyond _ _ _ w.if-page-eq0.false w.if-before-page.true
      | then-page-eq0-via-else-page-eq0+else-before-page+then-out w ↦ image_room _ _ _ w.if-page-eq0.false w.if-before-page.false w.if-out.true
    ]

pub returns : goal.returns
returns c = image_put_lem _ _ _ c.if-page-eq0.false c.if-before-page.false _ c.if-out.false c.put_image.ensures
