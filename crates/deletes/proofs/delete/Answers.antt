use Rattle.deletes.proofs.Laws.Deletes.{delete_none, delete_some}
use Rattle.deletes.proofs.delete.Goals as goal

pub returns-then-x-eq0 : goal.returns-then-x-eq0
returns-then-x-eq0 c = delete_none _ _ _ c.if-x-eq0.true

pub returns : goal.returns
returns c =
    delete_some _ _ _ _ _ _ _ _ _ _ c.if-x-eq0.false c.mark_below-count.ensures c.kind_at.ensures c.done-answer.ensures c.currency_after-after.ensures c.act.ensures c.done.ensures
