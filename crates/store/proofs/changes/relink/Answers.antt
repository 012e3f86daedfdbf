use Rattle.std.proofs.lemmas.Result.{err_from_is_err_and}
use Rattle.store.proofs.Laws.Refusals.{let_number}
use Rattle.store.proofs.Laws.Changes.{relink_refused, relink_done}
use Rattle.store.proofs.changes.relink.Goals as goal

pub returns-in_err-relink_refusal : goal.returns-in_err-relink_refusal
returns-in_err-relink_refusal c =
    let p = err_from_is_err_and c.from_residual.result c.from_residual.ensures.1 in
    rw (p.1, p.2) (relink_refused _ _ _ _ _ _ c.relink_refusal.ensures _ c.in_err-relink_refusal.was)

pub returns : goal.returns
returns c =
    relink_done _ _ _ _ _ _ c.relink_refusal.ensures _ _ (let_number _ _ c.relink_refusal.ensures _ c.in_ok-relink_refusal.was) c.arrive_at_run-done.ensures c.relink_act.ensures
