use Rattle.std.proofs.lemmas.Result.{err_from_is_err_and}
use Rattle.store.proofs.Laws.Refusals.{let_number}
use Rattle.store.proofs.Laws.Changes.{modify_refused, modify_done}
use Rattle.store.proofs.changes.modify.Goals as goal

pub returns-in_err-modify_refusal : goal.returns-in_err-modify_refusal
returns-in_err-modify_refusal c =
    let p = err_from_is_err_and c.from_residual.result c.from_residual.ensures.1 in
    rw (p.1, p.2) (modify_refused _ _ _ _ _ c.modify_refusal.ensures _ c.in_err-modify_refusal.was)

pub returns : goal.returns
returns c =
    modify_done _ _ _ _ _ c.modify_refusal.ensures _ _ (let_number _ _ c.modify_refusal.ensures _ c.in_ok-modify_refusal.was) c.arrive_at_run-done.ensures c.modify_act.ensures
