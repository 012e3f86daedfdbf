use Rattle.std.proofs.lemmas.Result.{err_from_is_err_and}
use Rattle.store.proofs.Laws.Refusals.{let_number}
use Rattle.store.proofs.Laws.Changes.{found_or, refused_or, store_refused, store_full, store_placed}
use Rattle.store.proofs.changes.store.Goals as goal

pub returns-in_err-store_refusal : goal.returns-in_err-store_refusal
returns-in_err-store_refusal c =
    let p = err_from_is_err_and c.from_residual.result c.from_residual.ensures.1 in
    rw (p.1, p.2) (store_refused _ _ _ _ _ _ c.store_refusal.ensures _ c.in_err-store_refusal.was)

pub returns-in_err-p : goal.returns-in_err-p
returns-in_err-p c =
    let p = err_from_is_err_and c.from_residual-in_err-p.result c.from_residual-in_err-p.ensures.1 in
    let q = refused_or _ _ _ _ c.ok_or.ensures.value c.in_err-p.was in
    rw (p.1, p.2, q.1)
    (store_full _ _ _ _ _ _ c.store_refusal.ensures (let_number _ _ c.store_refusal.ensures _ c.in_ok-store_refusal.was) _ c.place_for.ensures q.0)

pub returns : goal.returns
returns c =
    store_placed _ _ _ _ _ _ c.store_refusal.ensures (let_number _ _ c.store_refusal.ensures _ c.in_ok-store_refusal.was) _ c.place_for.ensures _ _ _ _
    (found_or _ _ _ _ c.ok_or.ensures.value c.in_ok-p.was) c.store_act-x.ensures c.arrive_at.ensures
