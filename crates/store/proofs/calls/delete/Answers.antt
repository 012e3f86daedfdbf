use Rattle.std.proofs.Common.{rules}
use Rattle.store_model.specs.Calls.{delete_call}
use Rattle.store_laws.proofs.Promises.{delete_promised}
use Rattle.store.proofs.Laws.Calls.{with_refused, with_done}
use Rattle.store.proofs.calls.delete.Goals as goal

pub returns-in-Err : goal.returns-in-Err
unfolding delete_call
returns-in-Err c =
    let p = delete_promised _ _ _ (search rules) (search rules) (search rules) _ _
    (with_refused _ _ _ _ c.check.ensures.computed _ _ _ _ _ c.in-Err.is c.code.ensures c.refused.ensures) in
    record { computed = p.0; back = p.1.0; plays = p.1.1 }

pub returns : goal.returns
unfolding delete_call
returns c =
    let p = delete_promised _ _ _ (search rules) (search rules) (search rules) _ _
    (with_done _ _ _ _ c.check.ensures.computed _ _ _ _ c.in_default.not-Err (rw c.of.ensures c.delete.ensures)) in
    record { computed = p.0; back = p.1.0; plays = p.1.1 }
