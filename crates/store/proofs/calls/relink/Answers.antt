use Rattle.std.proofs.Common.{rules}
use Rattle.store_model.specs.Calls.{relink_call}
use Rattle.store_laws.proofs.Promises.{relink_promised}
use Rattle.store.proofs.Laws.Calls.{with_refused, with_done}
use Rattle.store.proofs.calls.relink.Goals as goal

pub returns-in-Err : goal.returns-in-Err
unfolding relink_call
returns-in-Err c =
    let p = relink_promised _ _ _ (search rules) (search rules) (search rules) _ _ _ _
    (with_refused _ _ _ _ c.check.ensures.computed _ _ _ _ _ c.in-Err.is c.code.ensures c.refused.ensures) in
    record { computed = p.0; back = p.1.0; plays = p.1.1 }

pub returns : goal.returns
unfolding relink_call
returns c =
    let p = relink_promised _ _ _ (search rules) (search rules) (search rules) _ _ _ _
    (with_done _ _ _ _ c.check.ensures.computed _ _ _ _ c.in_default.not-Err (rw c.of.ensures c.relink.ensures)) in
    record { computed = p.0; back = p.1.0; plays = p.1.1 }
