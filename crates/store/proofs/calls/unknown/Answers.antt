use Rattle.std.proofs.Common.{rules}
use Rattle.store_model.specs.Calls.{unknown_call}
use Rattle.store_laws.proofs.Promises.{unknown_promised}
use Rattle.store.proofs.Laws.Calls.{checked_refused, checked_done}
use Rattle.store.proofs.calls.unknown.Goals as goal

pub returns-in-Err : goal.returns-in-Err
unfolding unknown_call
returns-in-Err c =
    let p = unknown_promised _ _ _ c.type_inv.file (search rules) (search rules) _
    (checked_refused _ _ _ _ c.check.ensures.computed _ _ _ _ c.in-Err.is c.code.ensures c.refused.ensures) in
    record { computed = p.0; back = p.1.0; plays = p.1.1 }

pub returns : goal.returns
unfolding unknown_call
returns c =
    let p = unknown_promised _ _ _ c.type_inv.file (search rules) (search rules) _
    (checked_done _ _ _ _ c.check.ensures.computed _ _ c.in_default.not-Err c.refused-2.ensures) in
    record { computed = p.0; back = p.1.0; plays = p.1.1 }
