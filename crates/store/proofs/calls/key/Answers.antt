use Rattle.std.proofs.Common.{rules}
use Rattle.store_model.specs.Calls.{key_call}
use Rattle.store_laws.proofs.Promises.{key_promised}
use Rattle.store.proofs.Laws.Calls.{checked_refused, checked_done}
use Rattle.store.proofs.calls.key.Goals as goal

pub returns-in-Err : goal.returns-in-Err
unfolding key_call
returns-in-Err c =
    let p = key_promised _ _ _ c.type_inv.file (search rules) (search rules) _ _ _
    (checked_refused _ _ _ _ c.check.ensures.computed _ _ _ _ c.in-Err.is c.code.ensures c.refused.ensures) in
    record { computed = p.0; back = p.1.0; plays = p.1.1 }

pub returns : goal.returns
unfolding key_call
returns c =
    let p = key_promised _ _ _ c.type_inv.file (search rules) (search rules) c.of.result c.args.kind c.args.key.now
    (checked_done _ _ _ _ c.check.ensures.computed _ _ c.in_default.not-Err (cc)) in
    record { computed = p.0; back = p.1.0; plays = p.1.1 }
