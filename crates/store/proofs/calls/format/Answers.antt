use Rattle.store_laws.proofs.Promises.{format_promised}
use Rattle.store.proofs.Laws.Calls.{format_refused, format_done}
use Rattle.store.proofs.calls.format.Goals as goal

pub returns-in-Err : goal.returns-in-Err
returns-in-Err c =
    let p = format_promised _ _ _ _ _ (format_refused _ _ _ _ c.check_size.ensures.computed _ _ _ c.in-Err.is c.code.ensures c.refused.ensures) in
    record { computed = p.0; back = p.1.0; formats = p.1.1 }

pub returns : goal.returns
returns c =
    let p = format_promised _ _ _ _ _
    (format_done _ _ _ _ c.check_size.ensures.computed _ _ _ _ c.in_default.not-Err c.format_file.ensures c.done.ensures c.none.ensures c.done-2.ensures) in
    record { computed = p.0; back = p.1.0; formats = p.1.1 }
