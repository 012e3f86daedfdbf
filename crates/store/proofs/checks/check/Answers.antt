use Rattle.std.proofs.Common.{rules}
use Rattle.std.proofs.lemmas.Result.{err_from_is_err_and}
use Rattle.store_laws.proofs.Promises.{check_promised}
use Rattle.store.proofs.Laws.Refusals.{let_number}
use Rattle.store.proofs.Laws.Checks.{refused_size, refused_file, refused_currency, let_through}
use Rattle.store.proofs.checks.check.Goals as goal

pub returns-in_err-check_size : goal.returns-in_err-check_size
returns-in_err-check_size c =
    let e = err_from_is_err_and c.from_residual.result c.from_residual.ensures.1 in
    let p = check_promised _ _ _ c.type_inv.file (search rules) (search rules) _
    (rw (e.1, e.2) (refused_size _ _ c.args.cur _ c.check_size.ensures.computed _ c.in_err-check_size.was)) in
    record { computed = p.0; exactly = p.1 }

pub returns-in_err-audit : goal.returns-in_err-audit
returns-in_err-audit c =
    let e = err_from_is_err_and c.from_residual-in_err-audit.result c.from_residual-in_err-audit.ensures.1 in
    let size = let_number _ _ c.check_size.ensures.computed _ c.in_ok-check_size.was in
    let p = check_promised _ _ _ c.type_inv.file (search rules) (search rules) _
    (rw (e.1, e.2) (refused_file _ _ c.args.cur _ c.check_size.ensures.computed size _ c.audit.ensures _ c.in_err-audit.was)) in
    record { computed = p.0; exactly = p.1 }

pub returns-then-not-in_force : goal.returns-then-not-in_force
returns-then-not-in_force c =
    let size = let_number _ _ c.check_size.ensures.computed _ c.in_ok-check_size.was in
    let p = check_promised _ _ _ c.type_inv.file (search rules) (search rules) _
    (refused_currency _ _ _ _ c.check_size.ensures.computed size _ c.audit.ensures _ c.in_ok-audit.was _ c.in_force.ensures c.if-not-in_force.true) in
    record { computed = p.0; exactly = p.1 }

pub returns : goal.returns
returns c =
    let size = let_number _ _ c.check_size.ensures.computed _ c.in_ok-check_size.was in
    let p = check_promised _ _ _ c.type_inv.file (search rules) (search rules) _
    (let_through _ _ _ _ c.check_size.ensures.computed size _ c.audit.ensures _ c.in_ok-audit.was _ c.in_force.ensures c.if-not-in_force.false) in
    record { computed = p.0; exactly = p.1 }
