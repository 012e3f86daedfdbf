use Rattle.std.proofs.Common.{◌≡◌, Some, None, sym, arith}
use Rattle.ledger.specs.Numbers.{or_none}
use Rattle.audit_model.specs.Scan.{scan}
use Rattle.ledger.proofs.Lists.Nones.{none_is}
use Rattle.scan.proofs.Laws.Pages.{pages_first, pages_out, pages_short, pages_fault, pages_next, page_found, means}
use Rattle.scan.proofs.pages.faulty_page.Goals as goal

pub loop-p-init : goal.loop-p-init
loop-p-init c = pages_first _ _ _ c.word-p-end.ensures

pub returns-in_default : goal.returns-in_default
returns-in_default c =
    let e : Some c.loop-p.p ≡ or_none (scan c.args.table.now c.args.file.now) =
    page_found _ _ (pages_short _ _ _ _ _ c.loop-p.invariant c.loop-p.auto.p c.loop-p-test.true c.in_default.ensures.lookup.0) c.loop-p.auto.p in
    record { computed = e; exactly = means _ _ _ c.type_inv.file e }

pub returns-then-not-scan_page : goal.returns-then-not-scan_page
returns-then-not-scan_page c =
    let e : Some c.loop-p.p ≡ or_none (scan c.args.table.now c.args.file.now) =
    page_found _ _ (pages_fault _ _ _ _ _ c.loop-p.invariant c.loop-p.auto.p c.loop-p-test.true _ _ c.in-Some.ensures.lookup.0.1 c.in-Some.ensures.lookup.0.2 c.scan_page.ensures c.if-not-scan_page.true) c.loop-p.auto.p in
    record { computed = e; exactly = means _ _ _ c.type_inv.file e }

pub loop-p-preserved : goal.loop-p-preserved
loop-p-preserved c =
    pages_next _ _ _ _ _ c.loop-p.invariant c.loop-p.auto.p c.loop-p-test.true _ _ c.in-Some.ensures.lookup.0.1 c.in-Some.ensures.lookup.0.2 c.scan_page.ensures c.if-not-scan_page.false

pub returns : goal.returns
returns c =
    let e : None ≡ or_none (scan c.args.table.now c.args.file.now) = none_is (sym (pages_out _ _ _ _ _ c.loop-p.invariant c.loop-p-test.false)) in
    record { computed = e; exactly = means _ _ _ c.type_inv.file e }

pub returns-else-not-scan_page : goal.returns-else-not-scan_page
returns-else-not-scan_page c =
    let next = pages_next _ _ _ _ _ c.loop-p.invariant c.loop-p.auto.p c.loop-p-test.true _ _ c.in-Some.ensures.lookup.0.1 c.in-Some.ensures.lookup.0.2 c.scan_page.ensures c.if-not-scan_page.false in
    let e : None ≡ or_none (scan c.args.table.now c.args.file.now) = none_is (sym (pages_out _ _ _ _ _ next (omega arith))) in
    record { computed = e; exactly = means _ _ _ c.type_inv.file e }
