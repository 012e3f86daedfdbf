use Rattle.std.proofs.Common.{◌≡◌, ◌-◌, ◌+◌}
use Rattle.audit_model.specs.Scan.{scan_from, scan}
use Rattle.scan.proofs.pages.faulty_page.Given as goal

-- the pages before have no fault
abbrev pub invariant-loop-p : goal.invariant-loop-p
invariant-loop-p l = scan_from l.table l.file l.p (l.p-end + 1 - l.p) ≡ scan l.table l.file
