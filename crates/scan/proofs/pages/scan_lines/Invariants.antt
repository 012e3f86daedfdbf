use Rattle.std.proofs.Common.{◌≡◌, ◌-◌, ◌<◌, ◌≤◌, ◌^◌}
use Rattle.audit_model.specs.Scan.{lines_from, lines_in}
use Rattle.scan.proofs.pages.scan_lines.Given as goal

-- a line's flag is above those before it
abbrev pub invariant-loop-line : goal.invariant-loop-line
invariant-loop-line l = (l.at ≤ 512) × (l.flags < 2 ^ l.line) × (lines_from l.table l.page l.p l.at l.flags l.line (64 - l.line) ≡ lines_in l.table l.page l.p)
