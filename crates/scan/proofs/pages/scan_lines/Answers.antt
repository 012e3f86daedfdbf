use Rattle.std.proofs.Common.{refl, arith}
use Rattle.audit_model.specs.Scan.{lines_in}
use Rattle.scan.proofs.Laws.Pages.{lines_end, lines_far, lines_flag, lines_plain}
use Rattle.scan.proofs.pages.scan_lines.Goals as goal
use Rattle.scan.proofs.pages.scan_lines.Goals.{then-size-gt0, else-size-gt0}

pub loop-line-init : goal.loop-line-init
unfolding lines_in
loop-line-init c = (omega arith, omega arith, refl)

pub returns-in_default : goal.returns-in_default
returns-in_default c = lines_far _ _ _ _ _ _ _ c.loop-line.invariant.2 c.loop-line-test.true 65535 c.in_default.ensures (omega arith)

pub returns-then-at-gt-PAGE_BYTES : goal.returns-then-at-gt-PAGE_BYTES
returns-then-at-gt-PAGE_BYTES c = lines_far _ _ _ _ _ _ _ c.loop-line.invariant.2 c.loop-line-test.true c.in-Some.size c.in-Some.ensures c.if-at-gt-PAGE_BYTES.true

pub loop-line-preserved : goal.loop-line-preserved
loop-line-preserved c = elim c.if-size-gt0.branch [
  | then-size-gt0 w ↦ lines_flag _ _ _ _ _ _ _ c.loop-line.invariant.2 c.loop-line-test.true c.in-Some.size c.in-Some.ensures c.if-at-gt-PAGE_BYTES.false c.loop-line.invariant.1 _ w.if-size-gt0.true w.flags-is
  | else-size-gt0 w ↦ lines_plain _ _ _ _ _ _ _ c.loop-line.invariant.2 c.loop-line-test.true c.in-Some.size c.in-Some.ensures c.if-at-gt-PAGE_BYTES.false c.loop-line.invariant.1 _ w.if-size-gt0.false w.flags-is
]

pub returns : goal.returns
returns c = lines_end _ _ _ _ _ _ _ c.loop-line.invariant.2 _ c.loop-line-test.false c.ends_well.ensures
