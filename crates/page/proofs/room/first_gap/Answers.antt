use Rattle.std.proofs.Common.{refl, arith}
use Rattle.model.specs.Room.{first_gap}
use Rattle.page.proofs.Laws.Room.{gap_full, gap_here, gap_next}
use Rattle.page.proofs.room.first_gap.Goals as goal

pub loop-line-init : goal.loop-line-init
unfolding first_gap
loop-line-init c = (omega arith, refl)

pub returns-then-line_at-line : goal.returns-then-line_at-line
returns-then-line_at-line c = gap_here _ _ _ _ _ c.loop-line.invariant.1 (omega arith) (rw c.line_at.ensures at c.if-line_at-line.true)

pub loop-line-preserved : goal.loop-line-preserved
loop-line-preserved c = (omega arith, rw c.size_at.ensures (gap_next _ _ _ _ _ _ c.loop-line.invariant.1 (omega arith) (rw c.line_at.ensures at c.if-line_at-line.false)))

pub returns : goal.returns
returns c = gap_full _ _ _ _ _ c.loop-line.invariant.1 (omega arith)
