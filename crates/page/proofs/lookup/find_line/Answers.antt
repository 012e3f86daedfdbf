use Rattle.std.proofs.Common.{refl, arith}
use Rattle.model.specs.Reads.{line_in}
use Rattle.page.proofs.Laws.Lookup.{line_limit, line_end, line_here, line_next, line_out}
use Rattle.page.proofs.lookup.find_line.Goals as goal

pub loop-turn-init : goal.loop-turn-init
unfolding line_in
loop-turn-init c = (omega arith, refl)

pub returns-then-at-ge-LAST_HEAD : goal.returns-then-at-ge-LAST_HEAD
returns-then-at-ge-LAST_HEAD c = line_limit _ _ _ _ _ _ c.loop-turn.invariant.0 c.loop-turn.invariant.1 c.if-at-ge-LAST_HEAD.true

pub returns-then-size-eq0 : goal.returns-then-size-eq0
returns-then-size-eq0 c = line_end _ _ _ _ _ _ c.loop-turn.invariant.0 c.loop-turn.invariant.1 (cc)

pub returns-then-line_at-line : goal.returns-then-line_at-line
returns-then-line_at-line c = line_here _ _ _ _ _ _ c.loop-turn.invariant.0 c.loop-turn.invariant.1 (omega arith) (omega arith) (rw c.size_at-size.ensures at c.if-size-eq0.false) (cc)

pub loop-turn-preserved : goal.loop-turn-preserved
loop-turn-preserved c = (omega arith, rw c.size_at-size.ensures (line_next _ _ _ _ _ _ c.loop-turn.invariant.0 c.loop-turn.invariant.1 (omega arith) (omega arith) (rw c.size_at-size.ensures at c.if-size-eq0.false) (rw c.line_at.ensures at c.if-line_at-line.false)))

pub returns : goal.returns
returns c = line_out _ _ _ _ _ _ c.loop-turn.invariant.0 c.loop-turn.invariant.1 (omega arith)
