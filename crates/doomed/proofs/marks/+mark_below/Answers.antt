use Rattle.std.proofs.Common.{arith, refl}
use Rattle.doomed.proofs.Laws.Marks.{mark_first, mark_next, marked_already, marked_alone, marked_end, marked_out}
use Rattle.doomed.proofs.marks.+mark_below.Goals as goal

pub returns-then-goes : goal.returns-then-goes
returns-then-goes t c = marked_already _ _ _ _ _ c.goes.ensures _ c.if-goes.true

pub returns-then-level-eq0 : goal.returns-then-level-eq0
returns-then-level-eq0 t c = marked_alone _ _ _ _ _ c.goes.ensures _ c.if-goes.false c.put_byte.ensures _ c.if-level-eq0.true

pub loop-turn-init : goal.loop-turn-init
loop-turn-init t c = mark_first _ _ _ _ _ _ _ c.kind_at-kind.ensures c.first_below-below.ensures

pub returns-in_default : goal.returns-in_default
returns-in_default t c =
    marked_end _ _ _ _ _ _ _ _ _ _ c.loop-turn.invariant _ _ c.if-level-eq0.false c.goes.ensures c.if-goes.false c.put_byte.ensures
    c.in_default.is

pub loop-turn-preserved : goal.loop-turn-preserved
loop-turn-preserved t c =
    mark_next _ _ _ _ _ _ _ _ _ _ c.loop-turn.invariant _ _ _ _ _ _ (omega arith) c.in-Some.is c.mark_below-count.ensures refl c.next_below-below.ensures (omega arith)

pub returns : goal.returns
returns t c =
    marked_out _ _ _ _ _ _ _ _ _ _ c.loop-turn.invariant _ _ c.if-level-eq0.false c.goes.ensures c.if-goes.false c.put_byte.ensures (omega arith)
