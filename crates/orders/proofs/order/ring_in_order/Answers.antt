use Rattle.orders.proofs.Laws.Orders.{ordered_first, ordered_spent, ordered_home, ordered_last, ordered_broken, ordered_next}
use Rattle.orders.proofs.order.ring_in_order.Goals as goal

pub loop-turn-init : goal.loop-turn-init
loop-turn-init c = ordered_first _ _ _ _ _ c.next_at-at.ensures

pub returns : goal.returns
returns c = ordered_spent _ _ _ _ _ _ _ _ c.loop-turn.invariant c.loop-turn-test.false

pub returns-then-at-m : goal.returns-then-at-m
returns-then-at-m c = ordered_home _ _ _ _ _ _ _ _ c.loop-turn.invariant c.loop-turn-test.true c.if-at-m.true

pub returns-then-next-m : goal.returns-then-next-m
returns-then-next-m c = ordered_last _ _ _ _ _ _ _ _ c.loop-turn.invariant c.loop-turn-test.true _ c.if-at-m.false c.next_at-next.ensures c.if-next-m.true

pub returns-then-not-in_order : goal.returns-then-not-in_order
returns-then-not-in_order c = ordered_broken _ _ _ _ _ _ _ _ c.loop-turn.invariant c.loop-turn-test.true _ c.if-at-m.false c.next_at-next.ensures _ c.if-next-m.false c.in_order.ensures c.if-not-in_order.true

pub loop-turn-preserved : goal.loop-turn-preserved
loop-turn-preserved c = ordered_next _ _ _ _ _ _ _ _ c.loop-turn.invariant c.loop-turn-test.true _ c.if-at-m.false c.next_at-next.ensures _ c.if-next-m.false c.in_order.ensures c.if-not-in_order.false
