use Rattle.sweeps.proofs.Laws.Marks.{walk_spent, walk_closed, walk_lost, walk_next}
use Rattle.sweeps.proofs.walks.walk_home.Goals as goal

pub returns-then-at-home : goal.returns-then-at-home
returns-then-at-home g c = walk_closed _ _ _ _ _ _ _ _ _ c.loop-turn.invariant c.loop-turn-test.true _ c.if-at-home.true c.closes.ensures

pub returns-in_default : goal.returns-in_default
returns-in_default g c = walk_lost _ _ _ _ _ _ _ _ _ c.loop-turn.invariant c.loop-turn-test.true _ c.if-at-home.false c.next.ensures c.in_default.is

pub loop-turn-preserved : goal.loop-turn-preserved
loop-turn-preserved g c = walk_next _ _ _ _ _ _ _ _ _ c.loop-turn.invariant c.loop-turn-test.true _ c.if-at-home.false c.next.ensures _ _ c.in-Some.is c.mark.ensures

pub returns : goal.returns
returns g c = walk_spent _ _ _ _ _ _ _ _ _ c.loop-turn.invariant c.loop-turn-test.false
