use Rattle.sweeps.proofs.Laws.Marks.{sweep_done, sweep_lost, sweep_next}
use Rattle.sweeps.proofs.walks.astray.Goals as goal

pub returns-then-not-walk-clause-swept : goal.returns-then-not-walk-clause-swept
returns-then-not-walk-clause-swept g c = sweep_lost _ _ _ _ _ c.loop-start.invariant c.loop-start-test.true _ _ c.walk.ensures c.if-not-walk.true

pub loop-start-preserved : goal.loop-start-preserved
loop-start-preserved g c = sweep_next _ _ _ _ _ c.loop-start.invariant c.loop-start-test.true _ _ c.walk.ensures c.if-not-walk.false

pub returns-clause-swept : goal.returns-clause-swept
returns-clause-swept g c = sweep_done _ _ _ _ _ c.loop-start.invariant c.loop-start-test.false
