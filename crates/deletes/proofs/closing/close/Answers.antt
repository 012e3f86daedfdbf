use Rattle.std.proofs.Common.{arith}
use Rattle.deletes.proofs.Laws.Closing.{close_out, close_home, close_goes, close_stays}
use Rattle.deletes.proofs.closing.close.Goals as goal
use Rattle.deletes.proofs.closing.close.Goals.{then-not-goes, else-not-goes}

pub returns-then-at-home : goal.returns-then-at-home
returns-then-at-home g c = close_home _ _ _ _ _ _ _ _ _ c.loop-turn.invariant (omega arith) _ c.if-at-home.true c.join.ensures

pub loop-turn-preserved : goal.loop-turn-preserved
loop-turn-preserved g c =
    elim c.if-not-goes.branch [
      | then-not-goes w ↦
          rw (w.file-is, w.last-is)
          (close_stays _ _ _ _ _ _ _ _ _ c.loop-turn.invariant (omega arith) _ _ c.if-at-home.false c.next-next.ensures (omega arith) _
          (rw (← c.goes.ensures) w.if-not-goes.true) w.join-then-not-goes.ensures)
      | else-not-goes w ↦
          rw (w.file-is, w.last-is)
          (close_goes _ _ _ _ _ _ _ _ _ c.loop-turn.invariant (omega arith) _ _ c.if-at-home.false c.next-next.ensures (omega arith)
          (rw (← c.goes.ensures) w.if-not-goes.false))
    ]

pub returns : goal.returns
returns g c = close_out _ _ _ _ _ _ _ _ _ c.loop-turn.invariant (omega arith)
