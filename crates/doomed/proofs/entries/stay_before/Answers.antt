use Rattle.std.proofs.Common.{arith, refl}
use Rattle.delete_model.specs.Entries.{stay_in}
use Rattle.doomed.proofs.Laws.Entries.{stay_out, stay_here, stay_next}
use Rattle.doomed.proofs.entries.stay_before.Goals as goal
use Rattle.doomed.proofs.entries.stay_before.Goals.{then-goes, else-goes}

pub loop-turn-init : goal.loop-turn-init
unfolding stay_in
loop-turn-init c = rw c.next_at-at.ensures refl

pub returns-then-at-code : goal.returns-then-at-code
returns-then-at-code c = stay_here _ _ _ _ _ _ _ c.loop-turn.invariant (omega arith) c.if-at-code.true

pub loop-turn-preserved : goal.loop-turn-preserved
loop-turn-preserved c =
    stay_next _ _ _ _ _ _ _ c.loop-turn.invariant (omega arith) _ _ _ c.if-at-code.false
    (elim c.if-goes.branch [
      | then-goes w ↦ rw (← c.goes.ensures, w.if-goes.true) w.best-is
      | else-goes w ↦ rw (← c.goes.ensures, w.if-goes.false) w.best-is
    ])
    c.next_at-at-in-loop-turn.ensures (omega arith)

pub returns : goal.returns
returns c = stay_out _ _ _ _ _ _ _ c.loop-turn.invariant (omega arith)
