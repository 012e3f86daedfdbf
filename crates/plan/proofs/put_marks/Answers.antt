use Rattle.std.proofs.Common.{◌≡◌, ◌-◌, sym, arith}
use Rattle.restore_model.specs.Plans.{marks_from}
use Rattle.plan.proofs.Laws.Planned.{marks_next}
use Rattle.plan.proofs.put_marks.Goals as goal

pub returns : goal.returns
unfolding marks_from
returns c = let none : c.args.n - c.loop-i.i ≡ 0 = omega arith in sym (rw none at c.loop-i.invariant)

pub loop-i-preserved : goal.loop-i-preserved
loop-i-preserved c = marks_next _ _ _ _ _ _ _ c.loop-i.invariant c.loop-i-test.true c.put_mark.ensures
