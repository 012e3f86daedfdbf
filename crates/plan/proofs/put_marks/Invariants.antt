use Rattle.std.proofs.Common.{◌≡◌, ◌-◌}
use Rattle.restore_model.specs.Plans.{marks_from}
use Rattle.plan.proofs.put_marks.Given as goal

abbrev pub invariant-loop-i : goal.invariant-loop-i
invariant-loop-i l = marks_from l.before l.after l.marks l.i (l.n - l.i) ≡ marks_from l.before l.after l.fn.marks 0 l.n
