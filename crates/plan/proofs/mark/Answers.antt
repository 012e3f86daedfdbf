use Rattle.std.proofs.Common.{rules}
use Rattle.restore_model.proofs.Both.{marks_told_from}
use Rattle.plan.proofs.Laws.Planned.{mark_apart, mark_size, mark_room, mark_put}
use Rattle.plan.proofs.mark.Goals as goal

pub returns-then-before-after-clause-computed : goal.returns-then-before-after-clause-computed
returns-then-before-after-clause-computed c = mark_apart _ _ _ c.if-before-after.true

pub returns-in_err-n-clause-computed : goal.returns-in_err-n-clause-computed
returns-in_err-n-clause-computed c = search (mark_size, rules)

pub returns-in_err-n-clause-marks : goal.returns-in_err-n-clause-marks
returns-in_err-n-clause-marks c = marks_told_from _ _ _ _ _ (search (mark_size, rules))

pub returns-then-marks-n-clause-computed : goal.returns-then-marks-n-clause-computed
returns-then-marks-n-clause-computed c = mark_room _ _ _ c.if-before-after.false _ (search rules) c.if-marks-n.true

pub returns-then-marks-n-clause-marks : goal.returns-then-marks-n-clause-marks
returns-then-marks-n-clause-marks c = marks_told_from _ _ _ _ _ (mark_room _ _ _ c.if-before-after.false _ (search rules) c.if-marks-n.true)

pub returns-clause-computed : goal.returns-clause-computed
returns-clause-computed c = mark_put _ _ _ c.if-before-after.false _ (search rules) _ c.if-marks-n.false c.put_marks.ensures

pub returns-clause-marks : goal.returns-clause-marks
returns-clause-marks c = marks_told_from _ _ _ _ _ (mark_put _ _ _ c.if-before-after.false _ (search rules) _ c.if-marks-n.false c.put_marks.ensures)
