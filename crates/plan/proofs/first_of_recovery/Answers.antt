use Rattle.std.proofs.Common.{rules, ◌∙◌}
use Rattle.restore_model.proofs.Marked.{recovery_first_lem}
use Rattle.plan.proofs.first_of_recovery.Goals as goal

pub returns-clause-begins : goal.returns-clause-begins
returns-clause-begins c = (search rules) ∙ recovery_first_lem c.args.marks.now
