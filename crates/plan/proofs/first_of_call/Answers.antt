use Rattle.std.proofs.Common.{rules, ◌∙◌}
use Rattle.restore_model.proofs.Marked.{call_first_lem}
use Rattle.plan.proofs.first_of_call.Goals as goal

pub returns-clause-begins : goal.returns-clause-begins
returns-clause-begins c = (search rules) ∙ call_first_lem c.args.marks.now
