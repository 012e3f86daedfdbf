use Rattle.std.proofs.Common.{rules}
use Rattle.twins.proofs.Laws.Twins.{calculated_none, calculated_here}
use Rattle.twins.proofs.twins.calculated_at.Goals as goal

pub returns-in_err-s : goal.returns-in_err-s
returns-in_err-s c = search (calculated_none, rules)

pub returns : goal.returns
returns c = calculated_here _ _ _ _ c.find.ensures _ _ _ _ c.in_ok-s.was c.two_at-kind.ensures c.is_calculated.ensures c.then_some.ensures
