use Rattle.std.proofs.Common.{arith}
use Rattle.twins.proofs.Laws.Sorting.{before_lower, before_higher, before_key}
use Rattle.twins.proofs.sorting.goes_before.Goals as goal

pub returns-then-x-y : goal.returns-then-x-y
returns-then-x-y c = before_lower _ _ _ _ _ _ c.two_at-x.ensures c.two_at-y.ensures c.if-x-y.true

pub returns-then-x-y-2 : goal.returns-then-x-y-2
returns-then-x-y-2 c = before_key _ _ _ _ _ _ c.two_at-x.ensures c.two_at-y.ensures _ _ _ c.if-x-y-2.true c.key_from.ensures c.key_from-then-x-y-2.ensures c.less_key.ensures

pub returns-else-x-y-2 : goal.returns-else-x-y-2
returns-else-x-y-2 c = before_higher _ _ _ _ _ _ c.two_at-x.ensures c.two_at-y.ensures (omega (arith, c.if-x-y.false)) c.if-x-y-2.false
