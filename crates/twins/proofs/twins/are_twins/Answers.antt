use Rattle.twins.proofs.Laws.Twins.{twins_other, twins_key}
use Rattle.twins.proofs.twins.are_twins.Goals as goal

pub returns-then-two_at : goal.returns-then-two_at
returns-then-two_at c = twins_key _ _ _ _ _ _ c.two_at.ensures c.two_at-2.ensures _ _ _ c.if-two_at.true c.key_from.ensures c.key_from-then-two_at.ensures c.same_key.ensures

pub returns-else-two_at : goal.returns-else-two_at
returns-else-two_at c = twins_other _ _ _ _ _ _ c.two_at.ensures c.two_at-2.ensures c.if-two_at.false
