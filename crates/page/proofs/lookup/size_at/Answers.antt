use Rattle.ledger.specs.Bytes.{size_at}
use Rattle.page.proofs.Laws.Bytes.{size_past}
use Rattle.page.proofs.lookup.size_at.Goals as goal

pub returns-then-at-f : goal.returns-then-at-f
unfolding size_at
returns-then-at-f c = c.two_at.ensures

pub returns-else-at-f : goal.returns-else-at-f
returns-else-at-f c = size_past _ _ c.if-at-f.false
