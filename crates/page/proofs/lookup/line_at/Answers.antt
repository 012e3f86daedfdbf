use Rattle.ledger.specs.Bytes.{line_at}
use Rattle.page.proofs.Laws.Bytes.{line_past}
use Rattle.page.proofs.lookup.line_at.Goals as goal

pub returns-then-at-f : goal.returns-then-at-f
unfolding line_at
returns-then-at-f c = c.byte_at.ensures

pub returns-else-at-f : goal.returns-else-at-f
returns-else-at-f c = line_past _ _ c.if-at-f.false
