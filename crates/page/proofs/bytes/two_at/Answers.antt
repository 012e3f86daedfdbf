use Rattle.page.proofs.Laws.Bytes.{two_past, two_from_bytes}
use Rattle.page.proofs.bytes.two_at.Goals as goal

pub returns-then-i-f : goal.returns-then-i-f
returns-then-i-f c = two_from_bytes _ _ _ _ _ c.byte_at.ensures c.byte_at-then-i-f.ensures c.from_be_bytes.ensures

pub returns-else-i-f : goal.returns-else-i-f
returns-else-i-f c = two_past _ _ c.if-i-f.false
