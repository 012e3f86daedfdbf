use Rattle.page.proofs.Laws.Bytes.{three_past, three_from_bytes}
use Rattle.page.proofs.bytes.three_at.Goals as goal

pub returns-then-i-f : goal.returns-then-i-f
returns-then-i-f c = three_from_bytes _ _ _ _ _ c.byte_at.ensures c.byte_at-then-i-f.ensures _ c.byte_at-then-i-f-2.ensures c.from_be_bytes.ensures

pub returns-else-i-f : goal.returns-else-i-f
returns-else-i-f c = three_past _ _ c.if-i-f.false
