use Rattle.page.proofs.Laws.Bytes.{flags_from_bytes}
use Rattle.page.proofs.room.flags_at.Goals as goal

pub returns : goal.returns
returns c = flags_from_bytes _ _ _ c.bytes_at.ensures c.from_be_bytes.ensures
