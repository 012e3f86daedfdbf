use Rattle.frames.proofs.Laws.Prints.{head_is}
use Rattle.frames.proofs.text.head_of.Goals as goal

pub returns : goal.returns
returns c = head_is _ _ _ _ c.to_be_bytes.ensures c.to_be_bytes-2.ensures c.to_be_bytes-3.ensures
