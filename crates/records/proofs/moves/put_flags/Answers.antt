use Rattle.std.proofs.Common.{◌∙◌, refl, arith}
use Rattle.records.proofs.Laws.Moves.{flags_put-part}
use Rattle.records.proofs.moves.put_flags.Goals as goal

pub returns : goal.returns
returns c = flags_put-part _ _ _ (omega arith) (rw c.to_be_bytes.ensures refl) ∙ c.put_part.ensures
