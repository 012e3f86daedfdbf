use Rattle.std.proofs.Common.{arith}
use Rattle.journal.proofs.Laws.Walked.{hex_past}
use Rattle.journal.proofs.walk.hex_at.Goals as goal

pub returns-then-saturating_sub-k : goal.returns-then-saturating_sub-k
returns-then-saturating_sub-k c = hex_past _ _ (omega arith)
