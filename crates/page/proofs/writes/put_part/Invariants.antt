use Rattle.std.proofs.Common.{◌≡◌, length}
use Rattle.model.specs.Moves.{part_put}
use Rattle.page.proofs.Laws.Writes.{part_from}
use Rattle.page.proofs.writes.put_part.Given as goal

-- what is left to put makes the whole
abbrev pub invariant-loop-i : goal.invariant-loop-i
invariant-loop-i g l = (length l.f ≡ length l.initial.f) × (part_from l.f l.at l.data l.i ≡ part_put l.initial.f l.at l.data)
