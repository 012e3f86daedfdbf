use Rattle.std.proofs.Common.{◌≡◌, ◌+◌, ◌-◌, ◌*◌, ◌≤◌}
use Rattle.model.specs.Room.{gap_from, first_gap}
use Rattle.page.proofs.room.first_gap.Given as goal

abbrev pub invariant-loop-line : goal.invariant-loop-line
invariant-loop-line l = (l.at + (64 - l.line) * 65536 ≤ 4194320) × (gap_from l.page l.at l.line (64 - l.line) ≡ first_gap l.page)
