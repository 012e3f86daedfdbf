use Rattle.std.proofs.Common.{◌≡◌, ◌-◌}
use Rattle.ring_model.specs.Rings.{ring_fuel, between_from}
use Rattle.rings.proofs.gap_for.Given as goal

-- the walk from here, with the turns left, comes to what the whole walk does
abbrev pub invariant-loop-turn : goal.invariant-loop-turn
invariant-loop-turn l = between_from l.table l.file l.j l.m l.key l.x l.before (ring_fuel - l._turn) ≡ between_from l.table l.file l.j l.m l.key l.x l.m ring_fuel
