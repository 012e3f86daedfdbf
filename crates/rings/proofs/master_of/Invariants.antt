use Rattle.std.proofs.Common.{◌≡◌, ◌-◌}
use Rattle.ring_model.specs.Rings.{ring_fuel, master_from}
use Rattle.rings.proofs.master_of.Given as goal

-- the walk from here, with the turns left, comes to what the whole walk does
abbrev pub invariant-loop-turn : goal.invariant-loop-turn
invariant-loop-turn l = master_from l.table l.file l.j l.at (ring_fuel - l._turn) ≡ master_from l.table l.file l.j l.code ring_fuel
