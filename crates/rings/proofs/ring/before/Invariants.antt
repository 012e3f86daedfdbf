use Rattle.std.proofs.Common.{◌≡◌, ◌-◌}
use Rattle.ring_model.specs.Rings.{ring_fuel, back_from}
use Rattle.rings.proofs.ring.before.Given as goal

-- the walk from here, with the turns left, comes to what the whole walk does
abbrev pub invariant-loop-turn : goal.invariant-loop-turn
invariant-loop-turn g l = back_from (g.R.Ring.follows l.ring) l.code l.before l.at (ring_fuel - l._turn) ≡ back_from (g.R.Ring.follows l.ring) l.code l.last l.first ring_fuel
