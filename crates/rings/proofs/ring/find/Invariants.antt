use Rattle.std.proofs.Common.{◌≡◌, ◌-◌}
use Rattle.ring_model.specs.Rings.{ring_fuel, found_from}
use Rattle.rings.proofs.ring.find.Given as goal

-- the walk from here, with the turns left, comes to what the whole walk does
abbrev pub invariant-loop-place : goal.invariant-loop-place
invariant-loop-place g l =
    found_from (g.R.Ring.follows l.ring) (g.R.Ring.comes_home l.ring) (g.S.Sought.fits l.sought) l.at l.place (8257 - l.place)
    ≡ found_from (g.R.Ring.follows l.ring) (g.R.Ring.comes_home l.ring) (g.S.Sought.fits l.sought) l.first 1 ring_fuel
