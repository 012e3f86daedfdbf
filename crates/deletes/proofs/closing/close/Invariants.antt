use Rattle.std.proofs.Common.{◌≡◌, ◌-◌}
use Rattle.ring_model.specs.Rings.{ring_fuel}
use Rattle.delete_model.specs.Closing.{close_from}
use Rattle.deletes.proofs.closing.close.Given as goal

abbrev pub invariant-loop-turn : goal.invariant-loop-turn
invariant-loop-turn g l =
    close_from (g.R.Ring.follows l.ring) (g.R.Ring.joined l.ring) l.marks l.home l.file l.last l.at (ring_fuel - l.turn)
    ≡ close_from (g.R.Ring.follows l.ring) (g.R.Ring.joined l.ring) l.marks l.home l.fn.file l.home l.first ring_fuel
