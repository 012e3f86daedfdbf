use Rattle.std.proofs.Common.{◌≡◌, ◌-◌}
use Rattle.audit_model.specs.Marks.{walk_on}
use Rattle.sweeps.proofs.walks.walk_home.Given as goal

-- the walk from here, with the turns left, comes to what the whole walk does
abbrev pub invariant-loop-turn : goal.invariant-loop-turn
invariant-loop-turn g l = walk_on (8256 - l._turn) (g.R.Ring.met l.ring) (g.R.Ring.back l.ring) l.home l.last l.at l.marks ≡ walk_on 8256 (g.R.Ring.met l.ring) (g.R.Ring.back l.ring) l.home l.before l.first l.fn.marks
