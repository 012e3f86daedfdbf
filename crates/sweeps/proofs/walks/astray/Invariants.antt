use Rattle.std.proofs.Common.{◌≡◌, ◌-◌}
use Rattle.ledger.specs.Numbers.{run}
use Rattle.audit_model.specs.Marks.{sweep_on}
use Rattle.sweeps.proofs.walks.astray.Given as goal

-- the walks from here on come to what all do
abbrev pub invariant-loop-start : goal.invariant-loop-start
invariant-loop-start g l = sweep_on (g.R.Rings.walks l.rings) (run l.start (l.end - l.start)) l.marks ≡ sweep_on (g.R.Rings.walks l.rings) (run l.first (l.end - l.first)) l.fn.marks
