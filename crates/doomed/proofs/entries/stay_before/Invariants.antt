use Rattle.std.proofs.Common.{◌≡◌, ◌-◌}
use Rattle.model.specs.Reads.{next_in}
use Rattle.ring_model.specs.Rings.{ring_fuel}
use Rattle.delete_model.specs.Marks.{goes_in}
use Rattle.delete_model.specs.Entries.{stay_from, stay_in}
use Rattle.doomed.proofs.entries.stay_before.Given as goal

abbrev pub invariant-loop-turn : goal.invariant-loop-turn
invariant-loop-turn l = stay_from (next_in l.table l.file l.j) (goes_in l.marks) l.code l.best l.at (ring_fuel - l.turn) ≡ stay_in l.table l.file l.marks l.j l.m l.code
