use Rattle.std.proofs.Common.{◌≡◌, ◌-◌}
use Rattle.delete_model.specs.Marks.{mark_from, below_on, marked_on}
use Rattle.doomed.proofs.marks.+mark_below.Given as goal

abbrev pub decreases-mark_below : goal.decreases-mark_below
decreases-mark_below l = l.level

abbrev pub invariant-loop-turn : goal.invariant-loop-turn
invariant-loop-turn l =
    mark_from (marked_on l.table l.file (l.level - 1)) l.table l.file l.code l.kind l.count l.below l.marks (200000 - l.turn)
    ≡ below_on (marked_on l.table l.file (l.level - 1)) l.table l.file l.code l.initial.marks
