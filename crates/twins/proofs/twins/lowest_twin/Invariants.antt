use Rattle.std.proofs.Common.{◌≡◌}
use Rattle.std.specs.Slice.Iter.{windows_size, windows_rest}
use Rattle.audit_model.specs.Twins.{lowest_from}
use Rattle.twins.proofs.Laws.Twins.{Looking}
use Rattle.twins.proofs.twins.lowest_twin.Given as goal

abbrev pub invariant-loop-pair : goal.invariant-loop-pair
invariant-loop-pair l =
    (windows_size l.pair-iterator ≡ 2)
    × Looking l.table l.file (windows_rest l.pair-iterator) l.lowest (lowest_from l.table l.file 0 l.list)
