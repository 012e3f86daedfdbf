use Rattle.std.proofs.Common.{◌≡◌, length}
use Rattle.audit_model.specs.Sorting.{goes_before, merged}
use Rattle.twins.proofs.Laws.Sorting.{merging}
use Rattle.twins.proofs.sorting.merge.Given as goal

abbrev pub invariant-loop-place : goal.invariant-loop-place
invariant-loop-place l =
    let less = goes_before l.table l.file in
    (length l.out ≡ length l.initial.out)
    × (merging less l.first l.second l.out l.place-index ≡ merged less (length l.initial.out) l.initial.first l.initial.second)
