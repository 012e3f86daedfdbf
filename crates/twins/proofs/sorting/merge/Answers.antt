use Rattle.std.proofs.Common.{rules, refl, arith}
use Rattle.twins.proofs.Laws.Sorting.{taken_first, merge_start, merge_second, merge_first, merge_end}
use Rattle.twins.proofs.sorting.merge.Goals.{then-second_first, else-second_first}
use Rattle.twins.proofs.sorting.merge.Goals as goal

pub loop-place-init : goal.loop-place-init
loop-place-init c = (refl, merge_start _ _ _ _)

pub loop-place-preserved : goal.loop-place-preserved
loop-place-preserved c = elim c.if-second_first.branch [
  | then-second_first w ↦
      let (v, rest) = taken_first _ _ _ w.split_off_first-next.ensures.cases in
      (search rules, rw (w.first-is, w.second-is, rest) (merge_second _ _ _ _ _ _ _ c.loop-place.invariant.1 (search rules) (search rules) (search rules)))
  | else-second_first w ↦
      let (v, rest) = taken_first _ _ _ w.split_off_first-next-else-second_first.ensures.cases in
      (search rules, rw (w.first-is, w.second-is, rest) (merge_first _ _ _ _ _ _ _ c.loop-place.invariant.1 (search rules) (search rules) (search rules)))
]

pub returns : goal.returns
returns c = (merge_end _ _ _ _ _ _ c.loop-place.invariant.1 (omega (arith, c.loop-place-test.false)))
