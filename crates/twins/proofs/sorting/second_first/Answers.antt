use Rattle.twins.proofs.Laws.Sorting.{second_none, second_alone, second_both}
use Rattle.twins.proofs.sorting.second_first.Goals as goal

pub returns-in_default-None : goal.returns-in_default-None
returns-in_default-None c = second_none _ _ _ (rw c.in_default-None.is-1 at c.first-2.ensures.value)

pub returns-in-None-Some : goal.returns-in-None-Some
returns-in-None-Some c = second_alone _ _ _ _ (rw c.in-None-Some.is-0 at c.first.ensures.value) (rw c.in-None-Some.is-1 at c.first-2.ensures.value)

pub returns-in-Some-Some : goal.returns-in-Some-Some
returns-in-Some-Some c = second_both _ _ _ _ _ _ (rw c.in-Some-Some.is-0 at c.first.ensures.value) (rw c.in-Some-Some.is-1 at c.first-2.ensures.value) c.goes_before.ensures
