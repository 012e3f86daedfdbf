use Rattle.std.proofs.Common.{rules}
use Rattle.twins.proofs.Laws.Sorting.{sort_none, sort_one, sort_halves}
use Rattle.twins.proofs.sorting.+sort.Goals.{then-level-eq0-via-then-level-eq0, then-level-eq0-via-else-level-eq0+then-list-lt2}
use Rattle.twins.proofs.sorting.+sort.Goals as goal

pub returns-then-level-eq0 : goal.returns-then-level-eq0
returns-then-level-eq0 t c = elim c.then-level-eq0.branch [
  | then-level-eq0-via-then-level-eq0 w ↦ sort_none _ _ _ _ w.if-level-eq0.true
  | then-level-eq0-via-else-level-eq0+then-list-lt2 w ↦ sort_one _ _ _ _ w.if-list-lt2.true
]

pub returns : goal.returns
returns t c = sort_halves _ _ _ _ _ _ _ _ _ c.if-level-eq0.false (rw c.split_at_mut-low.ensures.front at c.sort.ensures) (rw c.split_at_mut-low.ensures.back at c.sort-2.ensures) c.merge_halves.ensures (search rules) (search rules)
