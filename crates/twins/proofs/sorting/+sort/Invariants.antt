use Rattle.twins.proofs.sorting.+sort.Given as goal

abbrev pub decreases-sort : goal.decreases-sort
decreases-sort l = l.level
