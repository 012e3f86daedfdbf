use Rattle.audit_model.specs.Sorting.{key_from}
use Rattle.twins.proofs.sorting.key_from.Goals as goal

pub returns : goal.returns
unfolding key_from
returns c = cc
