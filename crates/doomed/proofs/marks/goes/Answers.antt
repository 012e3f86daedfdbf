use Rattle.delete_model.specs.Marks.{goes_in}
use Rattle.doomed.proofs.marks.goes.Goals as goal

pub returns : goal.returns
unfolding goes_in
returns c = (cc)
