use Rattle.delete_model.specs.Closing.{act_on}
use Rattle.deletes.proofs.closing.act.Goals as goal

pub returns : goal.returns
unfolding act_on
returns c = (cc)
