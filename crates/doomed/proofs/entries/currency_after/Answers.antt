use Rattle.delete_model.specs.Entries.{currency_after}
use Rattle.doomed.proofs.entries.currency_after.Goals as goal

pub returns : goal.returns
unfolding currency_after
returns c = (cc)
