use Rattle.std.proofs.Common.{rules, Ok, Err}
use Rattle.restore_model.specs.declared.Refused.TheVariants.{BadSize, BadJournal}
use Rattle.restore_model.specs.Walks.{recovery_on}
use Rattle.restore_model.proofs.Restores.{recovered}
use Rattle.journal.proofs.back.recover.Goals as goal

pub returns-in_err-n-clause-restores : goal.returns-in_err-n-clause-restores
unfolding recovery_on
returns-in_err-n-clause-restores c = recovered _ _ _ _ _ _ (search rules)

pub returns-then-stored-n-clause-restores : goal.returns-then-stored-n-clause-restores
unfolding recovery_on
returns-then-stored-n-clause-restores c = recovered _ _ _ (Err BadSize) _ _ (search rules)

pub returns-then-eq-clause-restores : goal.returns-then-eq-clause-restores
unfolding recovery_on
returns-then-eq-clause-restores c = recovered _ _ _ (Err BadJournal) _ _ (search rules)

pub returns-clause-restores : goal.returns-clause-restores
unfolding recovery_on
returns-clause-restores c = recovered _ _ _ (Ok tt) _ _ (search rules)
