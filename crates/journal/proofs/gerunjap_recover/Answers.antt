use Rattle.journal.proofs.Laws.Whole.{recovered_status}
use Rattle.journal.proofs.gerunjap_recover.Goals as goal

pub returns-in-Ok-clause-computed : goal.returns-in-Ok-clause-computed
returns-in-Ok-clause-computed c = recovered_status _ _ _ _ _ _ c.in-Ok.ensures.computed

pub returns-in-Err-BadSize-clause-computed : goal.returns-in-Err-BadSize-clause-computed
returns-in-Err-BadSize-clause-computed c = recovered_status _ _ _ _ _ _ (rw c.in-Err-BadSize.field-0-is at c.in-Err-BadSize.ensures.computed)

pub returns-in-Err-BadJournal-clause-computed : goal.returns-in-Err-BadJournal-clause-computed
returns-in-Err-BadJournal-clause-computed c = recovered_status _ _ _ _ _ _ (rw c.in-Err-BadJournal.field-0-is at c.in-Err-BadJournal.ensures.computed)
