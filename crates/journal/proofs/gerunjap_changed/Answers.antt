use Rattle.restore_model.proofs.Starts.{tells}
use Rattle.journal.proofs.Laws.Written.{changed_number}
use Rattle.journal.proofs.gerunjap_changed.Goals as goal

pub returns-clause-computed : goal.returns-clause-computed
returns-clause-computed c = changed_number _ _ _ _ c.differs.ensures

pub returns-clause-tells : goal.returns-clause-tells
returns-clause-tells c = tells _ _ _ _ (changed_number _ _ _ _ c.differs.ensures)
