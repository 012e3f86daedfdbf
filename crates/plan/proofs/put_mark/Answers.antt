use Rattle.journal.proofs.Laws.Written.{changed_number}
use Rattle.plan.proofs.put_mark.Goals as goal

pub returns : goal.returns
returns c = rw (← changed_number _ _ _ _ c.differs.ensures) c.put_byte.ensures
