use Rattle.store.proofs.Laws.Changes.{run_is}
use Rattle.store.proofs.changes.arrive_at_run.Goals as goal

pub returns : goal.returns
returns c = run_is _ _ _ _ _ c.kind_at.ensures c.arrive_at.ensures
