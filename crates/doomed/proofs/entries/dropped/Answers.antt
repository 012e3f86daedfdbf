use Rattle.delete_model.specs.Entries.{dropped_in}
use Rattle.doomed.proofs.entries.dropped.Goals as goal

pub returns-then-goes : goal.returns-then-goes
unfolding dropped_in
returns-then-goes c = rw (← c.goes.ensures, c.if-goes.true)

pub returns-else-goes : goal.returns-else-goes
unfolding dropped_in
returns-else-goes c = rw (← c.goes.ensures, c.if-goes.false)
