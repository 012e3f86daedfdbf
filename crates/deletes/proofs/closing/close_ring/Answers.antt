use Rattle.delete_model.specs.Closing.{ring_closed}
use Rattle.deletes.proofs.closing.close_ring.Goals as goal

pub returns : goal.returns
unfolding ring_closed
returns c = rw (← c.next_at-first.ensures) c.close.ensures
