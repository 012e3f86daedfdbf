use Rattle.table.proofs.Laws.Keys.{less_from_ordering}
use Rattle.table.proofs.keys.less_key.Goals as goal

pub returns : goal.returns
returns c = rw c.is_lt.ensures (less_from_ordering _ _ _ c.cmp.ensures)
