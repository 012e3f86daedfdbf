use Rattle.puts.proofs.Laws.Storing.{stored_is}
use Rattle.puts.proofs.storing.store_act.Goals as goal

pub returns : goal.returns
returns c = stored_is _ _ _ _ _ _ _ _ _ _ _ c.page_of.ensures c.first_gap-gap.ensures c.code_of-x.ensures c.gaps_of-gaps.ensures c.put_linked.ensures
