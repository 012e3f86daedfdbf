use Rattle.std.proofs.Common.{arith}
use Rattle.modifies.proofs.Laws.Modifying.{rejoin_first, rejoin_next, rejoin_end}
use Rattle.modifies.proofs.modifying.move_all.Goals as goal

pub loop-j-init : goal.loop-j-init
loop-j-init c = rejoin_first _ _ _ _ _

pub loop-j-preserved : goal.loop-j-preserved
loop-j-preserved c = rejoin_next _ _ _ _ _ _ _ c.loop-j.invariant _ (omega arith) c.move_in.ensures

pub returns : goal.returns
returns c = rejoin_end _ _ _ _ _ _ _ c.loop-j.invariant (omega arith)
