use Rattle.std.proofs.Common.{arith, refl}
use Rattle.act_model.specs.Storing.{place_at}
use Rattle.puts.proofs.Laws.Storing.{enter_first, enter_next, enter_end}
use Rattle.puts.proofs.storing.link_all.Goals as goal

pub loop-j-init : goal.loop-j-init
loop-j-init c = enter_first _ _ _ _ _

pub loop-j-preserved : goal.loop-j-preserved
unfolding place_at
loop-j-preserved c = enter_next _ _ _ _ _ _ _ _ _ c.loop-j.invariant (omega arith) refl c.link_in.ensures

pub returns : goal.returns
returns c = enter_end _ _ _ _ _ _ _ c.loop-j.invariant (omega arith)
