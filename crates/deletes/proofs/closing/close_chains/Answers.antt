use Rattle.std.proofs.Common.{arith, ◌≡◌, refl, ◌-◌}
use Rattle.ledger.specs.Table.{chains}
use Rattle.delete_model.specs.Closing.{chains_closed}
use Rattle.deletes.proofs.Laws.Closing.{each_out, each_next}
use Rattle.deletes.proofs.closing.close_chains.Goals as goal

pub loop-j-init : goal.loop-j-init
unfolding chains_closed
loop-j-init c = let e : chains c.args.table.now - 0 ≡ chains c.args.table.now = omega arith in rw e refl

pub loop-j-preserved : goal.loop-j-preserved
loop-j-preserved c = each_next _ _ _ _ _ c.loop-j.invariant _ _ (omega (arith, c.word-j-end.ensures)) c.close_chain.ensures (omega arith)

pub returns : goal.returns
returns c = each_out _ _ _ _ _ c.loop-j.invariant (omega (arith, c.word-j-end.ensures))
