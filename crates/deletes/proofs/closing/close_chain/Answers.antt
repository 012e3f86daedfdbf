use Rattle.std.proofs.Common.{arith, ◌≡◌, refl, ◌+◌, ◌-◌, ◌*◌}
use Rattle.ledger.specs.Table.{pages}
use Rattle.delete_model.specs.Closing.{chain_closed}
use Rattle.deletes.proofs.Laws.Closing.{each_out, each_next}
use Rattle.deletes.proofs.closing.close_chain.Goals as goal

pub loop-code-init : goal.loop-code-init
unfolding chain_closed
loop-code-init c = let e : 64 + 64 * pages c.args.table.now - 64 ≡ 64 * pages c.args.table.now = omega arith in rw e refl

pub loop-code-preserved : goal.loop-code-preserved
loop-code-preserved c = each_next _ _ _ _ _ c.loop-code.invariant _ _ (omega (arith, c.word-pages.ensures)) c.close_at.ensures (omega arith)

pub returns : goal.returns
returns c = each_out _ _ _ _ _ c.loop-code.invariant (omega (arith, c.word-pages.ensures))
