use Rattle.std.proofs.Common.{arith, ◌≡◌, refl, ◌+◌, ◌-◌}
use Rattle.ledger.specs.Table.{pages}
use Rattle.delete_model.specs.Closing.{calcs_closed}
use Rattle.deletes.proofs.Laws.Closing.{each_out, each_next}
use Rattle.deletes.proofs.closing.close_calcs.Goals as goal

pub loop-p-init : goal.loop-p-init
unfolding calcs_closed
loop-p-init c = let e : pages c.args.table.now + 1 - 1 ≡ pages c.args.table.now = omega arith in rw e refl

pub loop-p-preserved : goal.loop-p-preserved
loop-p-preserved c = each_next _ _ _ _ _ c.loop-p.invariant _ _ (omega (arith, c.word-p-end.ensures)) c.close_calc.ensures (omega arith)

pub returns : goal.returns
returns c = each_out _ _ _ _ _ c.loop-p.invariant (omega (arith, c.word-p-end.ensures))

pub returns-2 : goal.returns-2
returns-2 c =
    each_out _ _ _ _ _ (each_next _ _ _ _ _ c.loop-p.invariant _ _ (omega (arith, c.word-p-end.ensures)) c.close_calc.ensures refl) (omega (arith, c.word-p-end.ensures))
