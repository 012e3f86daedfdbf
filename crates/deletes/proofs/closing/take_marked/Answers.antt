use Rattle.std.proofs.Common.{arith, refl}
use Rattle.delete_model.specs.Closing.{marks_taken}
use Rattle.deletes.proofs.Laws.Closing.{taken_marked, taken_not, each_out, each_next}
use Rattle.deletes.proofs.closing.take_marked.Goals as goal
use Rattle.deletes.proofs.closing.take_marked.Goals.{then-goes, else-goes}

pub loop-code-init : goal.loop-code-init
unfolding marks_taken
loop-code-init c = refl

pub loop-code-preserved : goal.loop-code-preserved
loop-code-preserved c =
    each_next _ _ _ _ _ c.loop-code.invariant _ _ (omega arith)
    (elim c.if-goes.branch [
      | then-goes w ↦ taken_marked _ _ _ _ c.goes.ensures _ w.if-goes.true (rw w.file-is w.take_out.ensures)
      | else-goes w ↦ rw w.file-is (taken_not _ _ _ _ c.goes.ensures w.if-goes.false)
    ])
    (omega arith)

pub returns : goal.returns
returns c = each_out _ _ _ _ _ c.loop-code.invariant (omega arith)
