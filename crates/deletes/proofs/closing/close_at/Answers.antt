use Rattle.deletes.proofs.Laws.Closing.{code_goes, code_none, code_master, code_other}
use Rattle.deletes.proofs.closing.close_at.Goals as goal
use Rattle.deletes.proofs.closing.close_at.Goals.{else-not-goes-via-then-not-goes+then-kind-ne0+else-is_master, else-not-goes-via-then-not-goes+else-kind-ne0, else-not-goes-via-else-not-goes}

pub returns-then-is_master : goal.returns-then-is_master
returns-then-is_master c =
    code_master _ _ _ _ _ _ c.kind_at-kind.ensures _ c.goes.ensures c.if-not-goes.true c.if-kind-ne0.true _ c.is_master.ensures _ c.if-is_master.true c.close_ring.ensures

pub returns-else-not-goes : goal.returns-else-not-goes
returns-else-not-goes c =
    elim c.else-not-goes.branch [
      | else-not-goes-via-then-not-goes+then-kind-ne0+else-is_master w ↦
          code_other _ _ _ _ _ _ c.kind_at-kind.ensures _ c.goes.ensures w.if-not-goes.true w.if-kind-ne0.true _ w.is_master.ensures w.if-is_master.false
      | else-not-goes-via-then-not-goes+else-kind-ne0 w ↦ code_none _ _ _ _ _ _ c.kind_at-kind.ensures _ c.goes.ensures w.if-not-goes.true w.if-kind-ne0.false
      | else-not-goes-via-else-not-goes w ↦ code_goes _ _ _ _ _ _ c.kind_at-kind.ensures _ c.goes.ensures w.if-not-goes.false
    ]
