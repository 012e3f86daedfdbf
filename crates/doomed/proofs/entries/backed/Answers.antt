use Rattle.doomed.proofs.Laws.Entries.{backed_none, backed_stays, backed_lost, backed_walked}
use Rattle.doomed.proofs.entries.backed.Goals as goal
use Rattle.doomed.proofs.entries.backed.Goals.{then-code-eq0-via-then-code-eq0, then-code-eq0-via-else-code-eq0+then-not-goes}

pub returns-then-code-eq0 : goal.returns-then-code-eq0
returns-then-code-eq0 c =
    elim c.then-code-eq0.branch [
      | then-code-eq0-via-then-code-eq0 w ↦ backed_none _ _ _ _ _ w.if-code-eq0.true
      | then-code-eq0-via-else-code-eq0+then-not-goes w ↦ backed_stays _ _ _ _ _ _ w.if-code-eq0.false w.goes.ensures w.if-not-goes.true
    ]

pub returns-then-goes : goal.returns-then-goes
returns-then-goes c =
    backed_lost _ _ _ _ _ _ c.if-code-eq0.false c.goes.ensures _ _ c.if-not-goes.false c.master_of-m.ensures c.goes-2.ensures c.if-goes.true

pub returns : goal.returns
returns c =
    backed_walked _ _ _ _ _ _ c.if-code-eq0.false c.goes.ensures _ _ c.if-not-goes.false c.master_of-m.ensures c.goes-2.ensures _ c.if-goes.false c.stay_before.ensures
