use Rattle.doomed.proofs.Laws.Marks.{first_no_master, first_home, first_null, first_some}
use Rattle.doomed.proofs.marks.first_in.Goals as goal
use Rattle.doomed.proofs.marks.first_in.Goals.{then-next-code-via-then-next-code, then-next-code-via-else-next-code+then-next-eq0}

pub returns-then-not-is_master : goal.returns-then-not-is_master
returns-then-not-is_master c = first_no_master _ _ _ _ _ _ c.is_master.ensures c.if-not-is_master.true

pub returns-then-next-code : goal.returns-then-next-code
returns-then-next-code c =
    elim c.then-next-code.branch [
      | then-next-code-via-then-next-code w ↦ first_home _ _ _ _ _ _ c.is_master.ensures _ c.if-not-is_master.false c.next_at-next.ensures w.if-next-code.true
      | then-next-code-via-else-next-code+then-next-eq0 w ↦
          first_null _ _ _ _ _ _ c.is_master.ensures _ c.if-not-is_master.false c.next_at-next.ensures w.if-next-code.false w.if-next-eq0.true
    ]

pub returns : goal.returns
returns c = first_some _ _ _ _ _ _ c.is_master.ensures _ c.if-not-is_master.false c.next_at-next.ensures c.if-next-code.false c.if-next-eq0.false
