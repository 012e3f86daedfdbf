use Rattle.std.proofs.Common.{arith}
use Rattle.page.proofs.Laws.Writes.{three_put_past_by}
use Rattle.page.proofs.writes.put_three_off.Goals as goal
use Rattle.page.proofs.writes.put_three_off.Goals.{else-o-f-via-then-o-f+else-k-f, else-o-f-via-else-o-f}

pub returns-else-o-f : goal.returns-else-o-f
returns-else-o-f c = elim c.else-o-f.branch [
  | else-o-f-via-then-o-f+else-k-f w ↦ three_put_past_by _ _ _ _ w.if-k-f.false
  | else-o-f-via-else-o-f w ↦ three_put_past_by _ _ _ _ (let h = w.if-o-f.false in omega arith)
]
