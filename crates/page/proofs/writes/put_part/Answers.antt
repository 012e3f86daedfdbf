use Rattle.std.proofs.Common.{rules, refl, arith}
use Rattle.std.proofs.lemmas.Grind.{common_steps}
use Rattle.page.proofs.Laws.Writes.{part_put_past, part_first, part_done, part_next}
use Rattle.page.proofs.writes.put_part.Goals as goal

pub loop-i-init : goal.loop-i-init
loop-i-init g c = (refl, part_first _ _ _)

pub loop-i-preserved : goal.loop-i-preserved
loop-i-preserved g c = (search rules, part_next _ _ _ _ _ c.loop-i.invariant.1 _ (grind (arith, common_steps)) (search rules))

pub returns-after-loop-i : goal.returns-after-loop-i
returns-after-loop-i g c = part_done _ _ _ _ _ c.loop-i.invariant.1 _ (rw c.loop-i.invariant.0 c.min-n.ensures) c.loop-i-test.false

pub returns-else-at-f : goal.returns-else-at-f
returns-else-at-f g c = part_put_past _ _ _ c.if-at-f.false
