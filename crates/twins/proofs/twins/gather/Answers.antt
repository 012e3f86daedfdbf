use Rattle.std.proofs.Common.{rules, refl, arith}
use Rattle.twins.proofs.Laws.Twins.{gather_start, gather_none, gather_full, gather_put, gather_end}
use Rattle.twins.proofs.twins.gather.Goals.{in-Some+then-n-list, in-Some+else-n-list, in_default}
use Rattle.twins.proofs.twins.gather.Goals as goal

pub loop-code-init : goal.loop-code-init
loop-code-init c = (refl, gather_start _ _ _ _ c.word-pages.ensures)

pub loop-code-preserved : goal.loop-code-preserved
loop-code-preserved c = elim c.match-calculated_at.branch [
  | in-Some+then-n-list w ↦ (search rules, search (gather_put, rules))
  | in-Some+else-n-list w ↦ (search rules, rw (w.list-is, w.n-is) (gather_full _ _ _ _ _ _ _ _ c.calculated_at.ensures (search rules) w.in-Some.s c.loop-code.invariant.1 (search rules) (omega (arith, w.if-n-list))))
  | in_default w ↦ (search rules, search (gather_none, rules))
]

pub returns : goal.returns
returns c = gather_end _ _ _ _ _ _ _ c.loop-code.invariant.1 (omega (arith, c.loop-code-test.false))
