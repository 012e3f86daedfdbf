use Rattle.std.proofs.Common.{◌≡◌, ◌-◌}
use Rattle.act_model.specs.Modifying.{rejoined_from, rejoined_all}
use Rattle.modifies.proofs.modifying.move_all.Given as goal

abbrev pub invariant-loop-j : goal.invariant-loop-j
invariant-loop-j l = rejoined_from l.table l.file l.fn.new.kind l.fn.new.«data».now l.x l.j (16 - l.j) ≡ rejoined_all l.table l.fn.file l.fn.new.kind l.fn.new.«data».now l.x
