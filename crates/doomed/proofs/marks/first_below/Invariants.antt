use Rattle.std.proofs.Common.{◌≡◌, ◌+◌, ◌-◌}
use Rattle.delete_model.specs.Marks.{first_from, first_below_in}
use Rattle.doomed.proofs.marks.first_below.Given as goal

abbrev pub invariant-loop-chain : goal.invariant-loop-chain
invariant-loop-chain l = first_from l.table l.file l.code l.kind l.chain (l.j + 16 - l.chain) ≡ first_below_in l.table l.file l.code l.kind l.j
