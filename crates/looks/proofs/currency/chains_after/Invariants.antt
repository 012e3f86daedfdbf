use Rattle.std.proofs.Common.{◌≡◌, ◌-◌}
use Rattle.look_model.specs.Currencies.{entries_from}
use Rattle.looks.proofs.currency.chains_after.Given as goal

-- the walk from here, with the entries left, comes to what the whole walk does
abbrev pub invariant-loop-j : goal.invariant-loop-j
invariant-loop-j l = entries_from l.table l.kind l.code l.entry-items l.j (16 - l.j) ≡ entries_from l.table l.kind l.code l.fn.chains 0 16
