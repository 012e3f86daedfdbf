use Rattle.std.proofs.Common.{◌≡◌, length}
use Rattle.audit_model.specs.Twins.{gather_on}
use Rattle.twins.proofs.Laws.Twins.{gathering}
use Rattle.twins.proofs.twins.gather.Given as goal

abbrev pub invariant-loop-code : goal.invariant-loop-code
invariant-loop-code l =
    (length l.list ≡ length l.initial.list)
    × (gathering l.table l.file l.list l.n l.code l.code-end ≡ gather_on l.table l.file l.initial.list)
