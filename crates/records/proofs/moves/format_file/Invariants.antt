use Rattle.std.proofs.Common.{◌≡◌, ◌-◌}
use Rattle.model.specs.Moves.{made_from, file_made}
use Rattle.records.proofs.moves.format_file.Given as goal

abbrev pub invariant-loop-p : goal.invariant-loop-p
invariant-loop-p l = made_from l.file l.p (129 - l.p) ≡ file_made l.initial.file
