use Rattle.std.proofs.Common.{◌≡◌, ◌-◌, length}
use Rattle.restore_model.specs.Walks.{back_from}
use Rattle.journal.proofs.back.put_back.Given as goal

abbrev pub invariant-loop-image : goal.invariant-loop-image
invariant-loop-image l = back_from l.journal l.file l.stored l.at (length l.journal - l.image) ≡ back_from l.journal l.fn.file l.fn.stored l.from (length l.journal)
