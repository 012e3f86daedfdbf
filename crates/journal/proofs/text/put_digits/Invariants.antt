use Rattle.std.proofs.Common.{◌≡◌, drop}
use Rattle.restore_model.specs.Texts.{digits_put}
use Rattle.journal.proofs.text.put_digits.Given as goal

abbrev pub invariant-loop-byte : goal.invariant-loop-byte
invariant-loop-byte l = digits_put l.out l.to (drop l.byte-index l.«data») ≡ digits_put l.fn.out l.at l.«data»
