use Rattle.std.proofs.Common.{◌≡◌, ◌+◌, ◌*◌, drop}
use Rattle.std.proofs.lemmas.List.Edits.{sets}
use Rattle.ledger.specs.Player.{hex_of}
use Rattle.frames.proofs.text.put_bytes.Given as goal

abbrev pub invariant-loop-i : goal.invariant-loop-i
invariant-loop-i l = sets l.out (l.start + 2 * l.i) (hex_of (drop l.i l.shown)) ≡ sets l.fn.out l.start (hex_of l.shown)
