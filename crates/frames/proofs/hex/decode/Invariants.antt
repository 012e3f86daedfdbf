use Rattle.std.proofs.Common.{◌≡◌, drop}
use Rattle.frames_model.specs.Texts.{decode_from, decode_on}
use Rattle.frames.proofs.hex.decode.Given as goal

abbrev pub invariant-loop-c : goal.invariant-loop-c
invariant-loop-c l = decode_from (drop l.c-index l.line) l.frame l.s ≡ decode_on l.fn.line l.fn.frame
