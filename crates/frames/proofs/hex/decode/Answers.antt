use Rattle.std.proofs.Common.{rules, refl, arith}
use Rattle.frames_model.specs.Texts.{decode_on}
use Rattle.frames.proofs.Laws.Lines.{decode_end, decode_stop, decode_next}
use Rattle.frames.proofs.hex.decode.Goals as goal

pub loop-c-init : goal.loop-c-init
unfolding decode_on
loop-c-init c = refl

pub returns-in_default : goal.returns-in_default
returns-in_default c = search (decode_stop, rules)

pub loop-c-preserved : goal.loop-c-preserved
loop-c-preserved c = search (decode_next, rules)

pub returns-in-None : goal.returns-in-None
returns-in-None c = grind (arith, decode_end _ _ _ _ _ c.loop-c.invariant c.loop-c-test.false)

pub returns-in-Some-high : goal.returns-in-Some-high
returns-in-Some-high c = grind (arith, decode_end _ _ _ _ _ c.loop-c.invariant c.loop-c-test.false)
