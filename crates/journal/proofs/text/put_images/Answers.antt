use Rattle.std.proofs.Common.{arith}
use Rattle.journal.proofs.Laws.Written.{images_next, images_end}
use Rattle.journal.proofs.text.put_images.Goals as goal

pub loop-i-preserved : goal.loop-i-preserved
loop-i-preserved c = record { few = omega arith; whole = images_next _ _ _ _ _ _ _ c.loop-i.invariant.whole _ _ c.loop-i-test.true c.put_changed.ensures }

pub returns : goal.returns
returns c = images_end _ _ _ _ _ _ _ c.loop-i.invariant.whole c.loop-i-test.false
