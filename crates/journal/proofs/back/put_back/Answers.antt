use Rattle.journal.proofs.Laws.Restored.{back_none, back_ready, back_next}
use Rattle.journal.proofs.back.put_back.Goals as goal

pub returns-then-number-eq-READY_NUMBER : goal.returns-then-number-eq-READY_NUMBER
returns-then-number-eq-READY_NUMBER c = back_ready _ _ _ _ _ _ _ c.loop-image.invariant c.loop-image-test.true _ c.page_said-number.ensures c.if-number-eq-READY_NUMBER.true

pub loop-image-preserved : goal.loop-image-preserved
loop-image-preserved c = back_next _ _ _ _ _ _ _ c.loop-image.invariant c.loop-image-test.true _ c.page_said-number.ensures _ _ _ c.if-number-eq-READY_NUMBER.false c.put_page.ensures c.next_image-at.ensures

pub returns : goal.returns
returns c = back_none _ _ _ _ _ _ _ c.loop-image.invariant c.loop-image-test.false
