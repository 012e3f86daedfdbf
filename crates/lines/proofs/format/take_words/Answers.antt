use Rattle.lines.proofs.Laws.Formats.{words_first, fill_end, fill_next}
use Rattle.lines.proofs.format.take_words.Goals as goal

pub loop-i-init : goal.loop-i-init
loop-i-init c = words_first _ _

pub loop-i-preserved : goal.loop-i-preserved
loop-i-preserved c = fill_next _ _ _ _ _ c.loop-i.invariant _ c.loop-i-test.true c.word_in.ensures

pub returns : goal.returns
returns c = fill_end _ _ _ _ _ c.loop-i.invariant c.loop-i-test.false
