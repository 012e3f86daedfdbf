use Rattle.std.proofs.Common.{◌≡◌, ◌-◌, length}
use Rattle.line_model.specs.Formats.{fill_from, word_in, words_in}
use Rattle.lines.proofs.format.take_words.Given as goal

abbrev pub invariant-loop-i : goal.invariant-loop-i
invariant-loop-i l = fill_from (word_in l.frame) l.fresh l.i (length l.fn.fresh - l.i) ≡ words_in l.fn.frame l.fn.fresh
