use Rattle.table.proofs.Laws.Keys.{home_low, home_spread}
use Rattle.table.proofs.keys.home_page.Goals as goal

pub returns-then-high-low : goal.returns-then-high-low
returns-then-high-low c = home_low _ _ _ _ _ c.kind_word-low.ensures c.kind_word-high.ensures c.if-high-low.true

pub returns : goal.returns
returns c = home_spread _ _ _ _ _ c.kind_word-low.ensures c.kind_word-high.ensures _ c.randomize.ensures
