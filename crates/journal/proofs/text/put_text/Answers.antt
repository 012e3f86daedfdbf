use Rattle.std.proofs.Common.{rules}
use Rattle.journal.proofs.Laws.Whole.{text_apart, text_unpaged, text_none, text_room, text_put}
use Rattle.journal.proofs.text.put_text.Goals as goal

pub returns-then-before-after : goal.returns-then-before-after
returns-then-before-after c = text_apart _ _ _ c.if-before-after.true

pub returns-in_err-n : goal.returns-in_err-n
returns-in_err-n c = search (text_unpaged, rules)

pub returns-then-count-eq0 : goal.returns-then-count-eq0
returns-then-count-eq0 c = search (text_none, rules)

pub returns-then-out-size : goal.returns-then-out-size
returns-then-out-size c = search (text_room, rules)

pub returns : goal.returns
returns c = text_put _ _ _ c.if-before-after.false _ (search rules) _ c.count_of-count.ensures c.if-count-eq0.false _ c.if-out-size.false c.put_start.ensures
