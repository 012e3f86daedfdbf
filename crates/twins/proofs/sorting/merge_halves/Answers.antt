use Rattle.std.proofs.Common.{rules, sym, ◌∙◌}
use Rattle.model.proofs.Fills.{put_whole}
use Rattle.twins.proofs.Laws.Sorting.{halves_short, halves_room}
use Rattle.twins.proofs.sorting.merge_halves.Goals as goal

pub returns-then-scratch-n : goal.returns-then-scratch-n
returns-then-scratch-n c = halves_short _ _ _ c.if-scratch-n.true

pub returns : goal.returns
returns c = halves_room _ _ _ _ _ _ _ _ (search rules) c.split_at.ensures.front c.split_at.ensures.back c.merge.ensures (sym c.put_part.ensures ∙ put_whole _ _ (search rules))
