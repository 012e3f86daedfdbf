use Rattle.std.proofs.Common.{◌∙◌}
use Rattle.table.proofs.Laws.Keys.{pointwise-same}
use Rattle.table.proofs.keys.same_key.Goals as goal

pub returns : goal.returns
returns c = c.eq.ensures ∙ pointwise-same _ _
