use Rattle.std.proofs.Common.{◌∙◌}
use Rattle.page.proofs.Laws.Bytes.{three-drop}
use Rattle.page.proofs.bytes.three_off.Goals as goal

pub returns : goal.returns
returns c = c.three_at.ensures ∙ rw c.rest_of.ensures (three-drop _ _ _)
