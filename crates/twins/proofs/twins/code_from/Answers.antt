use Rattle.twins.proofs.Laws.Twins.{code_is}
use Rattle.twins.proofs.twins.code_from.Goals as goal

pub returns : goal.returns
returns c = code_is _ _ _ c.line_at.ensures
