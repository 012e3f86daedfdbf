use Rattle.std.proofs.Common.{◌∙◌}
use Rattle.journal.proofs.Laws.Written.{pages_differ}
use Rattle.journal.proofs.text.differs.Goals as goal

pub returns : goal.returns
returns c = c.ne.ensures ∙ pages_differ _ _ _ _ _ c.page_in.ensures c.page_in-2.ensures
