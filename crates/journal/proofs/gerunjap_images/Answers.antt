use Rattle.restore_model.proofs.Starts.{starts}
use Rattle.journal.proofs.Laws.Whole.{images_numbered}
use Rattle.journal.proofs.gerunjap_images.Goals as goal

pub returns-clause-computed : goal.returns-clause-computed
returns-clause-computed c = images_numbered _ _ _ _ _ _ c.put_text.ensures c.unwrap_or.ensures

pub returns-clause-starts : goal.returns-clause-starts
returns-clause-starts c = starts _ _ _ _ _ (images_numbered _ _ _ _ _ _ c.put_text.ensures c.unwrap_or.ensures)
