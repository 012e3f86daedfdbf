use Rattle.std.proofs.Common.{◌∙◌}
use Rattle.records.proofs.Laws.Moves.{line_free, line_used}
use Rattle.records.proofs.moves.take_line.Goals as goal

pub returns-in-Some : goal.returns-in-Some
returns-in-Some c = line_used _ _ _ c.find_line.ensures _ c.in-Some.is ∙ c.take_record.ensures

pub returns-in_default : goal.returns-in_default
returns-in_default c = line_free _ _ _ c.find_line.ensures c.in_default.is
