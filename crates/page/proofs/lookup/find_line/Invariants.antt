use Rattle.std.proofs.Common.{◌≡◌, ◌-◌, ◌<◌}
use Rattle.ledger.specs.Bytes.{lookup}
use Rattle.model.specs.Reads.{line_in}
use Rattle.page.proofs.lookup.find_line.Given as goal

abbrev pub invariant-loop-turn : goal.invariant-loop-turn
invariant-loop-turn l = (0 < l.at) × (lookup 508 (63 - l._turn) l.page l.at l.line ≡ line_in l.page l.line)
