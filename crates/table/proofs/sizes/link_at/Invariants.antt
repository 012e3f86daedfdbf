use Rattle.std.proofs.Common.{◌≡◌, ◌+◌, ◌-◌, ◌*◌, ◌≤◌}
use Rattle.ledger.specs.Numbers.{sum_of, run}
use Rattle.ledger.specs.Pages.{link_bytes, link_at}
use Rattle.table.proofs.sizes.link_at.Given as goal

abbrev pub invariant-loop-k : goal.invariant-loop-k
invariant-loop-k l = (l.at + 256 * (l.j - l.k) ≤ 33554432) × (l.at + sum_of (link_bytes l.table l.number) (run l.k (l.j - l.k)) ≡ link_at l.table l.number l.j)
