use Rattle.std.proofs.Common.{◌≡◌, ◌-◌}
use Rattle.ledger.specs.Table.{chains}
use Rattle.delete_model.specs.Closing.{each_from, chain_closed, chains_closed}
use Rattle.deletes.proofs.closing.close_chains.Given as goal

abbrev pub invariant-loop-j : goal.invariant-loop-j
invariant-loop-j l = each_from (λ f j. chain_closed l.table f l.marks j) l.file l.j (chains l.table - l.j) ≡ chains_closed l.table l.fn.file l.marks
