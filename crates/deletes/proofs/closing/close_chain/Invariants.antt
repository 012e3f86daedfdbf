use Rattle.std.proofs.Common.{◌≡◌, ◌-◌, ◌+◌, ◌*◌}
use Rattle.ledger.specs.Table.{pages}
use Rattle.delete_model.specs.Closing.{each_from, code_closed, chain_closed}
use Rattle.deletes.proofs.closing.close_chain.Given as goal

abbrev pub invariant-loop-code : goal.invariant-loop-code
invariant-loop-code l = each_from (λ f c. code_closed l.table f l.marks l.j c) l.file l.code (64 + 64 * pages l.table - l.code) ≡ chain_closed l.table l.fn.file l.marks l.j
