use Rattle.std.proofs.Common.{rules, refl, arith}
use Rattle.audit_model.specs.Orders.{disordered_in}
use Rattle.ledger.proofs.Lists.Ranges.{first_from_range}
use Rattle.orders.proofs.Laws.Orders.{order_unsorted, order_sorted}
use Rattle.orders.proofs.order.chain_fault.Goals as goal

pub returns-then-not-is_sorted : goal.returns-then-not-is_sorted
returns-then-not-is_sorted c = order_unsorted _ _ _ _ _ c.of.ensures c.is_sorted.ensures c.if-not-is_sorted.true

pub returns : goal.returns
returns c =
    order_sorted _ _ _ _ _ c.of.ensures c.is_sorted.ensures _ _ c.if-not-is_sorted.false c.word-pages.ensures
    (first_from_range (disordered_in c.args.table.now c.args.file.now c.args.j) _ _ _ _ _ (omega arith) refl (omega arith) c.find.ensures.ran (λ x b q k. search rules))
