use Rattle.std.proofs.Common.{◌≡◌, ◌-◌}
use Rattle.ledger.specs.Numbers.{run}
use Rattle.audit_model.specs.Marks.{first_fault}
use Rattle.audit_model.specs.Orders.{disorder_in, order_fault_in}
use Rattle.orders.proofs.order.order_fault.Given as goal

-- the chains before have no fault
abbrev pub invariant-loop-j : goal.invariant-loop-j
invariant-loop-j l = first_fault (disorder_in l.table l.file) (run l.j (l.j-end - l.j)) ≡ order_fault_in l.table l.file
