use Rattle.std.proofs.Common.{◌≡◌, ◌-◌}
use Rattle.audit_model.specs.Orders.{ordered_from, ring_ordered_in}
use Rattle.orders.proofs.order.ring_in_order.Given as goal

-- the ring is in order as far as it is from here on, with the turns left
abbrev pub invariant-loop-turn : goal.invariant-loop-turn
invariant-loop-turn l = ordered_from (8256 - l._turn) l.table l.file l.j l.m l.at ≡ ring_ordered_in l.table l.file l.j l.m
