-- What a chain's words for its order and duplicates mean.
use Rattle.std.specs.Prelude.{ℕ, Bool, true, false, cond, eqb}
use Rattle.table.specs.declared.order.Duplicates.{Duplicates}
use Rattle.table.specs.declared.order.Duplicates.TheVariants as duplicates
use Rattle.table.specs.declared.order.Order.{Order}
use Rattle.table.specs.declared.order.Order.TheVariants as order

abbrev pub order_of : ℕ → Order
order_of w = cond (eqb w 0) order.First (cond (eqb w 1) order.Last (cond (eqb w 2) order.Rising order.Falling))

abbrev pub sorts : Order → Bool
sorts order.First = false
sorts order.Last = false
sorts order.Rising = true
sorts order.Falling = true

abbrev pub duplicates_of : ℕ → Duplicates
duplicates_of w = cond (eqb w 0) duplicates.First (cond (eqb w 2) duplicates.Refused duplicates.Last)
