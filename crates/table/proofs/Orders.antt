-- A chain's order as its word says: the orders from 2 on are sorted.
use Rattle.std.proofs.Common.{◌≡◌, ℕ, not, arith, refl}
use borrow.Author.Tests.{eqb-true, eqb-false, lt-ltb, le-ltb}
use lib.Dec.{eqb, ltb}
use Rattle.ledger.proofs.Lists.Tests.{by_cases}
use Rattle.table.specs.Orders.{order_of, sorts}

pub sorts_order : (w : ℕ) → sorts (order_of w) ≡ not (ltb w 2)
sorts_order w = by_cases (eqb w 0)
    (λ a. rw (a, lt-ltb w 2 (omega (arith, eqb-true w 0 a))) refl)
    (λ a. by_cases (eqb w 1)
    (λ b. rw (a, b, lt-ltb w 2 (omega (arith, eqb-true w 1 b))) refl)
    (λ b. by_cases (eqb w 2)
    (λ c. rw (a, b, c, le-ltb w 2 (omega (arith, eqb-true w 2 c))) refl)
    (λ c. rw (a, b, c, le-ltb w 2 (omega (arith, eqb-false w 0 a, eqb-false w 1 b))) refl)))
