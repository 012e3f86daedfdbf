-- The order of sorted rings.
use Prim.Native.Nat.{ℕ, ◌+◌, ◌*◌, ◌-◌, ◌<◌, ◌≤◌}
use mathlib.Core.Path.{◌≡◌, sym, ◌∙◌}
use mathlib.Core.Bool.{Bool, true, false, not}
use mathlib.Core.List.{List}
use native.Mathlib.Omega.{arith}
use lib.Dec.{ltb}
use borrow.Author.Tests.{eq-eqb, ne_eqb, not-true, not-false}
use Rattle.std.specs.Prelude.{Option, None}
use Rattle.ledger.specs.Numbers.{or_none, run, first_of}
use Rattle.ledger.specs.Table.{pages, chains, order}
use Rattle.ledger.proofs.Lists.Nones.{none_is}
use Rattle.table.specs.declared.order.Order.{Order}
use Rattle.table.specs.Orders.{order_of, sorts}
use Rattle.table.proofs.Orders.{sorts_order}
use Rattle.model.specs.Reads.{next_in}
use Rattle.audit_model.specs.Marks.{first_fault}
use Rattle.audit_model.specs.Orders.{in_order_in, ordered_from, ring_ordered_in, disordered_in, disorder_in, order_fault_in}
use Rattle.sweeps.proofs.Laws.Marks.{out, left_turns}

-- ring_in_order
pub ordered_first : (t f : List ℕ) (j m at : ℕ) → at ≡ next_in t f j m → ordered_from 8256 t f j m at ≡ ring_ordered_in t f j m
unfolding ring_ordered_in
ordered_first t f j m at ea = rw ea

module _ (n turn : ℕ) (t f : List ℕ) (j m at : ℕ) (x : Bool) (inv : ordered_from (n - turn) t f j m at ≡ x) where
  pub ordered_spent : n ≤ turn → false ≡ x
  unfolding ordered_from
  ordered_spent h = rw (out h) at inv

  module _ (more : turn < n) where
    pub ordered_home : at ≡ m → true ≡ x
    unfolding ordered_from
    ordered_home e = rw (left_turns more, eq-eqb at m e) at inv

    module _ (next : ℕ) (ne : at ≡ m → ⊥) (en : next ≡ next_in t f j at) where
      pub ordered_last : next ≡ m → true ≡ x
      unfolding ordered_from
      ordered_last e = rw (left_turns more, ne_eqb at m ne, ← en, eq-eqb next m e) at inv

      module _ (r : Bool) (away : next ≡ m → ⊥) (er : r ≡ in_order_in t f j at next) where
        pub ordered_broken : r ≡ false → false ≡ x
        unfolding ordered_from
        ordered_broken e = rw (left_turns more, ne_eqb at m ne, ← en, ne_eqb next m away, ← er, e) at inv

        pub ordered_next : r ≡ true → ordered_from (n - (turn + 1)) t f j m next ≡ x
        unfolding ordered_from
        ordered_next e = rw (left_turns more, ne_eqb at m ne, ← en, ne_eqb next m away, ← er, e) at inv

-- chain_fault and order_fault
module _ (t f : List ℕ) (j : ℕ) (o : Order) (r : Bool) (eo : o ≡ order_of (order t j)) (er : r ≡ sorts o) where
  told : r ≡ not (ltb (order t j) 2)
  told = (rw eo at er) ∙ sorts_order (order t j)

  pub order_unsorted : r ≡ false → None ≡ or_none (disorder_in t f j)
  unfolding disorder_in
  order_unsorted e = none_is (rw (not-false (ltb (order t j) 2) (sym told ∙ e)))

  pub order_sorted : (x : Option ℕ) (n : ℕ) → r ≡ true → n ≡ pages t → x ≡ or_none (first_of (disordered_in t f j) (run 64 (64 * n))) → x ≡ or_none (disorder_in t f j)
  unfolding disorder_in
  order_sorted x n e en ex = rw (not-true (ltb (order t j) 2) (sym told ∙ e), ← en) ex

pub order_first : (t f : List ℕ) (n : ℕ) → n ≡ chains t → first_fault (disorder_in t f) (run 0 (n - 0)) ≡ order_fault_in t f
unfolding order_fault_in
order_first t f n e = let same : n - 0 ≡ n = omega arith in rw (same, e)
