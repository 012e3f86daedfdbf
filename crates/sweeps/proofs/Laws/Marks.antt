-- The turns of walks and searches, whatever they look for.
use Prim.Native.Nat.{ℕ, suc, ◌+◌, ◌-◌, ◌<◌, ◌≤◌}
use mathlib.Core.Path.{◌≡◌, refl, sym, ◌∙◌}
use mathlib.Core.Bool.{Bool, true, false}
use mathlib.Core.List.{List}
use native.Mathlib.Omega.{arith}
use native.Mathlib.Numerals.{add-one}
use borrow.Author.Tests.{eq-eqb, ne_eqb}
use lib.ListN.{set}
use Rattle.std.specs.Prelude.{Option, Some, None}
use Rattle.ledger.specs.Numbers.{or_none, run}
use Rattle.ledger.proofs.Lists.Nones.{zero_of_none, value_of_some, some_not_zero}
use Rattle.audit_model.specs.Marks.{Walk, Sweep, walk_on, sweep_on, first_fault}

-- what is left to a turn
module _ {n turn : ℕ} (more : turn < n) where
  pub left_turns : n - turn ≡ suc (n - (turn + 1))
  left_turns = omega arith

pub out : {n turn : ℕ} → n ≤ turn → n - turn ≡ 0
out h = omega arith

-- a walk with fuel for n turns
module _ (n turn : ℕ) (met : List ℕ → ℕ → ℕ → ℕ) (back : ℕ → Bool) (m last at : ℕ) (g : List ℕ) (x : Walk)
    (inv : walk_on (n - turn) met back m last at g ≡ x) where
  pub walk_spent : n ≤ turn → x ≡ (false, g)
  unfolding walk_on
  walk_spent h = sym (rw (out h) at inv)

  module _ (more : turn < n) where
    pub walk_closed : (r : Bool) → at ≡ m → r ≡ back last → x ≡ (r, g)
    unfolding walk_on
    walk_closed r e er = sym (rw (left_turns more, eq-eqb at m e, ← er) at inv)

    module _ (r : Option ℕ) (ne : at ≡ m → ⊥) (er : r ≡ or_none (met g last at)) where
      pub walk_lost : r ≡ None → x ≡ (false, g)
      unfolding walk_on
      walk_lost e = sym (rw (left_turns more, ne_eqb at m ne, eq-eqb (met g last at) 0 (zero_of_none _ er e)) at inv)

      pub walk_next : (next : ℕ) (h : List ℕ) → r ≡ Some next → set g at 1 ≡ h → walk_on (n - (turn + 1)) met back m at next h ≡ x
      unfolding walk_on
      walk_next next h e eh =
          rw (← eh, value_of_some _ er e) (rw (left_turns more, ne_eqb at m ne, ne_eqb (met g last at) 0 (some_not_zero _ er e)) at inv)

-- the walks of the numbers from k on, below n
module _ (walk : ℕ → List ℕ → Walk) (n k : ℕ) (g : List ℕ) (x : Sweep) (inv : sweep_on walk (run k (n - k)) g ≡ x) where
  pub sweep_done : n ≤ k → x ≡ (0, g)
  unfolding sweep_on run
  sweep_done h = sym (rw (out h) at inv)

  module _ (more : k < n) (r : Bool) (h : List ℕ) (ew : walk k g ≡ (r, h)) where
    pub sweep_lost : r ≡ false → x ≡ (k, h)
    unfolding sweep_on run
    sweep_lost e = sym (rw (left_turns more, ew, e) at inv)

    pub sweep_next : r ≡ true → sweep_on walk (run (k + 1) (n - (k + 1))) h ≡ x
    unfolding sweep_on run
    sweep_next e = rw add-one (rw (left_turns more, ew, e, add-one) at inv)

-- the first fault of the numbers from k on, below n
module _ (fault : ℕ → ℕ) (n k x : ℕ) (inv : first_fault fault (run k (n - k)) ≡ x) where
  pub fault_none : n ≤ k → None ≡ or_none x
  unfolding first_fault run or_none
  fault_none h = let z : 0 ≡ x = rw (out h) at inv in rw (← z) refl

  module _ (more : k < n) (r : Option ℕ) (er : r ≡ or_none (fault k)) where
    pub fault_here : (a : ℕ) → r ≡ Some a → Some a ≡ or_none x
    unfolding first_fault run
    fault_here a e =
        let z : fault k ≡ x = rw (left_turns more, ne_eqb (fault k) 0 (some_not_zero _ er e)) at inv in
        rw (← z) (sym e ∙ er)

    pub fault_next : r ≡ None → first_fault fault (run (k + 1) (n - (k + 1))) ≡ x
    unfolding first_fault run
    fault_next e = rw add-one (rw (left_turns more, eq-eqb (fault k) 0 (zero_of_none _ er e), add-one) at inv)
