-- The images of a group put back: the turns of the loop.
use Prim.Native.Nat.{ℕ, zero, suc, ◌+◌, ◌-◌, ◌≤◌, ◌<◌}
use mathlib.Core.Path.{◌≡◌, sym, ◌∙◌}
use mathlib.Core.List.{List}
use native.Mathlib.Omega.{arith}
use borrow.Author.Tests.{eq-eqb, ne_eqb}
use lib.ListN.{get_or}
use denote.Param.Members.{Mut}
use Rattle.std.specs.Fn.{Called}
use Rattle.std.specs.Array.{IsFromFnResultFrom}
use Rattle.ledger.proofs.Lists.Tests.{same_or_not}
use Rattle.restore_model.specs.Walks.{page_said, next_image, page_put, back_from}

-- what from_fn makes of a function that stays as it is
module _ {F : Type 0} {g : Mut F (ℕ × Unit {0}) ℕ} (h : ℕ → ℕ) (f : F) (calls : (i y : ℕ) (q : F) → Called g f (i, tt) y q → (q ≡ f) × (y ≡ h i)) where
  pub made_from : (ys : List ℕ) (n i : ℕ) (p : F) → p ≡ f → IsFromFnResultFrom g p ys i n → (k : ℕ) → i ≤ k → k < i + n → get_or ys k 0 ≡ h k
  made_from ys zero i p e made k low high = absurd (omega arith)
  made_from ys (suc n) i p e (q, y, at, called, rest) k low high =
      let (same, is) = calls i y q (rw e at called) in
      same_or_not k i
      (λ here. rw here (at.1 0 ∙ is))
      (λ past. made_from ys n (i + 1) q same rest k (omega (arith, past)) (omega arith))

-- put_back
module _ (j f s : List ℕ) (at n i : ℕ) (x : List ℕ × List ℕ) (inv : back_from j f s at (n - i) ≡ x) where
  pub back_none : n ≤ i → x ≡ (f, s)
  unfolding back_from
  back_none h = let none : n - i ≡ 0 = omega arith in sym (rw none at inv)

  module _ (h : i < n) (p : ℕ) (ep : p ≡ page_said j at) where
    more : n - i ≡ suc (n - (i + 1))
    more = omega arith

    pub back_ready : p ≡ 0 → x ≡ (f, s)
    unfolding back_from
    back_ready e = sym (rw (more, ← ep, eq-eqb p 0 e) at inv)

    pub back_next : (next : ℕ) (g u : List ℕ) → (p ≡ 0 → ⊥) → page_put f s j at (p - 1) ≡ (g, u) → next ≡ next_image j at → back_from j g u next (n - (i + 1)) ≡ x
    unfolding back_from
    back_next next g u z e en = rw en (rw (more, ← ep, ne_eqb p 0 z, e) at inv)
