-- What `array::from_fn` gives, where the closure leaves itself as it is.
use Prim.Native.Nat.{ℕ, zero, suc, ◌+◌, ◌<◌, ◌≤◌}
use Rattle.std.proofs.Common.{◌≡◌, ◌∙◌, arith, eqb, get_or, List}
use borrow.Author.Tests.{eqb-true, eqb-false}
use Rattle.std.specs.Array.{IsFromFnResult, IsFromFnResultFrom}
use Rattle.std.specs.Fn.{Called}
use denote.Param.Members.{Mut}
use Rattle.ledger.proofs.Lists.Tests.{by_cases}

module _ {F : Type 0} {g : Mut F (ℕ × Unit {0}) ℕ} {f : F} (h : ℕ → ℕ) (calls : (x y : ℕ) (q : F) → Called g f (x, tt) y q → (q ≡ f) × (y ≡ h x)) where
  each_at : (ys : List ℕ) (n i k : ℕ) → IsFromFnResultFrom g f ys i n → i ≤ k → k < i + n → get_or ys k 0 ≡ h k
  each_at ys zero i k each lo hi = absurd (omega arith)
  each_at ys (suc n) i k each lo hi = by_cases (eqb k i)
      (λ e. let z : k ≡ i = eqb-true k i e in rw z (each.2.1 0 ∙ (calls i each.1 each.0 each.3).1))
      (λ e.
      let same : each.0 ≡ f = (calls i each.1 each.0 each.3).0 in
      let apart : k ≡ i → ⊥ = eqb-false k i e in
      each_at ys n (i + 1) k (rw same at each.4) (omega arith) (omega arith))

  pub from_fn_at : (ys : List ℕ) (n k : ℕ) → IsFromFnResult g f ys n → k < n → get_or ys k 0 ≡ h k
  from_fn_at ys n k made low = each_at ys n 0 k made.each (omega arith) (omega arith)
