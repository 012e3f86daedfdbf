-- What an array's `map` and `from_fn` give where the closure changes nothing: each element by its index.
use Rattle.std.proofs.Common.{◌≡◌, refl, subst, ℕ, zero, suc, ◌+◌, ◌<◌, ◌≤◌, List, [], ◌∷◌, length, get_or, arith}
use Rattle.std.specs.Array.{IsFromFnResult, IsFromFnResultFrom, IsMapOf, MapsFrom}
use denote.Param.Members.{Mut, Called}
use Rattle.ledger.specs.Numbers.{by_index}
use Rattle.ledger.proofs.Lists.Tests.{same_or_not}

is_by_index : (g : ℕ → ℕ → ℕ) (i : ℕ) (xs ys : List ℕ) → length ys ≡ length xs
    → ((k : ℕ) → k < length xs → get_or ys k 0 ≡ g (i + k) (get_or xs k 0)) → ys ≡ by_index g i xs
unfolding by_index
is_by_index g i [] [] e h = refl
is_by_index g i [] (y ∷ ys) e h = absurd (omega arith)
is_by_index g i (x ∷ xs) [] e h = absurd (omega arith)
is_by_index g i (x ∷ xs) (y ∷ ys) e h =
    let rest : ys ≡ by_index g (suc i) xs =
    is_by_index g (suc i) xs ys (omega arith) (λ k lt. let at : i + suc k ≡ suc i + k = omega arith in rw at at (h (suc k) (omega arith))) in
    let at : i + 0 ≡ i = omega arith in
    let first : y ≡ g i x = rw at at (h 0 (omega arith)) in
    rw (first, ← rest)

module _ {F : Type 0} {g : Mut F (ℕ × Unit {0}) ℕ} {f : F} (h : ℕ → ℕ → ℕ) (xs ys : List ℕ) (n : ℕ) where
  from_fn_at : ((x y : ℕ) (q : F) → x < n → Called g f (x, tt) y q → (q ≡ f) × (y ≡ h x (get_or xs x 0)))
      → (m i : ℕ) → i + m ≡ n → IsFromFnResultFrom g f ys i m → (k : ℕ) → i ≤ k → k < n → get_or ys k 0 ≡ h k (get_or xs k 0)
  from_fn_at calls zero i e each k low high = absurd (omega arith)
  from_fn_at calls (suc m) i e (q, y, is, call, rest) k low high =
      let (same, value) = calls i y q (omega arith) call in
      same_or_not i k
      (λ here. rw (← here, is.1 0) value)
      (λ past. from_fn_at calls m (i + 1) (omega arith) (subst (λ (s : F). IsFromFnResultFrom g s ys (i + 1) m) same rest) k (omega arith) high)

  pub from_fn_by_index : IsFromFnResult g f ys n → length xs ≡ n
      → ((x y : ℕ) (q : F) → x < n → Called g f (x, tt) y q → (q ≡ f) × (y ≡ h x (get_or xs x 0))) → ys ≡ by_index h 0 xs
  from_fn_by_index made long calls =
      is_by_index h 0 xs ys (rw (made.long, long)) (λ k lt. let at : 0 + k ≡ k = omega arith in rw at (from_fn_at calls n 0 (omega arith) made.each k (omega arith) (omega arith)))

module _ {F : Type 0} {g : Mut F (ℕ × Unit {0}) ℕ} {f : F} (h : ℕ → ℕ) (xs ys : List ℕ) (n : ℕ) (calls : (x y : ℕ) (q : F) → Called g f (x, tt) y q → (q ≡ f) × (y ≡ h x)) where
  map_at : (m i : ℕ) → i + m ≡ n → MapsFrom g f xs ys i m → (k : ℕ) → i ≤ k → k < n → get_or ys k 0 ≡ h (get_or xs k 0)
  map_at zero i e each k low high = absurd (omega arith)
  map_at (suc m) i e (q, x, y, isx, is, call, rest) k low high =
      let (same, value) = calls x y q call in
      same_or_not i k
      (λ here. rw (← here, is.1 0, isx.1 0) value)
      (λ past. map_at m (i + 1) (omega arith) (subst (λ (s : F). MapsFrom g s xs ys (i + 1) m) same rest) k (omega arith) high)

  pub map_by_index : IsMapOf g f xs ys n → length xs ≡ n → ys ≡ by_index (λ i y. h y) 0 xs
  map_by_index made long =
      is_by_index (λ i y. h y) 0 xs ys (rw (made.long, long)) (λ k lt. map_at n 0 (omega arith) made.each k (omega arith) (omega arith))
