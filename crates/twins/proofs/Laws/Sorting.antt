-- Merging and sorting.
use Prim.Native.Nat.{ℕ, zero, suc, ◌+◌, ◌-◌, ◌/◌, ◌<◌, ◌≤◌}
use mathlib.Core.Path.{◌≡◌, refl, sym}
use mathlib.Core.Bool.{Bool, true, false}
use mathlib.Core.List.{List, [], ◌∷◌, ◌++◌, append-nil}
use native.Mathlib.Omega.{arith}
use native.Mathlib.Numerals.{add-one, sub-one}
use native.Mathlib.Nat.{sub-zero}
use lib.ListN.{length, take, drop, get_or, set, length-set}
use lib.Seq.{take_all, take_at, length-take-le, take-suc-set, append_snoc}
use lib.Dec.{eqb, ltb}
use denote.Ref.{Bor}
use borrow.Author.Tests.{lt-ltb, le-ltb, ne_eqb}
use Rattle.std.specs.Prelude.{Option, Some, None, MatchOption, unwrap_or, slice_get}
use Rattle.std.specs.Option.{option_copied}
use Rattle.std.specs.List.{IsFirstAndRest}
use Rattle.std.proofs.lemmas.Option.{same_Some}
use Rattle.ledger.specs.Numbers.{less_key}
use Rattle.ledger.specs.Bytes.{two_at}
use Rattle.ledger.proofs.Lists.Tests.{by_cases}
use Rattle.audit_model.specs.Sorting.{key_from, goes_before, second_first, merged, half, halves_merged, sorted}
use Rattle.audit_model.proofs.Sorts.{length_merged}

-- a list filled from the front on: n are there, and the rest is to be
module _ (out rest z : List ℕ) (n : ℕ) where
  filled_next : (v : ℕ) → take n out ++ v ∷ rest ≡ z → n < length out → take (n + 1) (set out n v) ++ rest ≡ z
  filled_next v inv h = rw (add-one, take-suc-set out n v h, append_snoc (take n out) v rest) inv

  filled_end : take n out ++ rest ≡ z → rest ≡ [] → length out ≤ n → z ≡ out
  filled_end inv e h = sym (rw (e, append-nil, take_all n out h) at inv)

-- goes_before
module _ (t f : List ℕ) (a b x y : ℕ) (ex : x ≡ two_at f a) (ey : y ≡ two_at f b) where
  pub before_lower : x < y → ltb x y ≡ goes_before t f a b
  unfolding goes_before
  before_lower h = rw (← ex, ← ey, lt-ltb x y h)

  pub before_higher : y ≤ x → (x ≡ y → ⊥) → eqb x y ≡ goes_before t f a b
  unfolding goes_before
  before_higher h n = let g : y < x = omega (arith, n) in rw (← ex, ← ey, ne_eqb x y n, le-ltb x y h, lt-ltb y x g)

  pub before_key : (c d : List ℕ) (r : Bool) → x ≡ y → c ≡ key_from t f a → d ≡ key_from t f b → r ≡ less_key c d → r ≡ goes_before t f a b
  unfolding goes_before
  before_key c d r e ec ed er = rw (← ex, ← ey, le-ltb x y (omega arith), le-ltb y x (omega arith), ← ec, ← ed) er

-- second_first, by what the first places of the lists hold
module _ (less : ℕ → ℕ → Bool) where
  pub second_none : (xs ys : List ℕ) → None ≡ slice_get ys 0 → false ≡ second_first less xs ys
  unfolding second_first
  second_none xs [] e = refl
  second_none xs (y ∷ ys) e = cc

  pub second_alone : (xs ys : List ℕ) (y : ℕ) → None ≡ slice_get xs 0 → Some y ≡ slice_get ys 0 → true ≡ second_first less xs ys
  unfolding second_first
  second_alone xs [] y e g = cc
  second_alone [] (z ∷ ys) y e g = refl
  second_alone (x ∷ xs) (z ∷ ys) y e g = cc

  pub second_both : (xs ys : List ℕ) (x y : ℕ) (r : Bool) → Some x ≡ slice_get xs 0 → Some y ≡ slice_get ys 0 → r ≡ less y x → r ≡ second_first less xs ys
  unfolding second_first
  second_both [] ys x y r e g h = cc
  second_both (a ∷ xs) [] x y r e g h = cc
  second_both (a ∷ xs) (b ∷ ys) x y r e g h = rw (← same_Some x a e, ← same_Some y b g) h

-- merge: i numbers are in `out`, and xs and ys are what is left
unfoldable pub merging : (ℕ → ℕ → Bool) → List ℕ → List ℕ → List ℕ → ℕ → List ℕ
merging less xs ys out i = take i out ++ merged less (length out - i) xs ys

-- a list's first, or 0, taken off
pub taken_first : (xs ys : List ℕ) (r : Option (Bor ℕ)) → MatchOption r ((length xs ≡ 0) × (ys ≡ xs)) (λ x. IsFirstAndRest xs x.now ys)
    → (unwrap_or (option_copied r) 0 ≡ get_or xs 0 0) × (ys ≡ drop 1 xs)
taken_first [] ys None (e, h) = (refl, h)
taken_first (x ∷ xs) ys None (e, h) = absurd (omega arith)
taken_first [] ys (Some v) (e, h) = cc
taken_first (x ∷ xs) ys (Some v) (e, h) = (cc, cc)

module _ (less : ℕ → ℕ → Bool) (xs ys out : List ℕ) where
  pub merge_start : merging less xs ys out 0 ≡ merged less (length out) xs ys
  unfolding merging
  merge_start = rw sub-zero

  module _ (i : ℕ) (z : List ℕ) (v : ℕ) (inv : merging less xs ys out i ≡ z) (h : i < length out) where
    pub merge_second : true ≡ second_first less xs ys → v ≡ get_or ys 0 0 → merging less xs (drop 1 ys) (set out i v) (i + 1) ≡ z
    unfolding merging merged
    merge_second es ev =
        let f : length out - i ≡ suc (length out - (i + 1)) = omega arith in
        rw length-set (filled_next out _ z i v (rw (f, ← es, ← ev) at inv) h)

    pub merge_first : false ≡ second_first less xs ys → v ≡ get_or xs 0 0 → merging less (drop 1 xs) ys (set out i v) (i + 1) ≡ z
    unfolding merging merged
    merge_first es ev =
        let f : length out - i ≡ suc (length out - (i + 1)) = omega arith in
        rw length-set (filled_next out _ z i v (rw (f, ← es, ← ev) at inv) h)

  pub merge_end : (i : ℕ) (z : List ℕ) → merging less xs ys out i ≡ z → length out ≤ i → z ≡ out
  unfolding merging merged
  merge_end i z inv h = let f : length out - i ≡ 0 = omega arith in filled_end out _ z i inv (rw f) h

-- merge_halves
module _ (less : ℕ → ℕ → Bool) (l s : List ℕ) where
  pub halves_short : length s < length l → halves_merged less (length s) l ≡ l
  unfolding halves_merged
  halves_short h = rw (lt-ltb (length s) (length l) h)

  pub halves_room : (a b g r x : List ℕ) → length l ≤ length s → a ≡ take (length l / 2) l → b ≡ drop (length l / 2) l
      → merged less (length (take (length l) s)) a b ≡ g → x ≡ take (length l) (g ++ r) → halves_merged less (length s) l ≡ x
  unfolding halves_merged half
  halves_room a b g r x h ea eb eg ex =
      let eg' = rw (length-take-le (length l) s h, ea, eb) at eg in
      let n : length g ≡ length l = rw (← eg') (length_merged less (length l) _ _) in
      rw (le-ltb (length s) (length l) h, ex, take_at g r (length l) n) eg'

-- a list of one number, or none, is sorted
sorted_short : (less : ℕ → ℕ → Bool) (room level : ℕ) (l : List ℕ) → length l < 2 → sorted less room level l ≡ l
unfolding sorted halves_merged half merged second_first
sorted_short less room zero l h = refl
sorted_short less room (suc level) [] h = rw (sorted_short less room level [] (omega arith)) (by_cases (ltb room 0) (λ e. rw e) (λ e. rw e))
sorted_short less room (suc level) (x ∷ []) h =
    rw (sorted_short less room level [] (omega arith), sorted_short less room level (x ∷ []) (omega arith)) (by_cases (ltb room 1) (λ e. rw e) (λ e. rw e))
sorted_short less room (suc level) (x ∷ y ∷ l) h = absurd (omega arith)

-- sort: `a` and `b` are what the halves are sorted to, `s1` and `s2` the scratch list after each
module _ (less : ℕ → ℕ → Bool) (l s : List ℕ) where
  pub sort_none : (level : ℕ) → level ≡ 0 → sorted less (length s) level l ≡ l
  unfolding sorted
  sort_none level e = rw e

  pub sort_one : (level : ℕ) → length l < 2 → sorted less (length s) level l ≡ l
  sort_one level h = sorted_short less (length s) level l h

  pub sort_halves : (level : ℕ) (a b x s1 s2 : List ℕ) → (level ≡ 0 → ⊥) → sorted less (length s) (level - 1) (take (length l / 2) l) ≡ a
      → sorted less (length s1) (level - 1) (drop (length l / 2) l) ≡ b → halves_merged less (length s2) (a ++ b) ≡ x
      → length s1 ≡ length s → length s2 ≡ length s1 → sorted less (length s) level l ≡ x
  unfolding sorted half
  sort_halves zero a b x s1 s2 ne ea eb ex e1 e2 = absurd (ne refl)
  sort_halves (suc level) a b x s1 s2 ne ea eb ex e1 e2 =
      let ea' = rw sub-one at ea in
      let eb' = rw (sub-one, e1) at eb in
      rw (ea', eb') (rw (e2, e1) at ex)
