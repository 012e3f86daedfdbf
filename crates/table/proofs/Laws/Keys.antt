-- Randomizing, the home page and the order of keys.
use Rattle.std.proofs.Common.{Ordering, ◌≡◌, refl, ap, ℕ, ◌+◌, ◌-◌, ◌*◌, ◌%◌, ◌<◌, Bool, eqb, ◌&&◌, List, [], ◌∷◌, Some, arith, fold}
use Rattle.std.proofs.lemmas.Bool.Decides.{nat_tests}
use Rattle.std.proofs.lemmas.Cmp.{same_from_slice_cmp, same_from_slice_cmp_tested}
use Rattle.std.specs.Cmp.Lexicographic.{slice_cmp, slice_partial_cmp, pointwise}
use Rattle.std.specs.Ordering.{nat_cmp, is_lt, is_some_and}
use native.Mathlib.Nat.{mod-one}
use Rattle.ledger.specs.Numbers.{same_key, less_key}
use Rattle.ledger.specs.Table.{low, high, row}
use Rattle.ledger.specs.Pages.{hash_from, home}

-- randomize
pub fold-hash : (h : ℕ) (key : List ℕ) → fold (λ h b. (2 * h + b) % 65536) h key ≡ hash_from h key
unfolding hash_from
fold-hash h [] = refl
fold-hash h (b ∷ key) = fold-hash ((2 * h + b) % 65536) key

-- home_page
module _ (t : List ℕ) (n : ℕ) (key : List ℕ) (lo hi : ℕ) (el : lo ≡ low t (row t n)) (eh : hi ≡ high t (row t n)) where
  pub home_low : hi < lo → lo ≡ home t n key
  unfolding home
  home_low l = let z : hi - lo ≡ 0 = omega arith in rw (← el, ← eh, z, mod-one) (omega arith)

  pub home_spread : (h : ℕ) → h ≡ hash_from 0 key → lo + h % (hi - lo + 1) ≡ home t n key
  unfolding home
  home_spread h er = rw (er, el, eh)

-- same_key
pub pointwise-same : (a b : List ℕ) → pointwise eqb a b ≡ same_key a b
unfolding same_key
pointwise-same [] [] = refl
pointwise-same [] (y ∷ b) = refl
pointwise-same (x ∷ a) [] = refl
pointwise-same (x ∷ a) (y ∷ b) = ap (λ r. eqb x y && r) (pointwise-same a b)

-- less_key, by the library's order of slices: as `cmp` gives it, and as `<` tests it
pub less_from_ordering : (a b : List ℕ) (r : Ordering) → r ≡ slice_cmp nat_cmp a b → is_lt r ≡ less_key a b
unfolding less_key
less_from_ordering = same_from_slice_cmp nat_cmp is_lt less_key refl (λ _ _. refl) (λ _ _. refl) (λ x y xs ys o h. grind (arith, nat_tests))

pub less_from_cmp : (a b : List ℕ) (r : Bool) → r ≡ is_some_and is_lt (slice_partial_cmp (λ x y. Some (nat_cmp x y)) a b) → r ≡ less_key a b
unfolding less_key
less_from_cmp = same_from_slice_cmp_tested nat_cmp is_lt less_key refl (λ _ _. refl) (λ _ _. refl) (λ x y xs ys o h. grind (arith, nat_tests))
