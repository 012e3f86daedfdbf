-- A list in which each may stand directly before the next, by the audit's test of keys, is in a chain's order.
use Prim.Native.Nat.{ℕ, ◌≤◌, ◌<◌}
use mathlib.Core.Path.{◌≡◌, refl, sym, ◌∙◌}
use mathlib.Core.Logic.{◌↔◌, inl, inr}
use mathlib.Core.Bool.{Bool, true, cond, not, ◌&&◌, false≢true}
use mathlib.Core.List.{List, [], ◌∷◌}
use native.Mathlib.Omega.{arith}
use lib.Dec.{eqb}
use borrow.Author.Tests.{eqb-true, eqb-false, eq-eqb, ne_eqb, not-true}
use Rattle.ledger.specs.Numbers.{all, pairs, less_key, same_key}
use Rattle.ledger.specs.Table.{order, duplicates}
use Rattle.ledger.specs.Pages.{Ledger, key_in, may_precede}
use Rattle.ledger.proofs.Lists.Tests.{by_cases, clash, both}
use Rattle.ledger.proofs.Lists.Members.{elem_here, elem_cases}
use Rattle.ledger.proofs.Lists.Pairs.{pairs_cons, pairs_head, pairs_tail, pairs_among}
use Rattle.ledger.proofs.Lists.Keys.{same_eq, same_self, less_total, at_most_trans}
use Rattle.audit_model.specs.Orders.{refused_twins, keys_in_order}

-- Each may stand directly before the next.
unfoldable pub along : (ℕ → ℕ → Bool) → List ℕ → Bool
along r [] = true
along r (x ∷ []) = true
along r (x ∷ y ∷ ys) = r x y && along r (y ∷ ys)

-- by a transitive test that is: each may stand before each later one
pub pairs_along : (r : ℕ → ℕ → Bool) (xs : List ℕ) → pairs r xs ≡ true → along r xs ≡ true
unfolding along
pairs_along r [] o = refl
pairs_along r (x ∷ []) o = refl
pairs_along r (x ∷ y ∷ ys) o = rw (pairs_head r x (y ∷ ys) o y (elem_here y ys)) (pairs_along r (y ∷ ys) (pairs_tail r x (y ∷ ys) o))

module _ (r : ℕ → ℕ → Bool) (on : (x y z : ℕ) → r x y ≡ true → r y z ≡ true → r x z ≡ true) where
  pub along_pairs : (xs : List ℕ) → along r xs ≡ true → pairs r xs ≡ true
  unfolding along pairs all
  along_pairs [] h = refl
  along_pairs (x ∷ []) h = refl
  along_pairs (x ∷ y ∷ ys) h =
      let (a, b) = both (r x y) (along r (y ∷ ys)) h in
      let rest = along_pairs (y ∷ ys) b in
      pairs_cons r x (y ∷ ys)
      (λ z e. elim (elem_cases z y ys e) [ inl q ↦ rw q a | inr q ↦ on x y z a (pairs_head r y ys rest z q) ])
      rest

-- a test that all pass, and one test for two
pub pairs_any : (r : ℕ → ℕ → Bool) → ((x y : ℕ) → r x y ≡ true) → (xs : List ℕ) → pairs r xs ≡ true
pairs_any r f [] = unfold pairs in refl
pairs_any r f (x ∷ xs) = pairs_cons r x xs (λ y e. f x y) (pairs_any r f xs)

pub pairs_both : (r s u : ℕ → ℕ → Bool) (xs : List ℕ) → ((x y : ℕ) → r x y ≡ true → s x y ≡ true → u x y ≡ true)
    → pairs r xs ≡ true → pairs s xs ≡ true → pairs u xs ≡ true
pairs_both r s u [] f o p = unfold pairs in refl
pairs_both r s u (x ∷ xs) f o p =
    pairs_cons u x xs (λ y e. f x y (pairs_head r x xs o y e) (pairs_head s x xs p y e))
    (pairs_both r s u xs f (pairs_tail r x xs o) (pairs_tail s x xs p))

-- Keys that may stand one before another by the order alone, which is transitive, and both ways only where they are one.
unfoldable rises_to : ℕ → List ℕ → List ℕ → Bool
rises_to o a b = cond (eqb o 2) (not (less_key b a)) (not (less_key a b))

rises_trans : (o : ℕ) (a b c : List ℕ) → rises_to o a b ≡ true → rises_to o b c ≡ true → rises_to o a c ≡ true
unfolding rises_to
rises_trans o a b c h g = by_cases (eqb o 2)
    (λ e. rw (e, at_most_trans a b c (not-true _ (rw e at h)) (not-true _ (rw e at g))))
    (λ e. rw (e, at_most_trans c b a (not-true _ (rw e at g)) (not-true _ (rw e at h))))

rises_one : (o : ℕ) (a b : List ℕ) → rises_to o a b ≡ true → rises_to o b a ≡ true → a ≡ b
unfolding rises_to
rises_one o a b h g = by_cases (eqb o 2)
    (λ e. less_total a b (not-true _ (rw e at g)) (not-true _ (rw e at h)))
    (λ e. less_total a b (not-true _ (rw e at h)) (not-true _ (rw e at g)))

-- The audit's test of keys: by the order, and where duplicates are refused not the same.
keys_rise : (o d : ℕ) (a b : List ℕ) → keys_in_order o d a b ≡ true → rises_to o a b ≡ true
unfolding keys_in_order rises_to
keys_rise o d a b h = by_cases (refused_twins d a b) (λ e. absurd (false≢true (rw e at h))) (λ e. rw e at h)

keys_differ : (o d : ℕ) (a b : List ℕ) → d ≡ 2 → keys_in_order o d a b ≡ true → not (same_key a b) ≡ true
unfolding keys_in_order refused_twins
keys_differ o d a b q h = by_cases (same_key a b) (λ e. absurd (false≢true (rw (q, e) at h))) (λ e. rw e)

rise_keys : (o d : ℕ) (a b : List ℕ) → (d ≡ 2 → not (same_key a b) ≡ true) → rises_to o a b ≡ true → keys_in_order o d a b ≡ true
unfolding keys_in_order refused_twins rises_to
rise_keys o d a b n h = by_cases (eqb d 2)
    (λ e. rw (e, not-true (same_key a b) (n (eqb-true d 2 e))) h)
    (λ e. rw e h)

keys_trans : (o d : ℕ) (a b c : List ℕ) → keys_in_order o d a b ≡ true → keys_in_order o d b c ≡ true → keys_in_order o d a c ≡ true
keys_trans o d a b c h g =
    let p = keys_rise o d a b h in
    let q = keys_rise o d b c g in
    rise_keys o d a c
    (λ e. by_cases (same_key a c)
    (λ s. let k : a ≡ b = rises_one o a b p (rw (same_eq a c s) q) in clash (same_key a b) (rw (k, same_self b)) (not-true _ (keys_differ o d a b e h)))
    (λ s. rw s))
    (rises_trans o a b c p q)

-- A list is in a chain's order, with no twins where duplicates are refused.
abbrev pub Sorted : List ℕ → Ledger → ℕ → List ℕ → Type 0
Sorted t l j xs =
    (pairs (may_precede t l j) xs ≡ true)
    × (2 ≤ order t j → duplicates t j ≡ 2 → pairs (λ x y. not (same_key (key_in t l j x) (key_in t l j y))) xs ≡ true)

-- whether record x may stand directly before record y in chain j
unfoldable pub keyed : List ℕ → Ledger → ℕ → ℕ → ℕ → Bool
keyed t l j x y = keys_in_order (order t j) (duplicates t j) (key_in t l j x) (key_in t l j y)

module _ (t : List ℕ) (l : Ledger) (j : ℕ) where
  pub sorted_nil : Sorted t l j []
  unfolding pairs
  sorted_nil = (refl, λ o d. refl)

  -- in a chain that is not sorted each list is
  pub unsorted : order t j < 2 → (xs : List ℕ) → Sorted t l j xs
  unfolding may_precede
  unsorted h xs =
      (pairs_any _ (λ x y. rw (ne_eqb (order t j) 2 (λ z. omega arith), ne_eqb (order t j) 3 (λ z. omega arith))) xs, λ o d. absurd (omega arith))

  -- in a sorted chain a list is exactly where each may stand directly before the next
  module _ (lo : 2 ≤ order t j) (hi : order t j ≤ 3) where
    precede_rises : (x y : ℕ) → may_precede t l j x y ≡ rises_to (order t j) (key_in t l j x) (key_in t l j y)
    unfolding may_precede rises_to
    precede_rises x y = by_cases (eqb (order t j) 2)
        (λ e. rw e)
        (λ e. let n = eqb-false (order t j) 2 e in rw (e, eq-eqb (order t j) 3 (omega arith)))

    pub along_sorted : (xs : List ℕ) → (along (keyed t l j) xs ≡ true) ↔ Sorted t l j xs
    unfolding keyed
    along_sorted xs = (
      λ e.
          let p = along_pairs (keyed t l j) (λ x y z. keys_trans _ _ _ _ _) xs e in
          (pairs_among _ _ xs (λ x y b c k. precede_rises x y ∙ keys_rise _ _ _ _ k) p, λ o d. pairs_among _ _ xs (λ x y b c k. keys_differ _ _ _ _ d k) p),
      λ s. pairs_along (keyed t l j) xs (by_cases (eqb (duplicates t j) 2)
          (λ e. pairs_both _ _ _ xs (λ x y p q. rise_keys _ _ _ _ (λ d. q) (sym (precede_rises x y) ∙ p)) s.0 (s.1 lo (eqb-true _ 2 e)))
          (λ e. pairs_among _ _ xs (λ x y b c p. rise_keys _ _ _ _ (λ d. absurd (eqb-false _ 2 e d)) (sym (precede_rises x y) ∙ p)) s.0)),
    )
