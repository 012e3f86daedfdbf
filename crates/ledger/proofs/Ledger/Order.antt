-- A ring keeps its order and has no twins where a record joins it or leaves it.
use Prim.Native.Nat.{ℕ, ◌≤◌}
use mathlib.Core.Path.{◌≡◌}
use mathlib.Core.Logic.{◌≢◌}
use mathlib.Core.Bool.{Bool, true, false, cond, not}
use mathlib.Core.List.{List}
use lib.Dec.{eqb}
use borrow.Author.Tests.{eqb-true, le-leb, eq-eqb, ne_eqb, not-true, not-false}
use Rattle.ledger.specs.Numbers.{elem, pairs, less_key, same_key}
use Rattle.ledger.specs.Table.{order, duplicates}
use Rattle.ledger.specs.Pages.{Ledger, key_in, may_precede}
use Rattle.ledger.specs.Calls.{stops, joined, twin_in}
use Rattle.ledger.proofs.Lists.Tests.{by_cases}
use Rattle.ledger.proofs.Lists.Members.{none_any}
use Rattle.ledger.proofs.Lists.Pairs.{pairs_among}
use Rattle.ledger.proofs.Lists.Keys.{same_turned, less_turned, at_most_trans}
use Rattle.ledger.proofs.Lists.Puts.{put_pairs}

-- whether a key may stand before another in an order, and whether a key stops one that goes along a ring to its place
unfoldable ahead : ℕ → List ℕ → List ℕ → Bool
ahead o a b = cond (eqb o 2) (not (less_key b a)) (cond (eqb o 3) (not (less_key a b)) true)

unfoldable halts : ℕ → ℕ → List ℕ → List ℕ → Bool
halts o d key k =
    cond (eqb o 0) true
    (cond (eqb o 1) false
    (cond (eqb o 2)
    (cond (eqb d 0) (not (less_key k key)) (less_key key k))
    (cond (eqb d 0) (not (less_key key k)) (less_key k key))))

ahead_trans : (o : ℕ) (a b c : List ℕ) → ahead o a b ≡ true → ahead o b c ≡ true → ahead o a c ≡ true
unfolding ahead
ahead_trans o a b c h g = by_cases (eqb o 2)
    (λ e. rw (e, at_most_trans a b c (not-true _ (rw e at h)) (not-true _ (rw e at g))))
    (λ e. by_cases (eqb o 3)
    (λ f. rw (e, f, at_most_trans c b a (not-true _ (rw (e, f) at g)) (not-true _ (rw (e, f) at h))))
    (λ f. rw (e, f)))

passed_key : (d : ℕ) (key k : List ℕ) → cond (eqb d 0) (not (less_key k key)) (less_key key k) ≡ false → not (less_key key k) ≡ true
passed_key d key k h = by_cases (eqb d 0)
    (λ e. rw (less_turned k key (not-false _ (rw e at h))))
    (λ e. let g : less_key key k ≡ false = rw e at h in rw g)

stopping_key : (d : ℕ) (key k : List ℕ) → cond (eqb d 0) (not (less_key k key)) (less_key key k) ≡ true → not (less_key k key) ≡ true
stopping_key d key k h = by_cases (eqb d 0)
    (λ e. rw e at h)
    (λ e. rw (less_turned key k (rw e at h)))

-- what a record passes may stand before it, and before what stops it it may stand
passed_ahead : (o d : ℕ) (key k : List ℕ) → halts o d key k ≡ false → ahead o k key ≡ true
unfolding halts ahead
passed_ahead o d key k h = by_cases (eqb o 2)
    (λ e. let q = eqb-true o 2 e in rw q (passed_key d key k (rw q at h)))
    (λ e. by_cases (eqb o 3)
    (λ f. let q = eqb-true o 3 f in rw q (passed_key d k key (rw q at h)))
    (λ f. rw (e, f)))

stopping_ahead : (o d : ℕ) (key k : List ℕ) → halts o d key k ≡ true → ahead o key k ≡ true
unfolding halts ahead
stopping_ahead o d key k h = by_cases (eqb o 2)
    (λ e. let q = eqb-true o 2 e in rw q (stopping_key d key k (rw q at h)))
    (λ e. by_cases (eqb o 3)
    (λ f. let q = eqb-true o 3 f in rw q (stopping_key d k key (rw q at h)))
    (λ f. rw (e, f)))

-- Whether two records of a chain are no twins.
unfoldable pub apart : List ℕ → Ledger → ℕ → ℕ → ℕ → Bool
apart t l j a b = not (same_key (key_in t l j a) (key_in t l j b))

-- A ring in another ledger, where the members' keys are the same.
module _ (t : List ℕ) (l l' : Ledger) (j : ℕ) (xs : List ℕ) (same : (y : ℕ) → elem y xs ≡ true → key_in t l' j y ≡ key_in t l j y) where
  pub in_order_still : pairs (may_precede t l j) xs ≡ true → pairs (may_precede t l' j) xs ≡ true
  unfolding may_precede
  in_order_still o = pairs_among _ _ xs (λ y z e f h. rw (same y e, same z f) h) o

  pub apart_still : pairs (apart t l j) xs ≡ true → pairs (apart t l' j) xs ≡ true
  unfolding apart
  apart_still o = pairs_among _ _ xs (λ y z e f h. rw (same y e, same z f) h) o

  -- and where a record joins it, in any order and by any duplicates rule
  module _ (key : List ℕ) (x : ℕ) (own : key_in t l' j x ≡ key) where
    pub joined_in_order : pairs (may_precede t l j) xs ≡ true → pairs (may_precede t l' j) (joined t l j key x xs) ≡ true
    unfolding joined stops may_precede ahead halts
    joined_in_order o = put_pairs (may_precede t l' j) (stops t l j key) x xs
        (λ y e h. rw (own, same y e) (passed_ahead (order t j) (duplicates t j) key (key_in t l j y) h))
        (λ y e h. rw (own, same y e) (stopping_ahead (order t j) (duplicates t j) key (key_in t l j y) h))
        (λ y z e h g. ahead_trans (order t j) (key_in t l' j x) (key_in t l' j y) (key_in t l' j z) h g)
        (in_order_still o)

    pub joined_apart : ((y : ℕ) → elem y xs ≡ true → same_key (key_in t l j y) key ≡ false) → pairs (apart t l j) xs ≡ true
        → pairs (apart t l' j) (joined t l j key x xs) ≡ true
    unfolding joined apart
    joined_apart none o =
        let before : (y : ℕ) → elem y xs ≡ true → apart t l' j x y ≡ true = λ y e. rw (own, same y e, same_turned (key_in t l j y) key (none y e)) in
        put_pairs (apart t l' j) _ x xs
        (λ y e h. rw (own, same y e, none y e))
        (λ y e h. before y e)
        (λ y z e h g. before z e)
        (apart_still o)

-- a ring with no twin of a key, where duplicates are refused
pub no_twin : (t : List ℕ) (l : Ledger) (j m : ℕ) (key : List ℕ) (x : ℕ) → twin_in t l j m key x ≡ false → 2 ≤ order t j → duplicates t j ≡ 2
    → (y : ℕ) → elem y (l.ring j m) ≡ true → y ≢ x → same_key (key_in t l j y) key ≡ false
unfolding twin_in
no_twin t l j m key x h o d y e n =
    let g = none_any _ (l.ring j m) (rw (le-leb 2 (order t j) o, eq-eqb (duplicates t j) 2 d) at h) y e in
    rw (ne_eqb y x n) at g
