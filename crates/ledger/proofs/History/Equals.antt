-- Where a record joins a ring: among those of its key it is the first or the last, as the chain says.
use Prim.Native.Nat.{ℕ, ◌<◌}
use mathlib.Core.Path.{◌≡◌, refl, ◌∙◌, ap}
use mathlib.Core.Bool.{Bool, true, false, cond, ◌||◌}
use mathlib.Core.List.{List, [], ◌∷◌, ◌++◌, reverse, reverse-cons}
use native.Mathlib.Omega.{arith}
use lib.Dec.{eqb}
use borrow.Author.Tests.{eqb-false, eq-eqb, not-true, not-false}
use Rattle.ledger.specs.Numbers.{elem, keep, pairs, less_key, same_key}
use Rattle.ledger.specs.Table.{chains, order, duplicates, Accepted}
use Rattle.ledger.specs.Pages.{Ledger, key_in, may_precede}
use Rattle.ledger.specs.Calls.{stops, joined}
use Rattle.ledger.specs.History.{has_key}
use Rattle.ledger.proofs.Lists.Tests.{by_cases, clash, not_true_false}
use Rattle.ledger.proofs.Lists.Members.{elem_reverse}
use Rattle.ledger.proofs.Lists.Sieves.{keep_reverse}
use Rattle.ledger.proofs.Lists.Keys.{same_eq, less_other, same_turned}
use Rattle.ledger.proofs.Lists.Puts.{put_out, put_front, put_back, elem_into}

-- the newest first, or the oldest first
unfoldable pub by_order : ℕ → List ℕ → List ℕ
by_order o xs = cond (eqb o 0) xs (reverse xs)

pub keep_by_order : (o : ℕ) (p : ℕ → Bool) (xs : List ℕ) → keep p (by_order o xs) ≡ by_order o (keep p xs)
unfolding by_order
keep_by_order o p xs = by_cases (eqb o 0) (λ a. rw a) (λ b. rw b (keep_reverse p xs))

pub elem_by_order : (o x : ℕ) (xs : List ℕ) → elem x (by_order o xs) ≡ elem x xs
unfolding by_order
elem_by_order o x xs = by_cases (eqb o 0) (λ a. rw a) (λ b. rw b (elem_reverse x xs))

-- members of a ring that one has joined
pub elem_joined : (t : List ℕ) (l : Ledger) (j : ℕ) (key : List ℕ) (y x : ℕ) (xs : List ℕ) → elem y (joined t l j key x xs) ≡ (eqb y x || elem y xs)
unfolding joined
elem_joined t l j key y x xs = elem_into (stops t l j key) x xs y

-- the end at which a chain takes a new one among equals: 0 first, else last
unfoldable pub side : List ℕ → ℕ → ℕ
side t j = cond (eqb (order t j) 0) 0 (cond (eqb (order t j) 1) 1 (duplicates t j))

module _ (t : List ℕ) (l : Ledger) (j : ℕ) (a : Accepted t) (lt : j < chains t) (key : List ℕ) where
  past_more : (k v : List ℕ) → less_key key k ≡ true → less_key v k ≡ false → same_key v key ≡ false
  past_more k v e f = not_true_false _ (λ i. clash _ e (rw (same_eq v key i) at f))

  past_less : (k v : List ℕ) → less_key k key ≡ true → less_key k v ≡ false → same_key v key ≡ false
  past_less k v e f = not_true_false _ (λ i. clash _ e (rw (same_eq v key i) at f))

  passed_others : eqb (side t j) 0 ≡ true → (y : ℕ) → stops t l j key y ≡ false → has_key t l j key y ≡ false
  unfolding side stops
  passed_others z y h = by_cases (eqb (order t j) 0)
      (λ e. clash _ refl (rw e at h))
      (λ e. by_cases (eqb (order t j) 1)
      (λ f. clash _ (rw (e, f) at z) refl)
      (λ f. by_cases (eqb (order t j) 2)
      (λ g. less_other _ key (not-false _ (rw (e, f, g, (rw (e, f) at z)) at h)))
      (λ g. same_turned key _ (less_other key _ (not-false _ (rw (e, f, g, (rw (e, f) at z)) at h))))))

  stopped_other : eqb (side t j) 0 ≡ false → (y : ℕ) → stops t l j key y ≡ true → has_key t l j key y ≡ false
  unfolding side stops
  stopped_other z y h = by_cases (eqb (order t j) 0)
      (λ e. clash _ refl (rw e at z))
      (λ e. by_cases (eqb (order t j) 1)
      (λ f. clash _ (rw (e, f) at h) refl)
      (λ f. by_cases (eqb (order t j) 2)
      (λ g. same_turned key _ (less_other key _ (rw (e, f, g, (rw (e, f) at z)) at h)))
      (λ g. less_other _ key (rw (e, f, g, (rw (e, f) at z)) at h))))

  after_others : eqb (side t j) 0 ≡ false → (y v : ℕ) → stops t l j key y ≡ true → may_precede t l j y v ≡ true → has_key t l j key v ≡ false
  unfolding side stops may_precede
  after_others z y v h may = by_cases (eqb (order t j) 0)
      (λ e. clash _ refl (rw e at z))
      (λ e. by_cases (eqb (order t j) 1)
      (λ f. clash _ (rw (e, f) at h) refl)
      (λ f. by_cases (eqb (order t j) 2)
      (λ g. past_more (key_in t l j y) (key_in t l j v) (rw (e, f, g, (rw (e, f) at z)) at h) (not-true _ (rw g at may)))
      (λ g.
      let three : eqb (order t j) 3 ≡ true = eq-eqb (order t j) 3 (omega (arith, eqb-false (order t j) 0 e, eqb-false (order t j) 1 f, eqb-false (order t j) 2 g, (a.chain_rows j lt).ordered)) in
      past_less (key_in t l j y) (key_in t l j v) (rw (e, f, g, (rw (e, f) at z)) at h) (not-true _ (rw (g, three) at may)))))

  -- it joins those of its key at the chain's end of them
  join_among : (x : ℕ) (xs zs : List ℕ) (q : ℕ → Bool) → q x ≡ true → ((y : ℕ) → elem y xs ≡ true → q y ≡ has_key t l j key y)
      → pairs (may_precede t l j) xs ≡ true → keep q xs ≡ by_order (side t j) zs → keep q (joined t l j key x xs) ≡ by_order (side t j) (x ∷ zs)
  unfolding joined by_order
  join_among x xs zs q f same o e = by_cases (eqb (side t j) 0)
      (λ z. rw z (put_front (stops t l j key) q x xs f (λ y i g. same y i ∙ passed_others z y g) ∙ ap (λ (v : List ℕ). x ∷ v) (rw z at e)))
      (λ z. rw (z, reverse-cons x zs) (put_back (stops t l j key) q x (may_precede t l j) xs f o
      (λ y i g. same y i ∙ stopped_other z y g)
      (λ y v i g may. same v i ∙ after_others z y v g may)
      ∙ ap (λ (v : List ℕ). v ++ (x ∷ [])) (rw z at e)))

  -- the same for the records of any key k, where the one that joins has the key `key`
  pub join_equals : (k : List ℕ) (x : ℕ) (xs zs : List ℕ) (q : ℕ → Bool) → q x ≡ same_key key k → ((y : ℕ) → elem y xs ≡ true → q y ≡ has_key t l j k y)
      → pairs (may_precede t l j) xs ≡ true → keep q xs ≡ by_order (side t j) (keep q zs) → keep q (joined t l j key x xs) ≡ by_order (side t j) (keep q (x ∷ zs))
  unfolding keep joined
  join_equals k x xs zs q own same o e = by_cases (same_key key k)
      (λ i.
      let is : q x ≡ true = own ∙ i in
      let like : (y : ℕ) → elem y xs ≡ true → q y ≡ has_key t l j key y = λ y g. rw (same_eq key k i) (same y g) in
      rw is (join_among x xs (keep q zs) q is like o e))
      (λ i. rw (own ∙ i) (put_out (stops t l j key) q x xs (own ∙ i) ∙ e))
