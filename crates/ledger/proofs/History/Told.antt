-- A ledger is what a history tells: its records, its rings' members, and among those of one key the order of joining. A fresh start; RELINK.
use Prim.Native.Nat.{ℕ, ◌<◌}
use mathlib.Core.Path.{◌≡◌, refl, sym, ◌∙◌, ap}
use mathlib.Core.Bool.{Bool, true, cond, and-false, and-true, false≢true}
use mathlib.Core.List.{List, [], ◌∷◌}
use mathlib.Core.Option.{Option, none, some}
use lib.Dec.{eqb}
use borrow.Author.Tests.{eqb-true}
use Rattle.ledger.specs.Numbers.{elem, keep, without}
use Rattle.ledger.specs.Table.{chains, Accepted}
use Rattle.ledger.specs.Pages.{Ledger, kind_of, bytes_of, kind_at, bytes_at, key_in, WellFormed, empty}
use Rattle.ledger.specs.Calls.{joined, relinked}
use Rattle.ledger.specs.History.{Event, passes, under, kind_told, data_told, newest, has_key}
use Rattle.ledger.proofs.Lists.Tests.{by_cases, eqb_same}
use Rattle.ledger.proofs.Lists.Sieves.{keep_comm, elem_keep_is}
use Rattle.ledger.proofs.Lists.Pairs.{elem_without, without_pairs}
use Rattle.ledger.proofs.Lists.Keys.{same_self}
use Rattle.ledger.proofs.History.Equals.{by_order, keep_by_order, elem_by_order, side, join_equals, elem_joined}

-- there is one, and it passes
pub passes_some : (p : ℕ → Bool) (o : Option ℕ) → passes p o ≡ true → (m : ℕ) × (o ≡ some m) × (p m ≡ true)
unfolding passes
passes_some p none h = absurd (false≢true h)
passes_some p (some m) h = (m, refl, h)

pub is_under : (o : Option ℕ) (m : ℕ) → o ≡ some m → passes (eqb m) o ≡ true
unfolding passes
is_under o m h = rw h (eqb_same m)

pub under_is : (o : Option ℕ) (m : ℕ) → passes (eqb m) o ≡ true → o ≡ some m
under_is o m h = let (k, e, f) = passes_some (eqb m) o h in e ∙ ap some (sym (eqb-true m k f))

-- The keys' own order is a law of the ledger.
pub record Tells (t : List ℕ) (l : Ledger) (es : List Event) : Type 0 where
  pub kinds : (x : ℕ) → kind_at l x ≡ kind_told t es x
  pub contents : (x : ℕ) → bytes_at l x ≡ data_told t es x
  pub members : (j m x : ℕ) → elem x (l.ring j m) ≡ passes (eqb m) (under t es j x)
  pub equals : (j m : ℕ) (k : List ℕ) → j < chains t → keep (has_key t l j k) (l.ring j m) ≡ by_order (side t j) (keep (has_key t l j k) (newest t es j m))

-- a fresh start
nothing : (o : ℕ) (p : ℕ → Bool) → keep p [] ≡ by_order o (keep p [])
unfolding by_order keep
nothing o p = by_cases (eqb o 0) (λ a. rw a) (λ b. rw b)

pub tells_none : (t : List ℕ) → Tells t empty []
unfolding kind_of bytes_of under data_told newest passes elem
tells_none t = record {
  kinds = λ x. refl;
  contents = λ x. refl;
  members = λ j m x. refl;
  equals = λ j m k lt. nothing (side t j) (has_key t empty j k);
}

pub tells_fresh : (t : List ℕ) (es : List Event) → Tells t empty (Event.fresh ∷ es)
unfolding kind_of bytes_of under data_told newest passes elem
tells_fresh t es = record {
  kinds = λ x. refl;
  contents = λ x. refl;
  members = λ j m x. refl;
  equals = λ j m k lt. nothing (side t j) (has_key t empty j k);
}

module _ (t : List ℕ) (l : Ledger) (es : List Event) (h : Tells t l es) where
  -- whoever joined last is a member too
  pub newest_members : (j m x : ℕ) → j < chains t → elem x (newest t es j m) ≡ elem x (l.ring j m)
  newest_members j m x lt =
      let q = has_key t l j (key_in t l j x) in
      let own : (xs : List ℕ) → elem x (keep q xs) ≡ elem x xs = λ xs. elem_keep_is q x xs ∙ rw (same_self (key_in t l j x)) (and-true (elem x xs)) in
      sym (own (newest t es j m)) ∙ sym (elem_by_order (side t j) x (keep q (newest t es j m))) ∙ ap (elem x) (sym (h.equals j m (key_in t l j x) lt)) ∙ own (l.ring j m)

  -- a ring that one has left
  pub left : (x j m : ℕ) (k : List ℕ) → j < chains t
      → keep (has_key t l j k) (without x (l.ring j m)) ≡ by_order (side t j) (keep (has_key t l j k) (without x (newest t es j m)))
  unfolding without
  left x j m k lt =
      let q = has_key t l j k in
      keep_comm q _ (l.ring j m) ∙ ap (without x) (h.equals j m k lt) ∙ keep_by_order (side t j) _ (keep q (newest t es j m))
      ∙ ap (by_order (side t j)) (keep_comm _ q (newest t es j m))

  -- RELINK
  module _ (a : Accepted t) (w : WellFormed t l) (j x m : ℕ) where
    moved : (i : List ℕ) (k : ℕ) → j < chains t
        → keep (has_key t l j i) (cond (eqb k m) (joined t l j (key_in t l j x) x (without x (l.ring j k))) (without x (l.ring j k)))
        ≡ by_order (side t j) (keep (has_key t l j i) (cond (eqb k m) (x ∷ without x (newest t es j k)) (without x (newest t es j k))))
    moved i k lt = by_cases (eqb k m)
        (λ e. rw e (join_equals t l j a lt (key_in t l j x) i x _ _ (has_key t l j i) refl (λ y g. refl) (without_pairs _ x (l.ring j k) (w.in_order j k)) (left x j k i lt)))
        (λ e. rw e (left x j k i lt))

    pub tells_relinked : Tells t (relinked t l j x m) (Event.moved j m x ∷ es)
    unfolding under data_told newest passes relinked key_in
    tells_relinked = record {
      kinds = h.kinds;
      contents = h.contents;
      members = λ i k y. by_cases (eqb i j)
          (λ e. rw (e, eqb-true i j e) (by_cases (eqb k m)
          (λ f. rw (f, elem_joined t l j _ y x _, elem_without y x (l.ring j k)) (by_cases (eqb y x)
          (λ g. rw (g, f))
          (λ g. rw g (and-true (elem y (l.ring j k)) ∙ h.members j k y))))
          (λ f. rw (f, elem_without y x (l.ring j k)) (by_cases (eqb y x)
          (λ g. rw (g, f) (and-false (elem y (l.ring j k))))
          (λ g. rw g (and-true (elem y (l.ring j k)) ∙ h.members j k y))))))
          (λ e. rw e (h.members i k y));
      equals = λ i k v lt. by_cases (eqb i j)
          (λ e. rw (e, eqb-true i j e) (moved v k (rw (eqb-true i j e) at lt)))
          (λ e. rw e (h.equals i k v lt));
    }
