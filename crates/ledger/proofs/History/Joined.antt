-- What STORE makes of a ledger is what its event tells: the master of a chain's current record, told from the history, is the chain's occurrence.
use Prim.Native.Nat.{ℕ, ◌<◌}
use mathlib.Core.Path.{◌≡◌, sym, ◌∙◌, ap}
use mathlib.Core.Logic.{◌≢◌, inl, inr}
use mathlib.Core.Bool.{Bool, true, false, cond, ◌&&◌}
use mathlib.Core.List.{List, ◌∷◌}
use mathlib.Core.Option.{Option, some}
use lib.Dec.{eqb, ltb}
use borrow.Author.Tests.{ne_eqb, ltb-true}
use Rattle.ledger.specs.declared.Currency.{Currency}
use Rattle.ledger.specs.Numbers.{elem, keep, same_key}
use Rattle.ledger.specs.Table.{chains, is_master, is_detail, in_chain, sort_key, Accepted}
use Rattle.ledger.specs.Pages.{Ledger, kind_of, bytes_of, kind_at, present, key_in, master_of, WellFormed}
use Rattle.ledger.specs.Currency.{InForce, chain_current, occurrence}
use Rattle.ledger.specs.Calls.{joined, stored}
use Rattle.ledger.specs.History.{Event, passes, master_told, under, kind_told, data_told, newest, has_key}
use Rattle.ledger.proofs.Lists.Tests.{by_cases, same_or_not, clash, both, eqb_same}
use Rattle.ledger.proofs.Lists.Sieves.{keep_same}
use Rattle.ledger.proofs.Ledger.Entries.{key_as, points_there}
use Rattle.ledger.proofs.Ledger.Rings.{absent_no_ring, master_self, held}
use Rattle.ledger.proofs.Keeps.Changes.{written_key}
use Rattle.ledger.proofs.Keeps.Stored.{stored_at, stored_at_else, stored_ring, stored_ring_else}
use Rattle.ledger.proofs.History.Equals.{by_order, side, join_equals, elem_joined}
use Rattle.ledger.proofs.History.Told.{Tells, under_is, newest_members}

module _ (t : List ℕ) (l : Ledger) (es : List Event) (a : Accepted t) (w : WellFormed t l) (h : Tells t l es) where
  -- the master of a record of a chain, as told
  master_told_lem : (j c : ℕ) → j < chains t → present l c ≡ true → in_chain t j (kind_at l c) ≡ true
      → master_told t j c (kind_told t es c) (under t es j c) ≡ some (master_of t l j c)
  unfolding master_told in_chain
  master_told_lem j c lt p i = rw (← h.kinds c) (by_cases (is_master t j (kind_at l c))
      (λ e. rw (e, master_self t l j c e))
      (λ e. rw e (under_is (under t es j c) _ (sym (h.members j _ c) ∙ held t l w a j c lt p (rw e at i)))))

  module _ (cur : Currency) (n : ℕ) (d : List ℕ) (x : ℕ) (free : present l x ≡ false) (force : InForce t l cur)
      (set : (j : ℕ) → j < chains t → is_detail t j n ≡ true → chain_current cur j ≢ 0) where
    in_no_ring : (j m : ℕ) → elem x (l.ring j m) ≡ false
    in_no_ring = absent_no_ring t l w x free

    -- its chain or not; its master or not
    module _ (j m : ℕ) where
      abbrev mine : Bool
      mine = ltb j (chains t) && is_detail t j n

      abbrev top : ℕ
      top = occurrence t l cur j

      abbrev top_told : Option ℕ
      top_told = master_told t j (chain_current cur j) (kind_told t es (chain_current cur j)) (under t es j (chain_current cur j))

      top_is : mine ≡ true → top_told ≡ some top
      unfolding occurrence
      top_is e =
          let r = both (ltb j (chains t)) (is_detail t j n) e in
          let lt = ltb-true j (chains t) r.0 in
          let there = set j lt r.1 in
          let right : in_chain t j (kind_at l (chain_current cur j)) ≡ true = elim (force.chain_right j) [ inl z ↦ absurd (there z) | inr q ↦ q.1 ] in
          master_told_lem j (chain_current cur j) lt (points_there l _ (force.chain_there j) there) right

      ring_joins : mine ≡ true → (stored t l cur n d x).ring j m ≡ cond (eqb m top) (joined t l j (sort_key t j n d) x (l.ring j m)) (l.ring j m)
      ring_joins e = let r = both (ltb j (chains t)) (is_detail t j n) e in stored_ring t l cur n d x j m r.0 r.1

      stored_members : (y : ℕ) → elem y ((stored t l cur n d x).ring j m) ≡ passes (eqb m) (cond (mine && eqb y x) top_told (under t es j y))
      unfolding passes
      stored_members y = by_cases mine
          (λ e. rw (ring_joins e, e, top_is e) (by_cases (eqb m top)
          (λ i. rw (i, elem_joined t l j _ y x (l.ring j m)) (by_cases (eqb y x) (λ g. rw (g, i)) (λ g. rw g (h.members j m y))))
          (λ i. rw i (same_or_not y x (λ g. rw (g, eqb_same x, i) (in_no_ring j m)) (λ g. rw (ne_eqb y x g) (h.members j m y))))))
          (λ e. rw (stored_ring_else t l cur n d x j m e, e) (h.members j m y))

      module _ (k : List ℕ) (lt : j < chains t) where
        abbrev new : ℕ → Bool
        new = has_key t (stored t l cur n d x) j k

        stored_key : key_in t (stored t l cur n d x) j x ≡ sort_key t j n d
        stored_key = written_key t (stored t l cur n d x) x n d (stored_at t l cur n d x) j

        others : (xs : List ℕ) → elem x xs ≡ false → (y : ℕ) → elem y xs ≡ true → new y ≡ has_key t l j k y
        others xs out y e = ap (λ (v : List ℕ). same_key v k) (key_as t l _ j y (stored_at_else t l cur n d x y (λ i. clash _ e (rw i out))))

        stored_equals : keep new ((stored t l cur n d x).ring j m)
            ≡ by_order (side t j) (keep new (cond (mine && passes (eqb m) top_told) (x ∷ newest t es j m) (newest t es j m)))
        unfolding passes
        stored_equals =
            let ring = l.ring j m in
            let joins = newest t es j m in
            let out : elem x joins ≡ false = newest_members t l es h j m x lt ∙ in_no_ring j m in
            let before : keep new ring ≡ by_order (side t j) (keep new joins) =
            keep_same new _ ring (others ring (in_no_ring j m)) ∙ h.equals j m k lt
            ∙ ap (by_order (side t j)) (sym (keep_same new _ joins (others joins out))) in
            by_cases mine
            (λ e. rw (ring_joins e, e, top_is e) (by_cases (eqb m top)
            (λ i. rw i (join_equals t l j a lt _ k x ring joins new (ap (λ (v : List ℕ). same_key v k) stored_key) (others ring (in_no_ring j m)) (w.in_order j m) before))
            (λ i. rw i before)))
            (λ e. rw (stored_ring_else t l cur n d x j m e, e) before)

    pub tells_stored : Tells t (stored t l cur n d x) (Event.stored cur n d x ∷ es)
    unfolding under data_told newest kind_of bytes_of
    tells_stored = record {
      kinds = λ y. same_or_not y x
          (λ e. rw (e, eqb_same x, stored_at t l cur n d x))
          (λ i. rw (ne_eqb y x i, stored_at_else t l cur n d x y i) (h.kinds y));
      contents = λ y. same_or_not y x
          (λ e. rw (e, eqb_same x, stored_at t l cur n d x))
          (λ i. rw (ne_eqb y x i, stored_at_else t l cur n d x y i) (h.contents y));
      members = stored_members;
      equals = stored_equals;
    }
