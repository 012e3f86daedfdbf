-- DELETE leaves a well-formed ledger: each surviving list is the old one with those struck out that went.
use Prim.Native.Nat.{ℕ, ◌≤◌}
use mathlib.Core.Path.{◌≡◌, refl, sym, ◌∙◌}
use mathlib.Core.Bool.{Bool, true, false, not, false≢true}
use mathlib.Core.List.{List, [], ◌∷◌, ◌++◌}
use mathlib.Core.Option.{none}
use native.Mathlib.Omega.{arith}
use lib.ListN.{length}
use borrow.Author.Tests.{not-true}
use Rattle.ledger.specs.Numbers.{elem, keep, pairs, head_or, last_or, run}
use Rattle.ledger.specs.Table.{is_master, Accepted}
use Rattle.ledger.specs.Pages.{code_of, Ledger, is_some, kind_at, present, home_of, key_in, next_of, prior_of, used, record_bytes, may_precede, Placed, WellFormed}
use Rattle.ledger.specs.Calls.{goes, deleted}
use Rattle.ledger.proofs.Lists.Tests.{by_cases}
use Rattle.ledger.proofs.Lists.Members.{elem_nil}
use Rattle.ledger.proofs.Lists.Sieves.{keep_none, keep_append, elem_keep, keep_elem}
use Rattle.ledger.proofs.Lists.Pairs.{pairs_keep, once_keep}
use Rattle.ledger.proofs.Lists.Runs.{sum_of_within}
use Rattle.ledger.proofs.Ledger.Entries.{key_as, home_as, placed_as}
use Rattle.ledger.proofs.Ledger.Rings.{chained, next_master, prior_master, next_in_lem, prior_in_lem}
use Rattle.ledger.proofs.Ledger.Records.{absent_bytes, record_sized}
use Rattle.ledger.proofs.Ledger.Order.{apart, in_order_still, apart_still}
use Rattle.ledger.proofs.Delete.Doomed.{goes_down, stays_up}

-- whether a record survives
abbrev pub stays : List ℕ → Ledger → ℕ → ℕ → Bool
stays t l x y = not (goes t l x y)

module _ (t : List ℕ) (l : Ledger) (x : ℕ) where
  pub deleted_gone : (y : ℕ) → goes t l x y ≡ true → (deleted t l x).at y ≡ none
  unfolding deleted
  deleted_gone y g = rw g

  pub deleted_at : (y : ℕ) → goes t l x y ≡ false → (deleted t l x).at y ≡ l.at y
  unfolding deleted
  deleted_at y g = rw g

  -- the lists that survive are the old ones without those that went
  pub deleted_ring : (j m : ℕ) → goes t l x m ≡ false → (deleted t l x).ring j m ≡ keep (stays t l x) (l.ring j m)
  unfolding deleted
  deleted_ring j m g = rw g

  pub deleted_ring_gone : (j m : ℕ) → goes t l x m ≡ true → (deleted t l x).ring j m ≡ []
  unfolding deleted
  deleted_ring_gone j m g = rw g

  pub deleted_calc : (p : ℕ) → (deleted t l x).calc p ≡ keep (stays t l x) (l.calc p)
  unfolding deleted
  deleted_calc p = refl

  pub survived : (y : ℕ) → present (deleted t l x) y ≡ true → (goes t l x y ≡ false) × (present l y ≡ true)
  unfolding is_some
  survived y h = by_cases (goes t l x y)
      (λ g. absurd (false≢true (rw (deleted_gone y g) at h)))
      (λ g. (g, rw (deleted_at y g) at h))

  pub calc_kept : (p y : ℕ) → elem y ((deleted t l x).calc p) ≡ true → (elem y (l.calc p) ≡ true) × (goes t l x y ≡ false)
  calc_kept p y e =
      let k = keep_elem (stays t l x) y (l.calc p) (rw (deleted_calc p) at e) in
      (k.0, not-true (goes t l x y) k.1)

  pub ring_kept : (j m y : ℕ) → elem y ((deleted t l x).ring j m) ≡ true
      → (elem y (l.ring j m) ≡ true) × (goes t l x m ≡ false) × (goes t l x y ≡ false)
  ring_kept j m y e = by_cases (goes t l x m)
      (λ g. elem_nil y (rw (deleted_ring_gone j m g) at e))
      (λ g.
      let k = keep_elem (stays t l x) y (l.ring j m) (rw (deleted_ring j m g) at e) in
      (k.0, g, not-true (goes t l x y) k.1))

  pub kept_ring : (j m y : ℕ) → goes t l x m ≡ false → goes t l x y ≡ false → elem y (l.ring j m) ≡ true → elem y ((deleted t l x).ring j m) ≡ true
  kept_ring j m y g f e = rw (deleted_ring j m g) (elem_keep (stays t l x) y (l.ring j m) e (rw f))

  deleted_placed : (y : ℕ) → goes t l x y ≡ false → Placed t l y → Placed t (deleted t l x) y
  deleted_placed y g p = placed_as t l (deleted t l x) y (deleted_at y g) p

  pub key_left : (j y : ℕ) → goes t l x y ≡ false → key_in t (deleted t l x) j y ≡ key_in t l j y
  key_left j y g = key_as t l (deleted t l x) j y (deleted_at y g)

  pub home_left : (y : ℕ) → goes t l x y ≡ false → home_of t (deleted t l x) y ≡ home_of t l y
  home_left y g = home_as t l (deleted t l x) y (deleted_at y g)

module _ (t : List ℕ) (l : Ledger) (x : ℕ) (a : Accepted t) (w : WellFormed t l) where
  abbrev after : Ledger
  after = deleted t l x

  -- a survivor keeps its length
  record_shorter : (y : ℕ) → length (record_bytes t after y) ≤ length (record_bytes t l y)
  record_shorter y = by_cases (goes t l x y)
      (λ g. rw (absent_bytes t after y (rw (deleted_gone t l x y g) (unfold is_some in refl))) (omega arith))
      (λ g. rw (record_sized t after y (λ h. (deleted_placed t l x y g (w.placed y (survived t l x y h).1)).full), deleted_at t l x y g, ← record_sized t l y (λ h. (w.placed y h).full)) (omega arith))

  deleted_room : (p : ℕ) → used (record_bytes t after) p ≤ 496
  unfolding used
  deleted_room p =
      omega (
        arith,
        w.room p,
        sum_of_within (λ k. length (record_bytes t after (code_of p k))) (λ k. length (record_bytes t l (code_of p k))) (run 1 63)
            (λ k. record_shorter (code_of p k)),
      )

  -- where a master goes, its details go
  pub deleted_rings : (j m : ℕ) → after.ring j m ≡ keep (stays t l x) (l.ring j m)
  deleted_rings j m = by_cases (goes t l x m)
      (λ e. deleted_ring_gone t l x j m e ∙ sym (keep_none _ (l.ring j m) (λ y f. rw (goes_down t l x a w j m y e f))))
      (deleted_ring t l x j m)

  keys_left : (j m y : ℕ) → elem y (after.ring j m) ≡ true → key_in t after j y ≡ key_in t l j y
  keys_left j m y e = key_left t l x j y (ring_kept t l x j m y e).2

  pairs_left : (r : ℕ → ℕ → Bool) (j m : ℕ) → pairs r (l.ring j m) ≡ true → pairs r (after.ring j m) ≡ true
  pairs_left r j m o = rw (deleted_rings j m) (pairs_keep r (stays t l x) (l.ring j m) o)

  pub deleted_formed : WellFormed t after
  unfolding apart
  deleted_formed = record {
    placed = λ y h. let s = survived t l x y h in deleted_placed t l x y s.0 (w.placed y s.1);
    room = deleted_room;
    calc_once = λ p. rw (deleted_calc t l x p) (once_keep (stays t l x) (l.calc p) (w.calc_once p));
    calc_own = λ p y e.
        let k = calc_kept t l x p y e in
        rw (home_left t l x y k.1, deleted_at t l x y k.1) (w.calc_own p y k.0);
    calc_all = λ y h c.
        let s = survived t l x y h in
        rw (home_left t l x y s.0, deleted_calc t l x)
        (elem_keep (stays t l x) y (l.calc (home_of t l y)) (w.calc_all y s.1 (rw (deleted_at t l x y s.0) at c)) (rw s.0));
    ring_once = λ j m. rw (deleted_rings j m) (once_keep (stays t l x) (l.ring j m) (w.ring_once j m));
    ring_own = λ j m y e.
        let k = ring_kept t l x j m y e in
        rw (deleted_at t l x m k.1, deleted_at t l x y k.2) (w.ring_own j m y k.0);
    ring_all = λ j y lt h d.
        let s = survived t l x y h in
        let (m, e) = w.ring_all j y lt s.1 (rw (deleted_at t l x y s.0) at d) in
        (m, kept_ring t l x j m y (stays_up t l x a w j m y s.0 e) s.0 e);
    ring_one = λ j m n y e f. w.ring_one j m n y (ring_kept t l x j m y e).0 (ring_kept t l x j n y f).0;
    in_order = λ j m. in_order_still t l after j _ (keys_left j m) (pairs_left (may_precede t l j) j m (w.in_order j m));
    no_twins = λ j m o d. apart_still t l after j _ (keys_left j m) (pairs_left (apart t l j) j m (w.no_twins j m o d));
    no_calc_twins = λ y z h g c k s.
        let p = survived t l x y h in
        let q = survived t l x z g in
        w.no_calc_twins y z p.1 q.1 (rw (deleted_at t l x y p.0) at c) (rw (deleted_at t l x y p.0, deleted_at t l x z q.0) at k)
        (rw (deleted_at t l x y p.0, deleted_at t l x z q.0) at s);
  }

  -- NEXT and PRIOR in a surviving ring are the next survivors of the old one
  module _ (j m : ℕ) (g : goes t l x m ≡ false) where
    pub next_of_master : is_master t j (kind_at l m) ≡ true → next_of t after j m ≡ head_or m (keep (stays t l x) (l.ring j m))
    next_of_master h = next_master t after j m (rw (deleted_at t l x m g) h) ∙ rw (deleted_ring t l x j m g)

    pub prior_of_master : is_master t j (kind_at l m) ≡ true → prior_of t after j m ≡ last_or m (keep (stays t l x) (l.ring j m))
    prior_of_master h = prior_master t after j m (rw (deleted_at t l x m g) h) ∙ rw (deleted_ring t l x j m g)

    module _ (y : ℕ) (ys zs : List ℕ) (f : goes t l x y ≡ false) (e : l.ring j m ≡ ys ++ y ∷ zs) where
      ring_left : after.ring j m ≡ keep (stays t l x) ys ++ y ∷ keep (stays t l x) zs
      unfolding keep
      ring_left = rw (deleted_ring t l x j m g, e, keep_append (stays t l x) ys (y ∷ zs), f)

      pub next_survivor : next_of t after j y ≡ head_or m (keep (stays t l x) zs)
      next_survivor = next_in_lem t after j m y (keep (stays t l x) ys) (keep (stays t l x) zs) (chained t after a deleted_formed j) ring_left

      pub prior_survivor : prior_of t after j y ≡ last_or m (keep (stays t l x) ys)
      prior_survivor = prior_in_lem t after j m y (keep (stays t l x) ys) (keep (stays t l x) zs) (chained t after a deleted_formed j) ring_left
