-- STORE keeps the ledger well formed and the currency in force.
use Prim.Native.Nat.{ℕ, ◌<◌}
use mathlib.Core.Path.{◌≡◌, sym, ◌∙◌}
use mathlib.Core.Logic.{◌≢◌, inl, inr}
use mathlib.Core.Bool.{true, false, ◌&&◌}
use mathlib.Core.List.{List}
use native.Mathlib.Omega.{arith}
use lib.ListN.{length, get_or}
use lib.Dec.{ltb}
use borrow.Author.Tests.{eqb-true, eqb-false, ne_eqb, lt-ltb, ltb-true, not-false}
use Rattle.ledger.specs.declared.Currency.{Currency}
use Rattle.ledger.specs.Numbers.{elem}
use Rattle.ledger.specs.Table.{chains, data_len, row, defined, calculated, is_detail, sort_key, calc_key, Accepted}
use Rattle.ledger.specs.Pages.{page_of, code_of, home, Ledger, kind_at, bytes_at, present, home_of, key_in, Placed, WellFormed}
use Rattle.ledger.specs.Currency.{chain_current, occurrence, InForce}
use Rattle.ledger.specs.Calls.{twin_in, calc_twin, free_line, place_for, stored, store}
use Rattle.ledger.proofs.Lists.Tests.{by_cases, clash, not_true_false, neither, both, eqb_same}
use Rattle.ledger.proofs.Lists.Members.{none_any}
use Rattle.ledger.proofs.Lists.Pairs.{without_none}
use Rattle.ledger.proofs.Ledger.Rows.{Within, as_detail_lem}
use Rattle.ledger.proofs.Ledger.Rings.{absent_no_ring}
use Rattle.ledger.proofs.Ledger.Bounds.{present_some}
use Rattle.ledger.proofs.Ledger.Order.{no_twin}
use Rattle.ledger.proofs.Keeps.Changes.{Stays, Joins, CalcStays, CalcJoins, Changed, written_there, written_kind, written_bytes, written_key, written_home, written_placed}
use Rattle.ledger.proofs.Keeps.Calcs.{no_calc_twin}
use Rattle.ledger.proofs.Keeps.Arrival.{Kept, unless_kept, changed_kept}
use Rattle.ledger.proofs.Keeps.Stored.{stored_at, stored_at_else, stored_ring, stored_ring_else, occurrence_there}
use Rattle.ledger.proofs.Keeps.Placing.{Taking, record_place, taking}

-- what STORE's tests leave to be had
pub record Granted (t : List ℕ) (l : Ledger) (cur : Currency) (n : ℕ) (d : List ℕ) (p k : ℕ) : Type 0 where
  pub typed : defined t n ≡ true
  pub currents : (j : ℕ) → j < chains t → is_detail t j n ≡ true → chain_current cur j ≢ 0
  pub full : length d ≡ data_len t (row t n)
  pub small : (i : ℕ) → get_or d i 0 < 256
  pub lone : calc_twin t l n d 0 ≡ false
  pub alone : (j : ℕ) → j < chains t → is_detail t j n ≡ true → twin_in t l j (occurrence t l cur j) (sort_key t j n d) 0 ≡ false
  pub within : Within t n p
  pub taking : Taking t l n p k

module _ (t : List ℕ) (l : Ledger) (cur : Currency) (n : ℕ) (d : List ℕ) (p k : ℕ) (a : Accepted t) (w : WellFormed t l) (f : InForce t l cur) (g : Granted t l cur n d p k) where
  abbrev x : ℕ
  x = code_of p k

  abbrev after : Ledger
  after = stored t l cur n d x

  fresh : present l x ≡ false
  fresh = g.taking.fresh

  new_kind : kind_at after x ≡ n
  new_kind = written_kind t after x n d (stored_at t l cur n d x)

  new_bytes : bytes_at after x ≡ d
  new_bytes = written_bytes t after x n d (stored_at t l cur n d x)

  new_key : (j : ℕ) → key_in t after j x ≡ sort_key t j n d
  new_key = written_key t after x n d (stored_at t l cur n d x)

  new_home : home_of t after x ≡ home t n (calc_key t n d)
  new_home = written_home t after x n d (stored_at t l cur n d x)

  on_page_lem : page_of x ≡ p
  on_page_lem = let u = g.taking.last_line in omega arith

  in_no_ring : (j m : ℕ) → elem x (l.ring j m) ≡ false
  in_no_ring = absent_no_ring t l w x fresh

  in_no_list : (q : ℕ) → elem x (l.calc q) ≡ false
  in_no_list q = not_true_false _ λ h. clash _ (w.calc_own q x h).0 fresh

  new_placed : Placed t after x
  new_placed =
      let line = g.taking.first_line in
      let last = g.taking.last_line in
      written_placed t after x n d (stored_at t l cur n d x) g.typed (rw on_page_lem g.within.0) (rw on_page_lem g.within.1) (omega arith) g.full g.small

  new_stays : (j : ℕ) → (ltb j (chains t) && is_detail t j n) ≡ false → Stays t l after x j
  new_stays j e = record {
    rings = λ m. stored_ring_else t l cur n d x j m e;
    same_key_lem = λ m h. clash _ h (in_no_ring j m);
    old = λ h i. clash _ (rw (lt-ltb j (chains t) h, ← new_kind) i) e;
  }

  new_joins : (j : ℕ) → j < chains t → is_detail t j n ≡ true → Joins t l after x j (occurrence t l cur j)
  new_joins j h i =
      let o = occurrence_there t l cur a w f j (g.currents j h i) in record {
        inside = h;
        there = o.0;
        above = o.1;
        below = rw new_kind i;
        enters = rw (stored_ring t l cur n d x j (occurrence t l cur j) (lt-ltb j (chains t) h) i, eqb_same (occurrence t l cur j), new_key j, without_none x _ (in_no_ring j (occurrence t l cur j)));
        leaves = λ m e. rw (stored_ring t l cur n d x j m (lt-ltb j (chains t) h) i, ne_eqb m _ e, without_none x _ (in_no_ring j m));
        alone = λ s r y e m. rw (new_key j) (no_twin t l j _ _ 0 (g.alone j h i) s r y e (present_some t l y w (w.ring_own j _ y e).3));
      }

  new_calc_stays : calculated t n ≡ false → CalcStays t l after x
  unfolding stored
  new_calc_stays e = record {
    lists = λ q. rw e;
    old = λ h. clash _ h (rw new_kind e);
  }

  new_calc_joins : calculated t n ≡ true → CalcJoins t l after x
  unfolding stored
  new_calc_joins e = record {
    keyed = rw new_kind e;
    enters = rw (new_home, e, eqb_same (home t n (calc_key t n d)), without_none x _ (in_no_list (home t n (calc_key t n d))));
    leaves = λ q m. rw (e, ne_eqb q (home t n (calc_key t n d)) (λ i. m (i ∙ sym new_home)), without_none x _ (in_no_list q));
  }

  pub stored_changed : Changed t l after x
  stored_changed = record {
    others = stored_at_else t l cur n d x;
    there = written_there t after x n d (stored_at t l cur n d x);
    placed = new_placed;
    kept = λ h. clash _ h fresh;
    room = λ h. rw (new_kind, on_page_lem) g.taking.room;
    turns = λ j. by_cases (ltb j (chains t) && is_detail t j n)
        (λ e. let (h, i) = both (ltb j (chains t)) _ e in inr (occurrence t l cur j, new_joins j (ltb-true _ _ h) i))
        (λ e. inl (new_stays j e));
    calcs = by_cases (calculated t n) (λ e. inr (new_calc_joins e)) (λ e. inl (new_calc_stays e));
    lone = λ y h m e i s. no_calc_twin t l n d 0 w g.lone (rw new_kind at e) y h (present_some t l y w h) (i ∙ new_kind) (rw (new_kind, new_bytes) at s);
  }

pub store_kept : (t : List ℕ) (l : Ledger) (cur : Currency) (n : ℕ) (d : List ℕ) → Accepted t → WellFormed t l → InForce t l cur
    → ((i : ℕ) → get_or d i 0 < 256) → Kept t (store t l cur n d)
unfolding store
store_kept t l cur n d a w f small =
    let p = place_for t l cur n d in
    let k = free_line l p in
    unless_kept t _ 5 _ λ typed.
    unless_kept t _ 6 _ λ currents.
    unless_kept t _ 8 _ λ full.
    unless_kept t _ 10 _ λ twins.
    unless_kept t _ 11 _ λ place.
    let (alone, others) = neither (calc_twin t l n d 0) _ twins in
    let (within, takes) = record_place t n a (not-false _ typed) l cur w f d (eqb-false _ _ place) in
    let granted : Granted t l cur n d p k = record {
      typed = not-false _ typed;
      currents = λ j h g. eqb-false _ _ (none_any _ _ currents j (as_detail_lem t n j h g));
      full = eqb-true _ _ (not-false _ full);
      small = small;
      lone = alone;
      alone = λ j h g. none_any _ _ others j (as_detail_lem t n j h g);
      within = within;
      taking = taking t l n p takes;
    } in
    changed_kept t l _ cur (code_of p k) a w f (stored_changed t l cur n d p k a w f granted) 0
