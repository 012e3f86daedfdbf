-- MODIFY keeps the ledger well formed and the currency in force.
use Prim.Native.Nat.{ℕ, ◌<◌}
use mathlib.Core.Path.{◌≡◌, sym, ◌∙◌, ap}
use mathlib.Core.Logic.{◌≢◌, ◌⊎◌, inl, inr}
use mathlib.Core.Bool.{true, false, not, ◌&&◌, and-false}
use mathlib.Core.List.{List}
use mathlib.Core.Option.{some}
use lib.ListN.{length, get_or}
use lib.Dec.{ltb}
use borrow.Author.Tests.{eqb-true, eqb-false, ne_eqb, lt-ltb, ltb-true, not-false}
use Rattle.ledger.specs.declared.Currency.{Currency}
use Rattle.ledger.specs.Numbers.{elem, same_key}
use Rattle.ledger.specs.Table.{chains, data_len, row, calculated, is_detail, sort_key, calc_key, Accepted}
use Rattle.ledger.specs.Pages.{home, Ledger, kind_at, bytes_at, present, master_of, home_of, key_in, Placed, WellFormed}
use Rattle.ledger.specs.Currency.{InForce}
use Rattle.ledger.specs.Calls.{twin_in, calc_twin, modified, modify}
use Rattle.ledger.proofs.Lists.Tests.{by_cases, clash, not_true_false, neither, both, eqb_same, update_same, update_other}
use Rattle.ledger.proofs.Lists.Members.{none_any}
use Rattle.ledger.proofs.Lists.Pairs.{without_none}
use Rattle.ledger.proofs.Lists.Keys.{same_eq}
use Rattle.ledger.proofs.Ledger.Entries.{points_there}
use Rattle.ledger.proofs.Ledger.Rows.{as_detail_lem}
use Rattle.ledger.proofs.Ledger.Rings.{chained, master_in_lem}
use Rattle.ledger.proofs.Ledger.Order.{no_twin}
use Rattle.ledger.proofs.Keeps.Changes.{Stays, Joins, CalcStays, CalcJoins, Changed, written_there, written_kind, written_bytes, written_key, written_home, written_placed}
use Rattle.ledger.proofs.Keeps.Calcs.{no_calc_twin}
use Rattle.ledger.proofs.Keeps.Arrival.{Kept, unless_kept, changed_kept}

module _ (t : List ℕ) (l : Ledger) (x : ℕ) (d : List ℕ) (a : Accepted t) (w : WellFormed t l) (there : present l x ≡ true) where
  abbrev n : ℕ
  n = kind_at l x

  abbrev after : Ledger
  after = modified t l x d

  new_at : after.at x ≡ some (record { kind = n; bytes = d })
  unfolding modified
  new_at = update_same l.at x _

  new_kind : kind_at after x ≡ n
  new_kind = written_kind t after x n d new_at

  new_bytes : bytes_at after x ≡ d
  new_bytes = written_bytes t after x n d new_at

  new_key : (j : ℕ) → key_in t after j x ≡ sort_key t j n d
  new_key = written_key t after x n d new_at

  new_home : home_of t after x ≡ home t n (calc_key t n d)
  new_home = written_home t after x n d new_at

  -- the rings of a chain where the record's key is the same, or where it is no detail
  same_stays : (j : ℕ) → same_key (key_in t l j x) (sort_key t j n d) ≡ true → Stays t l after x j
  unfolding modified
  same_stays j e = record {
    rings = λ m. rw (e, and-false (elem x (l.ring j m)));
    same_key_lem = λ m h. new_key j ∙ sym (same_eq _ _ e);
    old = λ h g. there;
  }

  outside_stays : (j : ℕ) → ((m : ℕ) → elem x (l.ring j m) ≡ false) → Stays t l after x j
  unfolding modified
  outside_stays j out = record {
    rings = λ m. rw (out m);
    same_key_lem = λ m h. clash _ h (out m);
    old = λ h g. there;
  }

  other_joins : (j m : ℕ) → same_key (key_in t l j x) (sort_key t j n d) ≡ false → elem x (l.ring j m) ≡ true
      → twin_in t l j m (sort_key t j n d) x ≡ false → Joins t l after x j m
  unfolding modified
  other_joins j m e h alone =
      let o = w.ring_own j m x h in
      let out : (k : ℕ) → k ≢ m → elem x (l.ring j k) ≡ false = λ k i. not_true_false _ λ g. i (w.ring_one j k m x g h) in record {
        inside = o.0;
        there = o.1;
        above = o.2;
        below = rw new_kind o.4;
        enters = rw (h, e, new_key j);
        leaves = λ k i. rw (out k i, without_none x (l.ring j k) (out k i));
        alone = rw (new_key j) (no_twin t l j m (sort_key t j n d) x alone);
      }

  modified_turns : ((j : ℕ) → j < chains t → is_detail t j n ≡ true → twin_in t l j (master_of t l j x) (sort_key t j n d) x ≡ false)
      → (j : ℕ) → Stays t l after x j ⊎ ((m : ℕ) × Joins t l after x j m)
  modified_turns alone j = by_cases (same_key (key_in t l j x) (sort_key t j n d))
      (λ e. inl (same_stays j e))
      (λ e. by_cases (ltb j (chains t) && is_detail t j n)
      (λ b.
      let (p, q) = both (ltb j (chains t)) _ b in
      let (m, h) = w.ring_all j x (ltb-true _ _ p) there q in
      inr (m, other_joins j m e h (rw (master_in_lem t l j m x (chained t l a w j) h) at (alone j (ltb-true _ _ p) q))))
      (λ b. inl (outside_stays j (λ m. not_true_false _ λ h.
      let o = w.ring_own j m x h in clash _ (rw (lt-ltb j (chains t) o.0) o.4) b))))

  same_home : (calculated t n && not (same_key (calc_key t n (bytes_at l x)) (calc_key t n d))) ≡ false → calculated t n ≡ true → home_of t after x ≡ home_of t l x
  unfolding home_of
  same_home e g = new_home ∙ ap (home t n) (sym (same_eq (calc_key t n (bytes_at l x)) (calc_key t n d) (not-false _ (rw g at e))))

  same_calc_stays : (calculated t n && not (same_key (calc_key t n (bytes_at l x)) (calc_key t n d))) ≡ false → CalcStays t l after x
  unfolding modified
  same_calc_stays e = record {
    lists = λ p. rw e;
    old = λ h. (there, same_home e (rw new_kind at h));
  }

  other_calc_joins : (calculated t n && not (same_key (calc_key t n (bytes_at l x)) (calc_key t n d))) ≡ true → CalcJoins t l after x
  unfolding modified
  other_calc_joins e = record {
    keyed = rw new_kind (both (calculated t n) _ e).0;
    enters = rw (new_home, e, eqb_same (home t n (calc_key t n d)));
    leaves = λ p m. rw (e, ne_eqb p (home t n (calc_key t n d)) (λ i. m (i ∙ sym new_home)));
  }

  module _ (full : length d ≡ data_len t (row t n)) (small : (i : ℕ) → get_or d i 0 < 256) where
    new_placed : Placed t after x
    new_placed =
        let p = w.placed x there in
        written_placed t after x n d new_at p.typed p.low_page p.high_page p.on_a_line full small

    pub modified_changed : calc_twin t l n d x ≡ false
        → ((j : ℕ) → j < chains t → is_detail t j n ≡ true → twin_in t l j (master_of t l j x) (sort_key t j n d) x ≡ false) → Changed t l after x
    unfolding modified
    modified_changed lone alone = record {
      others = λ y m. update_other l.at x _ y m;
      there = written_there t after x n d new_at;
      placed = new_placed;
      kept = λ h. new_kind;
      room = λ h. clash _ there h;
      turns = modified_turns alone;
      calcs = by_cases (calculated t n && not (same_key (calc_key t n (bytes_at l x)) (calc_key t n d))) (λ e. inr (other_calc_joins e)) (λ e. inl (same_calc_stays e));
      lone = λ y h m e i s. no_calc_twin t l n d x w lone (rw new_kind at e) y h m (i ∙ new_kind) (rw (new_kind, new_bytes) at s);
    }

pub modify_kept : (t : List ℕ) (l : Ledger) (cur : Currency) (d : List ℕ) → Accepted t → WellFormed t l → InForce t l cur
    → ((i : ℕ) → get_or d i 0 < 256) → Kept t (modify t l cur d)
unfolding modify
modify_kept t l cur d a w f small =
    unless_kept t _ 6 _ λ run.
    unless_kept t _ 8 _ λ full.
    unless_kept t _ 10 _ λ twins.
    let x = cur.run in
    let n = kind_at l x in
    let (lone, others) = neither (calc_twin t l n d x) _ twins in
    changed_kept t l _ cur x a w f
    (modified_changed t l x d a w (points_there l x f.run_there (eqb-false _ _ run)) (eqb-true _ _ (not-false _ full)) small lone
    (λ j h g. none_any _ _ others j (as_detail_lem t n j h g))) 0
