-- The two of a ring between which a record with a key joins it.
use Prim.Native.Nat.{ℕ, zero, suc, ◌≤◌, ◌<◌}
use mathlib.Core.Path.{◌≡◌, refl, sym, ◌∙◌}
use mathlib.Core.Logic.{◌≢◌}
use mathlib.Core.Bool.{Bool, true, false, not}
use mathlib.Core.List.{List, [], ◌∷◌, ◌++◌}
use native.Mathlib.Omega.{arith}
use lib.Dec.{eqb}
use lib.ListN.{length, length-append}
use borrow.Author.Tests.{ne_eqb, not-true}
use Rattle.ledger.specs.Numbers.{elem, head_or, last_or, keep, without}
use Rattle.ledger.specs.Table.{chains, is_master, Accepted}
use Rattle.ledger.specs.Pages.{Ledger, kind_at, WellFormed, Sound}
use Rattle.ledger.specs.Calls.{stops}
use Rattle.ledger.proofs.Lists.Tests.{by_cases, same_or_not, eqb_same}
use Rattle.ledger.proofs.Lists.Members.{elem_here, elem_tail}
use Rattle.ledger.proofs.Lists.Sieves.{length_keep}
use Rattle.ledger.proofs.Lists.Pairs.{without_none}
use Rattle.ledger.proofs.Lists.Puts.{Stopped, stopped}
use Rattle.ledger.proofs.Audit.Walks.{Home}
use Rattle.model.specs.declared.Between.{Between}
use Rattle.model.specs.Reads.{next_in}
use Rattle.ring_model.specs.Rings.{ring_fuel, goes_before, key_stops, stops_in, next_without_in, between_from, between_in}
use Rattle.ring_laws.proofs.Rounds.{ring_few, zero_no_member, zero_no_master}
use Rattle.ring_laws.proofs.Shown.{Shows, sound_shows, shown_sort_key, shown_home}

-- the way home round a ring without x
module _ (t f : List ℕ) (j m x : ℕ) (n : x ≢ m) (det : ℕ → Bool) where
  next_past : next_without_in t f j x x ≡ next_in t f j x
  unfolding next_without_in
  next_past = by_cases (eqb (next_in t f j x) x) (λ e. rw e) (λ e. rw e)

  next_over : (b : ℕ) → next_in t f j b ≡ x → next_without_in t f j x b ≡ next_in t f j x
  unfolding next_without_in
  next_over b e = rw (e, eqb_same x)

  next_other : (b y : ℕ) → next_in t f j b ≡ y → y ≢ x → next_without_in t f j x b ≡ y
  unfolding next_without_in
  next_other b y e n = rw (e, ne_eqb y x n)

  without_home : (b : ℕ) (xs : List ℕ) → Home (next_in t f j) det m (next_in t f j b) xs
      → Home (next_without_in t f j x) det m (next_without_in t f j x b) (without x xs)
  unfolding without keep
  without_home b [] h = next_other b m h (λ e. n (sym e))
  without_home b (y ∷ ys) h = same_or_not y x
      (λ e.
      let rest = without_home x ys (rw e at h.2) in
      rw (e, eqb_same x, next_over b (h.0 ∙ e)) (rw next_past at rest))
      (λ e. rw (ne_eqb y x e) (next_other b y h.0 e, h.1, without_home y ys h.2))

length_without : (x : ℕ) (xs : List ℕ) → length (without x xs) ≤ length xs
unfolding without
length_without x xs = length_keep _ xs

-- the walk to the first that stops the key
between_home : (t f : List ℕ) (j m : ℕ) (key : List ℕ) (x before n : ℕ) (passed rest : List ℕ)
    → Home (next_without_in t f j x) (λ y. not (eqb y m)) m (next_without_in t f j x before) (passed ++ rest)
    → ((y : ℕ) → elem y passed ≡ true → stops_in t f j key y ≡ false)
    → ((z : ℕ) (zs : List ℕ) → rest ≡ z ∷ zs → stops_in t f j key z ≡ true)
    → length passed < n
    → ◌≡◌ {A = Between} (between_from t f j m key x before n) (record { before = last_or before passed; after = head_or m rest })
unfolding between_from last_or head_or
between_home t f j m key x before zero passed rest h none stop lt = absurd (omega arith)
between_home t f j m key x before (suc n) [] [] h none stop lt = rw (h, eqb_same m)
between_home t f j m key x before (suc n) [] (z ∷ zs) h none stop lt = rw (h.0, not-true (eqb z m) h.1, stop z zs refl)
between_home t f j m key x before (suc n) (y ∷ ys) rest h none stop lt =
    rw (h.0, not-true (eqb y m) h.1, none y (elem_here y ys))
    (between_home t f j m key x y n ys rest h.2 (λ z e. none z (elem_tail z y ys e)) stop (omega arith))

module _ (t f : List ℕ) (l : Ledger) (j : ℕ) (a : Accepted t) (w : WellFormed t l) (s : Shows t f l j) where
  pub shown_stops : (key : List ℕ) (y : ℕ) → stops_in t f j key y ≡ stops t l j key y
  unfolding stops_in key_stops goes_before stops
  shown_stops key y = rw (shown_sort_key t f l j s y)

  module _ (m : ℕ) (top : is_master t j (kind_at l m) ≡ true) (key : List ℕ) where
    -- in the ring without x, and in a ring where it is not
    pub shown_between_at : (x : ℕ) → x ≢ m → (y : ℕ) (p : Stopped (stops t l j key) y (without x (l.ring j m)))
        → ◌≡◌ {A = Between} (between_in t f j m key x) (record { before = last_or m p.passed; after = head_or m p.rest })
    unfolding between_in
    shown_between_at x n y p =
        let way = without_home t f j m x n (λ y. not (eqb y m)) m (l.ring j m) (shown_home t f l j a w s m top) in
        let size : length (p.passed ++ p.rest) ≤ length (l.ring j m) = rw p.whole at (length_without x (l.ring j m)) in
        between_home t f j m key x m ring_fuel p.passed p.rest (rw p.whole at way)
        (λ z e. shown_stops key z ∙ p.none_stops z e)
        (λ z zs e. shown_stops key z ∙ p.head_stops z zs e)
        (omega (arith, rw length-append at size, ring_few t l a w j m))

    pub shown_between : (x : ℕ) → x ≢ m
        → let p = stopped (stops t l j key) x (without x (l.ring j m)) in
        ◌≡◌ {A = Between} (between_in t f j m key x) (record { before = last_or m p.passed; after = head_or m p.rest })
    shown_between x n = shown_between_at x n x (stopped _ x _)

    -- a record that is not there yet
    pub shown_between_new : j < chains t → (y : ℕ)
        → let p = stopped (stops t l j key) y (l.ring j m) in
        ◌≡◌ {A = Between} (between_in t f j m key 0) (record { before = last_or m p.passed; after = head_or m p.rest })
    shown_between_new lt y =
        let e = without_none 0 (l.ring j m) (zero_no_member t l a w j m) in
        rw e at (shown_between_at 0 (λ z. zero_no_master t l a w j m lt top (sym z)) y (stopped (stops t l j key) y _))

-- in a sound file
module _ (t f : List ℕ) (l : Ledger) (a : Accepted t) (s : Sound t f l) (j m : ℕ) (lt : j < chains t) (top : is_master t j (kind_at l m) ≡ true) (key : List ℕ) where
  pub sound_between : (x : ℕ) → x ≢ m
      → let p = stopped (stops t l j key) x (without x (l.ring j m)) in
      ◌≡◌ {A = Between} (between_in t f j m key x) (record { before = last_or m p.passed; after = head_or m p.rest })
  sound_between = shown_between t f l j a s.formed (sound_shows t f l a s j lt) m top key

  pub sound_between_new : (y : ℕ)
      → let p = stopped (stops t l j key) y (l.ring j m) in
      ◌≡◌ {A = Between} (between_in t f j m key 0) (record { before = last_or m p.passed; after = head_or m p.rest })
  sound_between_new = shown_between_new t f l j a s.formed (sound_shows t f l a s j lt) m top key lt
