-- The first of a ring with a key, and whether a record would be a forbidden duplicate.
use Prim.Native.Nat.{ℕ, suc, ◌*◌, ◌≤◌, ◌<◌}
use mathlib.Core.Path.{◌≡◌, refl}
use mathlib.Core.Bool.{Bool, true, not, ◌&&◌, and-false}
use mathlib.Core.List.{List, [], ◌∷◌}
use native.Mathlib.Omega.{arith}
use lib.Dec.{eqb}
use borrow.Author.Tests.{ne_eqb, eq-eqb, eqb-true}
use Rattle.ledger.specs.Numbers.{any, first_of, place_from, same_key}
use Rattle.ledger.specs.Table.{pages, chains, is_master, defined, calc_key, Accepted}
use Rattle.ledger.specs.Pages.{Ledger, kind_at, bytes_at, key_in, home, line_of, WellFormed, Sound}
use Rattle.ledger.specs.Calls.{twin_in, calc_twin}
use Rattle.ledger.proofs.Lists.Tests.{by_cases, eqb_same}
use Rattle.ledger.proofs.Ledger.Rows.{home_within}
use Rattle.model.specs.declared.Found.{Found}
use Rattle.model.specs.Reads.{next_in, calc_next_in}
use Rattle.ring_model.specs.Rings.{ring_fuel, has_key_in, has_calc_key_in, key_found_in, key_twin_in, calc_found_in, calc_twin_in}
use Rattle.ring_laws.proofs.Homes.{found_home}
use Rattle.ring_laws.proofs.Rounds.{ring_few, calc_few}
use Rattle.ring_laws.proofs.Shown.{Shows, ShowsCalc, sound_shows, sound_shows_calc, shown_sort_key, shown_calc_key, shown_home, shown_calc_home}

-- what a list's search finds, as the walks say it
abbrev pub found_of : (ℕ → Bool) → List ℕ → Found
found_of p xs = record { code = first_of p xs; place = place_from p 1 xs }

-- a place is found where any passes
pub any_place : (p : ℕ → Bool) (i : ℕ) (xs : List ℕ) → 1 ≤ i → not (eqb (place_from p i xs) 0) ≡ any p xs
unfolding place_from any
any_place p i [] h = refl
any_place p i (x ∷ xs) h = by_cases (p x)
    (λ e. rw (e, ne_eqb i 0 (λ z. omega arith)))
    (λ e. rw e (any_place p (suc i) xs (omega arith)))

-- in a chain's ring, by sort key
module _ (t f : List ℕ) (l : Ledger) (j : ℕ) (a : Accepted t) (w : WellFormed t l) (s : Shows t f l j) where
  pub shown_has_key : (key : List ℕ) (x y : ℕ) → has_key_in t f j key x y ≡ (not (eqb y x) && same_key (key_in t l j y) key)
  unfolding has_key_in
  shown_has_key key x y = rw (shown_sort_key t f l j s y)

  module _ (m : ℕ) (top : is_master t j (kind_at l m) ≡ true) (key : List ℕ) (x : ℕ) where
    pub shown_key_found : key_found_in t f j m key x ≡ found_of (λ y. not (eqb y x) && same_key (key_in t l j y) key) (l.ring j m)
    unfolding key_found_in
    shown_key_found =
        found_home (next_in t f j) (λ y. eqb y m) (has_key_in t f j key x) _ m _ 1 ring_fuel (l.ring j m) (eqb_same m)
        (λ y e. shown_has_key key x y) (shown_home t f l j a w s m top) (ring_few t l a w j m)

    pub shown_key_twin : key_twin_in t f j m key x ≡ twin_in t l j m key x
    unfolding key_twin_in twin_in
    shown_key_twin = rw (shown_key_found, any_place (λ y. not (eqb y x) && same_key (key_in t l j y) key) 1 (l.ring j m) (omega arith))

-- in a page's CALC ring, by type and CALC key
module _ (t f : List ℕ) (l : Ledger) (a : Accepted t) (w : WellFormed t l) (s : ShowsCalc t f l) where
  pub shown_has_calc_key : (n : ℕ) (key : List ℕ) (x y : ℕ)
      → has_calc_key_in t f n key x y ≡ (not (eqb y x) && eqb (kind_at l y) n && same_key (calc_key t n (bytes_at l y)) key)
  unfolding has_calc_key_in
  shown_has_calc_key n key x y = rw (s.kinds y, shown_calc_key t f l s y) (by_cases (eqb (kind_at l y) n)
      (λ e. rw (eqb-true (kind_at l y) n e))
      (λ e. rw (e, and-false (not (eqb y x)))))

  pub shown_calc_found : (p n : ℕ) → 1 ≤ p → p ≤ pages t → (key : List ℕ) (x : ℕ)
      → calc_found_in t f p n key x ≡ found_of (λ y. not (eqb y x) && eqb (kind_at l y) n && same_key (calc_key t n (bytes_at l y)) key) (l.calc p)
  unfolding calc_found_in
  shown_calc_found p n lo hi key x =
      let head : eqb (line_of (64 * p)) 0 ≡ true = eq-eqb (line_of (64 * p)) 0 (omega arith) in
      found_home (calc_next_in t f) (λ y. eqb (line_of y) 0) (has_calc_key_in t f n key x) _ (64 * p) _ 1 ring_fuel (l.calc p) head
      (λ y e. shown_has_calc_key n key x y) (shown_calc_home t f l w s p lo hi) (calc_few t l a w p)

  pub shown_calc_twin : (n : ℕ) (d : List ℕ) (x : ℕ) → defined t n ≡ true → calc_twin_in t f n d x ≡ calc_twin t l n d x
  unfolding calc_twin_in calc_twin
  shown_calc_twin n d x h =
      let key = calc_key t n d in
      let (lo, hi) = home_within t n key a h in
      rw (
        shown_calc_found (home t n key) n lo hi key x,
        any_place (λ y. not (eqb y x) && eqb (kind_at l y) n && same_key (calc_key t n (bytes_at l y)) key) 1 (l.calc (home t n key)) (omega arith),
      )

-- in a sound file
module _ (t f : List ℕ) (l : Ledger) (a : Accepted t) (s : Sound t f l) where
  pub sound_key_found : (j m : ℕ) → j < chains t → is_master t j (kind_at l m) ≡ true → (key : List ℕ) (x : ℕ)
      → key_found_in t f j m key x ≡ found_of (λ y. not (eqb y x) && same_key (key_in t l j y) key) (l.ring j m)
  sound_key_found j m lt top key x = shown_key_found t f l j a s.formed (sound_shows t f l a s j lt) m top key x

  pub sound_key_twin : (j m : ℕ) → j < chains t → is_master t j (kind_at l m) ≡ true → (key : List ℕ) (x : ℕ) → key_twin_in t f j m key x ≡ twin_in t l j m key x
  sound_key_twin j m lt top key x = shown_key_twin t f l j a s.formed (sound_shows t f l a s j lt) m top key x

  pub sound_calc_found : (p n : ℕ) → 1 ≤ p → p ≤ pages t → (key : List ℕ) (x : ℕ)
      → calc_found_in t f p n key x ≡ found_of (λ y. not (eqb y x) && eqb (kind_at l y) n && same_key (calc_key t n (bytes_at l y)) key) (l.calc p)
  sound_calc_found = shown_calc_found t f l a s.formed (sound_shows_calc t f l a s)

  pub sound_calc_twin : (n : ℕ) (d : List ℕ) (x : ℕ) → defined t n ≡ true → calc_twin_in t f n d x ≡ calc_twin t l n d x
  sound_calc_twin = shown_calc_twin t f l a s.formed (sound_shows_calc t f l a s)
