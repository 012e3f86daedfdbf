-- The record before another in its ring, by PRIOR or by going round.
use Prim.Native.Nat.{ℕ, ◌*◌, ◌%◌, ◌≤◌, ◌<◌}
use mathlib.Core.Path.{◌≡◌, refl, sym, ◌∙◌}
use mathlib.Core.Logic.{◌≢◌}
use mathlib.Core.Bool.{true, not}
use mathlib.Core.List.{List, ◌∷◌, ◌++◌, reverse}
use native.Mathlib.Omega.{arith}
use lib.Dec.{eqb}
use lib.ListN.{length, length-append}
use borrow.Author.Tests.{eqb-true}
use Rattle.ledger.specs.Numbers.{elem, once, follower}
use Rattle.ledger.specs.Table.{pages, chains, in_chain, linked_prior, Accepted}
use Rattle.ledger.specs.Pages.{Ledger, kind_at, master_of, prior_of, round, WellFormed, Sound}
use Rattle.ledger.proofs.Lists.Tests.{by_cases, clash}
use Rattle.ledger.proofs.Lists.Members.{others, split_at_member}
use Rattle.ledger.proofs.Lists.Pairs.{once_right}
use Rattle.ledger.proofs.Lists.Followers.{before_in_lem}
use Rattle.ledger.proofs.Ledger.Rings.{chained, prior_round}
use Rattle.ledger.proofs.Ledger.Calcs.{head_no_member}
use Rattle.model.specs.Reads.{next_in, calc_next_in, head_next_in}
use Rattle.ring_model.specs.Rings.{ring_fuel, back_in, before_in, calc_before_in}
use Rattle.ring_laws.proofs.Homes.{home_as, home_parts, back_home_lem, back_round}
use Rattle.ring_laws.proofs.Rounds.{ring_few, calc_few, master_type_lem, round_master, master_outside}
use Rattle.ring_laws.proofs.Shown.{Shows, ShowsCalc, sound_shows, shown_agrees, shown_calc_home}

pub shown_before : (t f : List ℕ) (l : Ledger) (j : ℕ) → Accepted t → WellFormed t l → Shows t f l j → (x : ℕ) → j < chains t → in_chain t j (kind_at l x) ≡ true
    → before_in t f j x ≡ prior_of t l j x
unfolding before_in back_in
shown_before t f l j a w s x lt in-it =
    let m = master_of t l j x in
    let top = master_type_lem t l a w j x lt in-it in
    let it = round_master t l a w j x lt in-it in
    by_cases (eqb (linked_prior t j) 1)
    (λ e. rw e (s.priors x in-it (eqb-true _ _ e)))
    (λ e. rw e
    (back_round (next_in t f j) m (l.ring j m) ring_fuel (w.ring_once j m) (master_outside t l a w j m top) (shown_agrees t f l j a w s m top) (ring_few t l a w j m) x it
    ∙ sym (prior_round t l j (chained t l a w j) m top x it)))

-- in a page's CALC ring, the record before, or the header
pub shown_calc_before : (t f : List ℕ) (l : Ledger) → Accepted t → WellFormed t l → ShowsCalc t f l → (p x : ℕ) → 1 ≤ p → p ≤ pages t → elem x (l.calc p) ≡ true
    → calc_before_in t f p x ≡ follower x (round (64 * p) (reverse (l.calc p)))
unfolding calc_before_in
shown_calc_before t f l a w s p x lo hi e =
    let (ys, zs, i, left) = split_at_member x (l.calc p) e in
    let apart : once (ys ++ x ∷ zs) ≡ true = rw i at (w.calc_once p) in
    let (to, on) = home_parts (calc_next_in t f) _ (64 * p) (head_next_in f p) x ys zs (rw i at (shown_calc_home t f l w s p lo hi)) in
    let way = home_as (calc_next_in t f) (calc_next_in t f) _ (λ y. not (eqb y x)) x (head_next_in f p) ys (λ y g. (refl, others x ys left y g)) to in
    let small : length (ys ++ x ∷ zs) < ring_fuel = rw i at (calc_few t l a w p) in
    let page : p % 65536 ≡ p = omega (arith, a.page_count.1) in
    let other : x ≢ 64 * p = λ z. clash (elem x (l.calc p)) e (rw z (head_no_member t l w p)) in
    rw (page, i, before_in_lem (64 * p) x ys zs other (once_right x ys zs apart))
    (back_home_lem (calc_next_in t f) x (64 * p) (head_next_in f p) ring_fuel ys way (omega (arith, rw length-append at small)))

-- in a sound file
module _ (t f : List ℕ) (l : Ledger) (a : Accepted t) (s : Sound t f l) where
  pub sound_before : (j x : ℕ) → j < chains t → in_chain t j (kind_at l x) ≡ true → before_in t f j x ≡ prior_of t l j x
  sound_before j x lt in-it = shown_before t f l j a s.formed (sound_shows t f l a s j lt) x lt in-it
