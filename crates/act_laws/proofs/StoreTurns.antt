-- STORE on a sound file refuses what the ledger says, and is done where it says.
use Prim.Native.Nat.{ℕ}
use mathlib.Core.Path.{◌≡◌, sym, ◌∙◌}
use mathlib.Core.Bool.{true, false, cond, ◌||◌}
use mathlib.Core.List.{List}
use native.Mathlib.Omega.{arith}
use lib.ListN.{length}
use lib.Dec.{eqb, ltb}
use borrow.Author.Tests.{eqb-true, ltb-true}
use Rattle.ledger.specs.declared.Currency.{Currency}
use Rattle.ledger.specs.Numbers.{any}
use Rattle.ledger.specs.Table.{chains, row, data_len, defined, is_detail, sort_key, Accepted}
use Rattle.ledger.specs.Pages.{code_of, Ledger, Sound}
use Rattle.ledger.specs.Currency.{occurrence, InForce}
use Rattle.ledger.specs.Calls.{refuse, unless, arrive, as_detail, twin_in, calc_twin, free_line, place_for, stored, store}
use Rattle.ledger.proofs.Lists.Members.{any_same}
use Rattle.ledger.proofs.Lists.Tests.{by_cases, both}
use Rattle.ledger.proofs.Ledger.Rows.{detail_chain}
use Rattle.ledger.proofs.Keeps.Stored.{occurrence_there}
use Rattle.ring_model.specs.Rings.{calc_twin_in}
use Rattle.ring_laws.proofs.Masters.{sound_occurrence}
use Rattle.ring_laws.proofs.Found.{sound_key_twin, sound_calc_twin}
use Rattle.act_model.specs.Placing.{occurrence_in, place_for_in}
use Rattle.act_model.specs.Storing.{lacks_current, store_twin, store_refusal}
use Rattle.act_laws.proofs.Places.{has_current, sound_place}

-- what the refusal of none says
pub store_clean : (t f : List ℕ) (cur : Currency) (n : ℕ) (d : List ℕ) → store_refusal t f cur n d ≡ 0
    → (defined t n ≡ true) × (lacks_current t cur n ≡ false) × (length d ≡ data_len t (row t n)) × ((calc_twin_in t f n d 0 || store_twin t f cur n d) ≡ false)
unfolding store_refusal
store_clean t f cur n d h = by_cases (defined t n)
    (λ typed. by_cases (lacks_current t cur n)
    (λ none. let z : 6 ≡ 0 = rw (typed, none) at h in absurd (omega arith))
    (λ none. by_cases (eqb (length d) (data_len t (row t n)))
    (λ full. by_cases (calc_twin_in t f n d 0 || store_twin t f cur n d)
    (λ twin. let z : 10 ≡ 0 = rw (typed, none, full, twin) at h in absurd (omega arith))
    (λ twin. (typed, none, eqb-true _ _ full, twin)))
    (λ full. let z : 8 ≡ 0 = rw (typed, none, full) at h in absurd (omega arith))))
    (λ typed. let z : 5 ≡ 0 = rw typed at h in absurd (omega arith))

module _ (t f : List ℕ) (l : Ledger) (a : Accepted t) (s : Sound t f l) (cur : Currency) (force : InForce t l cur) (n : ℕ) (d : List ℕ) where
  -- a forbidden duplicate in a chain's occurrence
  sound_twin : lacks_current t cur n ≡ false
      → store_twin t f cur n d ≡ any (λ j. twin_in t l j (occurrence t l cur j) (sort_key t j n d) 0) (as_detail t n)
  unfolding store_twin occurrence_in
  sound_twin none = any_same _ _ (as_detail t n) (λ j e.
      let (lt, low) = both (ltb j (chains t)) (is_detail t j n) (sym (detail_chain t n j) ∙ e) in
      let inside = ltb-true j (chains t) lt in
      let here = has_current t cur n j none inside low in
      let top = (occurrence_there t l cur a s.formed force j here).1 in
      rw (sound_occurrence t f l cur a s force j here) (sound_key_twin t f l a s j (occurrence t l cur j) inside top (sort_key t j n d) 0))

  -- what STORE comes to
  pub store_turn : let p = place_for t l cur n d in let x = code_of p (free_line l p) in
      store t l cur n d
      ≡ cond (eqb (store_refusal t f cur n d) 0)
      (cond (eqb (place_for_in t f cur n d) 0) (refuse 11) (arrive t (stored t l cur n d x) cur x 0))
      (refuse (store_refusal t f cur n d))
  unfolding store store_refusal unless lacks_current
  store_turn =
      let p = place_for t l cur n d in
      let twins = any (λ j. twin_in t l j (occurrence t l cur j) (sort_key t j n d) 0) (as_detail t n) in
      by_cases (defined t n)
      (λ typed. by_cases (lacks_current t cur n)
      (λ none. rw (typed, none))
      (λ none. by_cases (eqb (length d) (data_len t (row t n)))
      (λ full.
      rw (sound_calc_twin t f l a s n d 0 typed, sound_twin none, sound_place t f l a s cur force n d typed none)
      (by_cases (calc_twin t l n d 0 || twins)
      (λ twin. rw (typed, none, full, twin))
      (λ twin. rw (typed, none, full, twin) (by_cases (eqb p 0) (λ e. rw e) (λ e. rw e)))))
      (λ full. rw (typed, none, full))))
      (λ typed. rw typed)
