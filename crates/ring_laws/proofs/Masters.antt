-- The master of a record's ring, found by going round.
use Prim.Native.Nat.{ℕ, zero, suc, ◌<◌}
use mathlib.Core.Path.{◌≡◌, refl}
use mathlib.Core.Logic.{◌≢◌, inl, inr}
use mathlib.Core.Bool.{true, not}
use mathlib.Core.List.{List, [], ◌∷◌}
use native.Mathlib.Omega.{arith}
use lib.ListN.{length}
use borrow.Author.Tests.{not-true}
use Rattle.ledger.specs.declared.Currency.{Currency}
use Rattle.ledger.specs.Table.{chains, is_master, in_chain, Accepted}
use Rattle.ledger.specs.Pages.{Ledger, kind_at, master_of, WellFormed, Sound}
use Rattle.ledger.specs.Currency.{chain_current, occurrence, InForce}
use Rattle.ledger.proofs.Lists.Members.{elem_cases}
use Rattle.ledger.proofs.Ledger.Rings.{chained}
use Rattle.ledger.proofs.Audit.Walks.{Home, home_from}
use Rattle.model.specs.Reads.{kind_in, next_in}
use Rattle.ring_model.specs.Rings.{ring_fuel, master_from, master_in}
use Rattle.ring_laws.proofs.Homes.{home_as}
use Rattle.ring_laws.proofs.Rounds.{ring_few, master_type_lem, round_master}
use Rattle.ring_laws.proofs.Shown.{Shows, sound_shows, shown_home}

-- the walk to the first of the master type
master_home : (t f : List ℕ) (j m at n : ℕ) (ys : List ℕ) → is_master t j (kind_in f m) ≡ true
    → Home (next_in t f j) (λ y. not (is_master t j (kind_in f y))) m at ys → length ys < n → master_from t f j at n ≡ m
unfolding master_from
master_home t f j m at zero ys top h lt = absurd (omega arith)
master_home t f j m at (suc n) [] top h lt = rw (h, top)
master_home t f j m at (suc n) (y ∷ ys) top h lt =
    rw (h.0, not-true (is_master t j (kind_in f y)) h.1) (master_home t f j m (next_in t f j y) n ys top h.2 (omega arith))

pub shown_master : (t f : List ℕ) (l : Ledger) (j : ℕ) → Accepted t → WellFormed t l → Shows t f l j → (x : ℕ) → j < chains t → in_chain t j (kind_at l x) ≡ true
    → master_in t f j x ≡ master_of t l j x
unfolding master_in
shown_master t f l j a w s x lt in-it =
    let m = master_of t l j x in
    let top = master_type_lem t l a w j x lt in-it in
    let c = chained t l a w j in
    let top' : is_master t j (kind_in f m) ≡ true = rw (s.kinds m) top in
    let way : Home (next_in t f j) (λ y. not (is_master t j (kind_in f y))) m (next_in t f j m) (l.ring j m) =
    home_as _ _ _ _ m _ (l.ring j m) (λ y e. (refl, rw (s.kinds y, c.below m y e))) (shown_home t f l j a w s m top) in
    elim (elem_cases x m (l.ring j m) (round_master t l a w j x lt in-it)) [
      | inl i ↦ master_home t f j m x ring_fuel [] top' i (omega arith)
      | inr i ↦ (
          let (ys, on, size) = home_from _ _ m _ (l.ring j m) way x i in
          master_home t f j m x ring_fuel ys top' on (omega (arith, size, ring_few t l a w j m)))
    ]

-- in a sound file
pub sound_master : (t f : List ℕ) (l : Ledger) → Accepted t → Sound t f l → (j x : ℕ) → j < chains t → in_chain t j (kind_at l x) ≡ true
    → master_in t f j x ≡ master_of t l j x
sound_master t f l a s j x lt in-it = shown_master t f l j a s.formed (sound_shows t f l a s j lt) x lt in-it

-- of a chain's current record: its occurrence
pub sound_occurrence : (t f : List ℕ) (l : Ledger) (cur : Currency) → Accepted t → Sound t f l → InForce t l cur → (j : ℕ) → chain_current cur j ≢ 0
    → master_in t f j (chain_current cur j) ≡ occurrence t l cur j
unfolding occurrence
sound_occurrence t f l cur a s i j some = elim (i.chain_right j) [
  | inl z ↦ absurd (some z)
  | inr q ↦ sound_master t f l a s j (chain_current cur j) q.0 q.1
]
