-- A file in which one chain, or every CALC ring, is read as a ledger says; other links may be any. NEXT goes home round its rings.
use Prim.Native.Nat.{ℕ, ◌*◌, ◌≤◌, ◌<◌}
use mathlib.Core.Path.{◌≡◌, ◌∙◌}
use mathlib.Core.Bool.{true, not}
use mathlib.Core.List.{List}
use lib.Dec.{eqb}
use Rattle.ledger.specs.Table.{pages, chains, calculated, is_master, in_chain, linked_prior, calc_key, Accepted}
use Rattle.ledger.specs.Pages.{Ledger, kind_at, bytes_at, present, line_of, key_in, next_of, prior_of, calc_next_of, calc_next, head_next, WellFormed, Sound}
use Rattle.ledger.specs.Walks.{Agrees}
use Rattle.ledger.proofs.Ledger.Rings.{ring_agrees}
use Rattle.ledger.proofs.Ledger.Calcs.{calc_agrees, head_no_member}
use Rattle.ledger.proofs.Audit.Walks.{Home}
use Rattle.model.specs.Reads.{kind_in, next_in, prior_in, calc_next_in, head_next_in, data_in}
use Rattle.model.specs.Keys.{sort_key_in, calc_key_in}
use Rattle.place_laws.proofs.Sound.{sound_kind, sound_data, sound_next, sound_prior, sound_calc_next, sound_head}
use Rattle.ring_laws.proofs.Homes.{home_as, ring_home}
use Rattle.ring_laws.proofs.Rounds.{line_no_head, all_in_chain, master_outside}

-- the links of chain j
pub record Shows (t f : List ℕ) (l : Ledger) (j : ℕ) : Type 0 where
  pub kinds : (x : ℕ) → kind_in f x ≡ kind_at l x
  pub datas : (x : ℕ) → data_in t f x ≡ bytes_at l x
  pub nexts : (x : ℕ) → in_chain t j (kind_at l x) ≡ true → next_in t f j x ≡ next_of t l j x
  pub priors : (x : ℕ) → in_chain t j (kind_at l x) ≡ true → linked_prior t j ≡ 1 → prior_in t f j x ≡ prior_of t l j x

-- CALC NEXT
pub record ShowsCalc (t f : List ℕ) (l : Ledger) : Type 0 where
  pub kinds : (x : ℕ) → kind_in f x ≡ kind_at l x
  pub datas : (x : ℕ) → data_in t f x ≡ bytes_at l x
  pub calc_nexts : (x : ℕ) → present l x ≡ true → calculated t (kind_at l x) ≡ true → calc_next_in t f x ≡ calc_next t l x
  pub heads : (p : ℕ) → 1 ≤ p → p ≤ pages t → head_next_in f p ≡ head_next t l p

-- a sound file is one
pub sound_shows : (t f : List ℕ) (l : Ledger) → Accepted t → Sound t f l → (j : ℕ) → j < chains t → Shows t f l j
sound_shows t f l a s j lt = record {
  kinds = sound_kind t f l a s;
  datas = sound_data t f l a s;
  nexts = λ x. sound_next t f l a s j x lt;
  priors = λ x. sound_prior t f l a s j x lt;
}

pub sound_shows_calc : (t f : List ℕ) (l : Ledger) → Accepted t → Sound t f l → ShowsCalc t f l
sound_shows_calc t f l a s = record {
  kinds = sound_kind t f l a s;
  datas = sound_data t f l a s;
  calc_nexts = sound_calc_next t f l a s;
  heads = sound_head t f l a s;
}

-- keys
pub shown_sort_key : (t f : List ℕ) (l : Ledger) (j : ℕ) → Shows t f l j → (x : ℕ) → sort_key_in t f j x ≡ key_in t l j x
unfolding sort_key_in key_in
shown_sort_key t f l j s x = rw (s.kinds x, s.datas x)

pub shown_calc_key : (t f : List ℕ) (l : Ledger) → ShowsCalc t f l → (x : ℕ) → calc_key_in t f x ≡ calc_key t (kind_at l x) (bytes_at l x)
unfolding calc_key_in
shown_calc_key t f l s x = rw (s.kinds x, s.datas x)

-- NEXT is what the ring says, so it goes home round it
module _ (t f : List ℕ) (l : Ledger) (j : ℕ) (a : Accepted t) (w : WellFormed t l) (s : Shows t f l j) (m : ℕ) (top : is_master t j (kind_at l m) ≡ true) where
  pub shown_agrees : Agrees (next_in t f j) m (l.ring j m)
  shown_agrees x e = s.nexts x (all_in_chain t l a w j m top x e) ∙ ring_agrees t l a w j m top x e

  pub shown_home : Home (next_in t f j) (λ y. not (eqb y m)) m (next_in t f j m) (l.ring j m)
  shown_home = ring_home _ m _ (w.ring_once j m) (master_outside t l a w j m top) shown_agrees

-- CALC NEXT goes home round a page's ring, from the header's on
pub shown_calc_home : (t f : List ℕ) (l : Ledger) → WellFormed t l → ShowsCalc t f l → (p : ℕ) → 1 ≤ p → p ≤ pages t
    → Home (calc_next_in t f) (λ y. not (eqb (line_of y) 0)) (64 * p) (head_next_in f p) (l.calc p)
unfolding head_next
shown_calc_home t f l w s p lo hi =
    let way = ring_home (calc_next_of t l p) (64 * p) (l.calc p) (w.calc_once p) (head_no_member t l w p) (calc_agrees t l p) in
    rw (s.heads p lo hi)
    (home_as _ _ _ _ (64 * p) _ (l.calc p)
    (λ y e. let o = w.calc_own p y e in
    (rw o.2 at (s.calc_nexts y o.0 o.1), line_no_head y (w.placed y o.0).on_a_line))
    way)
