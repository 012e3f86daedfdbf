-- The calls that only arrive, and READ, keep the ledger well formed and the currency in force.
use Prim.Native.Nat.{ℕ, ◌<◌}
use mathlib.Core.Path.{◌≡◌}
use mathlib.Core.Logic.{◌≢◌, ◌⊎◌, inl, inr}
use mathlib.Core.Bool.{Bool, true, ◌&&◌}
use mathlib.Core.List.{List, ◌∷◌}
use lib.Dec.{leb}
use borrow.Author.Tests.{eqb-false, not-false}
use Rattle.ledger.specs.declared.Currency.{Currency}
use Rattle.ledger.specs.Numbers.{elem, first_of, place_from}
use Rattle.ledger.specs.Table.{chains, in_chain, Accepted}
use Rattle.ledger.specs.Pages.{Ledger, kind_at, present, codes, master_of, next_of, prior_of, WellFormed}
use Rattle.ledger.specs.Currency.{chain_current, occurrence, InForce}
use Rattle.ledger.specs.Calls.{direct, found, key, current, find, along, next, prior, master, each, read}
use Rattle.ledger.proofs.Lists.Tests.{both}
use Rattle.ledger.proofs.Lists.Members.{elem_here, elem_cases}
use Rattle.ledger.proofs.Lists.Searches.{first_of_passes, place_from_found, follower_member, before_member}
use Rattle.ledger.proofs.Ledger.Entries.{points_there}
use Rattle.ledger.proofs.Ledger.Rings.{in_its_ring}
use Rattle.ledger.proofs.Keeps.Arrival.{Kept, unless_kept, done_kept, arrive_kept}
use Rattle.ledger.proofs.Keeps.Stored.{occurrence_there}

module _ (t : List ℕ) (l : Ledger) (cur : Currency) (a : Accepted t) (w : WellFormed t l) (f : InForce t l cur) where
  pub direct_kept : (x : ℕ) → Kept t (direct t l cur x)
  unfolding direct
  direct_kept x = unless_kept t _ 9 _ λ e. arrive_kept t l cur w f x (not-false _ e) 0

  found_kept : (p : ℕ → Bool) (xs : List ℕ) → ((y : ℕ) → elem y xs ≡ true → present l y ≡ true) → Kept t (found t l cur p xs)
  unfolding found
  found_kept p xs there =
      unless_kept t _ 9 _ λ e. arrive_kept t l cur w f (first_of p xs) (there _ (place_from_found p 1 xs (eqb-false _ _ e))) (place_from p 1 xs)

  pub key_kept : (n : ℕ) (k : List ℕ) → Kept t (key t l cur n k)
  unfolding key
  key_kept n k = unless_kept t _ 5 _ λ e. unless_kept t _ 7 _ λ e. unless_kept t _ 8 _ λ e. found_kept _ _ (λ y h. (w.calc_own _ y h).0)

  pub find_kept : (j : ℕ) (k : List ℕ) → Kept t (find t l cur j k)
  unfolding find
  find_kept j k = unless_kept t _ 5 _ λ e. unless_kept t _ 6 _ λ e. unless_kept t _ 7 _ λ e. unless_kept t _ 8 _ λ e.
      found_kept _ _ (λ y h. (w.ring_own j _ y h).3)

  pub current_kept : (n : ℕ) → Kept t (current t l cur n)
  unfolding current
  current_kept n = unless_kept t _ 5 _ λ e. unless_kept t _ 6 _ λ e.
      arrive_kept t l cur w f _ (points_there l _ (f.type_there _) (eqb-false _ _ e)) 0

  pub each_kept : (first last : ℕ) → Kept t (each t l cur first last)
  unfolding each
  each_kept first last =
      let p : ℕ → Bool = λ y. leb first y && leb y last && present l y in
      let x = first_of p (codes t) in
      unless_kept t _ 9 _ λ e. arrive_kept t l cur w f x
      (both (leb first x && leb x last) (present l x) (first_of_passes p (codes t) (eqb-false _ _ e)).1).1 0

  current_in_ring : (j : ℕ) → chain_current cur j ≢ 0
      → elem (chain_current cur j) (master_of t l j (chain_current cur j) ∷ l.ring j (master_of t l j (chain_current cur j))) ≡ true
  current_in_ring j n = go (f.chain_right j)
    where
      go : (chain_current cur j ≡ 0) ⊎ ((j < chains t) × (in_chain t j (kind_at l (chain_current cur j)) ≡ true))
          → elem (chain_current cur j) (master_of t l j (chain_current cur j) ∷ l.ring j (master_of t l j (chain_current cur j))) ≡ true
      go (inl e) = absurd (n e)
      go (inr q) = in_its_ring t l w a j _ q.0 (points_there l _ (f.chain_there j) n) q.1

  ring_there : (j z : ℕ) → chain_current cur j ≢ 0 → elem z (master_of t l j (chain_current cur j) ∷ l.ring j (master_of t l j (chain_current cur j))) ≡ true
      → present l z ≡ true
  unfolding occurrence
  ring_there j z n h = elim (elem_cases z _ _ h) [
    | inl e ↦ rw e (occurrence_there t l cur a w f j n).0
    | inr e ↦ (w.ring_own j _ z e).3
  ]

  along_kept : (step : List ℕ → Ledger → ℕ → ℕ → ℕ) (j : ℕ)
      → (chain_current cur j ≢ 0 → present l (step t l j (chain_current cur j)) ≡ true) → Kept t (along step t l cur j)
  unfolding along
  along_kept step j there = unless_kept t _ 5 _ λ e. unless_kept t _ 6 _ λ e. arrive_kept t l cur w f _ (there (eqb-false _ _ e)) 0

  pub next_kept : (j : ℕ) → Kept t (next t l cur j)
  unfolding next next_of
  next_kept j = along_kept next_of j λ n. ring_there j _ n (follower_member _ _ _ (current_in_ring j n))

  pub prior_kept : (j : ℕ) → Kept t (prior t l cur j)
  unfolding prior prior_of
  prior_kept j = along_kept prior_of j λ n. ring_there j _ n (before_member _ _ _ (current_in_ring j n))

  pub master_kept : (j : ℕ) → Kept t (master t l cur j)
  unfolding master
  master_kept j = along_kept master_of j λ n. ring_there j _ n (elem_here _ _)

  pub read_kept : (room : ℕ) → Kept t (read t l cur room)
  unfolding read
  read_kept room = unless_kept t _ 6 _ λ e. unless_kept t _ 12 _ λ e. done_kept t _ l cur w f
