-- A record moved in one chain to where its key belongs in a ring, as RELINK and MODIFY do.
use Prim.Native.Nat.{ℕ, ◌<◌}
use mathlib.Core.Path.{◌≡◌, refl, ◌∙◌}
use mathlib.Core.Logic.{◌≢◌}
use mathlib.Core.Bool.{true}
use mathlib.Core.List.{List}
use Rattle.ledger.specs.Numbers.{without}
use Rattle.ledger.specs.Table.{chains, is_master, is_detail, in_chain, Accepted}
use Rattle.ledger.specs.Pages.{Ledger, kind_at, next_of, prior_of, file_with, WellFormed}
use Rattle.ledger.specs.Calls.{stops, joined}
use Rattle.ledger.proofs.Lists.Puts.{Stopped, stopped}
use Rattle.ledger.proofs.Ledger.Rings.{chained}
use Rattle.ledger.proofs.Ledger.Inserted.{Inserted, inserted_without}
use Rattle.model.specs.declared.Between.{Between}
use Rattle.place_laws.proofs.With.{Held, Small, with_chain}
use Rattle.ring_laws.proofs.Rounds.{detail_in_chain}
use Rattle.act_model.specs.Relinking.{moved_in}
use Rattle.act_laws.proofs.Moved.{next_moved, prior_moved, stands_at, gap_at, moved_put, moved_small, moved_next, moved_prior}

-- where x with a key goes in the ring of m: after those that do not stop it, before the first that does
abbrev pub gap_for : List ℕ → Ledger → ℕ → ℕ → List ℕ → ℕ → Between
gap_for t l j m key x = let p = stopped (stops t l j key) x (without x (l.ring j m)) in gap_at m p.passed p.rest

-- x goes out of every ring of chain j, and into that of m before the first that stops its key.
module _ (t : List ℕ) (l l' : Ledger) (a : Accepted t) (w : WellFormed t l) (j x m : ℕ) (key : List ℕ) (lt : j < chains t)
    (below : is_detail t j (kind_at l x) ≡ true) (top : is_master t j (kind_at l m) ≡ true)
    (enters : l'.ring j m ≡ joined t l j key x (without x (l.ring j m)))
    (leaves : (k : ℕ) → k ≢ m → l'.ring j k ≡ without x (l.ring j k))
    (kinds : (y : ℕ) → is_master t j (kind_at l' y) ≡ is_master t j (kind_at l y)) where
  abbrev place : Stopped (stops t l j key) x (without x (l.ring j m))
  place = stopped _ x _

  -- the ledger between them, and where x was
  abbrev l⁻ : Ledger
  l⁻ = record { at = l.at; ring = λ i k. without x (l.ring i k); calc = l.calc }

  was_in : (m⁻ : ℕ) × (ys⁻ : List ℕ) × (zs⁻ : List ℕ) × Inserted t l⁻ l j m⁻ x ys⁻ zs⁻
  was_in =
      let (m⁻, h) = w.ring_all j x lt (with_chain t l a j x lt (detail_in_chain t j _ below)) below in
      let (ys⁻, zs⁻, out) = inserted_without t l⁻ l j m⁻ x (chained t l a w j) h (λ k. refl) (λ y. refl) in
      (m⁻, ys⁻, zs⁻, out)

  goes_in_lem : Inserted t l⁻ l' j m x place.passed place.rest
  unfolding joined
  goes_in_lem = record { before = place.whole; after = enters ∙ place.put; others = leaves; kinds = kinds }

  module _ (nx pr : ℕ → ℕ → ℕ) (cn hd : ℕ → ℕ) where
    abbrev nx' : ℕ → ℕ → ℕ
    nx' = next_moved nx j x (stands_at t l j x) (gap_for t l j m key x)

    abbrev pr' : ℕ → ℕ → ℕ
    pr' = prior_moved pr j x (stands_at t l j x) (gap_for t l j m key x)

    pub rejoined_put : Held t l → Small t l nx pr cn hd
        → moved_in t (file_with t l nx pr cn hd) j x (stands_at t l j x) (gap_for t l j m key x) ≡ file_with t l nx' pr' cn hd
    rejoined_put h z = let (m⁻, ys⁻, zs⁻, out) = was_in in moved_put t l⁻ l l' a w j x m⁻ ys⁻ zs⁻ m _ _ out goes_in_lem lt top nx pr cn hd h z

    pub rejoined_small : Held t l → Small t l nx pr cn hd → Small t l nx' pr' cn hd
    rejoined_small h z = let (m⁻, ys⁻, zs⁻, out) = was_in in moved_small t l⁻ l l' a w j x m⁻ ys⁻ zs⁻ m _ _ out goes_in_lem lt top nx pr cn hd h z

    pub rejoined_next : ((y : ℕ) → in_chain t j (kind_at l y) ≡ true → nx j y ≡ next_of t l j y)
        → (y : ℕ) → in_chain t j (kind_at l y) ≡ true → nx' j y ≡ next_of t l' j y
    rejoined_next = let (m⁻, ys⁻, zs⁻, out) = was_in in moved_next t l⁻ l l' a w j x m⁻ ys⁻ zs⁻ m _ _ out goes_in_lem lt top nx pr cn hd

    pub rejoined_prior : ((y : ℕ) → in_chain t j (kind_at l y) ≡ true → pr j y ≡ prior_of t l j y)
        → (y : ℕ) → in_chain t j (kind_at l y) ≡ true → pr' j y ≡ prior_of t l' j y
    rejoined_prior = let (m⁻, ys⁻, zs⁻, out) = was_in in moved_prior t l⁻ l l' a w j x m⁻ ys⁻ zs⁻ m _ _ out goes_in_lem lt top nx pr cn hd
