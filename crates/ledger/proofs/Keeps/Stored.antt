-- What STORE makes of the records and the rings: its record is put into the ring of each chain's occurrence.
use Prim.Native.Nat.{ℕ, ◌<◌}
use mathlib.Core.Path.{◌≡◌, sym, ◌∙◌}
use mathlib.Core.Logic.{◌⊎◌, inl, inr, ◌≢◌}
use mathlib.Core.Bool.{true, false, cond, ◌&&◌}
use mathlib.Core.List.{List}
use mathlib.Core.Option.{some}
use lib.Dec.{eqb, ltb}
use borrow.Author.Tests.{ne_eqb, lt-ltb}
use Rattle.ledger.specs.declared.Currency.{Currency}
use Rattle.ledger.specs.Table.{chains, is_master, is_detail, in_chain, sort_key, Accepted}
use Rattle.ledger.specs.Pages.{Ledger, kind_of, kind_at, present, master_of, WellFormed}
use Rattle.ledger.specs.Currency.{InForce, chain_current, occurrence}
use Rattle.ledger.specs.Calls.{stops, joined, stored}
use Rattle.ledger.proofs.Lists.Tests.{same_or_not, eqb_same, update_same, update_other}
use Rattle.ledger.proofs.Lists.Puts.{Stopped, stopped}
use Rattle.ledger.proofs.Ledger.Entries.{absent_kind}
use Rattle.ledger.proofs.Ledger.Rows.{none_no_master, detail_no_master}
use Rattle.ledger.proofs.Ledger.Rings.{master_there}
use Rattle.ledger.proofs.Ledger.Inserted.{Inserted}

-- a chain that has a current record has an occurrence, and its master is there
module _ (t : List ℕ) (l : Ledger) (cur : Currency) (a : Accepted t) (w : WellFormed t l) (f : InForce t l cur) where
  pub occurrence_there : (j : ℕ) → chain_current cur j ≢ 0
      → (present l (occurrence t l cur j) ≡ true) × (is_master t j (kind_at l (occurrence t l cur j)) ≡ true)
  unfolding occurrence
  occurrence_there j n = go (f.chain_there j) (f.chain_right j)
    where
      go : (chain_current cur j ≡ 0) ⊎ (present l (chain_current cur j) ≡ true)
          → (chain_current cur j ≡ 0) ⊎ ((j < chains t) × (in_chain t j (kind_at l (chain_current cur j)) ≡ true))
          → (present l (master_of t l j (chain_current cur j)) ≡ true) × (is_master t j (kind_at l (master_of t l j (chain_current cur j))) ≡ true)
      go (inl e) q = absurd (n e)
      go (inr p) (inl e) = absurd (n e)
      go (inr p) (inr q) = master_there t l w a j (chain_current cur j) q.0 p q.1

module _ (t : List ℕ) (l : Ledger) (cur : Currency) (n : ℕ) (d : List ℕ) (x : ℕ) where
  pub stored_at : (stored t l cur n d x).at x ≡ some (record { kind = n; bytes = d })
  unfolding stored
  stored_at = update_same l.at x _

  pub stored_at_else : (y : ℕ) → y ≢ x → (stored t l cur n d x).at y ≡ l.at y
  unfolding stored
  stored_at_else y h = update_other l.at x _ y h

  pub stored_ring : (j m : ℕ) → ltb j (chains t) ≡ true → is_detail t j n ≡ true
      → (stored t l cur n d x).ring j m ≡ cond (eqb m (occurrence t l cur j)) (joined t l j (sort_key t j n d) x (l.ring j m)) (l.ring j m)
  unfolding stored
  stored_ring j m a b = rw (a, b)

  pub stored_ring_else : (j m : ℕ) → (ltb j (chains t) && is_detail t j n) ≡ false → (stored t l cur n d x).ring j m ≡ l.ring j m
  unfolding stored
  stored_ring_else j m a = rw a

-- in a chain of which the new record is a detail it is put into the ring of the chain's occurrence
module _ (t : List ℕ) (l : Ledger) (cur : Currency) (n : ℕ) (d : List ℕ) (x : ℕ) (a : Accepted t) (fresh : present l x ≡ false) (j : ℕ) (h : j < chains t) (g : is_detail t j n ≡ true) where
  abbrev after : Ledger
  after = stored t l cur n d x

  abbrev place : Stopped (stops t l j (sort_key t j n d)) x (l.ring j (occurrence t l cur j))
  place = stopped _ x _

  fresh_kind : kind_at l x ≡ 0
  fresh_kind = absent_kind (l.at x) fresh

  pub stored_inserted : Inserted t l after j (occurrence t l cur j) x place.passed place.rest
  unfolding joined kind_of
  stored_inserted = record {
    before = place.whole;
    after = rw (stored_ring t l cur n d x j (occurrence t l cur j) (lt-ltb j (chains t) h) g, eqb_same (occurrence t l cur j)) place.put;
    others = λ k i. rw (stored_ring t l cur n d x j k (lt-ltb j (chains t) h) g, ne_eqb k _ i);
    kinds = λ y. same_or_not y x
        (λ e. rw (e, stored_at t l cur n d x, fresh_kind) (detail_no_master t j n (a.chain_rows j h) g ∙ sym (none_no_master t j a h)))
        (λ i. rw (stored_at_else t l cur n d x y i));
  }
