-- RELINK keeps the ledger well formed and the currency in force.
use Prim.Native.Nat.{ℕ, ◌<◌}
use mathlib.Core.Path.{◌≡◌, refl}
use mathlib.Core.Logic.{◌≢◌, inl, inr}
use mathlib.Core.Bool.{true, false}
use mathlib.Core.List.{List}
use borrow.Author.Tests.{eqb-false, ne_eqb, leb-false, not-false}
use Rattle.ledger.specs.declared.Currency.{Currency}
use Rattle.ledger.specs.Table.{chains, is_master, is_detail, Accepted}
use Rattle.ledger.specs.Pages.{Ledger, kind_at, present, home_of, key_in, WellFormed}
use Rattle.ledger.specs.Currency.{InForce}
use Rattle.ledger.specs.Calls.{twin_in, relinked, relink}
use Rattle.ledger.proofs.Lists.Tests.{same_or_not, clash, both, eqb_same}
use Rattle.ledger.proofs.Ledger.Entries.{placed_as, points_there}
use Rattle.ledger.proofs.Ledger.Order.{no_twin}
use Rattle.ledger.proofs.Keeps.Changes.{Stays, Joins, Changed}
use Rattle.ledger.proofs.Keeps.Arrival.{Kept, unless_kept, changed_kept}

module _ (t : List ℕ) (l : Ledger) (j x m : ℕ) (w : WellFormed t l) (h : present l x ≡ true) where
  abbrev after : Ledger
  after = relinked t l j x m

  relinked_stays : (i : ℕ) → i ≢ j → Stays t l after x i
  unfolding relinked key_in
  relinked_stays i n = record {
    rings = λ k. rw (ne_eqb i j n);
    same_key_lem = λ k e. refl;
    old = λ u v. h;
  }

  module _ (inside : j < chains t) (below : is_detail t j (kind_at l x) ≡ true) (master : present l m ≡ true) (above : is_master t j (kind_at l m) ≡ true)
      (alone : twin_in t l j m (key_in t l j x) x ≡ false) where
    relinked_joins : Joins t l after x j m
    unfolding relinked key_in
    relinked_joins = record {
      inside = inside;
      there = master;
      above = above;
      below = below;
      enters = rw (eqb_same j, eqb_same m);
      leaves = λ k n. rw (eqb_same j, ne_eqb k m n);
      alone = no_twin t l j m (key_in t l j x) x alone;
    }

    pub relinked_changed : Changed t l after x
    unfolding relinked home_of
    relinked_changed = record {
      others = λ y n. refl;
      there = h;
      placed = placed_as t l after x refl (w.placed x h);
      kept = λ e. refl;
      room = λ e. clash _ h e;
      turns = λ i. same_or_not i j (λ e. rw e (inr (m, relinked_joins))) (λ n. inl (relinked_stays i n));
      calcs = inl (record { lists = λ p. refl; old = λ e. (h, refl) });
      lone = λ y p n e k s. n (w.no_calc_twins y x p h (rw k e) k (rw k s));
    }

pub relink_kept : (t : List ℕ) (l : Ledger) (cur : Currency) (j m : ℕ) → Accepted t → WellFormed t l → InForce t l cur → Kept t (relink t l cur j m)
unfolding relink
relink_kept t l cur j m a w f =
    unless_kept t _ 5 _ λ inside.
    unless_kept t _ 6 _ λ run.
    unless_kept t _ 7 _ λ below.
    unless_kept t _ 9 _ λ master.
    unless_kept t _ 10 _ λ alone.
    let x = cur.run in
    let h = points_there l x f.run_there (eqb-false _ _ run) in
    let (there, above) = both (present l m) (is_master t j (kind_at l m)) (not-false _ master) in
    changed_kept t l _ cur x a w f (relinked_changed t l j x m w h (leb-false _ _ inside) (not-false _ below) there above alone) 0
