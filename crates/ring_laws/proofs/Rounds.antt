-- The members of a well-formed ledger's rings.
use Prim.Native.Nat.{ℕ, ◌*◌, ◌≤◌, ◌<◌}
use mathlib.Core.Path.{◌≡◌, refl}
use mathlib.Core.Logic.{◌≢◌, inl, inr}
use mathlib.Core.Bool.{true, false, not, or-true}
use mathlib.Core.List.{List, ◌∷◌}
use native.Mathlib.Omega.{arith}
use lib.Dec.{eqb}
use lib.ListN.{length}
use borrow.Author.Tests.{ne_eqb}
use Rattle.ledger.specs.Numbers.{elem, once}
use Rattle.ledger.specs.Table.{pages, chains, is_master, is_detail, in_chain, Accepted}
use Rattle.ledger.specs.Pages.{Ledger, kind_at, present, line_of, codes, master_of, WellFormed}
use Rattle.ledger.proofs.Lists.Tests.{clash, not_true_false}
use Rattle.ledger.proofs.Lists.Members.{elem_cases}
use Rattle.ledger.proofs.Lists.Runs.{length_run}
use Rattle.ledger.proofs.Lists.Pairs.{pigeons}
use Rattle.ledger.proofs.Ledger.Rows.{code_listed, detail_no_master}
use Rattle.ledger.proofs.Ledger.Rings.{chained, in_its_ring, master_there, master_off}
use Rattle.ledger.proofs.Ledger.Bounds.{present_some}
use Rattle.place_laws.proofs.With.{with_chain}
use Rattle.ring_model.specs.Rings.{ring_fuel}

-- a line of a page is no header
pub line_no_head : (x : ℕ) → 1 ≤ line_of x → not (eqb (line_of x) 0) ≡ true
line_no_head x h = rw (ne_eqb (line_of x) 0 (λ z. omega arith))

-- masters and details are in their chain
pub master_chain : (t : List ℕ) (j n : ℕ) → is_master t j n ≡ true → in_chain t j n ≡ true
unfolding in_chain
master_chain t j n h = rw h

pub detail_in_chain : (t : List ℕ) (j n : ℕ) → is_detail t j n ≡ true → in_chain t j n ≡ true
unfolding in_chain
detail_in_chain t j n h = rw h (or-true (is_master t j n))

module _ (t : List ℕ) (l : Ledger) (a : Accepted t) (w : WellFormed t l) where
  -- a ring has fewer members than a walk has turns
  few : (xs : List ℕ) → once xs ≡ true → ((y : ℕ) → elem y xs ≡ true → present l y ≡ true) → length xs < ring_fuel
  unfolding codes
  few xs ones there =
      let n = pigeons xs (codes t) ones (λ y e. code_listed t l y a (w.placed y (there y e))) in
      omega (arith, a.page_count.1, length_run 64 (64 * pages t))

  pub ring_few : (j m : ℕ) → length (l.ring j m) < ring_fuel
  ring_few j m = few _ (w.ring_once j m) (λ y e. (w.ring_own j m y e).3)

  pub calc_few : (p : ℕ) → length (l.calc p) < ring_fuel
  calc_few p = few _ (w.calc_once p) (λ y e. (w.calc_own p y e).0)

  -- all round a ring are in its chain
  pub all_in_chain : (j m : ℕ) → is_master t j (kind_at l m) ≡ true → (x : ℕ) → elem x (m ∷ l.ring j m) ≡ true → in_chain t j (kind_at l x) ≡ true
  all_in_chain j m top x e = elim (elem_cases x m (l.ring j m) e) [
    | inl i ↦ rw i (master_chain t j _ top)
    | inr i ↦ detail_in_chain t j _ (w.ring_own j m x i).4
  ]

  -- a record of a chain is round its ring, whose master is of the master type
  module _ (j x : ℕ) (lt : j < chains t) (in-it : in_chain t j (kind_at l x) ≡ true) where
    pub master_type_lem : is_master t j (kind_at l (master_of t l j x)) ≡ true
    master_type_lem = (master_there t l w a j x lt (with_chain t l a j x lt in-it) in-it).1

    pub round_master : elem x (master_of t l j x ∷ l.ring j (master_of t l j x)) ≡ true
    round_master = in_its_ring t l w a j x lt (with_chain t l a j x lt in-it) in-it

  -- a detail is no master
  pub detail_apart : (j m x : ℕ) → j < chains t → is_master t j (kind_at l m) ≡ true → is_detail t j (kind_at l x) ≡ true → x ≢ m
  detail_apart j m x lt top d e = clash _ top (rw e at (detail_no_master t j (kind_at l x) (a.chain_rows j lt) d))

  -- no member is code 0, nor is a master
  pub zero_no_member : (j m : ℕ) → elem 0 (l.ring j m) ≡ false
  zero_no_member j m = not_true_false _ (λ e. present_some t l 0 w (w.ring_own j m 0 e).3 refl)

  pub zero_no_master : (j m : ℕ) → j < chains t → is_master t j (kind_at l m) ≡ true → m ≢ 0
  zero_no_master j m lt top = present_some t l m w (with_chain t l a j m lt (master_chain t j _ top))

  pub master_outside : (j m : ℕ) → is_master t j (kind_at l m) ≡ true → elem m (l.ring j m) ≡ false
  master_outside j m top = master_off t l j m (chained t l a w j) top
