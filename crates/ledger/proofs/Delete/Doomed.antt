-- The records that go with a record: itself, the details below it, and theirs; the smallest such set.
use Prim.Native.Nat.{ℕ, zero, suc, ◌+◌, ◌-◌, ◌≤◌, ◌<◌}
use mathlib.Core.Path.{◌≡◌}
use mathlib.Core.Logic.{◌⊎◌, inl, inr}
use mathlib.Core.Bool.{Bool, true, false, ◌&&◌, or-true}
use mathlib.Core.List.{List}
use native.Mathlib.Omega.{arith}
use native.Mathlib.Nat.{add-suc, add-zero}
use borrow.Author.Tests.{eqb-true}
use Rattle.ledger.specs.Numbers.{elem, keep, once, run}
use Rattle.ledger.specs.Table.{types, chains, row, master_type, detail_type, is_master, is_detail, Accepted}
use Rattle.ledger.specs.Pages.{Ledger, kind_at, present, codes, master_of, WellFormed}
use Rattle.ledger.specs.Calls.{doomed, goes}
use Rattle.ledger.proofs.Lists.Tests.{both, clash, not_true_false, eqb_same, either}
use Rattle.ledger.proofs.Lists.Members.{elem_run, run_elem, some_any, any_some}
use Rattle.ledger.proofs.Lists.Pairs.{once_keep, once_run}
use Rattle.ledger.proofs.Ledger.Rows.{rows_rise, row_inside}
use Rattle.ledger.proofs.Ledger.Rings.{chained, master_in_lem, held}

-- the codes that go
abbrev pub going : List ℕ → Ledger → ℕ → List ℕ
going t l x = keep (goes t l x) (codes t)

-- A record's place in the ranks: masters stand before details.
abbrev pub rank : List ℕ → Ledger → ℕ → ℕ
rank t l x = row t (kind_at l x)

module _ (t : List ℕ) (l : Ledger) (a : Accepted t) (w : WellFormed t l) where
  pub rank_within : (x : ℕ) → present l x ≡ true → rank t l x < types t
  rank_within x h = row_inside t (kind_at l x) (w.placed x h).typed

  pub rank_rises : (j m x : ℕ) → elem x (l.ring j m) ≡ true → rank t l m < rank t l x
  unfolding is_master is_detail
  rank_rises j m x h =
      let o = w.ring_own j m x h in
      let c = a.chain_rows j o.0 in
      rows_rise t (kind_at l m) (kind_at l x) a (w.placed m o.1).typed (w.placed x o.3).typed
      (omega (arith, c.downward, eqb-true (master_type t j) (kind_at l m) o.2, eqb-true (detail_type t j) (kind_at l x) o.4))

module _ (t : List ℕ) (l : Ledger) (x : ℕ) where
  doomed_more : (n k y : ℕ) → doomed t l n x y ≡ true → doomed t l (n + k) x y ≡ true
  unfolding doomed
  doomed_more n zero y h = rw (add-zero n) h
  doomed_more n (suc k) y h = rw (add-suc n k, doomed_more n k y h)

  pub doomed_deeper : (n k y : ℕ) → n ≤ k → doomed t l n x y ≡ true → doomed t l k x y ≡ true
  doomed_deeper n k y h g = let e : k ≡ n + (k - n) = omega arith in rw e (doomed_more n (k - n) y g)

  doomed_self : (n : ℕ) → doomed t l n x x ≡ true
  unfolding doomed
  doomed_self n = doomed_deeper 0 n x (omega arith) (eqb_same x)

  -- one level down
  doomed_below : (n j y : ℕ) → j < chains t → is_detail t j (kind_at l y) ≡ true → doomed t l n x (master_of t l j y) ≡ true → doomed t l (suc n) x y ≡ true
  unfolding doomed
  doomed_below n j y h d g =
      rw (some_any (λ j. is_detail t j (kind_at l y) && doomed t l n x (master_of t l j y)) j (run 0 (chains t)) (elem_run j 0 (chains t) (omega arith) (omega arith)) (rw (d, g)))
      (or-true (doomed t l n x y))

  pub doomed_cases : (n y : ℕ) → doomed t l (suc n) x y ≡ true
      → (doomed t l n x y ≡ true) ⊎ ((j : ℕ) × (j < chains t) × (is_detail t j (kind_at l y) ≡ true) × (doomed t l n x (master_of t l j y) ≡ true))
  unfolding doomed
  doomed_cases n y h =
      elim (either (doomed t l n x y) _ h) [
        | inl e ↦ inl e
        | inr e ↦ (
            let (j, g, f) = any_some (λ j. is_detail t j (kind_at l y) && doomed t l n x (master_of t l j y)) (run 0 (chains t)) e in
            let b = both (is_detail t j (kind_at l y)) (doomed t l n x (master_of t l j y)) f in
            inr (j, omega (arith, (run_elem j 0 (chains t) g).1), b.0, b.1))
      ]

module _ (t : List ℕ) (l : Ledger) (x : ℕ) (a : Accepted t) (w : WellFormed t l) where
  -- as many levels as the record's rank are enough
  doomed_by_rank : (n y : ℕ) → present l y ≡ true → doomed t l n x y ≡ true → doomed t l (rank t l y) x y ≡ true
  unfolding doomed
  doomed_by_rank zero y p h = doomed_deeper t l x 0 (rank t l y) y (omega arith) h
  doomed_by_rank (suc n) y p h =
      elim (doomed_cases t l x n y h) [
        | inl e ↦ doomed_by_rank n y p e
        | inr (j, lt, d, e) ↦ (
            let m = master_of t l j y in
            let g = held t l w a j y lt p d in
            let ih = doomed_by_rank n m (w.ring_own j m y g).1 e in
            doomed_deeper t l x (suc (rank t l m)) (rank t l y) y (rank_rises t l a w j m y g) (doomed_below t l x (rank t l m) j y lt d ih))
      ]

  pub goes_there : (y : ℕ) → goes t l x y ≡ true → present l y ≡ true
  unfolding goes
  goes_there y h = (both (present l y) _ h).0

  goes_deep : (n y : ℕ) → present l y ≡ true → doomed t l n x y ≡ true → goes t l x y ≡ true
  unfolding goes
  goes_deep n y p h =
      rw (p, doomed_deeper t l x (rank t l y) (types t) y (omega (arith, rank_within t l a w y p)) (doomed_by_rank n y p h))

  -- The set holds the record and is closed downward.
  pub goes_self : present l x ≡ true → goes t l x x ≡ true
  goes_self p = goes_deep 0 x p (doomed_self t l x 0)

  pub goes_down : (j m y : ℕ) → goes t l x m ≡ true → elem y (l.ring j m) ≡ true → goes t l x y ≡ true
  unfolding goes
  goes_down j m y g e =
      let o = w.ring_own j m y e in
      let i = master_in_lem t l j m y (chained t l a w j) e in
      goes_deep (suc (types t)) y o.3 (doomed_below t l x (types t) j y o.0 o.4 (rw i (both (present l m) _ g).1))

  -- each that goes is the record itself or a detail of one that goes
  doomed_why : (n y : ℕ) → present l y ≡ true → doomed t l n x y ≡ true → (y ≡ x) ⊎ ((j m : ℕ) × (goes t l x m ≡ true) × (elem y (l.ring j m) ≡ true))
  unfolding doomed
  doomed_why zero y p h = inl (eqb-true y x h)
  doomed_why (suc n) y p h =
      elim (doomed_cases t l x n y h) [
        | inl e ↦ doomed_why n y p e
        | inr (j, lt, d, e) ↦ (
            let g = held t l w a j y lt p d in
            inr (j, master_of t l j y, goes_deep n (master_of t l j y) (w.ring_own j (master_of t l j y) y g).1 e, g))
      ]

  pub goes_why : (y : ℕ) → goes t l x y ≡ true → (y ≡ x) ⊎ ((j m : ℕ) × (goes t l x m ≡ true) × (elem y (l.ring j m) ≡ true))
  unfolding goes
  goes_why y h = let (p, d) = both (present l y) _ h in doomed_why (types t) y p d

  pub stays_up : (j m y : ℕ) → goes t l x y ≡ false → elem y (l.ring j m) ≡ true → goes t l x m ≡ false
  stays_up j m y f e = not_true_false _ (λ g. clash _ (goes_down j m y g e) f)

  -- It is the smallest such set.
  module _ (p : ℕ → Bool) (holds : p x ≡ true) (closed : (j m y : ℕ) → p m ≡ true → elem y (l.ring j m) ≡ true → p y ≡ true) where
    doomed_least : (n y : ℕ) → present l y ≡ true → doomed t l n x y ≡ true → p y ≡ true
    unfolding doomed
    doomed_least zero y h d = rw (eqb-true y x d) holds
    doomed_least (suc n) y h d =
        elim (doomed_cases t l x n y d) [
          | inl e ↦ doomed_least n y h e
          | inr (j, lt, i, e) ↦ (
              let m = master_of t l j y in
              let g = held t l w a j y lt h i in
              closed j m y (doomed_least n m (w.ring_own j m y g).1 e) g)
        ]

    pub goes_least : (y : ℕ) → goes t l x y ≡ true → p y ≡ true
    unfolding goes
    goes_least y h = let (h, d) = both (present l y) _ h in doomed_least (types t) y h d

  -- They are the codes of a list that has each once.
  pub going_once : once (going t l x) ≡ true
  unfolding codes
  going_once = once_keep (goes t l x) _ (once_run 64 _)
