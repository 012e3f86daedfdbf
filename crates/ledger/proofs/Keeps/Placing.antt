-- Where STORE places a record: on a page of its type's range with the room for it, on a free line.
use Prim.Native.Nat.{ℕ, ◌+◌, ◌-◌, ◌≤◌, ◌<◌}
use mathlib.Core.Path.{◌≡◌, ◌∙◌}
use mathlib.Core.Logic.{◌≢◌, ◌⊎◌, inl, inr}
use mathlib.Core.Bool.{true, false, not, ◌&&◌}
use mathlib.Core.List.{List}
use native.Mathlib.Omega.{arith}
use lib.Dec.{eqb, ltb, leb}
use borrow.Author.Tests.{eqb-false, ltb-true, leb-true, not-true}
use Rattle.ledger.specs.declared.Currency.{Currency}
use Rattle.ledger.specs.Numbers.{elem, run}
use Rattle.ledger.specs.Table.{types, low, high, via, class, number, row, defined, calc_key, Accepted}
use Rattle.ledger.specs.Pages.{page_of, code_of, record_size, Ledger, kind_at, present, free, record_bytes, WellFormed}
use Rattle.ledger.specs.Currency.{type_current, occurrence, InForce}
use Rattle.ledger.specs.Calls.{base_page, free_line, takes, tried, place_for}
use Rattle.ledger.proofs.Lists.Tests.{by_cases, both}
use Rattle.ledger.proofs.Lists.Members.{elem_append, run_elem}
use Rattle.ledger.proofs.Lists.Searches.{first_of_passes}
use Rattle.ledger.proofs.Ledger.Entries.{points_there}
use Rattle.ledger.proofs.Ledger.Rows.{row_number, type_row, Within, home_in_range}

module _ (t : List ℕ) (n : ℕ) (a : Accepted t) (d : defined t n ≡ true) where
  range : low t (row t n) ≤ high t (row t n)
  range = (type_row t n a d).ranged.1

  pub tried_in_range : (base p : ℕ) → Within t n base → elem p (tried t n base) ≡ true → Within t n p
  unfolding tried
  tried_in_range base p b e =
      let (lo, hi) = b in
      let first : List ℕ = run base (high t (row t n) + 1 - base) in
      let second : List ℕ = run (low t (row t n)) (base - low t (row t n)) in
      by_cases (elem p first)
      (λ i. let r = run_elem p base _ i in (omega (arith, r.0), omega (arith, r.0, r.1)))
      (λ i. let r = run_elem p (low t (row t n)) (base - low t (row t n)) (rw (elem_append p first second, i) at e) in (omega (arith, r.0), omega (arith, r.1)))

  module _ (l : Ledger) (cur : Currency) (w : WellFormed t l) (f : InForce t l cur) where
    current_in_range : type_current t cur n ≢ 0 → Within t n (page_of (type_current t cur n))
    current_in_range m = go (f.type_right (row t n))
      where
        go : (type_current t cur n ≡ 0) ⊎ ((row t n < types t) × (kind_at l (type_current t cur n) ≡ number t (row t n))) → Within t n (page_of (type_current t cur n))
        go (inl e) = absurd (m e)
        go (inr q) =
            let p = w.placed _ (points_there l _ (f.type_there (row t n)) m) in
            let k : kind_at l (type_current t cur n) ≡ n = q.1 ∙ row_number t n d in
            (rw k at p.low_page, rw k at p.high_page)

    pub base_in_range : (b : List ℕ) → Within t n (base_page t l cur n b)
    unfolding base_page
    base_in_range b =
        let m = page_of (occurrence t l cur (via t (row t n))) in
        by_cases (eqb (class t (row t n)) 2)
        (λ e. rw e (home_in_range t n (calc_key t n b) a d))
        (λ e. by_cases (eqb (class t (row t n)) 1)
        (λ g. by_cases (leb (low t (row t n)) m && leb m (high t (row t n)))
        (λ h. let (u, v) = both (leb (low t (row t n)) m) _ h in rw (e, g, h) (leb-true _ _ u, leb-true _ _ v))
        (λ h. rw (e, g, h) (omega arith, range)))
        (λ g. by_cases (eqb (type_current t cur n) 0)
        (λ h. rw (e, g, h) (omega arith, range))
        (λ h. rw (e, g, h) (current_in_range (eqb-false _ _ h)))))

    pub record_place : (b : List ℕ) → place_for t l cur n b ≢ 0 → Within t n (place_for t l cur n b) × (takes t l n (place_for t l cur n b) ≡ true)
    unfolding place_for
    record_place b m =
        let (e, g) = first_of_passes (takes t l n) (tried t n (base_page t l cur n b)) m in
        (tried_in_range (base_page t l cur n b) _ (base_in_range b) e, g)

-- a page that takes a record has the room, and its line is free
pub record Taking (t : List ℕ) (l : Ledger) (n p k : ℕ) : Type 0 where
  pub room : record_size t n ≤ free (record_bytes t l) p
  pub first_line : 1 ≤ k
  pub last_line : k ≤ 63
  pub fresh : present l (code_of p k) ≡ false

pub taking : (t : List ℕ) (l : Ledger) (n p : ℕ) → takes t l n p ≡ true → Taking t l n p (free_line l p)
unfolding takes free_line
taking t l n p h =
    let (u, v) = both (leb (record_size t n) (free (record_bytes t l) p)) (ltb 0 (free_line l p)) h in
    let some : 0 < free_line l p = ltb-true 0 (free_line l p) v in
    let (e, g) = first_of_passes (λ k. not (present l (code_of p k))) (run 1 63) (λ z. omega arith) in
    let r = run_elem _ 1 63 e in record {
      room = leb-true _ _ u;
      first_line = r.0;
      last_line = omega (arith, r.1);
      fresh = not-true _ g;
    }
