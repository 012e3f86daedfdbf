-- The audit of the CALC rings in an image finds no fault exactly where CALC NEXT tells the ring of every page.
use Prim.Native.Nat.{ℕ, ◌*◌, ◌%◌, ◌≤◌, ◌<◌}
use mathlib.Core.Path.{◌≡◌, refl, sym, ◌∙◌}
use mathlib.Core.Logic.{◌≢◌, ◌↔◌}
use mathlib.Core.Bool.{true, false, cond, not}
use mathlib.Core.List.{List}
use native.Mathlib.Omega.{arith}
use lib.Dec.{eqb}
use lib.ListN.{length}
use borrow.Author.Tests.{eqb-true, eqb-false, ne_eqb, not-true}
use Rattle.ledger.specs.Numbers.{elem, any, run, first_of}
use Rattle.ledger.specs.Table.{pages, calculated, Accepted}
use Rattle.ledger.specs.Pages.{codes}
use Rattle.ledger.specs.Image.{kind_read, home_read, homed_read, calc_read, Imaged}
use Rattle.ledger.specs.Audit.{Calced}
use Rattle.ledger.proofs.Lists.Tests.{not_true_false, eqb_same}
use Rattle.ledger.proofs.Lists.Members.{elem_run, any_some, some_any}
use Rattle.ledger.proofs.Lists.Pairs.{once_run}
use Rattle.ledger.proofs.Image.Paged.{home_bounds, standing_listed}
use Rattle.ledger.proofs.Image.CalcRings.{head_only, homed, to_home, homes_calced, calced_home}
use Rattle.audit_model.specs.Marks.{Sweep, no_marks, sweep_on}
use Rattle.audit_model.specs.Calcs.{home_in, head_walks, calc_unmet_in, calc_fault_in}
use Rattle.audit_laws.proofs.Firsts.{neither_fault}
use Rattle.audit_laws.proofs.Sweeps.{lost_member, sweep_fault, sweep_exactly, all_met}
use Rattle.audit_laws.proofs.CalcWalks.{HeadHome, home_shown, page_within, head_walks_lem}

pub page_small : (p : ℕ) → p ≤ 128 → p % 65536 ≡ p
page_small p hi = omega arith

page_code : (p : ℕ) → 1 ≤ p → p ≤ 128 → 64 * (p % 65536) ≢ 0
page_code p lo hi z = omega (arith, page_small p hi)

module _ (t f : List ℕ) (r : ℕ → List ℕ) (h : ℕ → ℕ) (a : Accepted t) (i : Imaged t f r h) where
  pub page_listed : (p : ℕ) → 1 ≤ p → p ≤ pages t → elem p (run 1 (pages t)) ≡ true
  page_listed p lo hi = elem_run p 1 (pages t) lo (omega arith)

  pub pages_nonzero : elem 0 (run 1 (pages t)) ≡ false
  pages_nonzero = not_true_false _ (λ e. omega (arith, (page_within t f r h a i 0 e).0))

  -- the home of a calculated record
  calc_home : (x : ℕ) → 0 < length (r x) → calculated t (kind_read (r x)) ≡ true → home_in t f x ≡ home_read t (r x)
  calc_home x some calc = eqb-true _ _ (home_shown t f r h a i (home_read t (r x)) x (home_bounds t r a i.paged x some).0 ∙ to_home t r x some calc)

  pub calc_there : (x : ℕ) → 0 < length (r x) → calculated t (kind_read (r x)) ≡ true → home_in t f x ≢ 0
  calc_there x some calc z = omega (arith, calc_home x some calc, (home_bounds t r a i.paged x some).0)

  pub home_calc : (x : ℕ) → home_in t f x ≢ 0 → homed_read t r (home_in t f x) x ≡ true
  home_calc x e = sym (home_shown t f r h a i (home_in t f x) x (omega arith)) ∙ eqb_same (home_in t f x)

  -- every calculated record lies in a ring
  abbrev AllMet : Type 0
  AllMet = (x : ℕ) → elem x (codes t) ≡ true → not (eqb (home_in t f x) 0) ≡ true → any (λ p. elem x (calc_read t r h p (64 * p))) (run 1 (pages t)) ≡ true

  met_calced : ((p : ℕ) → elem p (run 1 (pages t)) ≡ true → HeadHome t r h p) → AllMet → (p : ℕ) → 1 ≤ p → p ≤ pages t → Calced t r h p
  met_calced ways met = homes_calced t r h a i.paged (λ p. calc_read t r h p (64 * p)) (λ p lo hi. ways p (page_listed p lo hi)) (λ x some calc.
      let there : eqb (home_in t f x) 0 ≡ false = ne_eqb (home_in t f x) 0 (calc_there x some calc) in
      let (p, e, m) = any_some _ (run 1 (pages t)) (met x (standing_listed t r a i.paged x some) (rw there)) in
      let w = page_within t f r h a i p e in
      (p, w.0, w.1, m))

  calced_met : ((p : ℕ) → 1 ≤ p → p ≤ pages t → Calced t r h p) → AllMet
  calced_met calced x c e =
      let p = home_in t f x in
      let d = home_calc x (eqb-false _ _ (not-true _ e)) in
      let o = homed t r p x d in
      let w = home_bounds t r a i.paged x o.0 in
      let lo : 1 ≤ p = omega (arith, w.0, o.2) in
      let hi : p ≤ pages t = omega (arith, w.1, o.2) in
      let (m, q) = (calced p lo hi).rings.every x d in
      let same : m ≡ 64 * p = head_only p m ((calced p lo hi).rings.own m x q).0 in
      some_any (λ n. elem x (calc_read t r h n (64 * n))) p (run 1 (pages t)) (page_listed p lo hi) (rw same at q)

  -- the sweep of the headers, and then the records without mark
  abbrev pub swept : Sweep
  swept = sweep_on (head_walks t f) (run 1 (pages t)) no_marks

  pub sweep_home : (swept.0 ≡ 0) ↔ ((p : ℕ) → elem p (run 1 (pages t)) ≡ true → HeadHome t r h p)
  sweep_home = sweep_exactly _ _ _ (run 1 (pages t)) (head_walks_lem t f r h a i) pages_nonzero (once_run 1 (pages t))

  met_exactly : swept.0 ≡ 0 → (first_of (calc_unmet_in t f swept.1) (codes t) ≡ 0) ↔ AllMet
  unfolding calc_unmet_in
  met_exactly e = all_met _ _ _ (run 1 (pages t)) (head_walks_lem t f r h a i) pages_nonzero (once_run 1 (pages t)) t a (λ x. not (eqb (home_in t f x) 0)) e

  head_code : swept.0 ≢ 0 → 64 * (swept.0 % 65536) ≢ 0
  head_code e =
      let l = sweep_fault _ _ _ (run 1 (pages t)) (head_walks_lem t f r h a i) pages_nonzero (once_run 1 (pages t)) e in
      let w = page_within t f r h a i swept.0 (lost_member _ _ _ l) in
      page_code swept.0 w.0 (omega (arith, w.1, a.page_count.1))

  pub fault_shown : calc_fault_in t f ≡ cond (eqb swept.0 0) (first_of (calc_unmet_in t f swept.1) (codes t)) (64 * (swept.0 % 65536))
  unfolding calc_fault_in codes
  fault_shown = refl

  pub calc_fault_exactly : (calc_fault_in t f ≡ 0) ↔ ((p : ℕ) → 1 ≤ p → p ≤ pages t → Calced t r h p)
  calc_fault_exactly =
      let none = neither_fault swept.0 (first_of (calc_unmet_in t f swept.1) (codes t)) (64 * (swept.0 % 65536)) head_code in (
        λ e.
            let (zero, first) = none.0 (sym fault_shown ∙ e) in
            met_calced (sweep_home.0 zero) ((met_exactly zero).0 first),
        λ s.
            let zero = sweep_home.1 (λ p e. let w = page_within t f r h a i p e in calced_home t r h a i.paged p w.0 w.1 (s p w.0 w.1)) in
            fault_shown ∙ none.1 (zero, (met_exactly zero).1 (calced_met s)),
      )
