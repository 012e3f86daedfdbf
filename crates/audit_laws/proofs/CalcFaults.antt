-- Where the audit finds a fault of the CALC rings: the lowest header of which no list is told, else the lowest calculated record that lies in none.
use Prim.Native.Nat.{ℕ, ◌*◌, ◌≤◌, ◌<◌}
use mathlib.Core.Path.{◌≡◌, ◌∙◌}
use mathlib.Core.Logic.{◌≢◌, ◌⊎◌, inl, inr}
use mathlib.Core.Bool.{Bool, true, false, not}
use mathlib.Core.List.{List}
use native.Mathlib.Omega.{arith}
use lib.Dec.{eqb}
use lib.ListN.{length}
use borrow.Author.Tests.{eqb-true, eqb-false, ne_eqb, not-true}
use Rattle.ledger.specs.Numbers.{elem, any, once, run, first_of}
use Rattle.ledger.specs.Table.{pages, calculated, Accepted}
use Rattle.ledger.specs.Pages.{codes}
use Rattle.ledger.specs.Walks.{Agrees}
use Rattle.ledger.specs.Image.{kind_read, homed_read, calc_next_read, calc_read, Imaged}
use Rattle.ledger.proofs.Lists.Tests.{by_cases, clash}
use Rattle.ledger.proofs.Lists.Members.{any_some, some_any}
use Rattle.ledger.proofs.Lists.Pairs.{once_run}
use Rattle.ledger.proofs.Audit.Walks.{Home, home_detail, home_once, home_agrees, agrees_home}
use Rattle.ledger.proofs.Image.Paged.{standing_listed}
use Rattle.ledger.proofs.Image.CalcRings.{head_self, homed, calc_next_head}
use Rattle.audit_model.specs.Calcs.{home_in, calc_unmet_in, calc_fault_in}
use Rattle.audit_laws.proofs.Sweeps.{Lost, lost_member, Stray, sweep_fault, first_unmet}
use Rattle.audit_laws.proofs.CalcWalks.{HeadHome, off, ring_is, page_within, head_walks_lem}
use Rattle.audit_laws.proofs.Calcs.{page_small, page_listed, pages_nonzero, calc_there, home_calc, swept, sweep_home, fault_shown}
use Rattle.audit_laws.proofs.Firsts.{run_before}

-- a list of records of page p's home that CALC NEXT tells from its header round to it again
pub record CalcTold (t : List ℕ) (r : ℕ → List ℕ) (h : ℕ → ℕ) (p : ℕ) (xs : List ℕ) : Type 0 where
  pub details : (x : ℕ) → elem x xs ≡ true → homed_read t r p x ≡ true
  pub ones : once xs ≡ true
  pub nexts : Agrees (calc_next_read t r h p) (64 * p) xs

-- a record in a list that is told of a page
abbrev pub CalcRung : List ℕ → (ℕ → List ℕ) → (ℕ → ℕ) → ℕ → Type 0
CalcRung t r h x = (p : ℕ) × (xs : List ℕ) × (1 ≤ p) × (p ≤ pages t) × CalcTold t r h p xs × (elem x xs ≡ true)

-- the lowest page of whose header no list is told
pub record HeadLost (t : List ℕ) (r : ℕ → List ℕ) (h : ℕ → ℕ) (p : ℕ) : Type 0 where
  pub from : 1 ≤ p
  pub to : p ≤ pages t
  pub lost : (xs : List ℕ) → CalcTold t r h p xs → ⊥
  pub lowest : (q : ℕ) → 1 ≤ q → q < p → (xs : List ℕ) × CalcTold t r h q xs

-- a list is told of each page, and this is the lowest calculated record that lies in none
pub record RecordLost (t : List ℕ) (r : ℕ → List ℕ) (h : ℕ → ℕ) (x : ℕ) : Type 0 where
  pub told : (p : ℕ) → 1 ≤ p → p ≤ pages t → (xs : List ℕ) × CalcTold t r h p xs
  pub there : 0 < length (r x)
  pub calc : calculated t (kind_read (r x)) ≡ true
  pub lost : CalcRung t r h x → ⊥
  pub lowest : (y : ℕ) → 0 < length (r y) → calculated t (kind_read (r y)) ≡ true → y < x → CalcRung t r h y

module _ (t f : List ℕ) (r : ℕ → List ℕ) (h : ℕ → ℕ) (a : Accepted t) (i : Imaged t f r h) where
  -- a header's walk comes home exactly where a list is told, and that is its ring
  head_told : (p : ℕ) → HeadHome t r h p → CalcTold t r h p (calc_read t r h p (64 * p))
  head_told p home =
      let away = off t f r h a i p (64 * p) (head_self p) in
      record {
        details = home_detail _ _ (64 * p) (h p) (calc_read t r h p (64 * p)) home;
        ones = home_once _ _ (64 * p) (h p) (calc_read t r h p (64 * p)) away home;
        nexts = home_agrees (calc_next_read t r h p) (homed_read t r p) (64 * p) (calc_read t r h p (64 * p)) away (rw (calc_next_head t r h p) home);
      }

  told_home : (p : ℕ) (xs : List ℕ) → CalcTold t r h p xs → Home (calc_next_read t r h p) (homed_read t r p) (64 * p) (h p) xs
  told_home p xs s =
      rw (calc_next_head t r h p) at (agrees_home (calc_next_read t r h p) _ (64 * p) xs (off t f r h a i p (64 * p) (head_self p)) s.ones s.details s.nexts)

  told_ring : (p : ℕ) (xs : List ℕ) → 1 ≤ p → p ≤ pages t → CalcTold t r h p xs → calc_read t r h p (64 * p) ≡ xs
  told_ring p xs lo hi s = ring_is t f r h a i p xs lo hi (told_home p xs s)

  -- a walk that does not come home
  lost_head : (p : ℕ) → Lost (HeadHome t r h) (run 1 (pages t)) p → HeadLost t r h p
  lost_head p l =
      let w = page_within t f r h a i p (lost_member _ _ p l) in
      record {
        from = w.0;
        to = w.1;
        lost = λ xs s. l.astray (rw (told_ring p xs w.0 w.1 s) (told_home p xs s));
        lowest = λ q lo lt. (calc_read t r h q (64 * q), head_told q (l.home q (run_before 1 (pages t) p q l.before l.after l.whole lo lt)));
      }

  -- all come home, and a record bears no mark
  module _ (home : (swept t f r h a i).0 ≡ 0) where
    abbrev lies : ℕ → Bool
    lies x = any (λ p. elem x (calc_read t r h p (64 * p))) (run 1 (pages t))

    told_all : (p : ℕ) → elem p (run 1 (pages t)) ≡ true → CalcTold t r h p (calc_read t r h p (64 * p))
    told_all p e = head_told p ((sweep_home t f r h a i).0 home p e)

    lies_rung : (x : ℕ) → lies x ≡ true → CalcRung t r h x
    lies_rung x e =
        let (p, c, q) = any_some _ (run 1 (pages t)) e in
        let w = page_within t f r h a i p c in
        (p, calc_read t r h p (64 * p), w.0, w.1, told_all p c, q)

    rung_lies : (x : ℕ) → CalcRung t r h x → lies x ≡ true
    rung_lies x s =
        let (p, xs, lo, hi, told, e) = s in
        some_any (λ n. elem x (calc_read t r h n (64 * n))) p (run 1 (pages t)) (page_listed t f r h a i p lo hi) (rw (told_ring p xs lo hi told) e)

    lost_record : (x : ℕ) → Stray t (λ y. not (eqb (home_in t f y) 0)) lies x → RecordLost t r h x
    lost_record x s =
        let o = homed t r (home_in t f x) x (home_calc t f r h a i x (eqb-false _ _ (not-true _ s.to_be_met))) in
        record {
          told = λ p lo hi. (calc_read t r h p (64 * p), told_all p (page_listed t f r h a i p lo hi));
          there = o.0;
          calc = o.1;
          lost = λ q. clash _ (rung_lies x q) s.outside;
          lowest = λ y some calc lt.
              let away : eqb (home_in t f y) 0 ≡ false = ne_eqb (home_in t f y) 0 (calc_there t f r h a i y some calc) in
              lies_rung y (s.lowest y (standing_listed t r a i.paged y some) (rw away) lt);
        }

    unmet_lost : first_of (calc_unmet_in t f (swept t f r h a i).1) (codes t) ≢ 0 → RecordLost t r h (first_of (calc_unmet_in t f (swept t f r h a i).1) (codes t))
    unfolding calc_unmet_in
    unmet_lost e = lost_record _ (first_unmet _ _ _ (run 1 (pages t)) (head_walks_lem t f r h a i) (pages_nonzero t f r h a i) (once_run 1 (pages t)) t a _ home e)

  pub calc_fault_where : calc_fault_in t f ≢ 0 → ((p : ℕ) × (calc_fault_in t f ≡ 64 * p) × HeadLost t r h p) ⊎ RecordLost t r h (calc_fault_in t f)
  calc_fault_where e =
      let s = swept t f r h a i in
      by_cases (eqb s.0 0)
      (λ z.
      let same : calc_fault_in t f ≡ first_of (calc_unmet_in t f s.1) (codes t) = fault_shown t f r h a i ∙ rw z in
      inr (rw same (unmet_lost (eqb-true _ _ z) (rw same at e))))
      (λ z.
      let l = lost_head s.0 (sweep_fault _ _ _ (run 1 (pages t)) (head_walks_lem t f r h a i) (pages_nonzero t f r h a i) (once_run 1 (pages t)) (eqb-false _ _ z)) in
      let small = page_small s.0 (omega (arith, l.to, a.page_count.1)) in
      inl (s.0, fault_shown t f r h a i ∙ rw (z, small), l))
