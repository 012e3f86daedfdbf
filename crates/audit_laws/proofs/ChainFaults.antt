-- Where the audit finds a ring fault: the lowest master of which no list is told, else the lowest detail that lies in none, in the first chain
-- that has a fault.
use Prim.Native.Nat.{ℕ, ◌*◌, ◌<◌}
use mathlib.Core.Path.{◌≡◌, sym, ◌∙◌}
use mathlib.Core.Logic.{◌≢◌, ◌⊎◌, inl, inr}
use mathlib.Core.Bool.{Bool, true}
use mathlib.Core.List.{List}
use native.Mathlib.Omega.{arith}
use lib.Dec.{eqb}
use borrow.Author.Tests.{eqb-true}
use Rattle.ledger.specs.Numbers.{elem, any, first_of}
use Rattle.ledger.specs.Table.{pages, chains, detail_type, linked_prior, Accepted}
use Rattle.ledger.specs.Pages.{codes}
use Rattle.ledger.specs.Image.{detail_read, master_read, ring_read, Imaged}
use Rattle.ledger.specs.Audit.{Ringed, Priors}
use Rattle.ledger.proofs.Lists.Tests.{by_cases, clash}
use Rattle.ledger.proofs.Lists.Members.{any_some, some_any}
use Rattle.ledger.proofs.Audit.Walks.{walked_master}
use Rattle.ledger.proofs.Image.ChainRings.{details_listed, masters_listed}
use Rattle.model.specs.Reads.{kind_in}
use Rattle.audit_model.specs.Chains.{unmet_in, chain_fault_in, ring_fault_in}
use Rattle.audit_laws.proofs.Marked.{codes_once, codes_nonzero, code_within}
use Rattle.audit_laws.proofs.Sweeps.{Lost, Stray, sweep_fault, first_unmet}
use Rattle.audit_laws.proofs.ChainWalks.{WayHome, chain_walks, off, detail_shown}
use Rattle.audit_laws.proofs.Chains.{Told, way_told, told_ring, told_way, swept, sweep_home, fault_shown, chain_fault_exactly}
use Rattle.audit_laws.proofs.Firsts.{run_before, first_fault_lem}

-- a detail in a list that is told of a master
abbrev pub Rung : List ℕ → (ℕ → List ℕ) → ℕ → ℕ → Type 0
Rung t r j x = (m : ℕ) × (xs : List ℕ) × (master_read t r j m ≡ true) × Told t r j m xs × (elem x xs ≡ true)

-- the lowest master of which no list is told
pub record MasterLost (t : List ℕ) (r : ℕ → List ℕ) (j x : ℕ) : Type 0 where
  pub master : master_read t r j x ≡ true
  pub lost : (xs : List ℕ) → Told t r j x xs → ⊥
  pub lowest : (m : ℕ) → master_read t r j m ≡ true → m < x → (xs : List ℕ) × Told t r j m xs

-- a list is told of each master, and this is the lowest detail that lies in none
pub record DetailLost (t : List ℕ) (r : ℕ → List ℕ) (j x : ℕ) : Type 0 where
  pub told : (m : ℕ) → master_read t r j m ≡ true → (xs : List ℕ) × Told t r j m xs
  pub detail : detail_read t r j x ≡ true
  pub lost : Rung t r j x → ⊥
  pub lowest : (y : ℕ) → detail_read t r j y ≡ true → y < x → Rung t r j y

module _ (t f : List ℕ) (r : ℕ → List ℕ) (h : ℕ → ℕ) (a : Accepted t) (i : Imaged t f r h) where
  module _ (j : ℕ) (within : j < chains t) where
    -- a walk that does not come home
    lost_master : (x : ℕ) → Lost (WayHome t r j) (codes t) x → MasterLost t r j x
    unfolding codes
    lost_master x l = record {
      master = by_cases (master_read t r j x) (λ top. top) (λ top. absurd (l.astray (λ e. clash _ e top)));
      lost = λ xs s. l.astray (told_way t f r h a i j within x xs s);
      lowest = λ m top lt.
          let c = code_within t a m (masters_listed t r a i.paged j within m top) in
          let e = run_before 64 (64 * pages t) x m l.before l.after l.whole c.0 lt in
          (ring_read t r j m, way_told t f r h a i j within m top (l.home m e));
    }

    -- all come home, and a detail bears no mark
    module _ (home : (swept t f r h a i j within).0 ≡ 0) where
      abbrev lies : ℕ → Bool
      lies x = any (λ m. elem x (ring_read t r j m)) (codes t)

      told_all : (m : ℕ) → master_read t r j m ≡ true → Told t r j m (ring_read t r j m)
      told_all m top = way_told t f r h a i j within m top ((sweep_home t f r h a i j within).0 home m (masters_listed t r a i.paged j within m top))

      lies_rung : (x : ℕ) → lies x ≡ true → Rung t r j x
      lies_rung x e =
          let (m, c, q) = any_some _ (codes t) e in
          let top = walked_master _ _ _ (off t f r h a i j within) _ m x q in
          (m, ring_read t r j m, top, told_all m top, q)

      rung_lies : (x : ℕ) → Rung t r j x → lies x ≡ true
      rung_lies x s =
          let (m, xs, top, told, e) = s in
          some_any (λ n. elem x (ring_read t r j n)) m (codes t) (masters_listed t r a i.paged j within m top) (rw (told_ring t f r h a i j within m xs top told) e)

      lost_detail : (x : ℕ) → Stray t (λ y. eqb (kind_in f y) (detail_type t j)) lies x → DetailLost t r j x
      lost_detail x s = record {
        told = λ m top. (ring_read t r j m, told_all m top);
        detail = sym (detail_shown t f r h a i j within x) ∙ s.to_be_met;
        lost = λ q. clash _ (rung_lies x q) s.outside;
        lowest = λ y d lt. lies_rung y (s.lowest y (details_listed t r a i.paged j within y d) (detail_shown t f r h a i j within y ∙ d) lt);
      }

      unmet_lost : first_of (unmet_in f (detail_type t j) (swept t f r h a i j within).1) (codes t) ≢ 0
          → DetailLost t r j (first_of (unmet_in f (detail_type t j) (swept t f r h a i j within).1) (codes t))
      unfolding unmet_in
      unmet_lost e = lost_detail _ (first_unmet _ _ _ (codes t) (chain_walks t f r h a i j within) (codes_nonzero t) (codes_once t) t a _ home e)

  pub chain_fault_where : (j : ℕ) → j < chains t → chain_fault_in t f j ≢ 0 → MasterLost t r j (chain_fault_in t f j) ⊎ DetailLost t r j (chain_fault_in t f j)
  chain_fault_where j within e =
      let s = swept t f r h a i j within in
      by_cases (eqb s.0 0)
      (λ z.
      let same : chain_fault_in t f j ≡ first_of (unmet_in f (detail_type t j) s.1) (codes t) = fault_shown t f r h a i j within ∙ rw z in
      inr (rw same (unmet_lost j within (eqb-true _ _ z) (rw same at e))))
      (λ z.
      let same : chain_fault_in t f j ≡ s.0 = fault_shown t f r h a i j within ∙ rw z in
      inl (rw same (lost_master j within s.0 (sweep_fault _ _ _ (codes t) (chain_walks t f r h a i j within) (codes_nonzero t) (codes_once t) (rw same at e)))))

  -- the first chain with a fault
  pub ring_fault_where : ring_fault_in t f ≢ 0
      → (j : ℕ) × (j < chains t) × ((k : ℕ) → k < j → Ringed t r k × (linked_prior t k ≡ 1 → Priors t r k))
      × (MasterLost t r j (ring_fault_in t f) ⊎ DetailLost t r j (ring_fault_in t f))
  unfolding ring_fault_in
  ring_fault_where e =
      let (j, w, same) = first_fault_lem (chain_fault_in t f) 0 (chains t) e in
      let within : j < chains t = omega (arith, w.to) in (
        j,
        within,
        λ k lt. (chain_fault_exactly t f r h a i k (omega arith)).0 (w.clean k (omega arith) lt),
        rw same (chain_fault_where j within (rw same at e)),
      )
