-- The audit of a chain's rings in an image finds no fault exactly where NEXT tells them and, where there are PRIORs, so does PRIOR.
use Prim.Native.Nat.{ℕ, suc, ◌*◌, ◌<◌}
use mathlib.Core.Path.{◌≡◌, refl, sym, ◌∙◌}
use mathlib.Core.Logic.{◌↔◌}
use mathlib.Core.Bool.{true, false, cond}
use mathlib.Core.List.{List, reverse}
use mathlib.Core.Option.{some}
use native.Mathlib.Omega.{arith}
use lib.Dec.{eqb}
use borrow.Author.Tests.{eqb-true, eq-eqb}
use Rattle.ledger.specs.Numbers.{elem, any, once, run, first_of}
use Rattle.ledger.specs.Table.{pages, chains, detail_type, linked_prior, Accepted}
use Rattle.ledger.specs.Pages.{codes}
use Rattle.ledger.specs.Walks.{walk, Agrees}
use Rattle.ledger.specs.Image.{detail_read, master_read, next_read, prior_read, ring_read, Imaged}
use Rattle.ledger.specs.Audit.{Ringed, Priors}
use Rattle.ledger.proofs.Lists.Tests.{clash, not_true_false}
use Rattle.ledger.proofs.Lists.Members.{elem_run, run_elem, any_some, some_any}
use Rattle.ledger.proofs.Audit.Walks.{Home, home_detail, home_once, home_agrees, agrees_home, walked_rings}
use Rattle.ledger.proofs.Image.Undone.{undone_exactly}
use Rattle.ledger.proofs.Image.ChainRings.{details_listed, masters_listed}
use Rattle.model.specs.Reads.{kind_in}
use Rattle.audit_model.specs.Marks.{Sweep, no_marks, sweep_on}
use Rattle.audit_model.specs.Chains.{ends_of, code_walks, unmet_in, chain_fault_in, ring_fault_in}
use Rattle.audit_laws.proofs.Firsts.{neither_fault, no_fault}
use Rattle.audit_laws.proofs.Marked.{codes_once, codes_nonzero}
use Rattle.audit_laws.proofs.Walks.{backed_undone, undone_backed}
use Rattle.audit_laws.proofs.Sweeps.{sweep_exactly, all_met}
use Rattle.audit_laws.proofs.ChainWalks.{WayHome, chain_walks, home_read_lem, ring_is, off, detail_shown}

-- a list of details that NEXT tells from master m round to it again, and PRIOR where there is one
pub record Told (t : List ℕ) (r : ℕ → List ℕ) (j m : ℕ) (xs : List ℕ) : Type 0 where
  pub details : (x : ℕ) → elem x xs ≡ true → detail_read t r j x ≡ true
  pub ones : once xs ≡ true
  pub nexts : Agrees (next_read t r j) m xs
  pub priors : linked_prior t j ≡ 1 → Agrees (prior_read t r j) m (reverse xs)

module _ (t f : List ℕ) (r : ℕ → List ℕ) (h : ℕ → ℕ) (a : Accepted t) (i : Imaged t f r h) where
  module _ (j : ℕ) (within : j < chains t) where
    -- a master's walk comes home exactly where a list is told, and that is its ring
    pub way_told : (m : ℕ) → master_read t r j m ≡ true → WayHome t r j m → Told t r j m (ring_read t r j m)
    way_told m top way =
        let xs = ring_read t r j m in
        let (home, back) = way top in
        let away = off t f r h a i j within m top in
        let details = home_detail _ _ m _ xs home in
        let ones = home_once _ _ m _ xs away home in
        let nexts = home_agrees _ _ m xs away home in
        let self : elem m xs ≡ false = not_true_false _ (λ e. clash _ (details m e) away) in
        record {
          details = details;
          ones = ones;
          nexts = nexts;
          priors = λ linked. (undone_exactly m xs ones self (next_read t r j) (prior_read t r j) nexts).1 (backed_undone _ (prior_read t r j) _ _ m m xs home back (eq-eqb _ _ linked));
        }

    told_home : (m : ℕ) (xs : List ℕ) → master_read t r j m ≡ true → Told t r j m xs → Home (next_read t r j) (detail_read t r j) m (next_read t r j m) xs
    told_home m xs top s = agrees_home _ _ m xs (off t f r h a i j within m top) s.ones s.details s.nexts

    pub told_ring : (m : ℕ) (xs : List ℕ) → master_read t r j m ≡ true → Told t r j m xs → ring_read t r j m ≡ xs
    told_ring m xs top s = ring_is t f r h a i j within m xs top (told_home m xs top s)

    pub told_way : (m : ℕ) (xs : List ℕ) → Told t r j m xs → WayHome t r j m
    told_way m xs s top =
        let home = told_home m xs top s in
        let self : elem m xs ≡ false = not_true_false _ (λ e. clash _ (s.details m e) (off t f r h a i j within m top)) in
        rw (told_ring m xs top s)
        (home, undone_backed _ (prior_read t r j) _ _ m m xs home (λ l. (undone_exactly m xs s.ones self (next_read t r j) (prior_read t r j) s.nexts).0 (s.priors (eqb-true _ _ l))))

    -- every detail lies in a ring
    abbrev AllMet : Type 0
    AllMet = (x : ℕ) → detail_read t r j x ≡ true → any (λ c. elem x (ring_read t r j c)) (codes t) ≡ true

    ways_ringed : ((c : ℕ) → elem c (codes t) ≡ true → WayHome t r j c) → AllMet → Ringed t r j × (linked_prior t j ≡ 1 → Priors t r j)
    ways_ringed ways met =
        let away = off t f r h a i j within in
        let home : (m : ℕ) → WayHome t r j m = λ m top. ways m (masters_listed t r a i.paged j within m top) top in
        let comes : (m : ℕ) → master_read t r j m ≡ true → (xs : List ℕ) × (walk (suc (64 * pages t)) (next_read t r j) (detail_read t r j) m (next_read t r j m) ≡ some xs) =
        λ m top. (ring_read t r j m, home_read_lem t f r h a i j within m (ring_read t r j m) top (home m top).0) in
        let seen : (x : ℕ) → detail_read t r j x ≡ true → (m : ℕ) × (elem x (ring_read t r j m) ≡ true) =
        λ x d. let q = any_some _ (codes t) (met x d) in (q.0, q.2) in (
          record { rings = walked_rings _ _ _ away _ comes seen; nexts = λ m top. (way_told m top (home m)).nexts },
          λ linked m top. (way_told m top (home m)).priors linked,
        )

    ringed_ways : Ringed t r j → (linked_prior t j ≡ 1 → Priors t r j) → (c : ℕ) → WayHome t r j c
    ringed_ways s back c top =
        told_way c (ring_read t r j c)
        (record {
          details = λ x e. (s.rings.own c x e).1;
          ones = s.rings.ones c;
          nexts = s.nexts c top;
          priors = λ linked. back linked c top;
        })
        top

    ringed_met : Ringed t r j → AllMet
    ringed_met s x d =
        let (m, e) = s.rings.every x d in
        some_any (λ c. elem x (ring_read t r j c)) m (codes t) (masters_listed t r a i.paged j within m (s.rings.own m x e).0) e

    -- the sweep, and then the details without mark
    abbrev pub swept : Sweep
    swept = sweep_on (code_walks f (ends_of t j)) (codes t) no_marks

    pub sweep_home : (swept.0 ≡ 0) ↔ ((c : ℕ) → elem c (codes t) ≡ true → WayHome t r j c)
    sweep_home = sweep_exactly _ _ _ (codes t) (chain_walks t f r h a i j within) (codes_nonzero t) (codes_once t)

    met_exactly : swept.0 ≡ 0 → (first_of (unmet_in f (detail_type t j) swept.1) (codes t) ≡ 0) ↔ AllMet
    unfolding unmet_in
    met_exactly e =
        let met = all_met _ _ _ (codes t) (chain_walks t f r h a i j within) (codes_nonzero t) (codes_once t) t a (λ x. eqb (kind_in f x) (detail_type t j)) e in (
          λ none x d. met.0 none x (details_listed t r a i.paged j within x d) (detail_shown t f r h a i j within x ∙ d),
          λ own. met.1 (λ x c k. own x (sym (detail_shown t f r h a i j within x) ∙ k)),
        )

    pub fault_shown : chain_fault_in t f j ≡ cond (eqb swept.0 0) (first_of (unmet_in f (detail_type t j) swept.1) (codes t)) swept.0
    unfolding chain_fault_in codes
    fault_shown = refl

  pub chain_fault_exactly : (j : ℕ) → j < chains t → (chain_fault_in t f j ≡ 0) ↔ (Ringed t r j × (linked_prior t j ≡ 1 → Priors t r j))
  chain_fault_exactly j within =
      let none = neither_fault (swept j within).0 (first_of (unmet_in f (detail_type t j) (swept j within).1) (codes t)) (swept j within).0 (λ e. e) in (
        λ e.
            let (zero, first) = none.0 (sym (fault_shown j within) ∙ e) in
            ways_ringed j within ((sweep_home j within).0 zero) ((met_exactly j within zero).0 first),
        λ s.
            let zero = (sweep_home j within).1 (λ c q. ringed_ways j within s.0 s.1 c) in
            fault_shown j within ∙ none.1 (zero, (met_exactly j within zero).1 (ringed_met j within s.0)),
      )

  pub ring_fault_exactly : (ring_fault_in t f ≡ 0) ↔ ((j : ℕ) → j < chains t → Ringed t r j × (linked_prior t j ≡ 1 → Priors t r j))
  unfolding ring_fault_in
  ring_fault_exactly =
      let none = no_fault (chain_fault_in t f) (run 0 (chains t)) in (
        λ e j within. (chain_fault_exactly j within).0 (none.0 e j (elem_run j 0 (chains t) (omega arith) (omega arith))),
        λ s. none.1 (λ j e. let within : j < chains t = omega (arith, (run_elem j 0 (chains t) e).1) in (chain_fault_exactly j within).1 (s j within)),
      )
