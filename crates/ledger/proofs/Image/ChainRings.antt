-- The rings of a chain in an image: when their audit passes, and that the ledger's links are then the image's.
use Prim.Native.Nat.{ℕ, suc, ◌*◌, ◌<◌}
use mathlib.Core.Path.{◌≡◌, sym, ◌∙◌, fun_ext}
use mathlib.Core.Logic.{◌↔◌, inl, inr}
use mathlib.Core.Bool.{true, false, or-true}
use mathlib.Core.List.{List, ◌∷◌}
use native.Mathlib.Omega.{arith}
use native.Mathlib.Nat.{zero-add}
use lib.ListN.{length}
use lib.Dec.{ltb}
use borrow.Author.Tests.{ltb-true, ltb-false}
use Rattle.ledger.specs.Numbers.{elem, once}
use Rattle.ledger.specs.Table.{pages, chains, linked_prior, is_master, is_detail, in_chain, Accepted}
use Rattle.ledger.specs.Pages.{Ledger, kind_at, present, codes, next_of, prior_of, record_bytes, WellFormed}
use Rattle.ledger.specs.Bytes.{two_at}
use Rattle.ledger.specs.Walks.{Agrees, Rings, audit}
use Rattle.ledger.specs.Image.{kind_read, detail_read, master_read, next_read, prior_read, ring_read, ledger_of, Paged}
use Rattle.ledger.specs.Audit.{Ringed, Priors}
use Rattle.ledger.proofs.Lists.Tests.{by_cases, clash, not_true_false}
use Rattle.ledger.proofs.Lists.Members.{elem_here, elem_tail, elem_cases, no_length, elem_turned}
use Rattle.ledger.proofs.Lists.Pairs.{once_run}
use Rattle.ledger.proofs.Lists.Runs.{length_run}
use Rattle.ledger.proofs.Ledger.Rows.{none_no_master, detail_no_master, none_no_detail}
use Rattle.ledger.proofs.Ledger.Rings.{Chained, chained, ring_agrees, next_round, prior_round}
use Rattle.ledger.proofs.Ledger.Fields.{own_fields}
use Rattle.ledger.proofs.Audit.Audits.{audit_sound, audit_complete, rings_walked}
use Rattle.ledger.proofs.Image.Paged.{image_master, image_ring, standing_listed}
use Rattle.ledger.proofs.Image.Laid.{laid_kind, laid_some, laid_paged}

-- a walk has fuel for every code
pub codes_few : (t : List ℕ) → length (codes t) < suc (64 * pages t)
unfolding codes
codes_few t = omega (arith, length_run 64 (64 * pages t))

module _ (t : List ℕ) (r : ℕ → List ℕ) (a : Accepted t) (g : Paged t r) (j : ℕ) (within : j < chains t) where
  pub detail_some : (x : ℕ) → detail_read t r j x ≡ true → 0 < length (r x)
  unfolding detail_read two_at
  detail_some x d = by_cases (ltb 0 (length (r x)))
      (λ e. ltb-true _ _ e)
      (λ e. clash _ (rw (no_length (r x) (ltb-false _ _ e)) at d) (none_no_detail t j a within))

  pub master_some : (x : ℕ) → master_read t r j x ≡ true → 0 < length (r x)
  unfolding master_read two_at
  master_some x d = by_cases (ltb 0 (length (r x)))
      (λ e. ltb-true _ _ e)
      (λ e. clash _ (rw (no_length (r x) (ltb-false _ _ e)) at d) (none_no_master t j a within))

  detail_below : (x : ℕ) → detail_read t r j x ≡ true → master_read t r j x ≡ false
  unfolding detail_read master_read
  detail_below x d = detail_no_master t j _ (a.chain_rows j within) d

  pub apart : (x : ℕ) → master_read t r j x ≡ true → detail_read t r j x ≡ false
  apart x m = not_true_false _ (λ d. clash _ m (detail_below x d))

  pub details_listed : (x : ℕ) → detail_read t r j x ≡ true → elem x (codes t) ≡ true
  details_listed x d = standing_listed t r a g x (detail_some x d)

  pub masters_listed : (x : ℕ) → master_read t r j x ≡ true → elem x (codes t) ≡ true
  masters_listed x m = standing_listed t r a g x (master_some x m)

  pub chain_audit : (audit (suc (64 * pages t)) (next_read t r j) (detail_read t r j) (master_read t r j) (codes t) ≡ true) ↔ Ringed t r j
  chain_audit = (
    λ e. let s = audit_sound _ _ _ (codes t) apart details_listed masters_listed _ (codes_few t) e in record { rings = s.0; nexts = s.1 },
    λ s. audit_complete _ _ _ (codes t) apart details_listed masters_listed _ (codes_few t) (ring_read t r j) s.rings s.nexts
        (unfold codes in once_run 64 (64 * pages t)),
  )

  -- there are no other rings than those that are walked
  pub rings_read : (ring : ℕ → List ℕ) → Rings (detail_read t r j) (master_read t r j) ring → ((m : ℕ) → master_read t r j m ≡ true → Agrees (next_read t r j) m (ring m))
      → (m : ℕ) → ring_read t r j m ≡ ring m
  rings_read ring s n = rings_walked _ _ _ (codes t) apart details_listed masters_listed _ (codes_few t) ring s n

  -- the ledger's links in chain j are the image's
  module _ (h : ℕ → ℕ) (s : Ringed t r j) where
    pub image_own : (m x : ℕ) → elem x ((ledger_of t r h).ring j m) ≡ true → (master_read t r j m ≡ true) × (detail_read t r j x ≡ true)
    image_own m x e = s.rings.own m x (rw (image_ring t r h j m within) at e)

    pub image_one : (m n x : ℕ) → elem x ((ledger_of t r h).ring j m) ≡ true → elem x ((ledger_of t r h).ring j n) ≡ true → m ≡ n
    image_one m n x e f = s.rings.one m n x (rw (image_ring t r h j m within) at e) (rw (image_ring t r h j n within) at f)

    pub image_once : (m : ℕ) → once ((ledger_of t r h).ring j m) ≡ true
    image_once m = rw (image_ring t r h j m within) (s.rings.ones m)

    image_chained : Chained t (ledger_of t r h) j
    image_chained = record {
      ones = image_once;
      listed = λ m x e. masters_listed m (image_own m x e).0;
      above = λ m x e. image_master t r h j m ∙ (image_own m x e).0;
      below = λ m x e. image_master t r h j x ∙ detail_below x (image_own m x e).1;
      one = image_one;
    }

    pub in_a_ring : (x : ℕ) → in_chain t j (kind_read (r x)) ≡ true → (m : ℕ) × (master_read t r j m ≡ true) × (elem x (m ∷ ring_read t r j m) ≡ true)
    unfolding in_chain master_read detail_read
    in_a_ring x c = by_cases (is_master t j (kind_read (r x)))
        (λ e. (x, e, elem_here x (ring_read t r j x)))
        (λ e.
        let q = s.rings.every x (rw e at c) in
        (q.0, (s.rings.own q.0 x q.1).0, elem_tail x q.0 (ring_read t r j q.0) q.1))

    pub next_read_lem : (x : ℕ) → in_chain t j (kind_read (r x)) ≡ true → next_read t r j x ≡ next_of t (ledger_of t r h) j x
    next_read_lem x c =
        let q = in_a_ring x c in
        s.nexts q.0 q.1 x q.2
        ∙ sym (rw (image_ring t r h j q.0 within) at
        (next_round t (ledger_of t r h) j image_chained q.0 (image_master t r h j q.0 ∙ q.1) x (rw (image_ring t r h j q.0 within) q.2)))

    pub prior_read_lem : Priors t r j → (x : ℕ) → in_chain t j (kind_read (r x)) ≡ true → prior_read t r j x ≡ prior_of t (ledger_of t r h) j x
    prior_read_lem back x c =
        let q = in_a_ring x c in
        back q.0 q.1 x (elem_turned x q.0 (ring_read t r j q.0) ∙ q.2)
        ∙ sym (rw (image_ring t r h j q.0 within) at
        (prior_round t (ledger_of t r h) j image_chained q.0 (image_master t r h j q.0 ∙ q.1) x (rw (image_ring t r h j q.0 within) q.2)))

-- The converse: the rings of a well-formed ledger, in the image that is its bytes.
module _ (t : List ℕ) (l : Ledger) (a : Accepted t) (w : WellFormed t l) (j : ℕ) (within : j < chains t) where
  ledger_master : (x : ℕ) → master_read t (record_bytes t l) j x ≡ is_master t j (kind_at l x)
  unfolding master_read
  ledger_master x = rw (laid_kind t l a w x)

  ledger_detail : (x : ℕ) → detail_read t (record_bytes t l) j x ≡ is_detail t j (kind_at l x)
  unfolding detail_read
  ledger_detail x = rw (laid_kind t l a w x)

  ledger_rings : Rings (detail_read t (record_bytes t l) j) (master_read t (record_bytes t l) j) (l.ring j)
  ledger_rings = record {
    ones = w.ring_once j;
    own = λ m x e. let o = w.ring_own j m x e in (ledger_master m ∙ o.2, ledger_detail x ∙ o.4);
    every = λ x d. w.ring_all j x within (laid_some t l a w x (detail_some t (record_bytes t l) a (laid_paged t l a w) j within x d)) (sym (ledger_detail x) ∙ d);
    one = w.ring_one j;
  }

  -- each of a ring is a record of the chain
  ring_there : (m : ℕ) → master_read t (record_bytes t l) j m ≡ true → (x : ℕ) → elem x (m ∷ l.ring j m) ≡ true
      → (present l x ≡ true) × (in_chain t j (kind_at l x) ≡ true)
  unfolding in_chain
  ring_there m top x e = elim (elem_cases x m (l.ring j m) e) [
    | inl i ↦ rw i (laid_some t l a w m (master_some t (record_bytes t l) a (laid_paged t l a w) j within m top), rw (← ledger_master m, top))
    | inr i ↦ (let o = w.ring_own j m x i in (o.3, rw o.4 (or-true (is_master t j (kind_at l x)))))
  ]

  ledger_nexts : (m : ℕ) → master_read t (record_bytes t l) j m ≡ true → Agrees (next_read t (record_bytes t l) j) m (l.ring j m)
  unfolding next_read
  ledger_nexts m top x e =
      let q = ring_there m top x e in
      rw (laid_kind t l a w x) (rw zero-add at ((own_fields t l a w x q.0).next j within q.1) ∙ ring_agrees t l a w j m (sym (ledger_master m) ∙ top) x e)

  pub ring_back : (m : ℕ) → ring_read t (record_bytes t l) j m ≡ l.ring j m
  ring_back = rings_read t (record_bytes t l) a (laid_paged t l a w) j within (l.ring j) ledger_rings ledger_nexts

  pub laid_ringed : Ringed t (record_bytes t l) j
  laid_ringed = record {
    rings = rw (fun_ext ring_back) ledger_rings;
    nexts = λ m top. rw (ring_back m) (ledger_nexts m top);
  }

  pub laid_priors : linked_prior t j ≡ 1 → Priors t (record_bytes t l) j
  unfolding prior_read
  laid_priors linked m top x e =
      let i = sym (elem_turned x m (l.ring j m)) ∙ (rw (ring_back m) at e) in
      let q = ring_there m top x i in
      rw (ring_back m, laid_kind t l a w x)
      (rw zero-add at ((own_fields t l a w x q.0).prior j within q.1 linked) ∙ prior_round t l j (chained t l a w j) m (sym (ledger_master m) ∙ top) x i)
