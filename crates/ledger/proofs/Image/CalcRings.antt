-- The CALC ring of a page in an image: when its audit passes, and that the ledger's CALC NEXT is then the image's.
use Prim.Native.Nat.{ℕ, suc, ◌*◌, ◌≤◌, ◌<◌}
use mathlib.Core.Path.{◌≡◌, sym, ◌∙◌, fun_ext}
use mathlib.Core.Logic.{◌↔◌, inl, inr}
use mathlib.Core.Bool.{true, false, cond}
use mathlib.Core.List.{List, []}
use native.Mathlib.Omega.{arith}
use native.Mathlib.Nat.{zero-add}
use lib.ListN.{length}
use borrow.Author.Tests.{eqb-true, ltb-true, lt-ltb, ne_eqb}
use Rattle.ledger.specs.Numbers.{elem, once}
use Rattle.ledger.specs.Table.{pages, calculated, Accepted}
use Rattle.ledger.specs.Pages.{line_of, Ledger, codes, home_of, calc_next_of, record_bytes, head_next, WellFormed, calc_at}
use Rattle.ledger.specs.Bytes.{three_at}
use Rattle.ledger.specs.Walks.{Agrees, Rings, audit}
use Rattle.ledger.specs.Image.{kind_read, home_read, homed_read, head_of, calc_next_read, calc_read, ledger_of, Paged}
use Rattle.ledger.specs.Audit.{Calced}
use Rattle.ledger.proofs.Lists.Tests.{by_cases, both, not_true_false, eqb_same}
use Rattle.ledger.proofs.Lists.Members.{elem_nil, elem_here, elem_tail, elem_cases, elem_run}
use Rattle.ledger.proofs.Lists.Pairs.{once_nil, once_run}
use Rattle.ledger.proofs.Ledger.Calcs.{calc_agrees}
use Rattle.ledger.proofs.Ledger.Fields.{own_fields}
use Rattle.ledger.proofs.Audit.Walks.{Home, home_detail, home_once, home_agrees, ring_home}
use Rattle.ledger.proofs.Audit.Audits.{audit_sound, audit_complete, rings_walked}
use Rattle.ledger.proofs.Image.Paged.{image_calc, standing_listed}
use Rattle.ledger.proofs.Image.Laid.{laid_kind, laid_some, laid_there, laid_home, laid_paged}
use Rattle.ledger.proofs.Image.ChainRings.{codes_few}

-- a header is the one master of its page
pub head_self : (p : ℕ) → head_of p (64 * p) ≡ true
unfolding head_of
head_self p = eqb_same (64 * p)

pub head_only : (p m : ℕ) → head_of p m ≡ true → m ≡ 64 * p
unfolding head_of
head_only p m e = eqb-true m (64 * p) e

module _ (t : List ℕ) (r : ℕ → List ℕ) where
  pub homed : (p x : ℕ) → homed_read t r p x ≡ true → (0 < length (r x)) × (calculated t (kind_read (r x)) ≡ true) × (home_read t (r x) ≡ p)
  unfolding homed_read
  homed p x e =
      let (b, own) = both _ _ e in
      let (some, calc) = both _ _ b in
      (ltb-true _ _ some, calc, eqb-true _ _ own)

  pub to_home : (x : ℕ) → 0 < length (r x) → calculated t (kind_read (r x)) ≡ true → homed_read t r (home_read t (r x)) x ≡ true
  unfolding homed_read
  to_home x full calc = rw (lt-ltb 0 (length (r x)) full, calc) (eqb_same (home_read t (r x)))

  pub calc_next_head : (h : ℕ → ℕ) (p : ℕ) → calc_next_read t r h p (64 * p) ≡ h p
  unfolding calc_next_read
  calc_next_head h p = rw (eqb_same (64 * p))

  pub calc_next_else : (h : ℕ → ℕ) (p x : ℕ) → 1 ≤ line_of x → calc_next_read t r h p x ≡ three_at (r x) (calc_at t (kind_read (r x)))
  unfolding calc_next_read
  calc_next_else h p x line = rw (ne_eqb x (64 * p) (λ e. omega arith))

module _ (t : List ℕ) (r : ℕ → List ℕ) (h : ℕ → ℕ) (a : Accepted t) (g : Paged t r) (p : ℕ) (lo : 1 ≤ p) (hi : p ≤ pages t) where
  apart : (x : ℕ) → head_of p x ≡ true → homed_read t r p x ≡ false
  apart x top = not_true_false _ (λ d. omega (arith, head_only p x top, (g.standing x (homed t r p x d).0).on_a_line))

  homed_listed : (x : ℕ) → homed_read t r p x ≡ true → elem x (codes t) ≡ true
  homed_listed x d = standing_listed t r a g x (homed t r p x d).0

  heads_listed : (x : ℕ) → head_of p x ≡ true → elem x (codes t) ≡ true
  unfolding codes
  heads_listed x top = let e = head_only p x top in elem_run x 64 (64 * pages t) (omega arith) (omega arith)

  -- Agrees at the one master is Agrees at all
  at_masters : (ring : ℕ → List ℕ) → Agrees (calc_next_read t r h p) (64 * p) (ring (64 * p)) → (m : ℕ) → head_of p m ≡ true → Agrees (calc_next_read t r h p) m (ring m)
  at_masters ring n m top = rw (head_only p m top) n

  pub calc_audit : (audit (suc (64 * pages t)) (calc_next_read t r h p) (homed_read t r p) (head_of p) (codes t) ≡ true) ↔ Calced t r h p
  calc_audit = (
    λ e. let s = audit_sound _ _ _ (codes t) apart homed_listed heads_listed _ (codes_few t) e in record { rings = s.0; nexts = s.1 (64 * p) (head_self p) },
    λ s. audit_complete _ _ _ (codes t) apart homed_listed heads_listed _ (codes_few t) (calc_read t r h p) s.rings (at_masters _ s.nexts)
        (unfold codes in once_run 64 (64 * pages t)),
  )

  pub calc_rings_read : (ring : ℕ → List ℕ) → Rings (homed_read t r p) (head_of p) ring → Agrees (calc_next_read t r h p) (64 * p) (ring (64 * p))
      → (m : ℕ) → calc_read t r h p m ≡ ring m
  calc_rings_read ring s n = rings_walked _ _ _ (codes t) apart homed_listed heads_listed _ (codes_few t) ring s (at_masters ring n)

  -- the ledger's CALC list of page p, and its CALC NEXT
  module _ (s : Calced t r h p) where
    pub image_calc_once : once ((ledger_of t r h).calc p) ≡ true
    image_calc_once = rw (image_calc t r h p lo hi) (s.rings.ones (64 * p))

    pub image_calc_own : (x : ℕ) → elem x ((ledger_of t r h).calc p) ≡ true → homed_read t r p x ≡ true
    image_calc_own x e = (s.rings.own (64 * p) x (rw (image_calc t r h p lo hi) at e)).1

    pub image_calc_all : (x : ℕ) → homed_read t r p x ≡ true → elem x ((ledger_of t r h).calc p) ≡ true
    image_calc_all x d =
        let q = s.rings.every x d in
        let e : q.0 ≡ 64 * p = head_only p q.0 (s.rings.own q.0 x q.1).0 in
        rw (image_calc t r h p lo hi, ← e) q.1

    pub calc_next_read_lem : (x : ℕ) → homed_read t r p x ≡ true → three_at (r x) (calc_at t (kind_read (r x))) ≡ calc_next_of t (ledger_of t r h) p x
    unfolding calc_next_of
    calc_next_read_lem x d =
        sym (calc_next_else t r h p x (g.standing x (homed t r p x d).0).on_a_line)
        ∙ rw (image_calc t r h p lo hi) (s.nexts x (elem_tail x (64 * p) _ (rw (image_calc t r h p lo hi) at (image_calc_all x d))))

    pub head_read : h p ≡ head_next t (ledger_of t r h) p
    unfolding head_next calc_next_of
    head_read = sym (calc_next_head t r h p) ∙ rw (image_calc t r h p lo hi) (s.nexts (64 * p) (elem_here (64 * p) _))

  -- a list of exactly the records whose home the page is, that CALC NEXT tells, is the one that is walked
  module _ (xs : List ℕ) (ones : once xs ≡ true) (own : (x : ℕ) → elem x xs ≡ true → homed_read t r p x ≡ true)
      (every : (x : ℕ) → homed_read t r p x ≡ true → elem x xs ≡ true) (agrees : Agrees (calc_next_read t r h p) (64 * p) xs) where
    abbrev lists : ℕ → List ℕ
    lists m = cond (head_of p m) xs []

    lists_head : (m x : ℕ) → elem x (lists m) ≡ true → head_of p m ≡ true
    lists_head m x e = by_cases (head_of p m) (λ i. i) (λ f. elem_nil x (rw f at e))

    list_rings : Rings (homed_read t r p) (head_of p) lists
    list_rings = record {
      ones = λ m. by_cases (head_of p m) (λ e. rw e ones) (λ e. rw e once_nil);
      own = λ m x e. let top = lists_head m x e in (top, own x (rw top at e));
      every = λ x d. (64 * p, rw (head_self p) (every x d));
      one = λ m n x e f. head_only p m (lists_head m x e) ∙ sym (head_only p n (lists_head n x f));
    }

    lists_read : (m : ℕ) → calc_read t r h p m ≡ lists m
    lists_read = calc_rings_read lists list_rings (rw (head_self p) agrees)

    pub list_read : calc_read t r h p (64 * p) ≡ xs
    list_read = lists_read (64 * p) ∙ rw (head_self p)

    pub list_calced : Calced t r h p
    list_calced = record { rings = rw (fun_ext lists_read) list_rings; nexts = rw list_read agrees }

-- All pages at once: each header's walk comes home over records of its page, and every calculated record is met on one.
module _ (t : List ℕ) (r : ℕ → List ℕ) (h : ℕ → ℕ) (a : Accepted t) (g : Paged t r) where
  module _ (met : ℕ → List ℕ) (ways : (p : ℕ) → 1 ≤ p → p ≤ pages t → Home (calc_next_read t r h p) (homed_read t r p) (64 * p) (h p) (met p))
      (all : (x : ℕ) → 0 < length (r x) → calculated t (kind_read (r x)) ≡ true → (p : ℕ) × (1 ≤ p) × (p ≤ pages t) × (elem x (met p) ≡ true)) where
    met_own : (p : ℕ) → 1 ≤ p → p ≤ pages t → (x : ℕ) → elem x (met p) ≡ true → homed_read t r p x ≡ true
    met_own p lo hi = home_detail (calc_next_read t r h p) (homed_read t r p) (64 * p) (h p) (met p) (ways p lo hi)

    met_every : (p x : ℕ) → homed_read t r p x ≡ true → elem x (met p) ≡ true
    met_every p x d =
        let o = homed t r p x d in
        let (q, lo, hi, e) = all x o.0 o.1 in
        let same : q ≡ p = sym (homed t r q x (met_own q lo hi x e)).2 ∙ o.2 in
        rw same at e

    pub homes_calced : (p : ℕ) → 1 ≤ p → p ≤ pages t → Calced t r h p
    homes_calced p lo hi =
        let off = apart t r h a g p lo hi (64 * p) (head_self p) in
        list_calced t r h a g p lo hi (met p) (home_once (calc_next_read t r h p) (homed_read t r p) (64 * p) (h p) (met p) off (ways p lo hi))
        (met_own p lo hi) (met_every p)
        (home_agrees (calc_next_read t r h p) (homed_read t r p) (64 * p) (met p) off (rw (calc_next_head t r h p) (ways p lo hi)))

  pub calced_home : (p : ℕ) → 1 ≤ p → p ≤ pages t → Calced t r h p → Home (calc_next_read t r h p) (homed_read t r p) (64 * p) (h p) (calc_read t r h p (64 * p))
  calced_home p lo hi s =
      rw (calc_next_head t r h p) at
      (ring_home _ _ (head_of p) (apart t r h a g p lo hi) (calc_read t r h p) s.rings (at_masters t r h a g p lo hi _ s.nexts) (64 * p) (head_self p))

-- The converse: the CALC lists of a well-formed ledger, in the image that is its bytes.
module _ (t : List ℕ) (l : Ledger) (a : Accepted t) (w : WellFormed t l) (p : ℕ) (lo : 1 ≤ p) (hi : p ≤ pages t) where
  ledger_homed : (x : ℕ) → elem x (l.calc p) ≡ true → homed_read t (record_bytes t l) p x ≡ true
  ledger_homed x e =
      let o = w.calc_own p x e in
      let home : home_read t (record_bytes t l x) ≡ p = laid_home t l a w x ∙ o.2 in
      rw home at (to_home t (record_bytes t l) x (laid_there t l a w x o.0) (rw (laid_kind t l a w x) o.1))

  homed_member : (x : ℕ) → homed_read t (record_bytes t l) p x ≡ true → elem x (l.calc p) ≡ true
  homed_member x d =
      let o = homed t (record_bytes t l) p x d in
      let home : home_of t l x ≡ p = sym (laid_home t l a w x) ∙ o.2 in
      rw home at (w.calc_all x (laid_some t l a w x o.0) (rw (laid_kind t l a w x) at o.1))

  ledger_calc_nexts : Agrees (calc_next_read t (record_bytes t l) (head_next t l) p) (64 * p) (l.calc p)
  unfolding head_next
  ledger_calc_nexts x e = elim (elem_cases x (64 * p) (l.calc p) e) [
    | inl i ↦ rw i (calc_next_head t (record_bytes t l) (head_next t l) p) ∙ calc_agrees t l p x e
    | inr i ↦ (
        let o = w.calc_own p x i in
        calc_next_else t (record_bytes t l) (head_next t l) p x (w.placed x o.0).on_a_line
        ∙ rw (laid_kind t l a w x) (rw (zero-add, o.2) at ((own_fields t l a w x o.0).calc_next o.1))
        ∙ calc_agrees t l p x e)
  ]

  pub calc_back : calc_read t (record_bytes t l) (head_next t l) p (64 * p) ≡ l.calc p
  calc_back = list_read t (record_bytes t l) (head_next t l) a (laid_paged t l a w) p lo hi (l.calc p) (w.calc_once p) ledger_homed homed_member ledger_calc_nexts

  pub laid_calced : Calced t (record_bytes t l) (head_next t l) p
  laid_calced = list_calced t (record_bytes t l) (head_next t l) a (laid_paged t l a w) p lo hi (l.calc p) (w.calc_once p) ledger_homed homed_member ledger_calc_nexts
