-- The walks of the headers along CALC NEXT in an image: what they read, and that each comes home exactly where CALC NEXT leads home.
use Prim.Native.Nat.{ℕ, ◌*◌, ◌%◌, ◌≤◌}
use mathlib.Core.Path.{◌≡◌, refl, sym, ◌∙◌, ap}
use mathlib.Core.Bool.{Bool, true, false}
use mathlib.Core.List.{List, [], ◌∷◌}
use native.Mathlib.Omega.{arith}
use lib.Dec.{eqb}
use lib.ListN.{length, get_or}
use borrow.Author.Tests.{ne_eqb, lt-ltb}
use Rattle.ledger.specs.Numbers.{elem, run}
use Rattle.ledger.specs.Table.{pages, calculated, Accepted}
use Rattle.ledger.specs.Pages.{codes, home}
use Rattle.ledger.specs.Bytes.{two_at}
use Rattle.ledger.specs.Image.{kind_read, home_read, homed_read, head_of, calc_next_read, calc_read, Imaged}
use Rattle.ledger.proofs.Lists.Tests.{by_cases, not_true_false}
use Rattle.ledger.proofs.Lists.Members.{elem_run, run_elem}
use Rattle.ledger.proofs.Audit.Walks.{Home, home_detail, walked_is}
use Rattle.ledger.proofs.Audit.Audits.{home_short}
use Rattle.ledger.proofs.Image.Paged.{standing_listed}
use Rattle.ledger.proofs.Image.ChainRings.{codes_few}
use Rattle.ledger.proofs.Image.CalcRings.{head_self, head_only, homed, calc_next_head, calc_next_else}
use Rattle.model.specs.Reads.{kind_in}
use Rattle.model.specs.Keys.{calc_key_in}
use Rattle.place_laws.proofs.Image.{by_bytes, image_kind, kind_some, image_data, image_calc_next, image_head}
use Rattle.audit_model.specs.Marks.{Walk, walk_on}
use Rattle.audit_model.specs.Calcs.{home_in, calc_met_in, calc_walk_on, head_walks}
use Rattle.audit_laws.proofs.Marked.{mark_all, Clear, code_within, codes_short}
use Rattle.audit_laws.proofs.Walks.{Backed, step_of, walk_came, walk_exactly}
use Rattle.audit_laws.proofs.Sweeps.{Walks}

-- a header's CALC NEXT leads home along the page's ring
abbrev pub HeadHome : List ℕ → (ℕ → List ℕ) → (ℕ → ℕ) → ℕ → Type 0
HeadHome t r h p = Home (calc_next_read t r h p) (homed_read t r p) (64 * p) (h p) (calc_read t r h p (64 * p))

-- there are no PRIORs
abbrev always : ℕ → ℕ → Bool
always last x = true

always_backed : (m last : ℕ) (xs : List ℕ) → Backed always m last xs
always_backed m last [] = refl
always_backed m last (y ∷ ys) = (refl, always_backed m y ys)

no_kind : kind_read [] ≡ 0
unfolding two_at
no_kind = refl

module _ (t f : List ℕ) (r : ℕ → List ℕ) (h : ℕ → ℕ) (a : Accepted t) (i : Imaged t f r h) where
  key_shown : (x : ℕ) → home t (kind_in f x) (calc_key_in t f x) ≡ home_read t (r x)
  unfolding calc_key_in home_read
  key_shown x = rw (image_kind t f r h a i x, image_data t f r h a i x)

  pub home_shown : (p x : ℕ) → 1 ≤ p → eqb (home_in t f x) p ≡ homed_read t r p x
  unfolding home_in homed_read
  home_shown p x lo =
      let none : eqb 0 p ≡ false = ne_eqb 0 p (λ z. omega arith) in
      rw (key_shown x, image_kind t f r h a i x)
      (by_bytes (r x)
      (λ e. rw (e, no_kind) none)
      (λ e. rw (ne_eqb (kind_read (r x)) 0 (λ z. omega (arith, kind_some t f r h a i x e)), lt-ltb 0 (length (r x)) e)
      (by_cases (calculated t (kind_read (r x))) (λ c. rw c) (λ c. rw c none))))

  met_shown : (p : ℕ) → 1 ≤ p → (g : List ℕ) (last x : ℕ) → calc_met_in t f p g x ≡ step_of (calc_next_read t r h p) (homed_read t r p) always g last x
  unfolding calc_met_in
  met_shown p lo g last x = rw (home_shown p x lo) (by_cases (homed_read t r p x)
      (λ d.
      let o = homed t r p x d in
      rw (d, image_calc_next t f r h a i x o.0 o.1, calc_next_else t r h p x (i.paged.standing x o.0).on_a_line))
      (λ d. rw d (by_cases (eqb (get_or g x 0) 0) (λ z. rw z) (λ z. rw z))))

  -- each header's walk, by itself
  pub homed_listed : (p x : ℕ) → homed_read t r p x ≡ true → elem x (codes t) ≡ true
  homed_listed p x d = standing_listed t r a i.paged x (homed t r p x d).0

  head_listed : (p x : ℕ) → 1 ≤ p → p ≤ pages t → head_of p x ≡ true → elem x (codes t) ≡ true
  unfolding codes
  head_listed p x lo hi top = let e = head_only p x top in elem_run x 64 (64 * pages t) (omega arith) (omega arith)

  pub off : (p x : ℕ) → head_of p x ≡ true → homed_read t r p x ≡ false
  off p x top = not_true_false _ (λ d. omega (arith, head_only p x top, (i.paged.standing x (homed t r p x d).0).on_a_line))

  pub ring_is : (p : ℕ) (xs : List ℕ) → 1 ≤ p → p ≤ pages t → Home (calc_next_read t r h p) (homed_read t r p) (64 * p) (h p) xs → calc_read t r h p (64 * p) ≡ xs
  ring_is p xs lo hi way =
      walked_is _ _ (head_of p) (off p) _ (64 * p) xs (head_self p)
      (home_short _ _ (head_of p) (codes t) (off p) (homed_listed p) (λ x. head_listed p x lo hi) _ (codes_few t) (64 * p) xs (off p (64 * p) (head_self p)) (rw (calc_next_head t r h p) way))

  head_walk : (p : ℕ) (g : List ℕ) → 1 ≤ p → p ≤ pages t
      → head_walks t f p g ≡ walk_on 8256 (λ k last x. calc_met_in t f p k x) (λ last. true) (64 * p) 0 (h p) g
  unfolding head_walks calc_walk_on
  head_walk p g lo hi =
      let e : p % 65536 ≡ p = omega (arith, a.page_count.1) in
      rw (e, image_head t f r h a i p lo hi)

  head_comes : (p : ℕ) (g : List ℕ) → 1 ≤ p → p ≤ pages t → (head_walks t f p g).0 ≡ true
      → HeadHome t r h p × ((head_walks t f p g).1 ≡ mark_all (calc_read t r h p (64 * p)) g)
  head_comes p g lo hi e =
      let (xs, came, marks) = walk_came _ _ always _ (met_shown p lo) (64 * p) _ (λ last. refl) 8256 0 (h p) g (rw (head_walk p g lo hi) at e) in
      let same = ring_is p xs lo hi came.way in
      (rw same came.way, ap (λ (w : Walk). w.1) (head_walk p g lo hi) ∙ marks ∙ ap (λ (v : List ℕ). mark_all v g) (sym same))

  head_goes : (p : ℕ) (g : List ℕ) → 1 ≤ p → p ≤ pages t → HeadHome t r h p → Clear g (calc_read t r h p (64 * p)) → (head_walks t f p g).0 ≡ true
  head_goes p g lo hi way clear =
      let none : homed_read t r p 0 ≡ false = not_true_false _ (λ d. omega (arith, (code_within t a 0 (homed_listed p 0 d)).0)) in
      rw (head_walk p g lo hi)
      ((walk_exactly _ _ always _ (met_shown p lo) (64 * p) _ (λ last. refl) (off p (64 * p) (head_self p)) none (λ z. omega arith)
      (codes t) (homed_listed p) 8256 (codes_short t a) 0 (h p) g).1
      (calc_read t r h p (64 * p), record { way = way; backed = always_backed (64 * p) 0 (calc_read t r h p (64 * p)); clear = clear }))

  -- a record has one home
  heads_apart : (p q x : ℕ) → HeadHome t r h p → HeadHome t r h q → elem x (calc_read t r h p (64 * p)) ≡ true → elem x (calc_read t r h q (64 * q)) ≡ true → p ≡ q
  heads_apart p q x v w e d = sym (homed t r p x (home_detail _ _ (64 * p) (h p) _ v x e)).2 ∙ (homed t r q x (home_detail _ _ (64 * q) (h q) _ w x d)).2

  pub page_within : (p : ℕ) → elem p (run 1 (pages t)) ≡ true → (1 ≤ p) × (p ≤ pages t)
  page_within p e = let w = run_elem p 1 (pages t) e in (w.0, omega (arith, w.1))

  pub head_walks_lem : Walks (head_walks t f) (λ p. calc_read t r h p (64 * p)) (HeadHome t r h) (run 1 (pages t))
  head_walks_lem = record {
    comes = λ p g e. let w = page_within p e in head_comes p g w.0 w.1;
    goes = λ p g e. let w = page_within p e in head_goes p g w.0 w.1;
    apart = λ p q x e d. heads_apart p q x;
  }
