-- A walk over marks comes home exactly where NEXT leads home over details without mark, with the PRIORs right; and it marks what it met.
-- `ok last x` says whether x may be met after `last`.
use Prim.Native.Nat.{ℕ, zero, suc, ◌<◌}
use mathlib.Core.Path.{◌≡◌, refl, sym, ◌∙◌, ap}
use mathlib.Core.Logic.{◌≢◌, ◌↔◌, inl, inr}
use mathlib.Core.Bool.{Bool, true, false, cond, false≢true}
use mathlib.Core.List.{List, [], ◌∷◌}
use native.Mathlib.Omega.{arith}
use lib.Dec.{eqb}
use lib.ListN.{length, get_or, set}
use lib.Seq.{get_or-set_other}
use borrow.Author.Tests.{eqb-true, eqb-false, eq-eqb, ne_eqb}
use Rattle.ledger.specs.Numbers.{elem}
use Rattle.ledger.proofs.Lists.Tests.{by_cases, clash, same_or_not}
use Rattle.ledger.proofs.Lists.Members.{elem_nil, elem_here, elem_tail, elem_cases}
use Rattle.ledger.proofs.Lists.Pairs.{once_head, pigeons}
use Rattle.ledger.proofs.Audit.Walks.{Home, home_once, home_detail}
use Rattle.audit_model.specs.Marks.{Walk, walk_on}
use Rattle.audit_laws.proofs.Marked.{mark_all, Clear}

-- each of a list may be met after the one before it, the first after `last`, and m after the last
abbrev pub Backed : (ℕ → ℕ → Bool) → ℕ → ℕ → List ℕ → Type 0
Backed ok m last [] = ok last m ≡ true
Backed ok m last (y ∷ ys) = (ok last y ≡ true) × Backed ok m y ys

-- the list of a walk that comes home
pub record Came (nx : ℕ → ℕ) (det : ℕ → Bool) (ok : ℕ → ℕ → Bool) (m last at : ℕ) (g xs : List ℕ) : Type 0 where
  pub way : Home nx det m at xs
  pub backed : Backed ok m last xs
  pub clear : Clear g xs

-- NEXT of a detail without mark that may be met after `last`, else 0
abbrev pub step_of : (ℕ → ℕ) → (ℕ → Bool) → (ℕ → ℕ → Bool) → List ℕ → ℕ → ℕ → ℕ
step_of nx det ok g last at = cond (det at) (cond (eqb (get_or g at 0) 0) (cond (ok last at) (nx at) 0) 0) 0

module _ (nx : ℕ → ℕ) (det : ℕ → Bool) (ok : ℕ → ℕ → Bool) (met : List ℕ → ℕ → ℕ → ℕ)
    (steps : (g : List ℕ) (last at : ℕ) → met g last at ≡ step_of nx det ok g last at)
    (m : ℕ) (back : ℕ → Bool) (at_home : (last : ℕ) → back last ≡ ok last m) where
  step : (g : List ℕ) (last at : ℕ) → det at ≡ true → get_or g at 0 ≡ 0 → ok last at ≡ true → met g last at ≡ nx at
  step g last at d free o = rw (steps g last at, d, free, o)

  only : (g : List ℕ) (last at : ℕ) → met g last at ≢ 0 → (det at ≡ true) × (get_or g at 0 ≡ 0) × (ok last at ≡ true)
  only g last at e = by_cases (det at)
      (λ d. by_cases (eqb (get_or g at 0) 0)
      (λ free. by_cases (ok last at) (λ o. (d, eqb-true _ _ free, o)) (λ o. absurd (e (rw (steps g last at, d, free, o)))))
      (λ free. absurd (e (rw (steps g last at, d, free)))))
      (λ d. absurd (e (rw (steps g last at, d))))

  -- home with a list, which is then marked
  abbrev pub Homes : ℕ → ℕ → ℕ → List ℕ → Type 0
  Homes fuel last at g = (xs : List ℕ) × Came nx det ok m last at g xs × ((walk_on fuel met back m last at g).1 ≡ mark_all xs g)

  came_more : (last at : ℕ) (g xs : List ℕ) → det at ≡ true → get_or g at 0 ≡ 0 → ok last at ≡ true → Came nx det ok m at (nx at) (set g at 1) xs
      → Came nx det ok m last at g (at ∷ xs)
  came_more last at g xs d free o c = record {
    way = (refl, d, c.way);
    backed = (o, c.backed);
    clear = λ y i. same_or_not y at
        (λ q. rw q free)
        (λ q. sym (get_or-set_other g at y 1 0 q) ∙ c.clear y (elim (elem_cases y at xs i) [ inl w ↦ absurd (q w) | inr w ↦ w ]));
  }

  turn : (fuel last at : ℕ) (g : List ℕ) → eqb at m ≡ false → eqb (met g last at) 0 ≡ false
      → walk_on (suc fuel) met back m last at g ≡ walk_on fuel met back m at (nx at) (set g at 1)
  unfolding walk_on
  turn fuel last at g h z = let (d, free, o) = only g last at (eqb-false _ _ z) in rw (h, z, step g last at d free o)

  homes_more : (fuel last at : ℕ) (g : List ℕ) → eqb at m ≡ false → eqb (met g last at) 0 ≡ false → Homes fuel at (nx at) (set g at 1) → Homes (suc fuel) last at g
  homes_more fuel last at g h z w =
      let (d, free, o) = only g last at (eqb-false _ _ z) in
      let (xs, c, marks) = w in
      (at ∷ xs, came_more last at g xs d free o c, ap (λ (v : Walk). v.1) (turn fuel last at g h z) ∙ marks)

  pub walk_came : (fuel last at : ℕ) (g : List ℕ) → (walk_on fuel met back m last at g).0 ≡ true → Homes fuel last at g
  unfolding walk_on
  walk_came zero last at g e = absurd (false≢true e)
  walk_came (suc fuel) last at g e = by_cases (eqb at m)
      (λ h. ([], record { way = eqb-true at m h; backed = sym (at_home last) ∙ (rw h at e); clear = λ y i. elem_nil y i }, rw h))
      (λ h. by_cases (eqb (met g last at) 0)
      (λ z. absurd (false≢true (rw (h, z) at e)))
      (λ z. homes_more fuel last at g h z (walk_came fuel at (nx at) (set g at 1) (rw (turn fuel last at g h z) at e))))

  came_walk : det m ≡ false → det 0 ≡ false → m ≢ 0 → (fuel last at : ℕ) (g xs : List ℕ) → length xs < fuel → Came nx det ok m last at g xs
      → walk_on fuel met back m last at g ≡ (true, mark_all xs g)
  unfolding walk_on
  came_walk off none top zero last at g xs lt c = absurd (omega arith)
  came_walk off none top (suc fuel) last at g [] lt c = rw (eq-eqb at m c.way, at_home last, c.backed)
  came_walk off none top (suc fuel) last at g (y ∷ ys) lt c =
      let (same, d, way) = c.way in
      let ne : at ≢ m = λ e. clash (det y) d (rw (← same, e) off) in
      let free = c.clear y (elem_here y ys) in
      let next : met g last at ≡ nx y = rw same (step g last y d free c.backed.0) in
      let there : nx y ≢ 0 = λ e. onward ys (rw e at way) in
      let clear : Clear (set g y 1) ys = λ z i.
      get_or-set_other g y z 1 0 (λ q. clash _ (rw q at i) (once_head y ys (home_once nx det m at (y ∷ ys) off c.way))) ∙ c.clear z (elem_tail z y ys i) in
      rw (ne_eqb at m ne, next, ne_eqb (nx y) 0 there, same)
      (came_walk off none top fuel y (nx y) (set g y 1) ys (omega arith) (record { way = way; backed = c.backed.1; clear = clear }))
    where
      onward : (zs : List ℕ) → Home nx det m 0 zs → ⊥
      onward [] h = top (sym h)
      onward (z ∷ zs) h = clash (det z) h.1 (rw (← h.0) none)

  -- with fuel for every detail
  pub walk_exactly : det m ≡ false → det 0 ≡ false → m ≢ 0 → (cs : List ℕ) → ((x : ℕ) → det x ≡ true → elem x cs ≡ true) → (fuel : ℕ) → length cs < fuel
      → (last at : ℕ) (g : List ℕ) → ((walk_on fuel met back m last at g).0 ≡ true) ↔ ((xs : List ℕ) × Came nx det ok m last at g xs)
  walk_exactly off none top cs inside fuel enough last at g = (
    λ e. let w = walk_came fuel last at g e in (w.0, w.1),
    λ w.
        let (xs, c) = w in
        let few = pigeons xs cs (home_once nx det m at xs off c.way) (λ y e. inside y (home_detail nx det m at xs c.way y e)) in
        ap (λ (v : Walk). v.0) (came_walk off none top fuel last at g xs (omega (arith, few)) c),
  )

-- Where there are PRIORs, `ok` says that x's is `last`: a walk home is right so exactly where PRIOR undoes NEXT all round.
abbrev pub prior_says : Bool → (ℕ → ℕ) → ℕ → ℕ → Bool
prior_says linked pr last x = cond linked (eqb (pr x) last) true

module _ (nx pr : ℕ → ℕ) (det : ℕ → Bool) (linked : Bool) (m : ℕ) where
  pub backed_undone : (last : ℕ) (xs : List ℕ) → Home nx det m (nx last) xs → Backed (prior_says linked pr) m last xs → linked ≡ true
      → (x : ℕ) → elem x (last ∷ xs) ≡ true → pr (nx x) ≡ x
  backed_undone last [] h b l x e = elim (elem_cases x last [] e) [
    | inl i ↦ rw (i, h) (eqb-true _ _ (rw l at b))
    | inr i ↦ elem_nil x i
  ]
  backed_undone last (y ∷ ys) h b l x e = elim (elem_cases x last (y ∷ ys) e) [
    | inl i ↦ rw (i, h.0) (eqb-true _ _ (rw l at b.0))
    | inr i ↦ backed_undone y ys h.2 b.1 l x i
  ]

  pub undone_backed : (last : ℕ) (xs : List ℕ) → Home nx det m (nx last) xs
      → (linked ≡ true → (x : ℕ) → elem x (last ∷ xs) ≡ true → pr (nx x) ≡ x) → Backed (prior_says linked pr) m last xs
  undone_backed last [] h u = by_cases linked
      (λ l. rw l (eq-eqb _ _ (rw h at (u l last (elem_here last [])))))
      (λ l. rw l)
  undone_backed last (y ∷ ys) h u = (
    by_cases linked (λ l. rw l (eq-eqb _ _ (rw h.0 at (u l last (elem_here last (y ∷ ys)))))) (λ l. rw l),
    undone_backed y ys h.2 (λ l x e. u l x (elem_tail x last (y ∷ ys) e)),
  )
