-- Marks, a number for each code: a list of codes marked one after another, and which codes are then without mark.
use Prim.Native.Nat.{ℕ, ◌*◌, ◌≤◌, ◌<◌}
use mathlib.Core.Path.{◌≡◌, refl, ◌∙◌}
use mathlib.Core.Logic.{◌≢◌, inl, inr}
use mathlib.Core.Bool.{true, false}
use mathlib.Core.List.{List, [], ◌∷◌, ◌++◌}
use native.Mathlib.Omega.{arith}
use lib.ListN.{length, get_or, set, length-set, length-replicate}
use lib.Seq.{get_or-set_same, get_or-set_other}
use Rattle.ledger.specs.Numbers.{elem, once}
use Rattle.ledger.specs.Table.{pages, Accepted}
use Rattle.ledger.specs.Pages.{codes}
use Rattle.ledger.proofs.Lists.Tests.{by_cases, clash, not_true_false}
use Rattle.ledger.proofs.Lists.Members.{elem_nil, elem_here, elem_tail, elem_cases, run_elem}
use Rattle.ledger.proofs.Lists.Pairs.{once_run}
use Rattle.ledger.proofs.Lists.Parts.{get_d_zeros}
use Rattle.ledger.proofs.Image.ChainRings.{codes_few}
use Rattle.audit_model.specs.Marks.{no_marks}

abbrev pub mark_all : List ℕ → List ℕ → List ℕ
mark_all [] g = g
mark_all (x ∷ xs) g = mark_all xs (set g x 1)

-- no member of a list bears a mark
abbrev pub Clear : List ℕ → List ℕ → Type 0
Clear g xs = (y : ℕ) → elem y xs ≡ true → get_or g y 0 ≡ 0

pub marks_join : (xs ys g : List ℕ) → mark_all (xs ++ ys) g ≡ mark_all ys (mark_all xs g)
marks_join [] ys g = refl
marks_join (x ∷ xs) ys g = marks_join xs ys (set g x 1)

-- a code that is not in the list keeps what it had, and one that is bears a mark
pub marks_else : (xs g : List ℕ) (y : ℕ) → elem y xs ≡ false → get_or (mark_all xs g) y 0 ≡ get_or g y 0
marks_else [] g y e = refl
marks_else (x ∷ xs) g y e =
    let ne : y ≢ x = λ i. clash _ (elem_here x xs) (rw i at e) in
    marks_else xs (set g x 1) y (by_cases (elem y xs) (λ t. clash _ (elem_tail y x xs t) e) (λ f. f)) ∙ get_or-set_other g x y 1 0 ne

pub marks_member : (xs g : List ℕ) (y : ℕ) → elem y xs ≡ true → y < length g → get_or (mark_all xs g) y 0 ≡ 1
marks_member [] g y e lt = elem_nil y e
marks_member (x ∷ xs) g y e lt = by_cases (elem y xs)
    (λ t. marks_member xs (set g x 1) y t (omega (arith, length-set g x 1)))
    (λ f. elim (elem_cases y x xs e) [
      | inl i ↦ marks_else xs (set g x 1) y f ∙ rw i (get_or-set_same g x 1 0 (rw i at lt))
      | inr t ↦ clash _ t f
    ])

-- before the first walk there are none
pub no_marks_lem : (y : ℕ) → get_or no_marks y 0 ≡ 0
unfolding no_marks
no_marks_lem y = get_d_zeros 8256 y

pub marks_room : length no_marks ≡ 8256
unfolding no_marks
marks_room = length-replicate {A = ℕ} 8256 0

-- a file's codes: each has its place among the marks
module _ (t : List ℕ) where
  pub codes_once : once (codes t) ≡ true
  unfolding codes
  codes_once = once_run 64 (64 * pages t)

  pub codes_nonzero : elem 0 (codes t) ≡ false
  unfolding codes
  codes_nonzero = not_true_false _ (λ e. omega (arith, (run_elem 0 64 (64 * pages t) e).0))

  pub code_within : Accepted t → (x : ℕ) → elem x (codes t) ≡ true → (64 ≤ x) × (x < 8256)
  unfolding codes
  code_within a x e = let w = run_elem x 64 (64 * pages t) e in (w.0, omega (arith, w.1, a.page_count.1))

  pub codes_short : Accepted t → length (codes t) < 8256
  codes_short a = omega (arith, codes_few t, a.page_count.1)
