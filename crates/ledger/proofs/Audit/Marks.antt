-- A walk that marks each code that it meets: when it comes home, when it fails, and how much fuel it takes.
use Prim.Native.Nat.{ℕ, zero, suc, ◌≤◌, ◌<◌}
use mathlib.Core.Path.{◌≡◌, refl, sym, ◌∙◌}
use mathlib.Core.Logic.{◌≢◌}
use mathlib.Core.Bool.{Bool, true, false, not, ◌||◌, or-true, or-false}
use mathlib.Core.List.{List, [], ◌∷◌}
use native.Mathlib.Omega.{arith}
use lib.Dec.{eqb}
use lib.ListN.{length}
use borrow.Author.Tests.{eqb-true, eqb-false, eq-eqb, ne_eqb, not-true}
use Rattle.ledger.specs.Numbers.{elem, update}
use Rattle.ledger.specs.Walks.{Marking, spent, failed, marked, mark_walk, unmarked, marking}
use Rattle.ledger.proofs.Lists.Tests.{by_cases, clash, update_same, update_other}
use Rattle.ledger.proofs.Lists.Members.{elem_here, elem_tail}
use Rattle.ledger.proofs.Lists.Sieves.{length_keep, keep_fewer}
use Rattle.ledger.proofs.Lists.Pairs.{once_head}
use Rattle.ledger.proofs.Audit.Walks.{Home, home_once, home_one}

pub marked_spent : {g : ℕ → Bool} → marked g ≡ spent → ⊥
marked_spent e = let z : ◌≡◌ {A = ℕ} 0 1 = cc in omega arith

pub marked_failed : {g : ℕ → Bool} → marked g ≡ failed → ⊥
marked_failed e = let z : ◌≡◌ {A = ℕ} 0 1 = cc in omega arith

pub marked_inj : {g h : ℕ → Bool} → marked g ≡ marked h → g ≡ h
marked_inj e = cc

failed_spent : failed ≡ spent → ⊥
failed_spent e = let z : ◌≡◌ {A = ℕ} 0 1 = cc in omega arith

pub unmarked_most : (cs : List ℕ) (g : ℕ → Bool) → unmarked cs g ≤ length cs
unfolding unmarked
unmarked_most cs g = length_keep (λ y. not (g y)) cs

mark_or : (g : ℕ → Bool) (x y : ℕ) (ys : List ℕ) → (update g x true y || elem y ys) ≡ (g y || elem y (x ∷ ys))
unfolding update elem
mark_or g x y ys = by_cases (eqb y x) (λ t. rw (t, or-true)) (λ f. rw f)

pub marking_fewer : (cs : List ℕ) (g : ℕ → Bool) (x : ℕ) → g x ≡ false → elem x cs ≡ true → unmarked cs (update g x true) < unmarked cs g
unfolding unmarked
marking_fewer cs g x f e =
    keep_fewer (λ y. not (update g x true y)) (λ y. not (g y)) x cs
    (λ y q. by_cases (eqb y x)
    (λ t. clash (update g x true y) (rw (eqb-true y x t) (update_same g x true)) (not-true _ q))
    (λ o. rw (← update_other g x true y (eqb-false y x o)) q))
    (rw (update_same g x true)) (rw f) e

module _ (nx : ℕ → ℕ) (det : ℕ → Bool) where
  -- fuel for each code without mark is enough
  pub never_spent : (cs : List ℕ) → ((x : ℕ) → det x ≡ true → elem x cs ≡ true) → (fuel m x : ℕ) (g : ℕ → Bool)
      → unmarked cs g < fuel → mark_walk fuel nx det m x g ≡ spent → ⊥
  unfolding mark_walk
  never_spent cs inside zero m x g lt e = omega arith
  never_spent cs inside (suc fuel) m x g lt e =
      by_cases (eqb x m)
      (λ a. marked_spent (rw a at e))
      (λ a. by_cases (det x)
      (λ b. by_cases (g x)
      (λ c. failed_spent (rw (a, b, c) at e))
      (λ c. never_spent cs inside fuel m (nx x) (update g x true) (omega (arith, marking_fewer cs g x c (inside x b))) (rw (a, b, c) at e)))
      (λ b. failed_spent (rw (a, b) at e)))

  pub fuel_enough : (cs : List ℕ) → ((x : ℕ) → det x ≡ true → elem x cs ≡ true) → (fuel more m x : ℕ) (g : ℕ → Bool)
      → unmarked cs g < fuel → unmarked cs g < more → mark_walk fuel nx det m x g ≡ mark_walk more nx det m x g
  unfolding mark_walk
  fuel_enough cs inside zero more m x g lt lu = absurd (omega arith)
  fuel_enough cs inside (suc fuel) zero m x g lt lu = absurd (omega arith)
  fuel_enough cs inside (suc fuel) (suc more) m x g lt lu =
      by_cases (eqb x m)
      (λ a. rw a)
      (λ a. by_cases (det x)
      (λ b. by_cases (g x)
      (λ c. rw (a, b, c))
      (λ c.
      let less = marking_fewer cs g x c (inside x b) in
      rw (a, b, c) (fuel_enough cs inside fuel more m (nx x) (update g x true) (omega (arith, less)) (omega (arith, less)))))
      (λ b. rw (a, b)))

  -- it fails only where the walk does not come home, if it starts with no mark on that walk
  pub home_never_fails : (fuel m x : ℕ) (g : ℕ → Bool) (xs : List ℕ) → det m ≡ false → Home nx det m x xs
      → ((y : ℕ) → elem y xs ≡ true → g y ≡ false) → mark_walk fuel nx det m x g ≡ failed → ⊥
  unfolding mark_walk
  home_never_fails zero m x g xs off h clear e = failed_spent (sym e)
  home_never_fails (suc fuel) m x g [] off h clear e = marked_failed (rw (eq-eqb x m h) at e)
  home_never_fails (suc fuel) m x g (y ∷ ys) off h clear e =
      let ne : y ≢ m = λ q. clash (det y) h.1 (rw q off) in
      let fresh = once_head y ys (home_once nx det m y (y ∷ ys) off (refl, h.1, h.2)) in
      home_never_fails fuel m (nx y) (update g y true) ys off h.2
      (λ z q. rw (update_other g y true z (λ r. clash (elem z ys) q (rw r fresh))) (clear z (elem_tail z y ys q)))
      (rw (h.0, ne_eqb y m ne, h.1, clear y (elem_here y ys)) at e)

  -- where it comes home, so does the walk; its members bore no mark before, and they are the marks set
  pub marked_home : (fuel m x : ℕ) (g h : ℕ → Bool) → mark_walk fuel nx det m x g ≡ marked h
      → (xs : List ℕ) × Home nx det m x xs × ((y : ℕ) → h y ≡ (g y || elem y xs))
  unfolding mark_walk elem
  marked_home zero m x g h e = absurd (marked_spent (sym e))
  marked_home (suc fuel) m x g h e =
      by_cases (eqb x m)
      (λ a. ([], eqb-true x m a, λ y. rw (elem, or-false, marked_inj (rw a at e))))
      (λ a. by_cases (det x)
      (λ b. by_cases (g x)
      (λ c. absurd (marked_failed (sym (rw (a, b, c) at e))))
      (λ c.
      let r = marked_home fuel m (nx x) (update g x true) h (rw (a, b, c) at e) in
      (x ∷ r.0, (refl, b, r.1), λ y. r.2 y ∙ mark_or g x y r.0)))
      (λ b. absurd (marked_failed (sym (rw (a, b) at e)))))

  -- with fuel for each code without mark, a walk that comes home with no mark on it is marked
  pub home_marked : (cs : List ℕ) → ((x : ℕ) → det x ≡ true → elem x cs ≡ true) → (fuel m x : ℕ) (g : ℕ → Bool) (xs : List ℕ)
      → unmarked cs g < fuel → det m ≡ false → Home nx det m x xs → ((y : ℕ) → elem y xs ≡ true → g y ≡ false)
      → (h : ℕ → Bool) × (mark_walk fuel nx det m x g ≡ marked h) × ((y : ℕ) → h y ≡ (g y || elem y xs))
  home_marked cs inside fuel m x g xs lt off way clear = go (mark_walk fuel nx det m x g) refl
    where
      go : (r : Marking) → mark_walk fuel nx det m x g ≡ r → (h : ℕ → Bool) × (mark_walk fuel nx det m x g ≡ marked h) × ((y : ℕ) → h y ≡ (g y || elem y xs))
      go spent e = absurd (never_spent cs inside fuel m x g lt e)
      go failed e = absurd (home_never_fails fuel m x g xs off way clear e)
      go (marked h) e =
          let r = marked_home fuel m x g h e in
          (h, e, rw (home_one nx det m m x xs r.0 off off way r.1).1 r.2)

-- the steps of a walk with marks: what a loop of the code keeps, with unmarked for its measure
module _ (cs : List ℕ) (nx : ℕ → ℕ) (det : ℕ → Bool) (m x : ℕ) (g : ℕ → Bool) where
  pub marking_home : x ≡ m → marking cs nx det m x g ≡ marked g
  unfolding marking mark_walk
  marking_home e = rw (eq-eqb x m e)

  pub marking_stray : x ≢ m → det x ≡ false → marking cs nx det m x g ≡ failed
  unfolding marking mark_walk
  marking_stray a b = rw (ne_eqb x m a, b)

  pub marking_again : x ≢ m → g x ≡ true → marking cs nx det m x g ≡ failed
  unfolding marking mark_walk
  marking_again a c = rw (ne_eqb x m a, c) (by_cases (det x) (λ t. rw t) (λ f. rw f))

  pub marking_on : ((y : ℕ) → det y ≡ true → elem y cs ≡ true) → x ≢ m → det x ≡ true → g x ≡ false
      → marking cs nx det m x g ≡ marking cs nx det m (nx x) (update g x true)
  unfolding marking mark_walk
  marking_on inside a b c =
      rw (ne_eqb x m a, b, c)
      (fuel_enough nx det cs inside (unmarked cs g) (suc (unmarked cs (update g x true))) m (nx x) (update g x true)
      (marking_fewer cs g x c (inside x b)) (omega arith))
