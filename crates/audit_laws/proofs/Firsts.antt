-- The first of a list that passes, and the first fault of a list: when there is none, and of a run that it is the lowest.
use Prim.Native.Nat.{ℕ, zero, suc, ◌+◌, ◌≤◌, ◌<◌}
use mathlib.Core.Path.{◌≡◌, refl, ◌∙◌}
use mathlib.Core.Logic.{◌≢◌, ◌↔◌, inl, inr}
use mathlib.Core.Bool.{Bool, true, false, cond}
use mathlib.Core.List.{List, [], ◌∷◌, ◌++◌}
use native.Mathlib.Omega.{arith}
use lib.Dec.{eqb}
use borrow.Author.Tests.{eqb-true, eqb-false, eq-eqb}
use Rattle.ledger.specs.Numbers.{elem, run, first_of}
use Rattle.ledger.proofs.Lists.Tests.{by_cases, same_or_not, clash, not_true_false}
use Rattle.ledger.proofs.Lists.Members.{elem_nil, elem_here, elem_tail, elem_cases}
use Rattle.audit_model.specs.Marks.{first_fault}
use Rattle.audit_model.specs.Faults.{first_place}

-- the first of a list that passes is 0 exactly where none passes
pub none_first : (p : ℕ → Bool) (xs : List ℕ) → elem 0 xs ≡ false → (first_of p xs ≡ 0) ↔ ((x : ℕ) → elem x xs ≡ true → p x ≡ false)
unfolding first_of
none_first p xs z = (out xs z, into xs)
  where
    out : (xs : List ℕ) → elem 0 xs ≡ false → first_of p xs ≡ 0 → (x : ℕ) → elem x xs ≡ true → p x ≡ false
    out [] z e x i = elem_nil x i
    out (y ∷ ys) z e x i = by_cases (p y)
        (λ h. let q : y ≡ 0 = rw h at e in clash _ (elem_here y ys) (rw (← q) at z))
        (λ h. elim (elem_cases x y ys i) [
          | inl q ↦ rw q h
          | inr q ↦ out ys (not_true_false _ (λ j. clash _ (elem_tail 0 y ys j) z)) (rw h at e) x q
        ])

    into : (xs : List ℕ) → ((x : ℕ) → elem x xs ≡ true → p x ≡ false) → first_of p xs ≡ 0
    into [] none = refl
    into (y ∷ ys) none = rw (none y (elem_here y ys)) (into ys (λ x i. none x (elem_tail x y ys i)))

-- a sweep's fault, else another
pub neither_fault : (a b c : ℕ) → (a ≢ 0 → c ≢ 0) → (cond (eqb a 0) b c ≡ 0) ↔ ((a ≡ 0) × (b ≡ 0))
neither_fault a b c some = (
  λ e. by_cases (eqb a 0) (λ h. (eqb-true _ _ h, rw h at e)) (λ h. absurd (some (eqb-false _ _ h) (rw h at e))),
  λ e. rw e.0 e.1,
)

-- there is no first fault exactly where there is none
pub no_fault : (fault : ℕ → ℕ) (xs : List ℕ) → (first_fault fault xs ≡ 0) ↔ ((x : ℕ) → elem x xs ≡ true → fault x ≡ 0)
unfolding first_fault
no_fault fault xs = (out xs, into xs)
  where
    out : (xs : List ℕ) → first_fault fault xs ≡ 0 → (x : ℕ) → elem x xs ≡ true → fault x ≡ 0
    out [] e x i = elem_nil x i
    out (y ∷ ys) e x i = by_cases (eqb (fault y) 0)
        (λ h. elim (elem_cases x y ys i) [ inl q ↦ rw q (eqb-true _ _ h) | inr q ↦ out ys (rw h at e) x q ])
        (λ h. absurd (eqb-false _ _ h (rw h at e)))

    into : (xs : List ℕ) → ((x : ℕ) → elem x xs ≡ true → fault x ≡ 0) → first_fault fault xs ≡ 0
    into [] none = refl
    into (y ∷ ys) none = rw (eq-eqb _ _ (none y (elem_here y ys))) (into ys (λ x i. none x (elem_tail x y ys i)))

-- the first of two places is none exactly where both are
pub first_place_lem : (a b : ℕ) → (first_place a b ≡ 0) ↔ ((a ≡ 0) × (b ≡ 0))
unfolding first_place
first_place_lem a b = (
  λ h. by_cases (eqb a 0) (λ e. (eqb-true a 0 e, rw e at h)) (λ e. absurd (eqb-false a 0 e (rw e at h))),
  λ h. rw (eq-eqb a 0 h.0) h.1,
)

-- what is lower than a member stands before it
pub run_before : (k n x c : ℕ) (ys zs : List ℕ) → run k n ≡ ys ++ x ∷ zs → k ≤ c → c < x → elem c ys ≡ true
unfolding run
run_before k zero x c [] zs e lo lt = let z : ◌≡◌ {A = ℕ} 0 1 = cc in absurd (omega arith)
run_before k zero x c (y ∷ ys) zs e lo lt = let z : ◌≡◌ {A = ℕ} 0 1 = cc in absurd (omega arith)
run_before k (suc n) x c [] zs e lo lt = let q : k ≡ x = cc in absurd (omega arith)
run_before k (suc n) x c (y ∷ ys) zs e lo lt =
    let q : k ≡ y = cc in
    let rest : run (suc k) n ≡ ys ++ x ∷ zs = cc in
    same_or_not c y
    (λ s. rw s (elem_here y ys))
    (λ s. elem_tail c y ys (run_before (suc k) n x c ys zs rest (omega arith) lt))

pub first_lowest : (p : ℕ → Bool) (k n : ℕ) → first_of p (run k n) ≢ 0 → (y : ℕ) → k ≤ y → y < first_of p (run k n) → p y ≡ false
unfolding first_of run
first_lowest p k zero e y lo lt = absurd (e refl)
first_lowest p k (suc n) e y lo lt = by_cases (p k)
    (λ h. let q : y < k = rw h at lt in absurd (omega arith))
    (λ h. same_or_not y k
    (λ s. rw s h)
    (λ s. first_lowest p (suc k) n (rw h at e) y (omega arith) (rw h at lt)))

-- the fault of the first that has one
pub record Foremost (fault : ℕ → ℕ) (k n j : ℕ) : Type 0 where
  pub from : k ≤ j
  pub to : j < k + n
  pub clean : (i : ℕ) → k ≤ i → i < j → fault i ≡ 0

pub first_fault_lem : (fault : ℕ → ℕ) (k n : ℕ) → first_fault fault (run k n) ≢ 0 → (j : ℕ) × Foremost fault k n j × (first_fault fault (run k n) ≡ fault j)
unfolding first_fault run
first_fault_lem fault k zero e = absurd (e refl)
first_fault_lem fault k (suc n) e = by_cases (eqb (fault k) 0)
    (λ h.
    let (j, w, same) = first_fault_lem fault (suc k) n (rw h at e) in
    let turn : first_fault fault (run k (suc n)) ≡ first_fault fault (run (suc k) n) = rw h in (
      j,
      record {
        from = omega (arith, w.from);
        to = omega (arith, w.to);
        clean = λ i lo lt. same_or_not i k (λ s. rw s (eqb-true _ _ h)) (λ s. w.clean i (omega arith) lt);
      },
      turn ∙ same,
    ))
    (λ h. (k, record { from = omega arith; to = omega arith; clean = λ i lo lt. absurd (omega arith) }, rw h))
