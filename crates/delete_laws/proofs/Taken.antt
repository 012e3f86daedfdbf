-- Every marked record taken out of an image: it has no bytes then, and every other has those that it had.
use Prim.Native.Nat.{ℕ, suc, ◌≤◌, ◌<◌}
use mathlib.Core.Path.{◌≡◌, refl, ◌∙◌}
use mathlib.Core.Bool.{true, false}
use mathlib.Core.List.{List, []}
use native.Mathlib.Omega.{arith}
use lib.ListN.{length}
use Rattle.ledger.specs.Numbers.{update}
use Rattle.ledger.specs.Table.{Accepted}
use Rattle.ledger.specs.Image.{Imaged}
use Rattle.ledger.proofs.Lists.Tests.{by_cases, same_or_not, clash, update_same, update_other}
use Rattle.place_laws.proofs.Moves.{record_taken_image}
use Rattle.delete_model.specs.Marks.{goes_in}
use Rattle.delete_model.specs.Closing.{mark_taken, marks_taken}
use Rattle.delete_laws.proofs.Chains.{each_from_lem}

module _ (t f : List ℕ) (r : ℕ → List ℕ) (h : ℕ → ℕ) (a : Accepted t) (i : Imaged t f r h) (k : List ℕ)
    (some : (y : ℕ) → goes_in k y ≡ true → 0 < length (r y)) where
  -- those before code n are taken out
  pub record Taken (n : ℕ) (g : List ℕ) : Type 0 where
    pub left : ℕ → List ℕ
    pub image : Imaged t g left h
    pub gone : (y : ℕ) → y < n → goes_in k y ≡ true → left y ≡ []
    pub stayed : (y : ℕ) → goes_in k y ≡ false → left y ≡ r y
    pub later : (y : ℕ) → n ≤ y → left y ≡ r y

  one_taken : (c : ℕ) (g : List ℕ) → Taken c g → Taken (suc c) (mark_taken g k c)
  unfolding mark_taken
  one_taken c g b = by_cases (goes_in k c)
      (λ m.
      let u = b.left in
      let there : 0 < length (u c) = rw (b.later c (omega arith)) (some c m) in
      rw m (record {
        left = update u c [];
        image = record_taken_image t g u h a b.image c there;
        gone = λ y lt e. same_or_not y c
            (λ q. rw (q, update_same u c []))
            (λ n. update_other u c [] y n ∙ b.gone y (omega arith) e);
        stayed = λ y e. update_other u c [] y (λ q. clash _ m (rw q at e)) ∙ b.stayed y e;
        later = λ y lo. update_other u c [] y (λ q. omega arith) ∙ b.later y (omega arith);
      }))
      (λ m. rw m (record {
        left = b.left;
        image = b.image;
        gone = λ y lt e. same_or_not y c (λ q. clash _ e (rw q m)) (λ n. b.gone y (omega arith) e);
        stayed = b.stayed;
        later = λ y lo. b.later y (omega arith);
      }))

  pub marks_taken_lem : Taken 8256 (marks_taken f k)
  unfolding marks_taken
  marks_taken_lem =
      each_from_lem Taken (λ g c. mark_taken g k c) 8256 0 f (λ c g lo hi b. one_taken c g b)
      (record { left = r; image = i; gone = λ y lt e. absurd (omega arith); stayed = λ y e. refl; later = λ y lo. refl })
