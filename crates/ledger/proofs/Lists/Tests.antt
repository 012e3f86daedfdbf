-- Tests: the two cases of a test with the fact, and tests joined.
use Prim.Native.Nat.{ℕ}
use mathlib.Core.Path.{◌≡◌, refl, sym, ◌∙◌}
use mathlib.Core.Logic.{◌≢◌, ◌⊎◌, inl, inr}
use mathlib.Core.Bool.{Bool, true, false, not, ◌&&◌, ◌||◌, true≢false, false≢true}
use lib.Dec.{eqb}
use borrow.Author.Tests.{eqb-true, eqb-false, eq-eqb, ne_eqb}
use Rattle.ledger.specs.Numbers.{update}

pub by_cases {ℓ} : {A : Type ℓ} (b : Bool) → (b ≡ true → A) → (b ≡ false → A) → A
by_cases true f g = f refl
by_cases false f g = g refl

pub same_or_not {ℓ} : {A : Type ℓ} (x y : ℕ) → (x ≡ y → A) → (x ≢ y → A) → A
same_or_not x y f g = by_cases (eqb x y) (λ e. f (eqb-true x y e)) (λ e. g (eqb-false x y e))

pub clash {ℓ} : {A : Type ℓ} (b : Bool) → b ≡ true → b ≡ false → A
clash b p q = absurd (true≢false (sym p ∙ q))

pub not_true_false : (b : Bool) → (b ≡ true → ⊥) → b ≡ false
not_true_false true f = absurd (f refl)
not_true_false false f = refl

pub same_tests : (a b : Bool) → (a ≡ true → b ≡ true) → (b ≡ true → a ≡ true) → a ≡ b
same_tests true b f g = sym (f refl)
same_tests false true f g = g refl
same_tests false false f g = refl

pub neither : (a b : Bool) → (a || b) ≡ false → (a ≡ false) × (b ≡ false)
neither true b h = absurd (true≢false h)
neither false b h = (refl, h)

pub either : (a b : Bool) → (a || b) ≡ true → (a ≡ true) ⊎ (b ≡ true)
either true b h = inl refl
either false b h = inr h

pub both : (a b : Bool) → (a && b) ≡ true → (a ≡ true) × (b ≡ true)
both true b h = (refl, h)
both false b h = absurd (false≢true h)

pub not_or : (a b : Bool) → not (a || b) ≡ (not a && not b)
not_or true b = refl
not_or false b = refl

pub eqb_same : (x : ℕ) → eqb x x ≡ true
eqb_same x = eq-eqb x x refl

-- a function with another value at one place
pub update_same {ℓ} : {A : Type ℓ} (g : ℕ → A) (x : ℕ) (a : A) → update g x a x ≡ a
unfolding update
update_same g x a = rw (eqb_same x)

pub update_other {ℓ} : {A : Type ℓ} (g : ℕ → A) (x : ℕ) (a : A) (y : ℕ) → y ≢ x → update g x a y ≡ g y
unfolding update
update_other g x a y n = rw (ne_eqb y x n)
