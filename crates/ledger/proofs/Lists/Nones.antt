-- A search's result as an Option, against a definition where 0 stands for none.
use Prim.Native.Nat.{ℕ, zero, suc, ◌<◌}
use Rattle.std.proofs.Common.{◌≡◌, refl, sym, Option, Some, None, Bool, true, false, cond, arith}
use Rattle.std.specs.Prelude.{unwrap_or}
use Rattle.ledger.specs.Numbers.{or_none}

-- From a number to its Option.
pub or_none-zero : {n : ℕ} → n ≡ 0 → or_none n ≡ None
unfolding or_none
or_none-zero e = rw e refl

pub or_none-suc : (n : ℕ) → or_none (suc n) ≡ Some (suc n)
unfolding or_none
or_none-suc n = refl

or_none-some_of : (n : ℕ) → (n ≡ 0 → ⊥) → or_none n ≡ Some n
unfolding or_none
or_none-some_of zero k = absurd (k refl)
or_none-some_of (suc n) k = refl

pub or_none-some : {n : ℕ} → (n ≡ 0 → ⊥) → or_none n ≡ Some n
or_none-some k = or_none-some_of _ k

pub or_none-above : {n : ℕ} → 0 < n → or_none n ≡ Some n
or_none-above l = or_none-some (λ e. omega arith)

-- Results as a function returns them.
pub none_is : {n : ℕ} → n ≡ 0 → None ≡ or_none n
none_is e = sym (or_none-zero e)

pub some_is : {n a : ℕ} → a ≡ n → (n ≡ 0 → ⊥) → Some a ≡ or_none n
some_is e k = rw e (sym (or_none-some k))

pub some_above : {n a : ℕ} → a ≡ n → 0 < n → Some a ≡ or_none n
some_above e l = rw e (sym (or_none-above l))

-- Results as a caller meets them.
pub zero_of_none : {r : Option ℕ} (n : ℕ) → r ≡ or_none n → r ≡ None → n ≡ 0
unfolding or_none
zero_of_none zero e f = refl
zero_of_none (suc n) e f = cc

pub value_of_some : {r : Option ℕ} {a : ℕ} (n : ℕ) → r ≡ or_none n → r ≡ Some a → a ≡ n
unfolding or_none
value_of_some zero e f = cc
value_of_some (suc n) e f = cc

pub some_not_zero : {r : Option ℕ} {a : ℕ} (n : ℕ) → r ≡ or_none n → r ≡ Some a → n ≡ 0 → ⊥
unfolding or_none
some_not_zero zero e f z = cc
some_not_zero (suc n) e f z = cc

pub unwrap_or_none : {r : Option ℕ} (n : ℕ) → r ≡ or_none n → unwrap_or r 0 ≡ n
unfolding or_none
unwrap_or_none zero e = rw e refl
unwrap_or_none (suc n) e = rw e refl

-- A choice of Options is the Option of the choice.
pub or_none-cond : (b : Bool) (m n : ℕ) → or_none (cond b m n) ≡ cond b (or_none m) (or_none n)
or_none-cond true m n = refl
or_none-cond false m n = refl
