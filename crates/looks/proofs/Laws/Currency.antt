-- A turn of the walk over a currency's entries, and its end, after i of n; all entries right as a test of each index.
use Rattle.std.proofs.Common.{◌≡◌, ℕ, zero, suc, ◌+◌, ◌-◌, ◌<◌, ◌≤◌, Bool, List, length, set, get_or, arith, add-one, refl}
use lib.Seq.{set_out}
use Rattle.ledger.specs.Numbers.{all, run}
use Rattle.look_model.specs.Currencies.{entry_after, entries_from, right_from}

pub set_past : (es : List ℕ) (k x : ℕ) → length es ≡ 16 → 16 ≤ k → set es k x ≡ es
set_past es k x l h = set_out es k x (omega arith)

module _ (t : List ℕ) (k x : ℕ) (es : List ℕ) (i n : ℕ) where
  pub entries_turn : i < n → entries_from t k x es i (n - i) ≡ entries_from t k x (set es i (entry_after t k x i (get_or es i 0))) (i + 1) (n - (i + 1))
  unfolding entries_from
  entries_turn h = let e : n - i ≡ suc (n - (i + 1)) = omega arith in rw e refl

  pub entries_end : n ≤ i → entries_from t k x es i (n - i) ≡ es
  unfolding entries_from
  entries_end h = let e : n - i ≡ zero = omega arith in rw e refl

pub right_as_all : (right : ℕ → ℕ → Bool) (es : List ℕ) (i n : ℕ) → all (λ k. right k (get_or es k 0)) (run i n) ≡ right_from right es i n
unfolding all run right_from
right_as_all right es i zero = refl
right_as_all right es i (suc n) = rw (right_as_all right es (suc i) n, add-one) refl
