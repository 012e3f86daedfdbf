-- The table's rows.
use Rattle.std.proofs.Common.{◌≡◌, refl, ℕ, zero, suc, ◌+◌, Bool, true, false, cond, eqb, List, Some, arith}
use Rattle.std.specs.Prelude.{unwrap_or}
use Rattle.std.specs.List.{find}
use Rattle.ledger.specs.Numbers.{run}
use Rattle.ledger.specs.Table.{number, row_from}

-- row_of
pub find-row : (t : List ℕ) (n i k m : ℕ) → m ≡ i + k → unwrap_or (find (λ i. eqb (number t i) n) (run i k)) m ≡ row_from t n i k
unfolding run row_from
find-row t n i zero m e = omega arith
find-row t n i (suc k) m e = by_test (eqb (number t i) n) (find-row t n (suc i) k m (omega arith))
  where
    by_test : (b : Bool) → unwrap_or (find (λ i. eqb (number t i) n) (run (suc i) k)) m ≡ row_from t n (suc i) k
        → unwrap_or (cond b (Some i) (find (λ i. eqb (number t i) n) (run (suc i) k))) m ≡ cond b i (row_from t n (suc i) k)
    by_test true e = refl
    by_test false e = e
