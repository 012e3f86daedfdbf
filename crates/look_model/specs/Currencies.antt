-- The currency over any bytes `f`: arrival at a record of type n and code x, and whether it is in force.
use Rattle.std.specs.Prelude.{ℕ, zero, suc, ◌+◌, Bool, true, cond, not, ◌&&◌, ◌||◌, List, get_or, set, eqb, ltb}
use Rattle.ledger.specs.declared.Currency.{Currency}
use Rattle.ledger.specs.declared.Outcome.{Outcome}
use Rattle.ledger.specs.Table.{types, chains, number, row, in_chain}
use Rattle.ledger.specs.Answers.{done_with, outcome}
use Rattle.model.specs.Reads.{kind_in}

-- chain j's entry after the arrival, `old` before it
unfoldable pub entry_after : List ℕ → ℕ → ℕ → ℕ → ℕ → ℕ
entry_after t n x j old = cond (ltb j (chains t) && in_chain t j n) x old

-- m entries from the j-th on
unfoldable pub entries_from : List ℕ → ℕ → ℕ → List ℕ → ℕ → ℕ → List ℕ
entries_from t n x es j zero = es
entries_from t n x es j (suc m) = entries_from t n x (set es j (entry_after t n x j (get_or es j 0))) (j + 1) m

unfoldable pub arrived_as : List ℕ → Currency → ℕ → ℕ → Currency
arrived_as t cur n x =
    record { run = x; types = set cur.types (row t n) x; chains = entries_from t n x cur.chains 0 16 }

-- a call done by it
abbrev pub arrival : List ℕ → Currency → ℕ → ℕ → ℕ → Outcome
arrival t cur n x count = outcome (done_with x n count) (arrived_as t cur n x)

-- whether an entry is 0 or the code of a record
unfoldable pub points_in : List ℕ → ℕ → Bool
points_in f x = eqb x 0 || not (eqb (kind_in f x) 0)

-- whether the i-th entry, where `count` are used, is 0 or the code of a record whose type suits it
unfoldable pub right_in : List ℕ → ℕ → (ℕ → ℕ → Bool) → ℕ → ℕ → Bool
right_in f count suits i x = eqb x 0 || (ltb i count && not (eqb (kind_in f x) 0) && suits i (kind_in f x))

unfoldable pub type_right_in : List ℕ → List ℕ → ℕ → ℕ → Bool
type_right_in t f = right_in f (types t) (λ i n. eqb n (number t i))

unfoldable pub chain_right_in : List ℕ → List ℕ → ℕ → ℕ → Bool
chain_right_in t f = right_in f (chains t) (in_chain t)

-- whether each of m entries from the i-th on is right by its index
unfoldable pub right_from : (ℕ → ℕ → Bool) → List ℕ → ℕ → ℕ → Bool
right_from right es i zero = true
right_from right es i (suc m) = right i (get_or es i 0) && right_from right es (i + 1) m

unfoldable pub all_right : (ℕ → ℕ → Bool) → List ℕ → Bool
all_right right es = right_from right es 0 16

unfoldable pub in_force_on : List ℕ → List ℕ → Currency → Bool
in_force_on t f cur =
    points_in f cur.run && all_right (type_right_in t f) cur.types && all_right (chain_right_in t f) cur.chains
