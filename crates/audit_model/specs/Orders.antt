-- What the audit finds of the order of sorted rings in any bytes `f`.
use Rattle.std.specs.Prelude.{ℕ, zero, suc, ◌*◌, Bool, true, false, cond, not, List, eqb, ltb}
use Rattle.ledger.specs.Numbers.{run, first_of, less_key, same_key}
use Rattle.ledger.specs.Table.{pages, chains, order, duplicates, is_master}
use Rattle.model.specs.Reads.{kind_in, next_in}
use Rattle.model.specs.Keys.{sort_key_in}
use Rattle.audit_model.specs.Marks.{first_fault}

-- whether two keys are a duplicate that the rule d refuses
unfoldable pub refused_twins : ℕ → List ℕ → List ℕ → Bool
refused_twins d a b = cond (eqb d 2) (same_key a b) false

-- whether key a may stand directly before key b in a chain of order o and duplicates d
unfoldable pub keys_in_order : ℕ → ℕ → List ℕ → List ℕ → Bool
keys_in_order o d a b = cond (refused_twins d a b) false (cond (eqb o 2) (not (less_key b a)) (not (less_key a b)))

-- whether record x may stand directly before record y in chain j
unfoldable pub in_order_in : List ℕ → List ℕ → ℕ → ℕ → ℕ → Bool
in_order_in t f j x y = keys_in_order (order t j) (duplicates t j) (sort_key_in t f j x) (sort_key_in t f j y)

-- whether the ring of master m in chain j is in order, from `at` on
unfoldable pub ordered_from : ℕ → List ℕ → List ℕ → ℕ → ℕ → ℕ → Bool
ordered_from zero t f j m at = false
ordered_from (suc fuel) t f j m at =
    let next = next_in t f j at in
    let rest = ordered_from fuel t f j m next in
    cond (eqb at m) true (cond (eqb next m) true (cond (in_order_in t f j at next) rest false))

unfoldable pub ring_ordered_in : List ℕ → List ℕ → ℕ → ℕ → Bool
ring_ordered_in t f j m = ordered_from 8256 t f j m (next_in t f j m)

-- whether a code is a master of chain j whose ring is out of order
unfoldable pub disordered_in : List ℕ → List ℕ → ℕ → ℕ → Bool
disordered_in t f j c =
    cond (eqb (kind_in f c) 0) false (cond (is_master t j (kind_in f c)) (not (ring_ordered_in t f j c)) false)

-- the lowest such master, where chain j is sorted, or 0
unfoldable pub disorder_in : List ℕ → List ℕ → ℕ → ℕ
disorder_in t f j = cond (ltb (order t j) 2) 0 (first_of (disordered_in t f j) (run 64 (64 * pages t)))

-- the first of all chains
unfoldable pub order_fault_in : List ℕ → List ℕ → ℕ
order_fault_in t f = first_fault (disorder_in t f) (run 0 (chains t))
