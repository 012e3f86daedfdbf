-- Walks round rings in any bytes `f`, as the code goes them; `m` is a ring's master, and `x` a record that is passed over (0: none).
use Rattle.std.specs.Prelude.{ℕ, zero, suc, ◌+◌, ◌*◌, ◌%◌, Bool, true, false, cond, not, ◌&&◌, List, Option, Some, None, eqb, leb}
use Rattle.ledger.specs.Numbers.{less_key, same_key}
use Rattle.ledger.specs.Table.{order, duplicates, linked_prior, calculated, is_master, calc_key}
use Rattle.ledger.specs.Pages.{line_of, home}
use Rattle.model.specs.declared.Between.{Between}
use Rattle.model.specs.declared.Found.{Found}
use Rattle.model.specs.Reads.{kind_in, next_in, prior_in, calc_next_in, head_next_in}
use Rattle.model.specs.Keys.{sort_key_in, calc_key_in}

-- a turn for every code that a file can have
abbrev pub ring_fuel : ℕ
ring_fuel = 8256

-- the master of the ring that holds record c: the first of the master type from c on
unfoldable pub master_from : List ℕ → List ℕ → ℕ → ℕ → ℕ → ℕ
master_from t f j at zero = at
master_from t f j at (suc n) = let rest = master_from t f j (next_in t f j at) n in cond (is_master t j (kind_in f at)) at rest

unfoldable pub master_in : List ℕ → List ℕ → ℕ → ℕ → ℕ
master_in t f j c = master_from t f j c ring_fuel

-- along a ring's `next`: the one before c, `last` where `at`, the one after it, is c
unfoldable pub back_from : (ℕ → ℕ) → ℕ → ℕ → ℕ → ℕ → ℕ
back_from next c last at zero = last
back_from next c last at (suc n) = let rest = back_from next c at (next at) n in cond (eqb at c) last rest

-- the record whose NEXT is c, found by going round
unfoldable pub back_in : List ℕ → List ℕ → ℕ → ℕ → ℕ
back_in t f j c = back_from (next_in t f j) c c (next_in t f j c) ring_fuel

-- the record before c, by its PRIOR where the chain has them
unfoldable pub before_in : List ℕ → List ℕ → ℕ → ℕ → ℕ
before_in t f j c = cond (eqb (linked_prior t j) 1) (prior_in t f j c) (back_in t f j c)

-- whether key a goes before key b in rising order; d is the duplicates rule, which decides on equal keys
unfoldable pub goes_before : ℕ → List ℕ → List ℕ → Bool
goes_before d a b = cond (eqb d 0) (not (less_key b a)) (less_key a b)

-- whether a key stops another that goes along a ring of chain j to its place: `stops` of Calls, over two keys
unfoldable pub key_stops : List ℕ → ℕ → List ℕ → List ℕ → Bool
key_stops t j key other =
    cond (eqb (order t j) 0) true
    (cond (eqb (order t j) 1) false
    (cond (eqb (order t j) 2) (goes_before (duplicates t j) key other) (goes_before (duplicates t j) other key)))

unfoldable pub stops_in : List ℕ → List ℕ → ℕ → List ℕ → ℕ → Bool
stops_in t f j key y = key_stops t j key (sort_key_in t f j y)

-- the record after `at` in the ring without x
unfoldable pub next_without_in : List ℕ → List ℕ → ℕ → ℕ → ℕ → ℕ
next_without_in t f j x at = cond (eqb (next_in t f j at) x) (next_in t f j x) (next_in t f j at)

-- the two between which a record with this key joins the ring without x
unfoldable pub between_from : List ℕ → List ℕ → ℕ → ℕ → List ℕ → ℕ → ℕ → ℕ → Between
between_from t f j m key x before zero = record { before = before; after = m }
between_from t f j m key x before (suc n) =
    let after : ℕ = next_without_in t f j x before in
    let here : Between = record { before = before; after = after } in
    let rest = between_from t f j m key x after n in
    cond (eqb after m) here (cond (stops_in t f j key after) here rest)

unfoldable pub between_in : List ℕ → List ℕ → ℕ → ℕ → List ℕ → ℕ → Between
between_in t f j m key x = between_from t f j m key x m ring_fuel

-- whether record c is another than x and has this key
unfoldable pub has_key_in : List ℕ → List ℕ → ℕ → List ℕ → ℕ → ℕ → Bool
has_key_in t f j key x c = not (eqb c x) && same_key (sort_key_in t f j c) key

abbrev pub not_found : Found
not_found = record { code = 0; place = 0 }

-- None where no place was found
unfoldable pub found_or_none : Found → Option Found
found_or_none r = cond (eqb r.place 0) None (Some r)

-- along a ring's `next` from `at` on: the first that passes before home, and its place, the links followed to it
unfoldable pub found_from : (ℕ → ℕ) → (ℕ → Bool) → (ℕ → Bool) → ℕ → ℕ → ℕ → Found
found_from next home passes at place zero = not_found
found_from next home passes at place (suc n) =
    let rest = found_from next home passes (next at) (place + 1) n in
    cond (home at) not_found (cond (passes at) (record { code = at; place = place }) rest)

-- the first other than x of the ring of m with this key
unfoldable pub key_found_in : List ℕ → List ℕ → ℕ → ℕ → List ℕ → ℕ → Found
key_found_in t f j m key x = found_from (next_in t f j) (λ y. eqb y m) (has_key_in t f j key x) (next_in t f j m) 1 ring_fuel

-- whether a record with this key would be a forbidden duplicate in it
unfoldable pub key_twin_in : List ℕ → List ℕ → ℕ → ℕ → List ℕ → ℕ → Bool
key_twin_in t f j m key x = leb 2 (order t j) && eqb (duplicates t j) 2 && not (eqb (key_found_in t f j m key x).place 0)

-- whether record c is another than x, of type n, and has this CALC key
unfoldable pub has_calc_key_in : List ℕ → List ℕ → ℕ → List ℕ → ℕ → ℕ → Bool
has_calc_key_in t f n key x c = not (eqb c x) && eqb (kind_in f c) n && same_key (calc_key_in t f c) key

-- the first such of page p's CALC ring; its header's code has line 0
unfoldable pub calc_found_in : List ℕ → List ℕ → ℕ → ℕ → List ℕ → ℕ → Found
calc_found_in t f p n key x = found_from (calc_next_in t f) (λ y. eqb (line_of y) 0) (has_calc_key_in t f n key x) (head_next_in f p) 1 ring_fuel

-- whether a record of type n with data d would be a forbidden duplicate by its CALC key
unfoldable pub calc_twin_in : List ℕ → List ℕ → ℕ → List ℕ → ℕ → Bool
calc_twin_in t f n d x =
    let key : List ℕ = calc_key t n d in
    calculated t n && not (eqb (calc_found_in t f (home t n key) n key x).place 0)

-- what comes before code c in page p's CALC ring: a record, or the header
unfoldable pub calc_before_in : List ℕ → List ℕ → ℕ → ℕ → ℕ
calc_before_in t f p c = back_from (calc_next_in t f) c (64 * (p % 65536)) (head_next_in f p) ring_fuel
