-- The calls that read, on any bytes `f`, with the refusals of Calls in their order.
use Rattle.std.specs.Prelude.{ℕ, Bool, cond, not, ◌&&◌, List, length, eqb, ltb, leb, Result, Ok, Err}
use Rattle.ledger.specs.declared.Currency.{Currency}
use Rattle.ledger.specs.declared.Outcome.{Outcome}
use Rattle.ledger.specs.declared.Refusal.{Refusal}
use Rattle.ledger.specs.declared.Refusal.TheVariants.{Unknown, NoCurrent}
use Rattle.ledger.specs.Numbers.{run, first_of}
use Rattle.ledger.specs.Table.{row, data_len, key_len, sort_len, order, defined, calculated}
use Rattle.ledger.specs.Pages.{home}
use Rattle.ledger.specs.Answers.{done_with, outcome, refusal}
use Rattle.ledger.specs.Currency.{type_current, chain_current}
use Rattle.ledger.specs.Calls.{no_chain}
use Rattle.model.specs.declared.Found.{Found}
use Rattle.model.specs.Reads.{kind_in, next_in, data_in}
use Rattle.model.specs.Moves.{part_put}
use Rattle.ring_model.specs.Rings.{ring_fuel, master_in, before_in, key_found_in, calc_found_in}
use Rattle.look_model.specs.Currencies.{arrival}

-- DIRECT
unfoldable pub direct_on : List ℕ → List ℕ → Currency → ℕ → Outcome
direct_on t f cur x = cond (eqb (kind_in f x) 0) (refusal 9 cur) (arrival t cur (kind_in f x) x 0)

-- arrival at a record that is known to be there
unfoldable pub reached_on : List ℕ → List ℕ → Currency → ℕ → Outcome
reached_on t f cur x = arrival t cur (kind_in f x) x 0

-- KEY and FIND: what was found, and its place
unfoldable pub found_on : List ℕ → List ℕ → Currency → Found → Outcome
found_on t f cur r = cond (eqb r.code 0) (refusal 9 cur) (arrival t cur (kind_in f r.code) r.code r.place)

-- KEY
unfoldable pub key_on : List ℕ → List ℕ → Currency → ℕ → List ℕ → Outcome
key_on t f cur n k =
    cond (not (defined t n)) (refusal 5 cur)
    (cond (not (calculated t n)) (refusal 7 cur)
    (cond (not (eqb (length k) (key_len t (row t n)))) (refusal 8 cur)
    (found_on t f cur (calc_found_in t f (home t n k) n k 0))))

-- CURRENT
unfoldable pub current_on : List ℕ → List ℕ → Currency → ℕ → Outcome
current_on t f cur n =
    cond (not (defined t n)) (refusal 5 cur)
    (cond (eqb (type_current t cur n) 0) (refusal 6 cur) (reached_on t f cur (type_current t cur n)))

-- a call on a chain: refusals 5 and 6 of it, else the chain's current record
unfoldable pub chain_start : List ℕ → Currency → ℕ → Result ℕ Refusal
chain_start t cur j = cond (no_chain t j) (Err Unknown) (cond (eqb (chain_current cur j) 0) (Err NoCurrent) (Ok (chain_current cur j)))

-- the same with what is to be done
abbrev pub on_chain : List ℕ → Currency → ℕ → Outcome → Outcome
on_chain t cur j o = cond (no_chain t j) (refusal 5 cur) (cond (eqb (chain_current cur j) 0) (refusal 6 cur) o)

-- FIND
unfoldable pub find_on : List ℕ → List ℕ → Currency → ℕ → List ℕ → Outcome
find_on t f cur j k =
    on_chain t cur j
    (cond (ltb (order t j) 2) (refusal 7 cur)
    (cond (not (eqb (length k) (sort_len t j))) (refusal 8 cur)
    (found_on t f cur (key_found_in t f j (master_in t f j (chain_current cur j)) k 0))))

-- NEXT, PRIOR and MASTER: from the chain's current record to another of its ring
unfoldable pub along_on : (List ℕ → List ℕ → ℕ → ℕ → ℕ) → List ℕ → List ℕ → Currency → ℕ → Outcome
along_on step t f cur j = on_chain t cur j (reached_on t f cur (step t f j (chain_current cur j)))

unfoldable pub next_on : List ℕ → List ℕ → Currency → ℕ → Outcome
next_on = along_on next_in

unfoldable pub prior_on : List ℕ → List ℕ → Currency → ℕ → Outcome
prior_on = along_on before_in

unfoldable pub master_on : List ℕ → List ℕ → Currency → ℕ → Outcome
master_on = along_on master_in

-- whether code c is from `first` to `last` and has a record; the lowest such code, or 0
unfoldable pub there_in : List ℕ → ℕ → ℕ → ℕ → Bool
there_in f first last c = leb first c && leb c last && not (eqb (kind_in f c) 0)

unfoldable pub first_in : List ℕ → ℕ → ℕ → ℕ
first_in f first last = first_of (there_in f first last) (run 64 ring_fuel)

-- EACH
unfoldable pub each_on : List ℕ → List ℕ → Currency → ℕ → ℕ → Outcome
each_on t f cur first last = direct_on t f cur (first_in f first last)

-- READ, with the output that it leaves
unfoldable pub read_on : List ℕ → List ℕ → Currency → List ℕ → Outcome × List ℕ
read_on t f cur out =
    cond (eqb cur.run 0) (refusal 6 cur, out)
    (cond (ltb (length out) (data_len t (row t (kind_in f cur.run)))) (refusal 12 cur, out)
    (outcome (done_with cur.run (kind_in f cur.run) 0) cur, part_put out 0 (data_in t f cur.run)))
