-- STORE on any bytes `f`: its refusals up to 10, and what it writes. `x` is the new record's code.
use Rattle.std.specs.Prelude.{ℕ, zero, suc, ◌+◌, ◌*◌, ◌%◌, Bool, cond, not, ◌&&◌, ◌||◌, List, length, get_or, map, eqb, ltb}
use Rattle.ledger.specs.declared.Currency.{Currency}
use Rattle.ledger.specs.Numbers.{any, run}
use Rattle.ledger.specs.Table.{chains, row, data_len, defined, calculated, is_detail, in_chain, calc_key, sort_key}
use Rattle.ledger.specs.Pages.{record_size, home}
use Rattle.ledger.specs.Currency.{chain_current}
use Rattle.ledger.specs.Calls.{as_detail}
use Rattle.model.specs.declared.Gap.{Gap}
use Rattle.model.specs.declared.Between.{Between}
use Rattle.model.specs.Reads.{head_next_in}
use Rattle.ledger.specs.Bytes.{page_in}
use Rattle.model.specs.Room.{first_gap}
use Rattle.model.specs.Writes.{calc_next_put, head_put, linked_in}
use Rattle.model.specs.Moves.{put_in}
use Rattle.ring_model.specs.Rings.{between_in, key_twin_in, calc_twin_in}
use Rattle.act_model.specs.Placing.{occurrence_in}

-- whether a chain in which the type is detail has no current record
unfoldable pub lacks_current : List ℕ → Currency → ℕ → Bool
lacks_current t cur n = any (λ j. eqb (chain_current cur j) 0) (as_detail t n)

-- whether the record would be a forbidden duplicate in the occurrence of a chain
unfoldable pub store_twin : List ℕ → List ℕ → Currency → ℕ → List ℕ → Bool
store_twin t f cur n d = any (λ j. key_twin_in t f j (occurrence_in t f cur j) (sort_key t j n d) 0) (as_detail t n)

-- STORE's refusal before its place is looked for, or 0
unfoldable pub store_refusal : List ℕ → List ℕ → Currency → ℕ → List ℕ → ℕ
store_refusal t f cur n d =
    cond (not (defined t n)) 5
    (cond (lacks_current t cur n) 6
    (cond (not (eqb (length d) (data_len t (row t n)))) 8
    (cond (calc_twin_in t f n d 0 || store_twin t f cur n d) 10 0)))

-- the neighbours of x in chain j: those of its place in the occurrence, or x itself where it is a master
unfoldable pub gap_in : List ℕ → List ℕ → Currency → ℕ → List ℕ → ℕ → ℕ → Between
gap_in t f cur n d x j =
    cond (is_detail t j n) (between_in t f j (occurrence_in t f cur j) (sort_key t j n d) 0) (record { before = x; after = x })

-- the neighbours that g says for each chain, as the code keeps them
unfoldable pub places_by : (ℕ → Between) → List Between
places_by g = map g (run 0 16)

unfoldable pub place_at : List Between → ℕ → Between
place_at ps j = get_or ps j (record { before = 0; after = 0 })

-- x linked between two in chain j, where its type is in it
unfoldable pub entered_in : List ℕ → List ℕ → ℕ → ℕ → ℕ → Between → List ℕ
entered_in t f n x j g = cond (ltb j (chains t) && in_chain t j n) (linked_in t f j x g.before g.after) f

-- x linked in k chains from j on, in each between what g says
unfoldable pub entered_from : List ℕ → List ℕ → ℕ → ℕ → (ℕ → Between) → ℕ → ℕ → List ℕ
entered_from t f n x g j zero = f
entered_from t f n x g j (suc k) = entered_from t (entered_in t f n x j (g j)) n x g (j + 1) k

unfoldable pub entered_all : List ℕ → List ℕ → ℕ → ℕ → (ℕ → Between) → List ℕ
entered_all t f n x g = entered_from t f n x g 0 16

-- x directly after page p's header, and there by its CALC key where its type is calculated
unfoldable pub calc_entered : List ℕ → List ℕ → ℕ → ℕ → List ℕ
calc_entered t f p x = head_put (calc_next_put t f x (head_next_in f p)) p x

unfoldable pub calc_joined : List ℕ → List ℕ → ℕ → List ℕ → ℕ → List ℕ
calc_joined t f n d x = cond (calculated t n) (calc_entered t f (home t n (calc_key t n d)) x) f

-- the record put into a gap of page p as x, and linked in each chain between what g says
unfoldable pub stored_with : List ℕ → List ℕ → ℕ → List ℕ → ℕ → Gap → ℕ → (ℕ → Between) → List ℕ
stored_with t f n d p gap x g = calc_joined t (entered_all t (put_in f p gap n (record_size t n % 65536) d) n x g) n d x

-- its code on page p
unfoldable pub stored_code : ℕ → Gap → ℕ
stored_code p gap = 64 * (p % 65536) + gap.line

-- STORE on page p: the new record's code, and the file
unfoldable pub stored_on : List ℕ → List ℕ → Currency → ℕ → List ℕ → ℕ → ℕ × List ℕ
stored_on t f cur n d p =
    let gap = first_gap (page_in f p) in
    let x = stored_code p gap in
    (x, stored_with t f n d p gap x (gap_in t f cur n d x))
