-- MODIFY on any bytes `f`: its refusals, and what it writes. `x` is the run's record, of type n, and `d` its new data.
use Rattle.std.specs.Prelude.{ℕ, zero, suc, ◌+◌, Bool, cond, not, ◌&&◌, ◌||◌, List, length, eqb, ltb}
use Rattle.ledger.specs.Numbers.{any, same_key}
use Rattle.ledger.specs.Table.{chains, row, data_len, calculated, is_detail, calc_key, sort_key}
use Rattle.ledger.specs.Pages.{home}
use Rattle.ledger.specs.Calls.{as_detail}
use Rattle.model.specs.declared.Between.{Between}
use Rattle.model.specs.Reads.{place_in, kind_in, calc_next_in}
use Rattle.model.specs.Keys.{sort_key_in, calc_key_in}
use Rattle.model.specs.Writes.{calc_put}
use Rattle.model.specs.Moves.{part_put}
use Rattle.ring_model.specs.Rings.{master_in, between_in, key_twin_in, calc_twin_in, calc_before_in}
use Rattle.act_model.specs.Storing.{calc_entered}
use Rattle.act_model.specs.Relinking.{stands_in, moved_in}

-- whether x with new data would be a forbidden duplicate of another in a ring of its own
unfoldable pub modify_twin : List ℕ → List ℕ → ℕ → List ℕ → ℕ → Bool
modify_twin t f n d x = any (λ j. key_twin_in t f j (master_in t f j x) (sort_key t j n d) x) (as_detail t n)

-- MODIFY's refusal, or 0
unfoldable pub modify_refusal : List ℕ → List ℕ → ℕ → List ℕ → ℕ
modify_refusal t f x d =
    let n = kind_in f x in
    cond (eqb x 0) 6
    (cond (not (eqb (length d) (data_len t (row t n)))) 8
    (cond (calc_twin_in t f n d x || modify_twin t f n d x) 10 0))

-- whether the key bytes of chain j, in which x is detail, change
unfoldable pub moves_in : List ℕ → List ℕ → ℕ → List ℕ → ℕ → ℕ → Bool
moves_in t f n d x j = ltb j (chains t) && is_detail t j n && not (same_key (sort_key_in t f j x) (sort_key t j n d))

-- where x then joins afresh: under the same master, by its new key
unfoldable pub afresh_in : List ℕ → List ℕ → ℕ → List ℕ → ℕ → ℕ → Between
afresh_in t f n d x j = between_in t f j (master_in t f j x) (sort_key t j n d) x

-- x in its new place in chain j, and so in k chains from j on
unfoldable pub rejoined_in : List ℕ → List ℕ → ℕ → List ℕ → ℕ → ℕ → List ℕ
rejoined_in t f n d x j = cond (moves_in t f n d x j) (moved_in t f j x (stands_in t f j x) (afresh_in t f n d x j)) f

unfoldable pub rejoined_from : List ℕ → List ℕ → ℕ → List ℕ → ℕ → ℕ → ℕ → List ℕ
rejoined_from t f n d x j zero = f
rejoined_from t f n d x j (suc k) = rejoined_from t (rejoined_in t f n d x j) n d x (j + 1) k

unfoldable pub rejoined_all : List ℕ → List ℕ → ℕ → List ℕ → ℕ → List ℕ
rejoined_all t f n d x = rejoined_from t f n d x 0 16

-- whether the bytes of its CALC key change
unfoldable pub calc_moves_in : List ℕ → List ℕ → ℕ → List ℕ → ℕ → Bool
calc_moves_in t f n d x = calculated t n && not (same_key (calc_key_in t f x) (calc_key t n d))

-- what comes before x in its CALC ring, and the file in which x left it
unfoldable pub calc_prior_in : List ℕ → List ℕ → ℕ → ℕ → ℕ
calc_prior_in t f n x = calc_before_in t f (home t n (calc_key_in t f x)) x

unfoldable pub calc_left : List ℕ → List ℕ → ℕ → ℕ → List ℕ
calc_left t f n x = calc_put t f (calc_prior_in t f n x) (calc_next_in t f x)

-- x directly after its new home's header
unfoldable pub calc_rejoined : List ℕ → List ℕ → ℕ → List ℕ → ℕ → List ℕ
calc_rejoined t f n d x = cond (calc_moves_in t f n d x) (calc_entered t (calc_left t f n x) (home t n (calc_key t n d)) x) f

-- its new data
unfoldable pub data_put : List ℕ → ℕ → List ℕ → List ℕ
data_put f x d = cond (eqb (place_in f x) 0) f (part_put f (place_in f x + 5) d)

-- MODIFY
unfoldable pub modified_on : List ℕ → List ℕ → ℕ → List ℕ → List ℕ
modified_on t f x d =
    let n = kind_in f x in
    data_put (calc_rejoined t (rejoined_all t f n d x) n d x) x d
