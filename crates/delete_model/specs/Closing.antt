-- A deletion carried out on a file: rings closed over what is marked in `k`, then the marked records taken out.
use Rattle.std.specs.Prelude.{ℕ, zero, suc, ◌+◌, ◌*◌, ◌%◌, cond, List, eqb}
use Rattle.ledger.specs.Table.{pages, chains, is_master}
use Rattle.model.specs.Reads.{kind_in, next_in, calc_next_in, head_next_in}
use Rattle.model.specs.Writes.{calc_put, joined_in}
use Rattle.model.specs.Moves.{take_out}
use Rattle.ring_model.specs.Rings.{ring_fuel}
use Rattle.delete_model.specs.Marks.{marks_size, goes_in}

-- the last of a ring that stays, and the file then
abbrev pub Closed : Type 0
Closed = ℕ × List ℕ

-- `at` made to follow `last` by `join`, where it stays
unfoldable pub step_on : (List ℕ → ℕ → ℕ → List ℕ) → List ℕ → List ℕ → ℕ → ℕ → Closed
step_on join f k last at = cond (goes_in k at) (last, f) (at, join f last at)

-- a ring closed from `at` on until home; `last` is the last before that stays
unfoldable pub close_from : (List ℕ → ℕ → ℕ) → (List ℕ → ℕ → ℕ → List ℕ) → List ℕ → ℕ → List ℕ → ℕ → ℕ → ℕ → List ℕ
close_from next join k home f last at zero = f
close_from next join k home f last at (suc left) =
    let s : Closed = step_on join f k last at in
    cond (eqb at home) (join f last home) (close_from next join k home s.1 s.0 (next f at) left)

-- the ring of master m in chain j
unfoldable pub ring_closed : List ℕ → List ℕ → List ℕ → ℕ → ℕ → List ℕ
ring_closed t f k j m =
    close_from (λ g at. next_in t g j at) (λ g b a. joined_in t g j b a) k m f m (next_in t f j m) ring_fuel

-- the CALC ring of page p
unfoldable pub calc_closed : List ℕ → List ℕ → List ℕ → ℕ → List ℕ
calc_closed t f k p =
    let head : ℕ = 64 * (p % 65536) in
    close_from (λ g at. calc_next_in t g at) (λ g b a. calc_put t g b a) k head f head (head_next_in f p) ring_fuel

-- the ring of code c in chain j, where c is a master that stays
unfoldable pub code_closed : List ℕ → List ℕ → List ℕ → ℕ → ℕ → List ℕ
code_closed t f k j c =
    cond (goes_in k c) f (cond (eqb (kind_in f c) 0) f (cond (is_master t j (kind_in f c)) (ring_closed t f k j c) f))

-- record c taken out, where it is marked
unfoldable pub mark_taken : List ℕ → List ℕ → ℕ → List ℕ
mark_taken f k c = cond (goes_in k c) (take_out f c) f

-- a file changed by g at i, at i + 1, .., at `left` of them
unfoldable pub each_from : (List ℕ → ℕ → List ℕ) → List ℕ → ℕ → ℕ → List ℕ
each_from g f i zero = f
each_from g f i (suc left) = each_from g (g f i) (i + 1) left

-- every ring of chain j, every ring of every chain, every CALC ring
unfoldable pub chain_closed : List ℕ → List ℕ → List ℕ → ℕ → List ℕ
chain_closed t f k j = each_from (λ g c. code_closed t g k j c) f 64 (64 * pages t)

unfoldable pub chains_closed : List ℕ → List ℕ → List ℕ → List ℕ
chains_closed t f k = each_from (λ g j. chain_closed t g k j) f 0 (chains t)

unfoldable pub calcs_closed : List ℕ → List ℕ → List ℕ → List ℕ
calcs_closed t f k = each_from (λ g p. calc_closed t g k p) f 1 (pages t)

-- every marked record taken out
unfoldable pub marks_taken : List ℕ → List ℕ → List ℕ
marks_taken f k = each_from (λ g c. mark_taken g k c) f 0 marks_size

unfoldable pub act_on : List ℕ → List ℕ → List ℕ → List ℕ
act_on t f k = marks_taken (calcs_closed t (chains_closed t f k) k) k
