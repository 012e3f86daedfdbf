-- The set that goes: marks `k`, a byte for each code, which is 0 where the code's record stays.
use Rattle.std.specs.Prelude.{ℕ, zero, suc, ◌+◌, ◌%◌, ◌^◌, Bool, cond, not, List, get_or, set, eqb, leb, Option, Some, None}
use Rattle.ledger.specs.Table.{chains, is_master}
use Rattle.model.specs.declared.Below.{Below}
use Rattle.model.specs.Reads.{kind_in, next_in}

-- a mark for each code that a file can have, and for code 0
abbrev pub marks_size : ℕ
marks_size = 8256

-- whether code c is marked
unfoldable pub goes_in : List ℕ → ℕ → Bool
goes_in k c = not (eqb (get_or k c 0) 0)

-- the first detail of c, which is of type n, in chain j; a NEXT of 0 leads to none
unfoldable pub first_in : List ℕ → List ℕ → ℕ → ℕ → ℕ → Option ℕ
first_in t f c n j =
    let next : ℕ = next_in t f j c in
    cond (is_master t j n) (cond (eqb next c) None (cond (eqb next 0) None (Some next))) None

-- a chain's detail, else what comes after
abbrev pub below_or : ℕ → Option ℕ → Option Below → Option Below
below_or j None rest = rest
below_or j (Some x) rest = Some (record { chain = j; code = x })

-- its first detail in the chains from j on, of which at most `left` are looked at
unfoldable pub first_from : List ℕ → List ℕ → ℕ → ℕ → ℕ → ℕ → Option Below
first_from t f c n j zero = None
first_from t f c n j (suc left) =
    let rest = first_from t f c n (j + 1) left in
    cond (leb (chains t) j) None (below_or j (first_in t f c n j) rest)

unfoldable pub first_below_in : List ℕ → List ℕ → ℕ → ℕ → ℕ → Option Below
first_below_in t f c n j = first_from t f c n j 16

-- its detail after another: the next of its ring, else the first of a later chain
unfoldable pub next_below_in : List ℕ → List ℕ → ℕ → ℕ → Below → Option Below
next_below_in t f c n b =
    let next : ℕ = next_in t f b.chain b.code in
    cond (eqb next c) (cond (leb 16 b.chain) None (first_below_in t f c n (b.chain + 1)))
    (cond (eqb next 0) None (Some (record { chain = b.chain; code = next })))

-- how many were marked, and the marks then
abbrev pub Marked : Type 0
Marked = ℕ × List ℕ

-- the details of c from one on marked, each with all below it by `rec`; `count` were marked before
unfoldable pub mark_from : (ℕ → List ℕ → Marked) → List ℕ → List ℕ → ℕ → ℕ → ℕ → Option Below → List ℕ → ℕ → Marked
mark_from rec t f c n count at k zero = (count, k)
mark_from rec t f c n count None k (suc left) = (count, k)
mark_from rec t f c n count (Some b) k (suc left) =
    let r : Marked = rec b.code k in
    mark_from rec t f c n ((count + r.0) % 2 ^ 16) (next_below_in t f c n b) r.1 left

-- all its details; c itself is counted
unfoldable pub below_on : (ℕ → List ℕ → Marked) → List ℕ → List ℕ → ℕ → List ℕ → Marked
below_on rec t f c k = mark_from rec t f c (kind_in f c) 1 (first_below_in t f c (kind_in f c) 0) k 200000

-- record c and all below it, as many levels down, marked where they are not yet
unfoldable pub marked_on : List ℕ → List ℕ → ℕ → ℕ → List ℕ → Marked
marked_on t f zero c k = cond (goes_in k c) (0, k) (1, set k c 1)
marked_on t f (suc level) c k = cond (goes_in k c) (0, k) (below_on (marked_on t f level) t f c (set k c 1))
