-- The table's rules as a test that computes. It says what `Accepted` says (proofs, Ledger.Accepts).
use Rattle.std.specs.Prelude.{ℕ, ◌+◌, ◌*◌, ◌-◌, Bool, cond, ◌&&◌, ◌||◌, List, length, eqb, ltb, leb}
use Rattle.ledger.specs.Numbers.{all, run}
use Rattle.ledger.specs.Table.{pages, types, chains, number, data_len, class, low, high, via, key_at, key_len, master_type, detail_type, order, linked_prior, duplicates, sort_at, sort_len, row, defined, is_detail}

-- n from a to b
unfoldable pub between : ℕ → ℕ → ℕ → Bool
between n a b = leb a n && leb n b

unfoldable pub counted : List ℕ → Bool
counted t =
    between (pages t) 1 128 && between (types t) 1 16 && leb (chains t) 16
    && eqb (length t) (3 + 8 * types t + 7 * chains t)

-- a key of at least one byte within d bytes of data
unfoldable pub lies_in : ℕ → ℕ → ℕ → Bool
lies_in at n d = leb 1 n && leb (at + n) d

-- a type's row: its number, its page range, its via chain, its key
unfoldable pub numbered : List ℕ → ℕ → Bool
numbered t i = between (number t i) 1 999 && (eqb i 0 || ltb (number t (i - 1)) (number t i))

unfoldable pub ranged : List ℕ → ℕ → Bool
ranged t i = leb 1 (low t i) && leb (low t i) (high t i) && leb (high t i) (pages t)

unfoldable pub via_right : List ℕ → ℕ → Bool
via_right t i = cond (eqb (class t i) 1) (ltb (via t i) (chains t) && is_detail t (via t i) (number t i)) (eqb (via t i) 65535)

unfoldable pub keyed : List ℕ → ℕ → Bool
keyed t i =
    cond (eqb (class t i) 2)
    (lies_in (key_at t i) (key_len t i) (data_len t i))
    (eqb (key_at t i) 0 && eqb (key_len t i) 0)

unfoldable pub type_right : List ℕ → ℕ → Bool
type_right t i = numbered t i && leb (data_len t i) 200 && leb (class t i) 2 && ranged t i && via_right t i && keyed t i

-- a chain's row: its two types, its sort key
unfoldable pub paired : List ℕ → ℕ → Bool
paired t j = defined t (master_type t j) && defined t (detail_type t j) && ltb (master_type t j) (detail_type t j)

unfoldable pub sorted : List ℕ → ℕ → Bool
sorted t j =
    cond (ltb (order t j) 2)
    (eqb (duplicates t j) 0 && eqb (sort_at t j) 0 && eqb (sort_len t j) 0)
    (leb (duplicates t j) 2 && lies_in (sort_at t j) (sort_len t j) (data_len t (row t (detail_type t j))))

unfoldable pub chain_right : List ℕ → ℕ → Bool
chain_right t j = paired t j && leb (order t j) 3 && leb (linked_prior t j) 1 && sorted t j

unfoldable pub accepts : List ℕ → Bool
accepts t = counted t && all (type_right t) (run 0 (types t)) && all (chain_right t) (run 0 (chains t))
