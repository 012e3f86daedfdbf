-- Document 01, "The definition table": a list of 16-bit words, what each says, and when the table is accepted.
-- `t` is a table, `i` a type's row and `j` a chain, both from 0; `n` is a type number, which is called a record's `kind`.
use Rattle.std.specs.Prelude.{ℕ, zero, suc, ◌+◌, ◌*◌, ◌-◌, ◌≤◌, ◌<◌, ◌≡◌, Bool, true, cond, ◌||◌, List, length, get_or, eqb, ltb}
use Rattle.ledger.specs.Numbers.{part}

-- a word past the end is 0
abbrev pub word : List ℕ → ℕ → ℕ
word t i = get_or t i 0

-- the counts of pages, types and chains
abbrev pub pages : List ℕ → ℕ
pages t = word t 0

abbrev pub types : List ℕ → ℕ
types t = word t 1

abbrev pub chains : List ℕ → ℕ
chains t = word t 2

-- the words of type row i
abbrev pub type_word : List ℕ → ℕ → ℕ → ℕ
type_word t i w = word t (3 + 8 * i + w)

-- its number, data length, class, page range, via chain and CALC key
abbrev pub number : List ℕ → ℕ → ℕ
number t i = type_word t i 0

abbrev pub data_len : List ℕ → ℕ → ℕ
data_len t i = type_word t i 1

abbrev pub class : List ℕ → ℕ → ℕ
class t i = type_word t i 2

abbrev pub low : List ℕ → ℕ → ℕ
low t i = type_word t i 3

abbrev pub high : List ℕ → ℕ → ℕ
high t i = type_word t i 4

abbrev pub via : List ℕ → ℕ → ℕ
via t i = type_word t i 5

abbrev pub key_at : List ℕ → ℕ → ℕ
key_at t i = type_word t i 6

abbrev pub key_len : List ℕ → ℕ → ℕ
key_len t i = type_word t i 7

-- the words of chain j
abbrev pub chain_word : List ℕ → ℕ → ℕ → ℕ
chain_word t j w = word t (3 + 8 * types t + 7 * j + w)

-- its two types, order, PRIOR links, duplicates and sort key
abbrev pub master_type : List ℕ → ℕ → ℕ
master_type t j = chain_word t j 0

abbrev pub detail_type : List ℕ → ℕ → ℕ
detail_type t j = chain_word t j 1

abbrev pub order : List ℕ → ℕ → ℕ
order t j = chain_word t j 2

abbrev pub linked_prior : List ℕ → ℕ → ℕ
linked_prior t j = chain_word t j 3

abbrev pub duplicates : List ℕ → ℕ → ℕ
duplicates t j = chain_word t j 4

abbrev pub sort_at : List ℕ → ℕ → ℕ
sort_at t j = chain_word t j 5

abbrev pub sort_len : List ℕ → ℕ → ℕ
sort_len t j = chain_word t j 6

-- the row of a type number: types t where no row has it
unfoldable pub row_from : List ℕ → ℕ → ℕ → ℕ → ℕ
row_from t n i zero = i
row_from t n i (suc k) = cond (eqb (number t i) n) i (row_from t n (suc i) k)

abbrev pub row : List ℕ → ℕ → ℕ
row t n = row_from t n 0 (types t)

unfoldable pub defined : List ℕ → ℕ → Bool
defined t n = ltb (row t n) (types t)

unfoldable pub calculated : List ℕ → ℕ → Bool
calculated t n = eqb (class t (row t n)) 2

-- whether a type is the master, or a detail, of a chain
unfoldable pub is_master : List ℕ → ℕ → ℕ → Bool
is_master t j n = eqb (master_type t j) n

unfoldable pub is_detail : List ℕ → ℕ → ℕ → Bool
is_detail t j n = eqb (detail_type t j) n

unfoldable pub in_chain : List ℕ → ℕ → ℕ → Bool
in_chain t j n = is_master t j n || is_detail t j n

-- a CALC key, and a chain's sort key, in the data d of a record of type n
unfoldable pub calc_key : List ℕ → ℕ → List ℕ → List ℕ
calc_key t n d = part (key_at t (row t n)) (key_len t (row t n)) d

unfoldable pub sort_key : List ℕ → ℕ → ℕ → List ℕ → List ℕ
sort_key t j n d = part (sort_at t j) (sort_len t j) d

-- the rules of a type's row
pub record TypeRow (t : List ℕ) (i : ℕ) : Type 0 where
  pub numbered : (1 ≤ number t i) × (number t i ≤ 999)
  pub rising : 0 < i → number t (i - 1) < number t i
  pub data_within : data_len t i ≤ 200
  pub classed : class t i ≤ 2
  pub ranged : (1 ≤ low t i) × (low t i ≤ high t i) × (high t i ≤ pages t)
  pub secondary : class t i ≡ 1 → (via t i < chains t) × (detail_type t (via t i) ≡ number t i)
  pub no_via : (class t i ≡ 1 → ⊥) → via t i ≡ 65535
  pub keyed : class t i ≡ 2 → (1 ≤ key_len t i) × (key_at t i + key_len t i ≤ data_len t i)
  pub no_key : (class t i ≡ 2 → ⊥) → (key_at t i ≡ 0) × (key_len t i ≡ 0)

-- the rules of a chain's row
pub record ChainRow (t : List ℕ) (j : ℕ) : Type 0 where
  pub both_defined : (defined t (master_type t j) ≡ true) × (defined t (detail_type t j) ≡ true)
  pub downward : master_type t j < detail_type t j
  pub ordered : order t j ≤ 3
  pub linked : linked_prior t j ≤ 1
  pub sorted : 2 ≤ order t j → (duplicates t j ≤ 2) × (1 ≤ sort_len t j) × (sort_at t j + sort_len t j ≤ data_len t (row t (detail_type t j)))
  pub unsorted : order t j < 2 → (duplicates t j ≡ 0) × (sort_at t j ≡ 0) × (sort_len t j ≡ 0)

pub record Accepted (t : List ℕ) : Type 0 where
  pub page_count : (1 ≤ pages t) × (pages t ≤ 128)
  pub type_count : (1 ≤ types t) × (types t ≤ 16)
  pub chain_count : chains t ≤ 16
  pub words : length t ≡ 3 + 8 * types t + 7 * chains t
  pub type_rows : (i : ℕ) → i < types t → TypeRow t i
  pub chain_rows : (j : ℕ) → j < chains t → ChainRow t j
