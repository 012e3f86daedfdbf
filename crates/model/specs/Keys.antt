-- The keys of a record that is read in any bytes `f`.
use Rattle.std.specs.Prelude.{ℕ, List}
use Rattle.ledger.specs.Table.{sort_key, calc_key}
use Rattle.model.specs.Reads.{kind_in, data_in}

-- the key of chain j in record c, and its CALC key
unfoldable pub sort_key_in : List ℕ → List ℕ → ℕ → ℕ → List ℕ
sort_key_in t f j c = sort_key t j (kind_in f c) (data_in t f c)

unfoldable pub calc_key_in : List ℕ → List ℕ → ℕ → List ℕ
calc_key_in t f c = calc_key t (kind_in f c) (data_in t f c)
