-- Document 01, "Currency": the run's current record, one entry a type and one a chain; when it is in force; arrival.
use Rattle.std.specs.Prelude.{ℕ, ◌<◌, ◌≡◌, ◌⊎◌, true, cond, ◌&&◌, List, get_or, set, replicate, ltb}
use Rattle.ledger.specs.declared.Currency.{Currency}
use Rattle.ledger.specs.Numbers.{by_index}
use Rattle.ledger.specs.Table.{types, chains, number, row, in_chain}
use Rattle.ledger.specs.Pages.{Ledger, kind_at, present, master_of}

abbrev pub unset : Currency
unset = record { run = 0; types = replicate 16 0; chains = replicate 16 0 }

-- an entry is 0 or the code of a record that is there
abbrev pub Points : Ledger → ℕ → Type 0
Points l x = (x ≡ 0) ⊎ (present l x ≡ true)

-- each entry by itself: of any record, of its type, of its chain's master or detail type; unused entries are 0
pub record InForce (t : List ℕ) (l : Ledger) (cur : Currency) : Type 0 where
  pub run_there : Points l cur.run
  pub type_there : (i : ℕ) → Points l (get_or cur.types i 0)
  pub type_right : (i : ℕ) → (get_or cur.types i 0 ≡ 0) ⊎ ((i < types t) × (kind_at l (get_or cur.types i 0) ≡ number t i))
  pub chain_there : (j : ℕ) → Points l (get_or cur.chains j 0)
  pub chain_right : (j : ℕ) → (get_or cur.chains j 0 ≡ 0) ⊎ ((j < chains t) × (in_chain t j (kind_at l (get_or cur.chains j 0)) ≡ true))

abbrev pub type_current : List ℕ → Currency → ℕ → ℕ
type_current t cur n = get_or cur.types (row t n) 0

abbrev pub chain_current : Currency → ℕ → ℕ
chain_current cur j = get_or cur.chains j 0

-- a chain's occurrence, by its master: the ring that holds the chain's current record, be that master or detail
unfoldable pub occurrence : List ℕ → Ledger → Currency → ℕ → ℕ
occurrence t l cur j = master_of t l j (chain_current cur j)

-- arrival: current of the run, of its type and of every chain in which it is master or detail
unfoldable pub arrived : List ℕ → Ledger → Currency → ℕ → Currency
arrived t l cur x =
    record {
      run = x;
      types = set cur.types (row t (kind_at l x)) x;
      chains = by_index (λ j old. cond (ltb j (chains t) && in_chain t j (kind_at l x)) x old) 0 cur.chains;
    }
