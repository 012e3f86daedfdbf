-- Where STORE places a record, in any bytes `f`: base_page, takes and place_for of Calls.
use Rattle.std.specs.Prelude.{ℕ, Bool, cond, ◌&&◌, List, eqb, ltb, leb}
use Rattle.ledger.specs.declared.Currency.{Currency}
use Rattle.ledger.specs.Numbers.{first_of}
use Rattle.ledger.specs.Table.{row, class, low, high, via, calc_key}
use Rattle.ledger.specs.Pages.{page_of, record_size, home}
use Rattle.ledger.specs.Bytes.{two_at, page_in}
use Rattle.ledger.specs.Currency.{type_current, chain_current}
use Rattle.ledger.specs.Calls.{tried}
use Rattle.model.specs.Room.{first_gap}
use Rattle.ring_model.specs.Rings.{master_in}

-- a chain's occurrence, by its master
unfoldable pub occurrence_in : List ℕ → List ℕ → Currency → ℕ → ℕ
occurrence_in t f cur j = master_in t f j (chain_current cur j)

-- a page where it is in the range of type n, else the lowest
unfoldable pub in_range : List ℕ → ℕ → ℕ → ℕ
in_range t n p = cond (leb (low t (row t n)) p && leb p (high t (row t n))) p (low t (row t n))

-- the base page, by class
unfoldable pub base_page_in : List ℕ → List ℕ → Currency → ℕ → List ℕ → ℕ
base_page_in t f cur n d =
    let i = row t n in
    cond (eqb (class t i) 2) (home t n (calc_key t n d))
    (cond (eqb (class t i) 1) (in_range t n (page_of (occurrence_in t f cur (via t i))))
    (cond (eqb (type_current t cur n) 0) (low t i) (page_of (type_current t cur n))))

-- whether a page has `size` bytes and a line free
unfoldable pub takes_in : List ℕ → ℕ → ℕ → Bool
takes_in f size p = leb size (two_at (page_in f p) 3) && ltb 0 (first_gap (page_in f p)).line

-- the page that takes the record, 0 where none does
unfoldable pub place_for_in : List ℕ → List ℕ → Currency → ℕ → List ℕ → ℕ
place_for_in t f cur n d = first_of (takes_in f (record_size t n)) (tried t n (base_page_in t f cur n d))
