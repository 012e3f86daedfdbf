-- An image: the bytes of each record by its code (`r`, none where there is no record) and each header's CALC NEXT (`h`).
-- The ledger that is read off it, and when its records stand as the table says.
use Rattle.std.specs.Prelude.{ℕ, suc, ◌+◌, ◌*◌, ◌≤◌, ◌<◌, ◌≡◌, Bool, true, cond, ◌&&◌, List, [], ◌∷◌, length, get_or, eqb, ltb, leb}
use Rattle.std.proofs.Math.Option.{Option, none, some}
use Rattle.ledger.specs.Numbers.{part}
use Rattle.ledger.specs.Table.{pages, chains, low, high, row, data_len, defined, calculated, is_master, is_detail, calc_key}
use Rattle.ledger.specs.Pages.{Ledger, Entry, page_of, line_of, calc_at, link_at, record_size, home, used, laid}
use Rattle.ledger.specs.Bytes.{two_at, three_at, Formed}
use Rattle.ledger.specs.Walks.{walked}

-- the type and the data that a record's bytes say: 0 and none of no bytes
abbrev pub kind_read : List ℕ → ℕ
kind_read b = two_at b 0

abbrev pub data_read : List ℕ → List ℕ → List ℕ
data_read t b = part 5 (data_len t (row t (kind_read b))) b

unfoldable pub entry_read : List ℕ → List ℕ → Option Entry
entry_read t [] = none
entry_read t (b ∷ bs) = some (record { kind = kind_read (b ∷ bs); bytes = data_read t (b ∷ bs) })

-- chain j: its details, its masters, its links, and the details met along NEXT from a master home
unfoldable pub detail_read : List ℕ → (ℕ → List ℕ) → ℕ → ℕ → Bool
detail_read t r j x = is_detail t j (kind_read (r x))

unfoldable pub master_read : List ℕ → (ℕ → List ℕ) → ℕ → ℕ → Bool
master_read t r j x = is_master t j (kind_read (r x))

unfoldable pub next_read : List ℕ → (ℕ → List ℕ) → ℕ → ℕ → ℕ
next_read t r j x = three_at (r x) (link_at t (kind_read (r x)) j)

unfoldable pub prior_read : List ℕ → (ℕ → List ℕ) → ℕ → ℕ → ℕ
prior_read t r j x = three_at (r x) (link_at t (kind_read (r x)) j + 3)

abbrev pub ring_read : List ℕ → (ℕ → List ℕ) → ℕ → ℕ → List ℕ
ring_read t r j = walked (suc (64 * pages t)) (next_read t r j) (detail_read t r j) (master_read t r j)

-- page p: the calculated records whose home it is, its header, CALC NEXT, and the records met along it from the header home
unfoldable pub home_read : List ℕ → List ℕ → ℕ
home_read t b = home t (kind_read b) (calc_key t (kind_read b) (data_read t b))

unfoldable pub homed_read : List ℕ → (ℕ → List ℕ) → ℕ → ℕ → Bool
homed_read t r p x = ltb 0 (length (r x)) && calculated t (kind_read (r x)) && eqb (home_read t (r x)) p

unfoldable pub head_of : ℕ → ℕ → Bool
head_of p x = eqb x (64 * p)

unfoldable pub calc_next_read : List ℕ → (ℕ → List ℕ) → (ℕ → ℕ) → ℕ → ℕ → ℕ
calc_next_read t r h p x = cond (eqb x (64 * p)) (h p) (three_at (r x) (calc_at t (kind_read (r x))))

abbrev pub calc_read : List ℕ → (ℕ → List ℕ) → (ℕ → ℕ) → ℕ → ℕ → List ℕ
calc_read t r h p = walked (suc (64 * pages t)) (calc_next_read t r h p) (homed_read t r p) (head_of p)

-- the ledger of an image
unfoldable pub ledger_of : List ℕ → (ℕ → List ℕ) → (ℕ → ℕ) → Ledger
ledger_of t r h = record {
  at = λ x. entry_read t (r x);
  ring = λ j m. cond (ltb j (chains t)) (ring_read t r j m) [];
  calc = λ p. cond (leb 1 p && leb p (pages t)) (calc_read t r h p (64 * p)) [];
}

-- the bytes b of code x are a record as the table says
pub record Standing (t : List ℕ) (x : ℕ) (b : List ℕ) : Type 0 where
  pub head : Formed x b
  pub typed : defined t (kind_read b) ≡ true
  pub whole : length b ≡ record_size t (kind_read b)
  pub low_page : low t (row t (kind_read b)) ≤ page_of x
  pub high_page : page_of x ≤ high t (row t (kind_read b))
  pub on_a_line : 1 ≤ line_of x
  pub bytes : (i : ℕ) → get_or b i 0 < 256

pub record Paged (t : List ℕ) (r : ℕ → List ℕ) : Type 0 where
  pub standing : (x : ℕ) → 0 < length (r x) → Standing t x (r x)
  pub room : (p : ℕ) → used r p ≤ 496

-- a file that its pages and their records show to be the image r, h
pub record Imaged (t f : List ℕ) (r : ℕ → List ℕ) (h : ℕ → ℕ) : Type 0 where
  pub bytes : f ≡ laid (pages t) r h
  pub paged : Paged t r
  pub heads : (p : ℕ) → 1 ≤ p → p ≤ pages t → h p < 16777216
