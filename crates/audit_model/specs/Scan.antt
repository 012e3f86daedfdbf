-- The pages phase of the audit: what a scan of a file's bytes computes, page by page and line by line, and what its answer means.
use Rattle.std.specs.Prelude.{ℕ, zero, suc, Option, None, ◌+◌, ◌*◌, ◌-◌, ◌^◌, ◌≡◌, ◌↔◌, Bool, true, false, cond, ◌&&◌, List, [], length, get_or, eqb, ltb, leb}
use Rattle.ledger.specs.Numbers.{part}
use Rattle.ledger.specs.Table.{pages, low, high, row, defined, Accepted}
use Rattle.ledger.specs.Pages.{page_of, line_of, record_size}
use Rattle.ledger.specs.Bytes.{two_at, three_at, size_at, line_at, lookup, page_start}
use Rattle.ledger.specs.Image.{Imaged}
use Rattle.model.specs.Room.{flags_at}

-- whether a record of type n has its type's size and may stand on page p
unfoldable pub stands : List ℕ → ℕ → ℕ → ℕ → Bool
stands t n size p = defined t n && eqb size (record_size t n) && leb (low t (row t n)) p && leb p (high t (row t n))

-- the bytes that line k takes of page g from `at` on: 0 where no record of that line begins there, more than a page where one does that may not stand
unfoldable pub taken : List ℕ → List ℕ → ℕ → ℕ → ℕ → ℕ
taken t g p at k = cond (eqb (line_at g at) k) (cond (stands t (two_at g at) (size_at g at) p) (size_at g at) 65535) 0

-- the flag of a line that takes s bytes
unfoldable pub flag_of : ℕ → ℕ → ℕ
flag_of s bit = cond (ltb 0 s) bit 0

-- whether n bytes from `at` on are 0
unfoldable pub zeros_from : List ℕ → ℕ → ℕ → Bool
zeros_from g at zero = true
zeros_from g at (suc n) = let rest = zeros_from g (at + 1) n in cond (eqb (get_or g at 0) 0) rest false

-- after the last line: zeros to the page's end, and the header's counts
unfoldable pub ends : List ℕ → ℕ → ℕ → Bool
ends g at bits = zeros_from g at (512 - at) && eqb (two_at g 3) (512 - at) && eqb (flags_at g) bits

-- n lines from line k on
unfoldable pub lines_from : List ℕ → List ℕ → ℕ → ℕ → ℕ → ℕ → ℕ → Bool
lines_from t g p at bits k zero = ends g at bits
lines_from t g p at bits k (suc n) =
    let s = taken t g p at k in
    let rest = lines_from t g p (at + s) (bits + flag_of s (2 ^ k)) (k + 1) n in
    cond (leb (at + s) 512) rest false

unfoldable pub lines_in : List ℕ → List ℕ → ℕ → Bool
lines_in t g p = lines_from t g p 16 1 1 63

unfoldable pub scan_page : List ℕ → List ℕ → ℕ → Bool
scan_page t g p = eqb (three_at g 0) (64 * p) && lines_in t g p

-- page p, from 1 on, as a part of the file
abbrev pub page_part : List ℕ → ℕ → List ℕ
page_part f p = part (page_start p) 512 f

-- the lowest page of n from page p on that is not whole in the file or faulty, or 0
unfoldable pub scan_from : List ℕ → List ℕ → ℕ → ℕ → ℕ
scan_from t f p zero = 0
scan_from t f p (suc n) =
    let rest = scan_from t f (p + 1) n in
    cond (ltb (length f) (512 * p)) p (cond (scan_page t (page_part f p) p) rest p)

unfoldable pub scan : List ℕ → List ℕ → ℕ
scan t f = scan_from t f 1 (pages t)

-- The records that a file's bytes show: the part of a page that the lookup of a line finds.
unfoldable pub record_from : List ℕ → ℕ → ℕ → ℕ → List ℕ
record_from g fuel at k = let s = lookup 508 fuel g at k in cond (eqb s 0) [] (part s (size_at g s) g)

unfoldable pub records_in : List ℕ → List ℕ → ℕ → List ℕ
records_in t f x = cond (leb 1 (page_of x) && leb (page_of x) (pages t)) (record_from (page_part f (page_of x)) 63 16 (line_of x)) []

-- What a scan's answer means: no fault exactly where the file is an image.
abbrev pub ScanExact : List ℕ → List ℕ → Option ℕ → Type 0
ScanExact t f answer = Accepted t → length f ≡ 512 * pages t → (answer ≡ None) ↔ ((r : ℕ → List ℕ) × (h : ℕ → ℕ) × Imaged t f r h)
