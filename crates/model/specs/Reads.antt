-- What is read in any bytes `f`: 0, or no bytes, where it is not there.
use Rattle.std.specs.Prelude.{ℕ, ◌+◌, cond, List, [], length, eqb, ltb}
use Rattle.ledger.specs.Numbers.{part}
use Rattle.ledger.specs.Table.{row, data_len}
use Rattle.ledger.specs.Pages.{page_of, line_of, calc_at, link_at}
use Rattle.ledger.specs.Bytes.{two_at, three_at, page_start, lookup}

-- where a line's record starts in a page, or 0
unfoldable pub line_in : List ℕ → ℕ → ℕ
line_in page line = lookup 508 63 page 16 line

-- where the record of code c starts in a file, or 0
unfoldable pub place_in : List ℕ → ℕ → ℕ
place_in f c =
    let o : ℕ = line_in (part (page_start (page_of c)) 512 f) (line_of c) in
    cond (eqb (page_of c) 0) 0
    (cond (ltb (length f) (page_start (page_of c) + 512)) 0
    (cond (eqb o 0) 0 (page_start (page_of c) + o)))

-- the type of the record that starts at `at`, and the link that stands k bytes further; 0 where `at` is 0
unfoldable pub kind_from : List ℕ → ℕ → ℕ
kind_from f at = cond (eqb at 0) 0 (two_at f at)

unfoldable pub link_from : List ℕ → ℕ → ℕ → ℕ
link_from f at k = cond (eqb at 0) 0 (three_at f (at + k))

-- the type of record c
unfoldable pub kind_in : List ℕ → ℕ → ℕ
kind_in f c = kind_from f (place_in f c)

-- its NEXT in chain j, and what stands where its PRIOR would
unfoldable pub next_in : List ℕ → List ℕ → ℕ → ℕ → ℕ
next_in t f j c = link_from f (place_in f c) (link_at t (kind_in f c) j)

unfoldable pub prior_in : List ℕ → List ℕ → ℕ → ℕ → ℕ
prior_in t f j c = link_from f (place_in f c) (link_at t (kind_in f c) j + 3)

-- its CALC NEXT, and that of page p's header
unfoldable pub calc_next_in : List ℕ → List ℕ → ℕ → ℕ
calc_next_in t f c = link_from f (place_in f c) (calc_at t (kind_in f c))

unfoldable pub head_next_in : List ℕ → ℕ → ℕ
head_next_in f p = cond (eqb p 0) 0 (three_at f (page_start p + 13))

-- the data of record c
unfoldable pub data_in : List ℕ → List ℕ → ℕ → List ℕ
data_in t f c = cond (eqb (place_in f c) 0) [] (part (place_in f c + 5) (data_len t (row t (kind_in f c))) f)
