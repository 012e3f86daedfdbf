-- What a page's bytes say of its room: the lines in use, and the lowest free one.
use Rattle.std.specs.Prelude.{ℕ, zero, suc, ◌+◌, ◌*◌, cond, List, eqb}
use Rattle.ledger.specs.Bytes.{two_at, size_at, line_at}
use Rattle.model.specs.declared.Gap.{Gap}

-- the line flags as one number
unfoldable pub flags_at : List ℕ → ℕ
flags_at page = ((two_at page 5 * 65536 + two_at page 7) * 65536 + two_at page 9) * 65536 + two_at page 11

-- the lowest line from `line` on, among n lines, whose record does not start at `at`
unfoldable pub gap_from : List ℕ → ℕ → ℕ → ℕ → Gap
gap_from page at line zero = record { line = 0; at = at }
gap_from page at line (suc n) =
    let rest = gap_from page (at + size_at page at) (line + 1) n in
    cond (eqb (line_at page at) line) rest (record { line = line; at = at })

unfoldable pub first_gap : List ℕ → Gap
first_gap page = gap_from page 16 1 63
