-- Input as it comes: a byte is held, or ends a line that is played.
use Rattle.std.specs.Prelude.{ℕ, ◌+◌, ◌-◌, cond, List, length, set, eqb, ltb, leb}
use borrow.Rule.Slice.PartMut.{put_mid}
use Rattle.ledger.specs.Numbers.{part}
use Rattle.line_model.specs.declared.Played.{Played}
use Rattle.line_model.specs.declared.Feed.{Feed}
use Rattle.line_model.specs.Lines.{Lined, line_on}

-- where the output gathered ends, in an output of k bytes
unfoldable pub printed_to : ℕ → ℕ → ℕ → ℕ
printed_to k at n = cond (leb k at) k (cond (leb (k - at) n) k (at + n))

-- the feed after a line, in an output of k bytes
abbrev pub fed_by : ℕ → ℕ → Played → Feed
fed_by k at p = record { session = p.session; held = 0; printed = printed_to k at p.count }

-- a line's end: the feed, the table, the file and the output
unfoldable pub end_on : List ℕ → List ℕ → List ℕ → Feed → List ℕ → Feed × List ℕ × List ℕ × List ℕ
end_on t f held w out =
    let at = w.printed in
    let p : Lined = line_on t f w.session (part 0 w.held held) (part at (length out - at) out) in
    cond (ltb (length out) at) (w, t, f, out)
    (fed_by (length out) at p.0, p.1, p.2, put_mid at (length out - at) out p.3)

-- a byte is held where there is room
unfoldable pub hold_on : List ℕ → Feed → ℕ → Feed × List ℕ
hold_on held w b =
    cond (leb (length held) w.held) (w, held)
    (record { session = w.session; held = w.held + 1; printed = w.printed }, set held w.held b)

-- the feed, the table, the file, the bytes held and the output
abbrev pub Taken : Type 0
Taken = Feed × List ℕ × List ℕ × List ℕ × List ℕ

abbrev pub ended : List ℕ → Feed × List ℕ × List ℕ × List ℕ → Taken
ended held p = (p.0, p.1, p.2, held, p.3)

abbrev pub kept_in : List ℕ → List ℕ → List ℕ → Feed × List ℕ → Taken
kept_in t f out p = (p.0, t, f, p.1, out)

unfoldable pub take_on : List ℕ → List ℕ → List ℕ → Feed → ℕ → List ℕ → Taken
take_on t f held w b out = cond (eqb b 10) (ended held (end_on t f held w out)) (kept_in t f out (hold_on held w b))
