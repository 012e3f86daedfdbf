-- Document 01, "The frame player": the frame in a line's characters, when a line is bad, and the characters that an answer prints.
use Rattle.std.specs.Prelude.{ℕ, ◌+◌, ◌*◌, ◌-◌, ◌/◌, ◌%◌, Bool, false, cond, not, ◌&&◌, ◌||◌, List, [], ◌∷◌, ◌++◌, length, get_or, drop, eqb, ltb, leb}
use Rattle.std.proofs.Math.Option
use Rattle.std.proofs.Math.Option.{Option, none, some, map}
use Rattle.ledger.specs.declared.Answer.{Answer}
use Rattle.ledger.specs.Numbers.{digits, elem, keep, concat_of}
use Rattle.ledger.specs.Rules.{between}
use Rattle.ledger.specs.Bytes.{two_at, three_at}
use Rattle.ledger.specs.Calls.{Call, FORMAT, STORE, DIRECT, KEY, NEXT, PRIOR, MASTER, EACH, MODIFY, DELETE, READ, CURRENT, FIND, RELINK, UNKNOWN}

-- the value of a hexadecimal digit in either case, 0 to 9, A to F, a to f; 16 for any other character
unfoldable pub digit_value : ℕ → ℕ
digit_value c =
    cond (between c 48 57) (c - 48)
    (cond (between c 65 70) (c - 55)
    (cond (between c 97 102) (c - 87) 16))

abbrev pub is_digit : ℕ → Bool
is_digit c = ltb (digit_value c) 16

-- two digits a byte; none where a character is no digit or the digits are odd in number
unfoldable pub pairs_of : List ℕ → Option (List ℕ)
pairs_of [] = some []
pairs_of (a ∷ []) = none
pairs_of (a ∷ b ∷ cs) =
    cond (is_digit a && is_digit b) (map (λ bs. (16 * digit_value a + digit_value b) ∷ bs) (pairs_of cs)) none

-- the frame in a line: spaces skipped
unfoldable pub frame_of : List ℕ → Option (List ℕ)
frame_of line = pairs_of (keep (λ c. not (eqb c 32)) line)

-- how many argument bytes a call from 00 to 0D has at the least: types are 2 bytes, chains 1, codes 3
unfoldable pub fewest : ℕ → ℕ
fewest call = get_or (0 ∷ 2 ∷ 3 ∷ 2 ∷ 1 ∷ 1 ∷ 1 ∷ 6 ∷ 0 ∷ 0 ∷ 0 ∷ 2 ∷ 1 ∷ 4 ∷ []) call 0

-- whether it may have more: data or a key to the end (STORE, KEY, MODIFY, FIND), or anything (an unknown call)
unfoldable pub is_open : ℕ → Bool
is_open call = elem call (1 ∷ 3 ∷ 8 ∷ 12 ∷ []) || ltb 13 call

unfoldable pub right_count : ℕ → ℕ → Bool
right_count call n = cond (is_open call) (leb (fewest call) n) (eqb n (fewest call))

-- a call with its arguments; FORMAT has none where the table is lent beside the frame
unfoldable pub call_made : List ℕ → Bool
call_made [] = false
call_made (call ∷ args) = right_count call (length args)

-- the call in a frame, its first byte the call's number; `room` is the length of READ's output
unfoldable pub call_in : List ℕ → ℕ → Call
call_in fr room =
    let call = get_or fr 0 0 in
    let chain = get_or fr 1 0 in
    cond (eqb call 0) FORMAT
    (cond (eqb call 1) (STORE (two_at fr 1) (drop 3 fr))
    (cond (eqb call 2) (DIRECT (three_at fr 1))
    (cond (eqb call 3) (KEY (two_at fr 1) (drop 3 fr))
    (cond (eqb call 4) (NEXT chain)
    (cond (eqb call 5) (PRIOR chain)
    (cond (eqb call 6) (MASTER chain)
    (cond (eqb call 7) (EACH (three_at fr 1) (three_at fr 4))
    (cond (eqb call 8) (MODIFY (drop 1 fr))
    (cond (eqb call 9) DELETE
    (cond (eqb call 10) (READ room)
    (cond (eqb call 11) (CURRENT (two_at fr 1))
    (cond (eqb call 12) (FIND chain (drop 2 fr))
    (cond (eqb call 13) (RELINK chain (three_at fr 2))
    UNKNOWN)))))))))))))

-- a well-made frame of the player: frame 00 carries the table's words
unfoldable pub well_made : List ℕ → Bool
well_made [] = false
well_made (call ∷ args) = cond (eqb call 0) (eqb (length args % 2) 0) (right_count call (length args))

-- a line that prints FF; an empty one carries a frame of no bytes
unfoldable pub line_bad : List ℕ → Bool
line_bad line = ltb 1100 (length line) || not (Option.get_or (map well_made (frame_of line)) false)

-- the digit of a value from 0 to 15, in capitals
unfoldable pub digit_of : ℕ → ℕ
digit_of v = cond (ltb v 10) (48 + v) (55 + v)

unfoldable pub hex_of : List ℕ → List ℕ
hex_of bs = concat_of (λ b. digit_of (b / 16) ∷ digit_of (b % 16) ∷ []) bs

-- what an answer prints: code (2 digits), reference code (6), type (4), count (4), and READ's data; the line end not counted
unfoldable pub printed : Answer → List ℕ → List ℕ
printed a bs = hex_of (a.code ∷ (digits 3 a.reference ++ digits 2 a.kind ++ digits 2 a.count ++ bs))
