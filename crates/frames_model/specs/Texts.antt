-- Hexadecimal text: a line's bytes put into a frame, and an answer put into an output; nothing is put where there is no place for it.
use Rattle.std.specs.Prelude.{ℕ, ◌+◌, ◌*◌, ◌/◌, ◌%◌, Option, None, Some, Result, Ok, Err, cond, List, [], ◌∷◌, ◌++◌, length, take, set, eqb, leb}
use Rattle.std.proofs.lemmas.List.Edits.{sets}
use Rattle.ledger.specs.declared.Answer.{Answer}
use Rattle.ledger.specs.Numbers.{digits}
use Rattle.ledger.specs.Player.{digit_value, digit_of, hex_of}
use Rattle.frames_model.specs.declared.Reading.{Reading}

-- where the reading of a line starts
abbrev pub unread : Reading
unread = record { high = None; count = 0 }

-- a choice by whether there is something
abbrev pub by_option : {A B : Type 0} → Option A → B → (A → B) → B
by_option None b f = b
by_option (Some a) b f = f a

-- a digit of value v read: the first of a byte is kept, the second puts the byte; none where there is no room for it
unfoldable pub digit_on : List ℕ → Reading → ℕ → Option Reading × List ℕ
digit_on frame s v =
    by_option s.high (Some (record { high = Some v; count = s.count }), frame)
    (λ h. cond (leb (length frame) s.count) (None, frame)
    (Some (record { high = None; count = s.count + 1 }), set frame s.count (h % 16 * 16 + v % 16)))

-- a character read: a space is skipped; none where it is no digit
unfoldable pub step_on : List ℕ → Reading → ℕ → Option Reading × List ℕ
step_on frame s c =
    cond (eqb c 32) (Some s, frame)
    (cond (eqb (digit_value c) 16) (None, frame) (digit_on frame s (digit_value c)))

-- how many bytes are read; an error where a digit waits for its second, with those before it
abbrev pub bytes_read : Reading → Result ℕ ℕ
bytes_read s = by_option s.high (Ok s.count) (λ h. Err s.count)

-- how many bytes a line has, an error where it is no frame, and the bytes that were lent for it
abbrev pub Decoded : Type 0
Decoded = Result ℕ ℕ × List ℕ

-- the characters of a line read, from a state on; no bytes are told of at a fault
unfoldable pub decode_from : List ℕ → List ℕ → Reading → Decoded
decode_from [] frame s = (bytes_read s, frame)
decode_from (c ∷ cs) frame s =
    let p : Option Reading × List ℕ = step_on frame s c in
    by_option p.0 (Err 0, p.1) (λ r. decode_from cs p.1 r)

unfoldable pub decode_on : List ℕ → List ℕ → Decoded
decode_on line frame = decode_from line frame unread

-- a byte's two digits from `at` on
unfoldable pub hex_put : List ℕ → ℕ → ℕ → List ℕ
hex_put out at b = set (set out at (digit_of (b / 16))) (at + 1) (digit_of (b % 16))

-- an answer's four numbers as bytes: code 1, reference code 3, type 2, count 2
unfoldable pub head_of : Answer → List ℕ
head_of a = a.code ∷ (digits 3 a.reference ++ digits 2 a.kind ++ digits 2 a.count)

-- up to 200 bytes in hexadecimal from `at` on: where they end, and the output
unfoldable pub bytes_put : List ℕ → ℕ → List ℕ → ℕ × List ℕ
bytes_put out at bs = (at + 2 * length (take 200 bs), sets out at (hex_of (take 200 bs)))

-- a text at the front of an output, with its length
unfoldable pub text_put : List ℕ → List ℕ → ℕ × List ℕ
text_put out s = (length s, sets out 0 s)
