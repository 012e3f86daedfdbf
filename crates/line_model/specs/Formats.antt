-- Frame 00: a table's words out of a frame, and a fresh file under them.
use Rattle.std.specs.Prelude.{ℕ, zero, suc, ◌+◌, ◌*◌, ◌/◌, cond, List, length, get_or, set, replicate, eqb, ltb}
use borrow.Rule.Slice.PartMut.{put_mid}
use Rattle.ledger.specs.declared.Answer.{Answer}
use Rattle.ledger.specs.Answers.{refused_with}
use Rattle.ledger.specs.Currency.{unset}
use Rattle.ledger.specs.Numbers.{part}
use Rattle.ledger.specs.Bytes.{two_at}
use Rattle.ledger.specs.Table.{pages}
use Rattle.ledger.specs.Rules.{accepts}
use Rattle.store_model.specs.Changes.{Changed}
use Rattle.store_model.specs.Calls.{format_call}
use Rattle.line_model.specs.declared.Session.{Session}
use Rattle.line_model.specs.declared.Reply.{Reply}

-- the words from i on, k of them, each set to what `g` has at its place
unfoldable pub fill_from : (ℕ → ℕ) → List ℕ → ℕ → ℕ → List ℕ
fill_from g ws i zero = ws
fill_from g ws i (suc k) = fill_from g (set ws i (g i)) (i + 1) k

unfoldable pub filled : (ℕ → ℕ) → List ℕ → ℕ → List ℕ
filled g ws k = fill_from g ws 0 k

-- word i of the table that a frame 00 carries
unfoldable pub word_in : List ℕ → ℕ → ℕ
word_in frame i = two_at frame (1 + 2 * i)

-- all of `ws` filled with a frame's words
unfoldable pub words_in : List ℕ → List ℕ → List ℕ
words_in frame ws = filled (word_in frame) ws (length ws)

-- `from` at the front of a table
unfoldable pub words_put : List ℕ → List ℕ → List ℕ
words_put t from = filled (λ i. get_or from i 0) t (length from)

-- a frame that is answered without data, and one that is refused
abbrev pub told : Session → Answer → Reply
told s a = record { session = s; answer = a; shown = 0 }

-- the table, the file and the reply after a frame
abbrev pub Formatted : Type 0
Formatted = Reply × List ℕ × List ℕ

abbrev pub unchanged : List ℕ → List ℕ → Session → ℕ → Formatted
unchanged t f s n = (told s (refused_with n), t, f)

-- a fresh file under the words `ws`, in as many bytes as they ask: the answer, and the file
unfoldable pub format_in : List ℕ → List ℕ → Answer × List ℕ
format_in f ws =
    let d : Changed = format_call ws (part 0 (512 * pages ws) f) unset in
    cond (accepts ws)
    (cond (ltb (length f) (512 * pages ws)) (refused_with 2, f) (d.0.answer, put_mid 0 (512 * pages ws) f d.1))
    (refused_with 1, f)

-- the words are the table from then on; a refused 00 changes nothing
unfoldable pub format_under : List ℕ → List ℕ → Session → List ℕ → Formatted
format_under t f s ws =
    let a : Answer × List ℕ = format_in f ws in
    cond (ltb (length t) (length ws)) (unchanged t f s 1)
    (cond (eqb a.0.code 0)
    (told (record { words = length ws; currency = unset }) a.0, words_put t ws, a.1)
    (told s a.0, t, a.1))

unfoldable pub format_frame : List ℕ → List ℕ → Session → List ℕ → Formatted
format_frame t f s frame =
    cond (ltb 243 (length frame / 2)) (unchanged t f s 1)
    (format_under t f s (part 0 (length frame / 2) (words_in frame (replicate 243 0))))
