-- A well-made frame played, and a line: what it comes to, the table, the file and the output after it.
use Rattle.std.specs.Prelude.{ℕ, ◌*◌, Option, Some, None, cond, List, [], ◌∷◌, ◌++◌, length, get_or, take, replicate, eqb, ltb}
use Rattle.std.specs.Result.{result_ok}
use borrow.Rule.Slice.PartMut.{put_mid}
use Rattle.ledger.specs.declared.Answer.{Answer}
use Rattle.ledger.specs.declared.Outcome.{Outcome}
use Rattle.ledger.specs.Answers.{refused_with}
use Rattle.ledger.specs.Numbers.{part}
use Rattle.ledger.specs.Table.{pages, type_word, row}
use Rattle.ledger.specs.Player.{well_made, printed}
use Rattle.frames_model.specs.Texts.{Decoded, by_option, decode_on, text_put}
use Rattle.play_model.specs.Plays.{play_on}
use Rattle.line_model.specs.declared.Session.{Session}
use Rattle.line_model.specs.declared.Reply.{Reply}
use Rattle.line_model.specs.declared.Played.{Played}
use Rattle.line_model.specs.Formats.{Formatted, told, format_frame}

-- the data of a READ that is done are shown
unfoldable pub shown_of : List ℕ → List ℕ → Answer → ℕ
shown_of t frame a = cond (eqb (get_or frame 0 0) 10) (cond (eqb a.code 0) (type_word t (row t a.kind) 1) 0) 0

unfoldable pub reply_of : List ℕ → List ℕ → Outcome → Reply
reply_of t frame o =
    record { session = record { words = length t; currency = o.currency }; answer = o.answer; shown = shown_of t frame o.answer }

-- a call under the table `t`, over as many bytes of the file as it asks
unfoldable pub call_under : List ℕ → List ℕ → Session → List ℕ → List ℕ → Reply × List ℕ × List ℕ
call_under t f s frame b =
    let o : Outcome × List ℕ × List ℕ = play_on t (part 0 (512 * pages t) f) s.currency frame b in
    cond (ltb (length f) (512 * pages t)) (told s (refused_with 2), f, b)
    (reply_of t frame o.0, put_mid 0 (512 * pages t) f o.1, o.2)

-- until a table is accepted every well-made frame answers 01
unfoldable pub call_frame : List ℕ → List ℕ → Session → List ℕ → List ℕ → Reply × List ℕ × List ℕ
call_frame t f s frame b =
    cond (eqb s.words 0) (told s (refused_with 1), f, b)
    (cond (ltb (length t) s.words) (told s (refused_with 1), f, b) (call_under (part 0 s.words t) f s frame b))

-- a reply, the table, the file and READ's output
abbrev pub Framed : Type 0
Framed = Reply × List ℕ × List ℕ × List ℕ

abbrev pub with_output : List ℕ → Formatted → Framed
with_output b p = (p.0, p.1, p.2, b)

abbrev pub with_table : List ℕ → Reply × List ℕ × List ℕ → Framed
with_table t p = (p.0, t, p.1, p.2)

unfoldable pub frame_on : List ℕ → List ℕ → Session → List ℕ → List ℕ → Framed
frame_on t f s frame b =
    cond (eqb (get_or frame 0 0) 0) (with_output b (format_frame t f s frame)) (with_table t (call_frame t f s frame b))

-- a line's frame: its length, none where the line is bad, and the bytes that were lent for it
abbrev pub FrameIn : Type 0
FrameIn = Option ℕ × List ℕ

unfoldable pub frame_in : List ℕ → List ℕ → FrameIn
frame_in line b =
    let d : Decoded = decode_on line b in
    cond (ltb 1100 (length line)) (None, b)
    (by_option (result_ok d.0) (None, d.1) (λ n. cond (well_made (part 0 n d.1)) (Some n, d.1) (None, d.1)))

unfoldable pub printed_on : List ℕ → Reply → List ℕ → Played × List ℕ
printed_on out r b =
    let p : ℕ × List ℕ = text_put out (printed r.answer (take 200 (part 0 r.shown b)) ++ (10 ∷ [])) in
    (record { session = r.session; count = p.0 }, p.1)

unfoldable pub bad_on : List ℕ → Session → Played × List ℕ
bad_on out s = let p : ℕ × List ℕ = text_put out (70 ∷ 70 ∷ 10 ∷ []) in (record { session = s; count = p.0 }, p.1)

-- what a line came to, the table, the file and the output
abbrev pub Lined : Type 0
Lined = Played × List ℕ × List ℕ × List ℕ

abbrev pub lined : List ℕ → List ℕ → Played × List ℕ → Lined
lined t f p = (p.0, t, f, p.1)

-- a well-made frame played and its answer printed
unfoldable pub answered : List ℕ → List ℕ → Session → List ℕ → List ℕ → Lined
answered t f s frame out =
    let r : Framed = frame_on t f s frame (replicate 200 0) in
    lined r.1 r.2 (printed_on out r.0 r.3)

unfoldable pub line_on : List ℕ → List ℕ → Session → List ℕ → List ℕ → Lined
line_on t f s line out =
    let d : FrameIn = frame_in line (replicate 550 0) in
    by_option d.0 (lined t f (bad_on out s)) (λ n. answered t f s (part 0 n d.1) out)
