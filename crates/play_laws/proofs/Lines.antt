-- A line played is what "The frame player" says of it, in what the player's buffers hold and in what is printed.
use Prim.Native.Nat.{ℕ, ◌+◌, ◌*◌, ◌≤◌}
use mathlib.Core.Path.{◌≡◌, refl, ap}
use mathlib.Core.Logic.{inl, inr}
use mathlib.Core.Bool.{true, false}
use mathlib.Core.List.{List, [], ◌∷◌}
use native.Mathlib.Omega.{arith}
use mir.Syntax.{w8}
use mir.Val.{Fits}
use lib.ListN.{length, get_or, take, replicate, length-take, length-replicate}
use lib.Seq.{take_all}
use borrow.Author.Tests.{eq-eqb, ne_eqb}
use Rattle.ledger.specs.declared.Answer.{Answer}
use Rattle.ledger.specs.Numbers.{part}
use Rattle.ledger.specs.Currency.{unset}
use Rattle.ledger.specs.Player.{line_bad}
use Rattle.ledger.proofs.Lists.Tests.{clash, same_or_not}
use Rattle.frames_model.specs.Texts.{text_put}
use Rattle.frames_model.proofs.Texts.{text_put_lem, line_stands}
use Rattle.line_model.specs.declared.Session.{Session}
use Rattle.line_model.specs.declared.Played.{Played}
use Rattle.line_model.specs.Lines.{Framed, frame_on, printed_on, bad_on, Lined, lined, answered, line_on}
use Rattle.ledger.specs.Line.{answer_line}
use Rattle.play_laws.specs.Buffers.{Stands, LinePlays}
use Rattle.play_laws.proofs.Decoded.{held_in, Carries, line_reads}
use Rattle.play_laws.proofs.Opened.{text_of, Answering, format_frame_lem}
use Rattle.play_laws.proofs.Answered.{call_frame_lem}

-- before any input
pub start_stands : (t f : List ℕ) → 243 ≤ length t → 65536 ≤ length f → Stands t f (record { words = 0; currency = unset })
start_stands t f h k = record { table_room = h; file_room = k; words_in_lem = omega arith; accepted = inl refl; types = refl; chains = refl }

-- an answer's line is at most 417 characters long
length_line : (a : Answer) (bs : List ℕ) → length bs ≤ 200 → length (answer_line a bs) ≤ 417
unfolding text_put
length_line a bs short =
    let room : 17 + 2 * length bs ≤ length (replicate {A = ℕ} 417 0) = rw length-replicate (omega arith) in
    let e : length (answer_line a (take 200 bs)) ≡ 17 + 2 * length bs = ap (λ (r : ℕ × List ℕ). r.0) (line_stands (replicate 417 0) a bs short room) in
    omega (arith, rw (take_all 200 bs short) at e)

module _ (t f : List ℕ) (small : (i : ℕ) → Fits w8 (get_or f i 0)) (w : Session) (st : Stands t f w)
    (line out : List ℕ) (room : 417 ≤ length out) where
  abbrev Goal : Lined → Type 0
  Goal p = LinePlays t f w line out p.0 p.1 p.2 p.3

  bad_line : line_bad line ≡ true → Goal (lined t f (bad_on out w))
  unfolding bad_on
  bad_line b = rw (text_put_lem out (70 ∷ 70 ∷ 10 ∷ []) (omega arith)) (record {
    text = 70 ∷ 70 ∷ 10 ∷ [];
    stands = st;
    says = record { bad = λ e. (refl, refl); framed = λ n. clash _ b n };
    count = refl;
    output = refl;
  })

  -- a frame is played and its answer printed
  module _ (fr : List ℕ) (b : line_bad line ≡ false) (c : Carries line fr) where
    frame_answers : Answering t f w fr (frame_on t f w fr (replicate 200 0))
    unfolding frame_on
    frame_answers = same_or_not (get_or fr 0 0) 0
        (λ e. rw (eq-eqb (get_or fr 0 0) 0 e) (format_frame_lem t f w st fr (replicate 200 0) e c.made))
        (λ n. rw (ne_eqb (get_or fr 0 0) 0 n) (call_frame_lem t f small w st fr (λ i. record { fits = c.small.small i }) n))

    framed_line : (r : Framed) → Answering t f w fr r → Goal (lined r.1 r.2 (printed_on out r.0 r.3))
    unfolding printed_on
    framed_line r h =
        let short : length (take 200 (part 0 r.0.shown r.3)) ≤ 200 = rw length-take (omega arith) in
        let fits = length_line r.0.answer (take 200 (part 0 r.0.shown r.3)) short in
        rw (text_put_lem out (text_of r) (omega (arith, fits, room))) (record {
          text = text_of r;
          stands = h.stands;
          says = record {
            bad = λ e. clash _ e b;
            framed = λ n fr₂ e. let same : fr ≡ fr₂ = cc c.framed in rw same at h.plays;
          };
          count = refl;
          output = refl;
        })

    carried_line : Goal (answered t f w (part 0 (length fr) (held_in line).1) out)
    unfolding answered
    carried_line = rw c.held (framed_line (frame_on t f w fr (replicate 200 0)) frame_answers)

  plays : Goal (line_on t f w line out)
  unfolding line_on
  plays = elim (line_reads line) [
    | inl (b, z) ↦ rw z (bad_line b)
    | inr (b, c) ↦ rw c.1.count (carried_line c.0 b c.1)
  ]

  pub line_plays : (p : Played) (t' f' out' : List ℕ) → line_on t f w line out ≡ (p, t', f', out') → LinePlays t f w line out p t' f' out'
  line_plays p t' f' out' e = rw e at plays
