-- Frame 00: an accepted table's words and a fresh file under them stand in the player's buffers; any other table changes nothing.
use Prim.Native.Nat.{ℕ, ◌*◌, ◌/◌, ◌%◌, ◌≤◌}
use mathlib.Core.Path.{◌≡◌, refl}
use mathlib.Core.Logic.{inr}
use mathlib.Core.Bool.{true, false}
use mathlib.Core.List.{List, [], ◌∷◌}
use native.Mathlib.Omega.{arith}
use lib.ListN.{length, get_or, take, drop}
use lib.Seq.{length-take-le}
use lib.Dec.{ltb}
use borrow.Author.Tests.{eq-eqb, eqb-true, le-ltb, ltb-true, ltb-false}
use borrow.Rule.Slice.PartMut.{put_mid}
use Rattle.ledger.specs.Numbers.{part}
use Rattle.ledger.specs.Table.{pages, Accepted}
use Rattle.ledger.specs.Rules.{accepts}
use Rattle.ledger.specs.Pages.{empty, layout}
use Rattle.ledger.specs.Answers.{done_with}
use Rattle.ledger.specs.Currency.{unset}
use Rattle.ledger.specs.Player.{well_made}
use Rattle.ledger.proofs.Lists.Tests.{by_cases, clash}
use Rattle.ledger.proofs.Ledger.Accepts.{accepts_exactly}
use Rattle.ledger.proofs.Ledger.Fields.{file_length}
use Rattle.ledger.proofs.History.Play.{start_fit}
use Rattle.store_model.specs.Changes.{Changed}
use Rattle.store_model.specs.Calls.{format_call}
use Rattle.store_laws.proofs.Formatted.{format_formats}
use Rattle.line_model.specs.declared.Session.{Session}
use Rattle.line_model.specs.Formats.{words_put, told, Formatted, unchanged, format_in, format_under, format_frame}
use Rattle.line_model.specs.Lines.{Framed, with_output}
use Rattle.ledger.specs.Line.{table_in, answer_line, FramePlays}
use Rattle.play_laws.specs.Buffers.{playing_in, Stands}
use Rattle.play_laws.proofs.Words.{length_table, words_in_lem, put_part, length_put, mid_part, length_mid}

-- a frame's line, and what it does
abbrev pub text_of : Framed → List ℕ
text_of r = answer_line r.0.answer (take 200 (part 0 r.0.shown r.3))

pub record Answering (t f : List ℕ) (w : Session) (fr : List ℕ) (r : Framed) : Type 0 where
  pub stands : Stands r.1 r.2 r.0.session
  pub plays : FramePlays (playing_in t f w) (playing_in r.1 r.2 r.0.session) fr (text_of r)

-- an accepted table is short enough, and so is its file
accepted_short : (t : List ℕ) → Accepted t → length t ≤ 243
accepted_short t a = omega (arith, a.words, a.type_count.1, a.chain_count)

pub accepted_fits : (t : List ℕ) → Accepted t → 512 * pages t ≤ 65536
accepted_fits t a = omega (arith, a.page_count.1)

-- a fresh file's length
fresh_length : (ws : List ℕ) → Accepted ws → length (layout ws empty) ≡ 512 * pages ws
fresh_length ws a = file_length ws (layout ws empty) empty a (record { formed = (start_fit ws).formed; bytes = refl })

-- a well-made frame 00 has as many words as half its bytes
frame_words : (fr : List ℕ) → get_or fr 0 0 ≡ 0 → well_made fr ≡ true → length (table_in (drop 1 fr)) ≡ length fr / 2
unfolding well_made
frame_words [] e m = clash false m refl
frame_words (c ∷ fr) e m =
    let even : length fr % 2 ≡ 0 = eqb-true _ _ (rw (eq-eqb c 0 e) at m) in
    omega (arith, length_table fr, even)

module _ (t f : List ℕ) (w : Session) (st : Stands t f w) where
  under_refused : (ws : List ℕ) → accepts ws ≡ false → length ws ≤ 243 → format_under t f w ws ≡ unchanged t f w 1
  unfolding format_under format_in
  under_refused ws e short = rw (le-ltb (length t) (length ws) (omega (arith, st.table_room)), e)

  under_done : (ws : List ℕ) → Accepted ws
      → format_under t f w ws ≡ (told (record { words = length ws; currency = unset }) (done_with 0 0 0), words_put t ws, put_mid 0 (512 * pages ws) f (layout ws empty))
  unfolding format_under format_in
  under_done ws a =
      let n = 512 * pages ws in
      let fits : n ≤ length f = omega (arith, accepted_fits ws a, st.file_room) in
      let d : Changed = format_call ws (part 0 n f) unset in
      let (ans, same, sound) = (format_formats ws (part 0 n f) unset d.0 d.1 refl).formatted a (length-take-le n f fits) in
      rw (le-ltb (length t) (length ws) (omega (arith, accepted_short ws a, st.table_room)), (accepts_exactly ws).1 a, le-ltb (length f) n fits, ans, sound.bytes)

  module _ (fr b : List ℕ) (zero : get_or fr 0 0 ≡ 0) where
    abbrev Goal : Formatted → Type 0
    Goal p = Answering t f w fr (with_output b p)

    unfit_frame : (Accepted (table_in (drop 1 fr)) → ⊥) → Goal (unchanged t f w 1)
    unfit_frame n = record {
      stands = st;
      plays = record {
        fresh = λ e a. absurd (n a);
        unfit = λ e m. (refl, refl);
        early = λ m e. absurd (m zero);
        called = λ m e. absurd (m zero);
      };
    }

    fresh_frame : Accepted (table_in (drop 1 fr)) → Goal (format_under t f w (table_in (drop 1 fr)))
    fresh_frame a =
        let ws = table_in (drop 1 fr) in
        let room : length ws ≤ length t = omega (arith, accepted_short ws a, st.table_room) in
        let fits : 512 * pages ws ≤ length f = omega (arith, accepted_fits ws a, st.file_room) in
        let long = fresh_length ws a in
        let after : playing_in (words_put t ws) (put_mid 0 (512 * pages ws) f (layout ws empty)) (record { words = length ws; currency = unset })
        ≡ record { table = ws; file = layout ws empty; cur = unset } = rw (put_part t ws room, mid_part (512 * pages ws) f (layout ws empty) long) in
        rw (under_done ws a) (record {
          stands = record {
            table_room = rw length_put st.table_room;
            file_room = rw (length_mid (512 * pages ws) f (layout ws empty) long fits) st.file_room;
            words_in_lem = rw length_put room;
            accepted = inr (rw (put_part t ws room) a);
            types = refl;
            chains = refl;
          };
          plays = record {
            fresh = λ e a. (after, refl);
            unfit = λ e n. absurd (n a);
            early = λ m e. absurd (m zero);
            called = λ m e. absurd (m zero);
          };
        })

    pub format_frame_lem : well_made fr ≡ true → Goal (format_frame t f w fr)
    unfolding format_frame
    format_frame_lem made =
        let ws = table_in (drop 1 fr) in
        let k = frame_words fr zero made in
        by_cases (ltb 243 (length fr / 2))
        (λ e. rw e (unfit_frame (λ a. omega (arith, accepted_short ws a, ltb-true 243 (length fr / 2) e, k))))
        (λ e.
        let short : length fr / 2 ≤ 243 = ltb-false 243 (length fr / 2) e in
        rw (e, words_in_lem fr (length fr / 2) k short) (by_cases (accepts ws)
        (λ y. fresh_frame ((accepts_exactly ws).0 y))
        (λ n. rw (under_refused ws n (omega (arith, k, short))) (unfit_frame (λ a. clash _ ((accepts_exactly ws).1 a) n)))))
