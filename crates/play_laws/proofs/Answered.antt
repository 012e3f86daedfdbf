-- Any frame but 00: refused until there is a table, then the call that it carries.
use Prim.Native.Nat.{ℕ, ◌*◌, ◌≤◌}
use mathlib.Core.Path.{◌≡◌, refl, ap}
use mathlib.Core.Logic.{◌⊎◌, inl, inr}
use mathlib.Core.List.{List}
use native.Mathlib.Omega.{arith}
use mir.Syntax.{w8}
use mir.Val.{Fits}
use lib.ListN.{length, get_or, take, replicate}
use lib.Seq.{length-take-le}
use lib.Dec.{eqb}
use borrow.Author.Tests.{eq-eqb, ne_eqb, le-ltb}
use borrow.Rule.Slice.PartMut.{put_mid}
use Rattle.ledger.specs.declared.Answer.{Answer}
use Rattle.ledger.specs.Numbers.{part}
use Rattle.ledger.specs.Table.{pages, Accepted}
use Rattle.ledger.specs.Pages.{Ledger, bytes_at, Sound}
use Rattle.ledger.specs.Answers.{refused_with}
use Rattle.ledger.specs.Calls.{READ}
use Rattle.ledger.specs.Promise.{Promised}
use Rattle.ledger.specs.Player.{call_in}
use Rattle.ledger.proofs.Lists.Tests.{by_cases}
use Rattle.ledger.proofs.Lists.Parts.{part_bytes}
use Rattle.play_model.specs.Plays.{Played, play_on}
use Rattle.line_model.specs.declared.Session.{Session}
use Rattle.line_model.specs.Formats.{told}
use Rattle.line_model.specs.Lines.{shown_of, reply_of, call_under, call_frame, with_table}
use Rattle.play_laws.specs.Buffers.{playing_in, Stands}
use Rattle.play_laws.proofs.Frames.{format_frame_lem, read_frame, play_promised}
use Rattle.play_laws.proofs.Sixteens.{Sixteen, play_sixteen}
use Rattle.play_laws.proofs.Called.{plays_length, read_data}
use Rattle.play_laws.proofs.Words.{mid_part, length_mid}
use Rattle.play_laws.proofs.Opened.{Answering, accepted_fits}

-- what is shown of a call that is no READ, or is refused
read_call_lem : (fr : List ℕ) → get_or fr 0 0 ≡ 10 → call_in fr 200 ≡ READ 200
unfolding call_in
read_call_lem fr e = rw e

shown_none : (t fr : List ℕ) (a : Answer) → ((call_in fr 200 ≡ READ 200 → ⊥) ⊎ (a.code ≡ 0 → ⊥)) → shown_of t fr a ≡ 0
unfolding shown_of
shown_none t fr a (inl n) = rw (ne_eqb (get_or fr 0 0) 10 (λ e. n (read_call_lem fr e)))
shown_none t fr a (inr n) = by_cases (eqb (get_or fr 0 0) 10) (λ e. rw (e, ne_eqb a.code 0 n)) (λ e. rw e)

-- there is no table yet
module _ (t f : List ℕ) (w : Session) (st : Stands t f w) (fr b : List ℕ) (other : get_or fr 0 0 ≡ 0 → ⊥) where
  early_frame : w.words ≡ 0 → Answering t f w fr (with_table t (told w (refused_with 1), f, b))
  early_frame none = record {
    stands = st;
    plays = record {
      fresh = λ e. absurd (other e);
      unfit = λ e. absurd (other e);
      early = λ n e. (refl, refl);
      called = λ n some. absurd (some (rw none));
    };
  }

-- there is one
module _ (t f : List ℕ) (small : (i : ℕ) → Fits w8 (get_or f i 0)) (w : Session) (st : Stands t f w)
    (fr : List ℕ) (bytes : (i : ℕ) → Fits w8 (get_or fr i 0)) (other : get_or fr 0 0 ≡ 0 → ⊥) (a : Accepted (part 0 w.words t)) where
  abbrev tab : List ℕ
  tab = part 0 w.words t

  abbrev size : ℕ
  size = 512 * pages tab

  abbrev held : List ℕ
  held = part 0 size f

  abbrev went : Played
  went = play_on tab held w.currency fr (replicate 200 0)

  words : length tab ≡ w.words
  words = length-take-le w.words t st.words_in_lem

  fits : size ≤ length f
  fits = omega (arith, accepted_fits tab a, st.file_room)

  held_small : (i : ℕ) → Fits w8 (get_or held i 0)
  held_small i = record { fits = part_bytes f 0 size (λ j. omega (arith, small j)) i }

  promised : Promised (call_in fr 200) tab held went.1 (replicate 200 0) went.2 w.currency went.0
  promised = play_promised tab held w.currency held_small st.types st.chains fr bytes
      (replicate 200 0) went.0 went.1 went.2 refl

  long : length went.1 ≡ size
  long = plays_length _ tab held went.1 w.currency went.0 (promised.plays (λ e. other (format_frame_lem fr 200 e))) a (length-take-le size f fits)

  sixteen : Sixteen went.0.currency
  sixteen = play_sixteen tab held w.currency (record { types = st.types; chains = st.chains }) fr (replicate 200 0)

  data_shown : call_in fr 200 ≡ READ 200 → went.0.answer.code ≡ 0 → (l : Ledger) → Sound tab held l
      → take 200 (part 0 (shown_of tab fr went.0.answer) went.2) ≡ bytes_at l w.currency.run
  unfolding shown_of
  data_shown c z l s =
      rw (eq-eqb (get_or fr 0 0) 10 (read_frame fr 200 c), eq-eqb went.0.answer.code 0 z)
      (read_data tab held (replicate 200 0) went.2 w.currency went.0 (promised.reads c) a (omega arith) z l s)

  called_frame : Answering t f w fr (with_table t (call_under tab f w fr (replicate 200 0)))
  unfolding call_under reply_of
  called_frame =
      let after : playing_in t (put_mid 0 size f went.1) (record { words = length tab; currency = went.0.currency })
      ≡ record { table = tab; file = went.1; cur = went.0.currency } = rw (words, mid_part size f went.1 long) in
      rw (le-ltb (length f) size fits) (record {
        stands = record {
          table_room = st.table_room;
          file_room = rw (length_mid size f went.1 long fits) st.file_room;
          words_in_lem = omega (arith, words, st.words_in_lem);
          accepted = inr (rw words a);
          types = sixteen.types;
          chains = sixteen.chains;
        };
        plays = record {
          fresh = λ e. absurd (other e);
          unfit = λ e. absurd (other e);
          early = λ n e. absurd (omega (arith, ap length e, a.words));
          called = λ n some. rw after (record {
            r = went.0;
            o' = went.2;
            shown = take 200 (part 0 (shown_of tab fr went.0.answer) went.2);
            promised = promised;
            same_table = refl;
            currency = refl;
            data_shown = data_shown;
            none_shown = λ h. rw (shown_none tab fr went.0.answer h);
            prints = refl;
          });
        };
      })

  taken_frame : Answering t f w fr (with_table t (call_frame t f w fr (replicate 200 0)))
  unfolding call_frame
  taken_frame =
      rw (ne_eqb w.words 0 (λ e. omega (arith, words, a.words)), le-ltb (length t) w.words st.words_in_lem) called_frame

module _ (t f : List ℕ) (small : (i : ℕ) → Fits w8 (get_or f i 0)) (w : Session) (st : Stands t f w)
    (fr : List ℕ) (bytes : (i : ℕ) → Fits w8 (get_or fr i 0)) (other : get_or fr 0 0 ≡ 0 → ⊥) where
  pub call_frame_lem : Answering t f w fr (with_table t (call_frame t f w fr (replicate 200 0)))
  call_frame_lem = elim st.accepted [
    | inl z ↦ unfold call_frame in rw (eq-eqb w.words 0 z) (early_frame t f w st fr (replicate 200 0) other z)
    | inr a ↦ taken_frame t f small w st fr bytes other a
  ]
