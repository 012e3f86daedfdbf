-- Text read and written is what "The frame player" says: a line decoded is its frame, an answer put is what it prints.
use Prim.Native.Nat.{ℕ, suc, ◌+◌, ◌*◌, ◌%◌, ◌≤◌, ◌<◌}
use mathlib.Core.Path.{◌≡◌, refl, ◌∙◌, ap}
use mathlib.Core.Bool.{Bool, true, false, cond, not, and-false}
use mathlib.Core.List.{List, [], ◌∷◌, ◌++◌, append_assoc}
use mathlib.Core.Option.{Option, none, some, map}
use Rattle.std.proofs.Common.{Some, None, Ok}
use Rattle.std.specs.Result.{result_ok}
use native.Mathlib.Omega.{arith}
use native.Mathlib.Nat.{add-zero, zero-add}
use native.Mathlib.Numerals.{add-one}
use lib.ListN.{length, set, take, drop, length-append, length-set}
use lib.Seq.{sets, sets-eq, take_all}
use lib.Dec.{eqb, leb}
use borrow.Author.Tests.{eq-eqb, ne_eqb, ltb-true, ltb-false, leb-true, lt-leb}
use Rattle.ledger.specs.declared.Answer.{Answer}
use Rattle.ledger.specs.Numbers.{digits, keep, concat_of}
use Rattle.ledger.specs.Rules.{between}
use Rattle.ledger.specs.Player.{digit_value, is_digit, pairs_of, frame_of, hex_of, printed}
use Rattle.ledger.proofs.Lists.Tests.{by_cases, both}
use Rattle.ledger.proofs.Lists.Parts.{sets_append}
use Rattle.ledger.proofs.Lists.Runs.{concat_of_append}
use Rattle.frames_model.specs.declared.Reading.{Reading}
use Rattle.frames_model.specs.Texts.{Decoded, digit_on, step_on, decode_from, decode_on, head_of, bytes_put, text_put}

-- a text at the front of an output that has room for it: the rest stands
pub text_put_lem : (out s : List ℕ) → length s ≤ length out → text_put out s ≡ (length s, s ++ drop (length s) out)
unfolding text_put
text_put_lem out s h = rw (sets-eq s out 0 (omega arith), zero-add)

-- the digits of bytes
pub length_hex : (bs : List ℕ) → length (hex_of bs) ≡ 2 * length bs
unfolding hex_of concat_of
length_hex [] = refl
length_hex (b ∷ bs) = omega (arith, length_hex bs)

-- an answer, its data and a line end put one after another are one text put
pub line_put : (out o p : List ℕ) (a : Answer) (head bs : List ℕ) (start end : ℕ) → head ≡ head_of a → bytes_put out 0 head ≡ (start, o) → bytes_put o 16 bs ≡ (end, p)
    → text_put out (printed a (take 200 bs) ++ (10 ∷ [])) ≡ (end + 1, set p end 10)
unfolding text_put bytes_put head_of digits
line_put out o p a head bs start end eh eo ep =
    let u = hex_of (head_of a) in
    let v = hex_of (take 200 bs) in
    let whole : printed a (take 200 bs) ≡ u ++ v = unfold printed hex_of in concat_of_append _ (head_of a) (take 200 bs) in
    let front : sets out 0 u ≡ o = ap (λ (r : ℕ × List ℕ). r.1) (rw eh at eo) in
    let long : length u ≡ 16 = length_hex (head_of a) in
    let size : length (u ++ v) ≡ end = length-append u v ∙ rw (long, length_hex (take 200 bs)) (ap (λ (r : ℕ × List ℕ). r.0) ep) in
    let text : sets out 0 (u ++ v) ≡ p = sets_append out 0 u v ∙ rw (zero-add, long, front) (ap (λ (r : ℕ × List ℕ). r.1) ep) in
    rw (whole, sets_append out 0 (u ++ v) (10 ∷ []), length-append (u ++ v) (10 ∷ []), text, zero-add, size)

-- for an output that has room, and data of at most 200 bytes: the line stands at its front, and the rest of it stays
pub line_stands : (out : List ℕ) (a : Answer) (bs : List ℕ) → length bs ≤ 200 → 17 + 2 * length bs ≤ length out
    → text_put out (printed a (take 200 bs) ++ (10 ∷ [])) ≡ (17 + 2 * length bs, printed a bs ++ (10 ∷ drop (17 + 2 * length bs) out))
line_stands out a bs short room =
    let size : length (printed a bs) ≡ 16 + 2 * length bs = unfold printed digits in length_hex _ ∙ omega arith in
    let all : length (printed a bs ++ (10 ∷ [])) ≡ 17 + 2 * length bs = length-append (printed a bs) (10 ∷ []) ∙ omega arith in
    rw (take_all 200 bs short, text_put_lem out (printed a bs ++ (10 ∷ [])) (omega arith), all, append_assoc)

-- a character's value is a digit's or 16
cond_most : (b : Bool) (x y m : ℕ) → (b ≡ true → x ≤ m) → y ≤ m → cond b x y ≤ m
cond_most true x y m f h = f refl
cond_most false x y m f h = h

between_most : (c a b : ℕ) → between c a b ≡ true → c ≤ b
unfolding between
between_most c a b e = leb-true c b (both (leb a c) (leb c b) e).1

digit_small : (c : ℕ) → digit_value c ≤ 16
unfolding digit_value
digit_small c =
    cond_most (between c 48 57) _ _ 16 (λ e. omega (arith, between_most c 48 57 e))
    (cond_most (between c 65 70) _ _ 16 (λ e. omega (arith, between_most c 65 70 e))
    (cond_most (between c 97 102) _ _ 16 (λ e. omega (arith, between_most c 97 102 e)) (omega arith)))

no_digit : (c : ℕ) → (is_digit c ≡ false) → digit_value c ≡ 16
no_digit c e = omega (arith, digit_small c, ltb-false (digit_value c) 16 e)

-- what reading on from n bytes done, with n bytes in the frame, comes to
abbrev Reads : Option (List ℕ) → ℕ → List ℕ → Decoded → Type 0
Reads none n frame r = result_ok r.0 ≡ None
Reads (some bs) n frame r = (n + length bs ≤ length frame) × (r ≡ (Ok (n + length bs), sets frame n bs))

-- a state with n bytes done, and one with a first digit a besides
abbrev even : ℕ → Reading
even n = record { high = None; count = n }

abbrev odd : ℕ → ℕ → Reading
odd n a = record { high = Some (digit_value a); count = n }

abbrev unspaced : List ℕ → List ℕ
unspaced cs = keep (λ c. not (eqb c 32)) cs

-- a first character that is no digit
pairs_bad : (c : ℕ) (cs : List ℕ) → is_digit c ≡ false → pairs_of (c ∷ cs) ≡ none
unfolding pairs_of
pairs_bad c [] e = refl
pairs_bad c (b ∷ cs) e = rw e

reads_more : (o : Option (List ℕ)) (b n : ℕ) (frame : List ℕ) (r : Decoded) → Reads o (n + 1) (set frame n b) r
    → Reads (map (λ bs. b ∷ bs) o) n frame r
reads_more none b n frame r h = h
reads_more (some bs) b n frame r (fits, h) =
    let e : n + 1 + length bs ≡ n + suc (length bs) = omega arith in
    (omega (arith, fits, length-set frame n b), h ∙ rw (e, add-one n))

reads_from : (cs : List ℕ)
    → ((frame : List ℕ) (n : ℕ) → length cs + 2 * n ≤ 2 * length frame → Reads (pairs_of (unspaced cs)) n frame (decode_from cs frame (even n)))
    × ((frame : List ℕ) (n a : ℕ) → is_digit a ≡ true → 1 + length cs + 2 * n ≤ 2 * length frame
    → Reads (pairs_of (a ∷ unspaced cs)) n frame (decode_from cs frame (odd n a)))
unfolding pairs_of keep decode_from step_on digit_on
reads_from [] = ((λ frame n h. (omega arith, rw (add-zero n))), (λ frame n a d h. refl))
reads_from (c ∷ cs) =
    let (on, off) = reads_from cs in
    by_cases (eqb c 32)
    (λ e. ((λ frame n h. rw e (on frame n (omega arith))), (λ frame n a d h. rw e (off frame n a d (omega arith)))))
    (λ e. by_cases (is_digit c)
    (λ d.
    let v : digit_value c < 16 = ltb-true (digit_value c) 16 d in
    let x : eqb (digit_value c) 16 ≡ false = ne_eqb (digit_value c) 16 (omega arith) in (
      (λ frame n h. rw (e, x) (off frame n c d (omega arith))),
      λ frame n a f h.
          let u : digit_value a < 16 = ltb-true (digit_value a) 16 f in
          let b : digit_value a % 16 * 16 + digit_value c % 16 ≡ 16 * digit_value a + digit_value c = omega arith in
          rw (e, x, f, d, lt-leb (length frame) n (omega arith), b)
          (reads_more (pairs_of (unspaced cs)) _ n frame _ (on (set frame n _) (n + 1) (rw length-set (omega arith)))),
    ))
    (λ d.
    let x : eqb (digit_value c) 16 ≡ true = eq-eqb (digit_value c) 16 (no_digit c d) in
    ((λ frame n h. rw (e, x, pairs_bad c (unspaced cs) d)), λ frame n a f h. rw (e, x, d, and-false (is_digit a)))))

-- a line decoded into a frame that has room for half of it: done exactly where the line carries a frame, which then stands at the front
module _ (line frame : List ℕ) (room : length line ≤ 2 * length frame) where
  reads : Reads (frame_of line) 0 frame (decode_on line frame)
  unfolding frame_of decode_on
  reads = (reads_from line).0 frame 0 (omega arith)

  pub decode_none : frame_of line ≡ none → result_ok (decode_on line frame).0 ≡ None
  decode_none e = rw e at reads

  pub decode_some : (bs : List ℕ) → frame_of line ≡ some bs → decode_on line frame ≡ (Ok (length bs), bs ++ drop (length bs) frame)
  decode_some bs e =
      let (fits, h) = rw e at reads in
      h ∙ rw (sets-eq bs frame 0 (omega arith), zero-add)
