-- An answer put into an output.
use Prim.Native.Nat.{ℕ, suc, ◌+◌, ◌*◌, ◌/◌, ◌%◌, ◌^◌, ◌≤◌, ◌<◌}
use mathlib.Core.Path.{◌≡◌, refl, ◌∙◌, sym, ap}
use mathlib.Core.List.{List, [], ◌∷◌, ◌++◌}
use native.Mathlib.Omega.{arith}
use native.Mathlib.Numerals.{add-one}
use lib.ListN.{length-take, length-set, length, get_or, take, drop, set, drop_of_length-le}
use lib.Seq.{sets, set_out, drop-cons}
use Rattle.std.specs.Int.{w16, w32, to_be_bytes}
use Rattle.ledger.specs.declared.Answer.{Answer}
use Rattle.ledger.specs.Numbers.{digits, concat_of}
use Rattle.ledger.specs.Player.{digit_of, hex_of, printed}
use Rattle.model.specs.Moves.{part_put}
use Rattle.frames_model.specs.Texts.{head_of, bytes_put, hex_put, text_put}
use Rattle.frames_model.proofs.Texts.{line_put}

-- put_hex, digit by digit, and as a part
pub hex_by_digits : (out p : List ℕ) (at b d e : ℕ) → b < 256 → d ≡ digit_of (b / 16 % 16) → e ≡ digit_of (b % 16) → set (set out at d) (at + 1) e ≡ p → hex_put out at b ≡ p
unfolding hex_put
hex_by_digits out p at b d e small ed ee ep =
    let h : b / 16 % 16 ≡ b / 16 = omega arith in
    rw (← h, ← ed, ← ee) ep

pub hex_is : (out p : List ℕ) (at b d e : ℕ) → b < 256 → d ≡ digit_of (b / 16 % 16) → e ≡ digit_of (b % 16) → part_put out at (d ∷ e ∷ []) ≡ p → hex_put out at b ≡ p
unfolding part_put
hex_is out p at b d e small ed ee ep = hex_by_digits out p at b d e small ed ee (rw add-one ep)

pub hex_past : (out : List ℕ) (at b : ℕ) → length out ≤ at → hex_put out at b ≡ out
unfolding hex_put
hex_past out at b h = set_out _ (at + 1) _ (simp length-set (omega arith)) ∙ set_out out at _ h

-- put_bytes, where i bytes are put and x is the output with all of them
module _ (bs : List ℕ) (at i : ℕ) (out x : List ℕ) (inv : sets out (at + 2 * i) (hex_of (drop i bs)) ≡ x) where
  pub bytes_end : length bs ≤ i → x ≡ out
  unfolding hex_of concat_of
  bytes_end h = sym inv ∙ rw (drop_of_length-le bs h)

  pub bytes_next : (p : List ℕ) → i < length bs → hex_put out (at + 2 * i) (get_or bs i 0) ≡ p → sets p (at + 2 * (i + 1)) (hex_of (drop (i + 1) bs)) ≡ x
  unfolding hex_of concat_of hex_put
  bytes_next p h e =
      let j : at + 2 * (i + 1) ≡ suc (suc (at + 2 * i)) = omega arith in
      let e2 : set (set out (at + 2 * i) (digit_of (get_or bs i 0 / 16))) (suc (at + 2 * i)) (digit_of (get_or bs i 0 % 16)) ≡ p = rw add-one at e in
      rw (j, add-one, ← e2) (rw (drop-cons bs i 0 h) at inv)

pub bytes_done : (all shown out o : List ℕ) (at : ℕ) → shown ≡ take 200 all → sets out at (hex_of shown) ≡ o → bytes_put out at all ≡ (at + 2 * length shown, o)
unfolding bytes_put
bytes_done all shown out o at es e = rw (← es, e)

pub shown_short : (all shown : List ℕ) → shown ≡ take 200 all → length shown ≤ 200
shown_short all shown es = rw es (simp length-take (omega arith))

pub bytes_near : (all out o : List ℕ) (at end : ℕ) → bytes_put out at all ≡ (end, o) → end ≤ at + 400
unfolding bytes_put
bytes_near all out o at end e =
    let q : at + 2 * length (take 200 all) ≡ end = ap (λ (r : ℕ × List ℕ). r.0) e in
    omega (arith, shown_short all (take 200 all) refl)

-- head_of
pub head_is : (a : Answer) (r k n : List ℕ) → r ≡ to_be_bytes w32 a.reference → k ≡ to_be_bytes w16 a.kind → n ≡ to_be_bytes w16 a.count
    → (a.code ∷ get_or r 1 0 ∷ get_or r 2 0 ∷ get_or r 3 0 ∷ get_or k 0 0 ∷ get_or k 1 0 ∷ get_or n 0 0 ∷ get_or n 1 0 ∷ []) ≡ head_of a
unfolding head_of digits
head_is a r k n er ek en =
    let x : a.reference / 256 ^ 2 % 256 ≡ a.reference / 256 / 256 % 256 = omega arith in
    let y : a.reference / 256 ^ 1 % 256 ≡ a.reference / 256 % 256 = omega arith in
    let u : a.kind / 256 ^ 1 % 256 ≡ a.kind / 256 % 256 = omega arith in
    let v : a.count / 256 ^ 1 % 256 ≡ a.count / 256 % 256 = omega arith in
    rw (er, ek, en, x, y, u, v) refl

-- put_line
pub line_done : (out o p q : List ℕ) (a : Answer) (head bs : List ℕ) (start end : ℕ) → head ≡ head_of a → bytes_put out 0 head ≡ (start, o) → bytes_put o 16 bs ≡ (end, p)
    → set p end 10 ≡ q → text_put out (printed a (take 200 bs) ++ (10 ∷ [])) ≡ (end + 1, q)
line_done out o p q a head bs start end eh eo ep eq = line_put out o p a head bs start end eh eo ep ∙ rw eq
