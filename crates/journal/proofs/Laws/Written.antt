-- The text of a call: the turns of its loops.
use Prim.Native.Nat.{ℕ, zero, suc, ◌+◌, ◌-◌, ◌≤◌, ◌<◌}
use mathlib.Core.Path.{◌≡◌, refl, sym, ◌∙◌}
use mathlib.Core.Bool.{Bool, true, false, not, cond}
use mir.Val.{bool_byte}
use native.Mathlib.Nat.{add-zero}
use mathlib.Core.List.{List, [], ◌∷◌}
use native.Mathlib.Omega.{arith}
use native.Mathlib.Numerals.{add-one}
use borrow.Author.Tests.{lt-ltb, le-ltb}
use lib.Dec.{eqb}
use lib.ListN.{length, get_or, drop, drop_of_length-le}
use lib.Pointwise.{pointwise}
use lib.Seq.{drop-cons}
use Rattle.std.specs.List.{filter, range_with_len}
use Rattle.ledger.proofs.Lists.Tests.{by_cases}
use Rattle.ledger.specs.Numbers.{same_key}
use Rattle.ledger.specs.Bytes.{page_in}
use Rattle.frames_model.specs.Texts.{hex_put}
use Rattle.restore_model.specs.Texts.{apart, differs, count_from, digits_put, changed_put, images_from}

-- the bytes of two slices that are the same
pub same_bytes : (a b : List ℕ) → pointwise eqb a b ≡ same_key a b
unfolding same_key
same_bytes [] [] = refl
same_bytes [] (y ∷ b) = refl
same_bytes (x ∷ a) [] = refl
same_bytes (x ∷ a) (y ∷ b) = rw (same_bytes a b) refl

-- page p differs
pub pages_differ : (f g a b : List ℕ) (p : ℕ) → a ≡ page_in f p → b ≡ page_in g p → not (pointwise eqb a b) ≡ apart f g p
unfolding apart
pages_differ f g a b p ea eb = rw (← ea, ← eb, same_bytes a b)

pub changed_number : (f g : List ℕ) (p : ℕ) (d : Bool) → d ≡ apart f g p → bool_byte d ≡ differs f g p
unfolding differs
changed_number f g p d e = rw (← e) (number d)
  where
    number : (b : Bool) → bool_byte b ≡ cond b 1 0
    number true = refl
    number false = refl

-- count_of
module _ (f g : List ℕ) where
  pub count_filtered : (k i c : ℕ) → c + length (filter (λ i. apart f g (i + 1)) (range_with_len i k)) ≡ count_from f g (i + 1) c k
  unfolding count_from differs
  count_filtered zero i c = add-zero c
  count_filtered (suc k) i c = by_cases (apart f g (i + 1))
      (λ e.
      let l = length (filter (λ i. apart f g (i + 1)) (range_with_len (i + 1) k)) in
      let one : c + suc l ≡ c + 1 + l = omega arith in
      rw e (one ∙ count_filtered k (i + 1) (c + 1)))
      (λ e. rw (e, add-zero c) (count_filtered k (i + 1) c))

-- put_digits
module _ (bs out : List ℕ) (at i : ℕ) (x : List ℕ) (inv : digits_put out at (drop i bs) ≡ x) where
  pub digits_end : length bs ≤ i → x ≡ out
  unfolding digits_put
  digits_end h = sym inv ∙ rw (drop_of_length-le bs h)

  module _ (h : i < length bs) where
    pub digits_full : length out < at + 2 → x ≡ out
    unfolding digits_put
    digits_full g = sym inv ∙ rw (drop-cons bs i 0 h, lt-ltb (length out) (at + 2) g)

    pub digits_next : (b : ℕ) (o : List ℕ) → b ≡ get_or bs i 0 → at + 2 ≤ length out → hex_put out at b ≡ o → digits_put o (at + 2) (drop (i + 1) bs) ≡ x
    unfolding digits_put
    digits_next b o eb g e = rw (add-one i, ← e, eb) (rw (drop-cons bs i 0 h, le-ltb (length out) (at + 2) g) at inv)

-- put_images
module _ (f g out : List ℕ) where
  put_turn : (at p k : ℕ) (x : ℕ × List ℕ) (o : List ℕ) (r : ℕ) → images_from out at f g p (suc k) ≡ x → changed_put out at f g p ≡ (r, o) → images_from o (at + r) f g (p + 1) k ≡ x
  unfolding images_from
  put_turn at p k x o r inv e = rw e at inv

  module _ (at i n : ℕ) (x : ℕ × List ℕ) (inv : images_from out at f g (i + 1) (n - i) ≡ x) where
    pub images_next : (o : List ℕ) (r : ℕ) → i < n → changed_put out at f g (i + 1) ≡ (r, o) → images_from o (at + r) f g (i + 1 + 1) (n - (i + 1)) ≡ x
    images_next o r h e = let more : n - i ≡ suc (n - (i + 1)) = omega arith in put_turn at (i + 1) (n - (i + 1)) x o r (rw more at inv) e

    pub images_end : n ≤ i → x ≡ (at, out)
    unfolding images_from
    images_end h = let none : n - i ≡ 0 = omega arith in sym (rw none at inv)
