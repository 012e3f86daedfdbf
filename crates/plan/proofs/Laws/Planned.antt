-- Which write is due: the next page told, pages told, and the line that is due put.
use Prim.Native.Nat.{ℕ, zero, suc, ◌+◌, ◌*◌, ◌-◌, ◌/◌, ◌≤◌, ◌<◌}
use mathlib.Core.Path.{◌≡◌}
use mathlib.Core.List.{List}
use native.Mathlib.Omega.{arith}
use native.Mathlib.Numerals.{add-one}
use borrow.Author.Tests.{eq-eqb, ne_eqb, lt-ltb, le-ltb}
use lib.ListN.{length, get_or, set, drop, drop_of_length-le}
use lib.Seq.{drop-cons}
use lib.Dec.{eqb}
use Rattle.std.proofs.Common.{Option, Some, None, cond, Bool, true, false}
use Rattle.std.specs.List.{find, range_with_len}
use Rattle.std.specs.Option.{option_map}
use Rattle.ledger.specs.declared.Due.TheVariants.{Image}
use Rattle.restore_model.specs.Texts.{pages_in, differs, image_put}
use Rattle.restore_model.specs.Plans.{marked_from, marks_from, marks_on, line_on}

-- marked_after
module _ (s : List ℕ) where
  pub found_from : (k i : ℕ) → k ≡ length s - i → option_map (λ i. i + 1) (find (λ i. eqb (get_or s i 0) 1) (range_with_len i k)) ≡ marked_from i (drop i s)
  unfolding marked_from
  found_from zero i e = let past : length s ≤ i = omega arith in rw (drop_of_length-le s past)
  found_from (suc k) i e =
      let within : i < length s = omega arith in
      rw (drop-cons s i 0 within, add-one i) (by_test (eqb (get_or s i 0) 1) (found_from k (suc i) (omega arith)))
    where
      by_test : (b : Bool) → option_map (λ i. i + 1) (find (λ i. eqb (get_or s i 0) 1) (range_with_len (suc i) k)) ≡ marked_from (suc i) (drop (suc i) s)
          → option_map (λ i. i + 1) (cond b (Some i) (find (λ i. eqb (get_or s i 0) 1) (range_with_len (suc i) k))) ≡ cond b (Some (suc i)) (marked_from (suc i) (drop (suc i) s))
      by_test true h = rw (add-one i)
      by_test false h = h

pub plain : {o : Option ℕ} (r : Option ℕ) → option_map (λ x. x) r ≡ o → r ≡ o
plain None e = e
plain (Some x) e = e

-- put_marks
pub marks_next : (f g s : List ℕ) (i n : ℕ) (x u : List ℕ) → marks_from f g s i (n - i) ≡ x → i < n → set s i (differs f g (i + 1)) ≡ u
    → marks_from f g u (i + 1) (n - (i + 1)) ≡ x
unfolding marks_from
marks_next f g s i n x u inv h e = let more : n - i ≡ suc (n - (i + 1)) = omega arith in rw (← e) (rw more at inv)

-- mark
module _ (f g s : List ℕ) where
  pub mark_apart : (length f ≡ length g → ⊥) → marks_on f g s ≡ (None, s)
  unfolding marks_on
  mark_apart m = rw (ne_eqb (length f) (length g) m)

  module _ (e : length f ≡ length g) where
    pub mark_size : None ≡ pages_in (length f) → marks_on f g s ≡ (None, s)
    unfolding marks_on
    mark_size en = rw (eq-eqb (length f) (length g) e, ← en)

    module _ (n : ℕ) (en : Some n ≡ pages_in (length f)) where
      pub mark_room : length s < n → marks_on f g s ≡ (None, s)
      unfolding marks_on
      mark_room h = rw (eq-eqb (length f) (length g) e, ← en, lt-ltb (length s) n h)

      pub mark_put : (u : List ℕ) → n ≤ length s → marks_from f g s 0 n ≡ u → marks_on f g s ≡ (Some n, u)
      unfolding marks_on
      mark_put u h eu = rw (eq-eqb (length f) (length g) e, ← en, le-ltb (length s) n h, eu)

-- put_image_line
module _ (f out : List ℕ) (p : ℕ) where
  pub image_unnamed : p ≡ 0 → line_on f (Some (Image p)) out ≡ (None, out)
  unfolding line_on
  image_unnamed e = rw (eq-eqb p 0 e)

  module _ (n : p ≡ 0 → ⊥) where
    pub image_beyond : length f / 512 < p → line_on f (Some (Image p)) out ≡ (None, out)
    unfolding line_on
    image_beyond h = rw (ne_eqb p 0 n, lt-ltb (length f) (512 * p) (omega arith))

    module _ (h : p ≤ length f / 512) where
      pub image_room : length out < 1029 → line_on f (Some (Image p)) out ≡ (None, out)
      unfolding line_on
      image_room g = rw (ne_eqb p 0 n, le-ltb (length f) (512 * p) (omega arith), lt-ltb (length out) 1029 g)

      pub image_put_lem : (o : List ℕ) → 1029 ≤ length out → image_put out 0 f p ≡ o → line_on f (Some (Image p)) out ≡ (Some 1029, o)
      unfolding line_on
      image_put_lem o g e = rw (ne_eqb p 0 n, le-ltb (length f) (512 * p) (omega arith), le-ltb (length out) 1029 g, e)
