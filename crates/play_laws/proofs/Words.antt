-- The table's words out of a frame, and into the player's buffers.
use Prim.Native.Nat.{ℕ, zero, suc, ◌+◌, ◌*◌, ◌/◌, ◌≤◌, ◌<◌}
use mathlib.Core.Path.{◌≡◌, refl, sym, ◌∙◌}
use mathlib.Core.List.{List, [], ◌∷◌, ◌++◌}
use native.Mathlib.Omega.{arith}
use lib.ListN.{length, get_or, set, take, drop, replicate, length-set, length-append, length-drop, take-append-drop}
use lib.Seq.{get_or-set_same, get_or-set_other, get_or-take, get_or-drop, ext_get_or, length-take-le, take_at}
use borrow.Rule.Slice.PartMut.{put_mid}
use Rattle.ledger.specs.Numbers.{part}
use Rattle.ledger.specs.Bytes.{two_at}
use Rattle.ledger.proofs.Lists.Tests.{same_or_not}
use Rattle.line_model.specs.Formats.{fill_from, filled, word_in, words_in, words_put}
use Rattle.ledger.specs.Line.{table_in}

-- words filled one by one
module _ (g : ℕ → ℕ) where
  length_fill : (ws : List ℕ) (i k : ℕ) → length (fill_from g ws i k) ≡ length ws
  unfolding fill_from
  length_fill ws i zero = refl
  length_fill ws i (suc k) = length_fill (set ws i (g i)) (i + 1) k ∙ length-set ws i (g i)

  fill_before : (ws : List ℕ) (i k j : ℕ) → j < i → get_or (fill_from g ws i k) j 0 ≡ get_or ws j 0
  unfolding fill_from
  fill_before ws i zero j h = refl
  fill_before ws i (suc k) j h = fill_before (set ws i (g i)) (i + 1) k j (omega arith) ∙ get_or-set_other ws i j (g i) 0 (λ e. omega arith)

  fill_at : (ws : List ℕ) (i k j : ℕ) → i ≤ j → j < i + k → j < length ws → get_or (fill_from g ws i k) j 0 ≡ g j
  unfolding fill_from
  fill_at ws i zero j lo hi room = absurd (omega arith)
  fill_at ws i (suc k) j lo hi room = same_or_not j i
      (λ e. fill_before (set ws i (g i)) (i + 1) k j (omega arith) ∙ rw e (get_or-set_same ws i (g i) 0 (rw e at room)))
      (λ n. fill_at (set ws i (g i)) (i + 1) k j (omega arith) (omega arith) (rw length-set room))

  fill_after : (ws : List ℕ) (i k j : ℕ) → i + k ≤ j → get_or (fill_from g ws i k) j 0 ≡ get_or ws j 0
  unfolding fill_from
  fill_after ws i zero j h = refl
  fill_after ws i (suc k) j h = fill_after (set ws i (g i)) (i + 1) k j (omega arith) ∙ get_or-set_other ws i j (g i) 0 (λ e. omega arith)

  filled_part : (ws vs : List ℕ) (k : ℕ) → length vs ≤ k → k ≤ length ws → ((j : ℕ) → j < length vs → get_or vs j 0 ≡ g j)
      → part 0 (length vs) (filled g ws k) ≡ vs
  unfolding filled
  filled_part ws vs k fits room same =
      let size : length (take (length vs) (fill_from g ws 0 k)) ≡ length vs = length-take-le _ _ (omega (arith, length_fill ws 0 k)) in
      ext_get_or 0 _ vs size (λ j h.
      let lt : j < length vs = omega arith in
      rw (get_or-take (length vs) (fill_from g ws 0 k) j 0 lt, fill_at ws 0 k j (omega arith) (omega arith) (omega arith)) (sym (same j lt)))

-- a table put at the front of a buffer
pub put_part : (t ws : List ℕ) → length ws ≤ length t → part 0 (length ws) (words_put t ws) ≡ ws
unfolding words_put
put_part t ws h = filled_part (λ i. get_or ws i 0) t ws (length ws) (omega arith) h (λ j lt. refl)

pub length_put : (t ws : List ℕ) → length (words_put t ws) ≡ length t
unfolding words_put filled
length_put t ws = length_fill (λ i. get_or ws i 0) t 0 (length ws)

pub put_front : (t ws : List ℕ) → length ws ≤ length t → words_put t ws ≡ ws ++ drop (length ws) t
unfolding words_put filled
put_front t ws h =
    let n = length ws in
    let rest : drop n (words_put t ws) ≡ drop n t = ext_get_or 0 _ _ (rw (length-drop, length-drop, length_put t ws)) (λ j lt. after j) in
    sym (take-append-drop n (words_put t ws)) ∙ rw (put_part t ws h, rest)
  where
    after : (j : ℕ) → get_or (drop (length ws) (words_put t ws)) j 0 ≡ get_or (drop (length ws) t) j 0
    after j = get_or-drop (length ws) _ j 0 ∙ fill_after (λ i. get_or ws i 0) t 0 (length ws) (length ws + j) (omega arith) ∙ sym (get_or-drop (length ws) t j 0)

-- the words of bytes
pub length_table : (bs : List ℕ) → length (table_in bs) ≡ length bs / 2
unfolding table_in
length_table [] = refl
length_table (a ∷ []) = refl
length_table (a ∷ b ∷ bs) = omega (arith, length_table bs)

table_word : (bs : List ℕ) (j : ℕ) → j < length (table_in bs) → get_or (table_in bs) j 0 ≡ two_at bs (2 * j)
unfolding table_in two_at
table_word [] j h = absurd (omega arith)
table_word (a ∷ []) j h = absurd (omega arith)
table_word (a ∷ b ∷ bs) zero h = omega arith
table_word (a ∷ b ∷ bs) (suc j) h =
    let e : 2 * suc j ≡ suc (suc (2 * j)) = omega arith in
    let f : suc (suc (2 * j)) + 1 ≡ suc (suc (2 * j + 1)) = omega arith in
    rw (e, f) (table_word bs j (omega arith))

frame_word : (fr : List ℕ) (j : ℕ) → two_at (drop 1 fr) (2 * j) ≡ word_in fr j
unfolding two_at word_in
frame_word fr j =
    let e : 1 + (2 * j + 1) ≡ 1 + 2 * j + 1 = omega arith in
    rw (get_or-drop 1 fr (2 * j) 0, get_or-drop 1 fr (2 * j + 1) 0, e)

pub words_in_lem : (fr : List ℕ) (k : ℕ) → length (table_in (drop 1 fr)) ≡ k → k ≤ 243 → part 0 k (words_in fr (replicate 243 0)) ≡ table_in (drop 1 fr)
unfolding words_in
words_in_lem fr k e h =
    rw (← e)
    (filled_part (word_in fr) (replicate 243 0) (table_in (drop 1 fr)) 243 (omega arith) (omega arith)
    (λ j lt. table_word (drop 1 fr) j lt ∙ frame_word fr j))

-- a file put at the front of a buffer
pub mid_part : (n : ℕ) (f g : List ℕ) → length g ≡ n → part 0 n (put_mid 0 n f g) ≡ g
mid_part n f g e = take_at g _ n e

pub length_mid : (n : ℕ) (f g : List ℕ) → length g ≡ n → n ≤ length f → length (put_mid 0 n f g) ≡ length f
length_mid n f g e h = length-append g _ ∙ rw length-drop (omega arith)
