-- A journal walked byte by byte shows its last group.
use Prim.Native.Nat.{ℕ, zero, suc, ◌+◌, ◌≤◌, ◌<◌}
use mathlib.Core.Path.{◌≡◌, refl, sym, ◌∙◌, ap}
use mathlib.Core.Logic.{◌≢◌}
use mathlib.Core.Bool.{Bool, true, false, ◌&&◌}
use mathlib.Core.List.{List, [], ◌∷◌, ◌++◌, map}
use native.Mathlib.Omega.{arith}
use native.Mathlib.Nat.{add-zero}
use native.Mathlib.Numerals.{add-one}
use lib.ListN.{length, get_or, take, drop, length-append, length-drop, drop_of_length-le}
use lib.Seq.{take-suc, drop-cons, get_or-drop}
use lib.Dec.{leb}
use borrow.Author.Tests.{eq-eqb, ne_eqb, lt-ltb, le-ltb, leb-true, leb-false}
use Rattle.ledger.specs.Numbers.{all, part}
use Rattle.ledger.specs.Player.{digit_value, is_digit, pairs_of}
use Rattle.ledger.proofs.Lists.Tests.{by_cases, same_or_not}
use Rattle.ledger.specs.Journal.Recovery.{lines_of, Line, image, ready, done, malformed, line_read, lines_said, Group, finished, next_group, group_from, last_group}
use Rattle.restore_model.specs.declared.Walk.{Walk}
use Rattle.restore_model.specs.Walks as walks
use Rattle.restore_model.proofs.Lines.{said_of, said_is, image_read}
use Rattle.restore_model.proofs.Steps.{Shown, Fits, step}

-- the walk before byte i, in a line that so far is `sofar`
record At (n : ℕ) (j : List ℕ) (i : ℕ) (w : Walk) (g : Group) (sofar : List ℕ) : Type 0 where
  place : w.start + length sofar ≡ i
  stands : sofar ≡ part w.start (length sofar) j
  good : w.good ≡ all (λ c. is_digit c) sofar
  lines : lines_of sofar (drop i j) ≡ lines_of [] (drop w.start j)
  shown : Shown n j w.group w.last w.from w.start g

-- and at the end
pub record Walked (n : ℕ) (j : List ℕ) (w : Walk) (g : Group) : Type 0 where
  pub shown : Shown n j w.group w.last w.from w.start g
  pub over : lines_said n (drop w.start j) ≡ []

all_more : (p : ℕ → Bool) (xs : List ℕ) (x : ℕ) → all p (xs ++ (x ∷ [])) ≡ (all p xs && p x)
unfolding all
all_more p [] x = by_cases (p x) (λ e. rw e) (λ e. rw e)
all_more p (y ∷ xs) x = by_cases (p y) (λ e. rw e (all_more p xs x)) (λ e. rw e)

no_digit : (c : ℕ) (b : Bool) → leb 16 (digit_value c) ≡ true → false ≡ (b && is_digit c)
no_digit c b e = rw (le-ltb (digit_value c) 16 (leb-true 16 (digit_value c) e)) (by_cases b (λ t. rw t) (λ t. rw t))

digit : (c : ℕ) (b : Bool) → leb 16 (digit_value c) ≡ false → b ≡ (b && is_digit c)
digit c b e = rw (lt-ltb (digit_value c) 16 (leb-false 16 (digit_value c) e)) (by_cases b (λ t. rw t) (λ t. rw t))

module _ (n : ℕ) (few : n ≤ 128) (j : List ℕ) where
  fits : (start : ℕ) (l : List ℕ) → l ≡ part start (length l) j → (x : Line) → line_read n (pairs_of l) ≡ x → Fits n x
  fits start l stands (image p bs) e = let r = image_read n j start l stands p bs e in (r.low, r.high)
  fits start l stands ready e = tt
  fits start l stands done e = tt
  fits start l stands malformed e = tt

  module _ (i : ℕ) (w : Walk) (g : Group) (l : List ℕ) (lt : i < length j) (at : At n j i w g l) where
    rest_is : drop i j ≡ get_or j i 0 ∷ drop (i + 1) j
    rest_is = rw add-one (drop-cons j i 0 lt)

    -- a line end
    at_end : get_or j i 0 ≡ 10 → At n j (i + 1) (walks.line_read n j w (i + 1)) (next_group g (line_read n (pairs_of l))) []
    unfolding walks.line_read lines_of all
    at_end e =
        let place = at.place in
        let next : w.start + length l + 1 ≡ i + 1 = omega arith in
        let number : walks.said_in n j w.start (i + 1) w.good ≡ said_of (line_read n (pairs_of l))
        = rw (at.good, ← next) (said_is n j w.start l at.stands) in
        let here : lines_of l (drop i j) ≡ l ∷ lines_of [] (drop (i + 1) j) = rw (rest_is, e) in
        let lines : lines_said n (drop w.start j) ≡ line_read n (pairs_of l) ∷ lines_said n (drop (i + 1) j)
        = ap (map (λ l. line_read n (pairs_of l))) (sym at.lines ∙ here) in
        record {
          place = add-zero (i + 1);
          stands = refl;
          good = refl;
          lines = refl;
          shown = rw number (step n j w.group w.last w.from w.start (i + 1) g (line_read n (pairs_of l)) (fits w.start l at.stands _ refl) lines at.shown);
        }

    -- another character
    at_more : get_or j i 0 ≢ 10 → (b : Bool) → b ≡ (w.good && is_digit (get_or j i 0))
        → At n j (i + 1) (record { group = w.group; last = w.last; from = w.from; start = w.start; good = b }) g (l ++ (get_or j i 0 ∷ []))
    unfolding lines_of
    at_more ne b eb =
        let c = get_or j i 0 in
        let xs = drop w.start j in
        let place = at.place in
        let size : suc (length l) ≡ length (l ++ (c ∷ [])) = rw length-append (omega arith) in
        let short : length l < length xs = rw length-drop (omega arith) in
        let char : get_or xs (length l) 0 ≡ c = get_or-drop w.start j (length l) 0 ∙ rw place in
        record {
          place = rw (← size) (omega arith);
          stands = ap (λ (x : List ℕ). x ++ (c ∷ [])) at.stands ∙ ap (λ (y : ℕ). take (length l) xs ++ (y ∷ [])) (sym char)
              ∙ sym (take-suc xs (length l) 0 short) ∙ ap (λ (m : ℕ). take m xs) size;
          good = eb ∙ rw at.good (sym (all_more (λ c. is_digit c) l c));
          lines = rw (rest_is, ne_eqb 10 c (λ e. ne (sym e))) at at.lines;
          shown = at.shown;
        }

  walked : (k i : ℕ) (w : Walk) (g : Group) (l : List ℕ) → i + k ≡ length j → At n j i w g l
      → Walked n j (walks.walk_from n j i (drop i j) w) (group_from g (map (λ l. line_read n (pairs_of l)) (lines_of l (drop i j))))
  unfolding walks.walk_from walks.byte_read group_from lines_of
  walked zero i w g l e at =
      let past : length j ≤ i = omega arith in
      let none : drop i j ≡ [] = drop_of_length-le j past in
      let over : lines_of [] (drop w.start j) ≡ [] = sym at.lines ∙ rw none in
      rw none (record { shown = at.shown; over = rw over })
  walked (suc k) i w g l e at =
      let lt : i < length j = omega arith in
      let c = get_or j i 0 in
      let turn : (v : Walk) → walks.byte_read n j w (i + 1) c ≡ v → walks.walk_from n j i (drop i j) w ≡ walks.walk_from n j (i + 1) (drop (i + 1) j) v
      = λ v q. ap (λ (xs : List ℕ). walks.walk_from n j i xs w) (rest_is i w g l lt at)
      ∙ ap (λ (u : Walk). walks.walk_from n j (i + 1) (drop (i + 1) j) u) q in
      same_or_not c 10
      (λ is.
      let read : walks.byte_read n j w (i + 1) c ≡ walks.line_read n j w (i + 1) = rw (eq-eqb c 10 is) in
      let lines : lines_of l (drop i j) ≡ l ∷ lines_of [] (drop (i + 1) j) = rw (rest_is i w g l lt at, is) in
      rw (turn _ read, lines) (walked k (i + 1) _ _ [] (omega arith) (at_end i w g l lt at is)))
      (λ ne.
      let lines : lines_of l (drop i j) ≡ lines_of (l ++ (c ∷ [])) (drop (i + 1) j) = rw (rest_is i w g l lt at, ne_eqb 10 c (λ q. ne (sym q))) in
      by_cases (leb 16 (digit_value c))
      (λ bad.
      let read : walks.byte_read n j w (i + 1) c ≡ walks.spoiled w = rw (ne_eqb c 10 ne, bad) in
      rw (turn _ read, lines) (walked k (i + 1) (walks.spoiled w) g _ (omega arith) (at_more i w g l lt at ne false (no_digit c w.good bad))))
      (λ fine.
      let read : walks.byte_read n j w (i + 1) c ≡ w = rw (ne_eqb c 10 ne, fine) in
      rw (turn _ read, lines) (walked k (i + 1) w g _ (omega arith) (at_more i w g l lt at ne w.good (digit c w.good fine)))))

  pub walk_shows : Walked n j (walks.walk_on n j) (last_group n j)
  unfolding walks.walk_on last_group
  walk_shows = walked (length j) 0 walks.unwalked finished [] (omega arith) (record { place = refl; stands = refl; good = unfold all in refl; lines = refl; shown = refl })
