-- What is written in a file that is an image (`Imaged`): bytes of a record, and a page's CALC NEXT, each in its place.
use Prim.Native.Nat.{ℕ, suc, ◌+◌, ◌≤◌, ◌<◌}
use mathlib.Core.Path.{◌≡◌, ◌∙◌}
use mathlib.Core.List.{List, ◌++◌, append_assoc}
use native.Mathlib.Omega.{arith}
use native.Mathlib.Numerals.{add-one}
use lib.ListN.{length, take, drop, take-append-drop, length-append}
use lib.Seq.{length-take-le, drop-drop, length-sets, sets-eq}
use borrow.Author.Tests.{ne_eqb}
use Rattle.ledger.specs.Numbers.{digits, part, update}
use Rattle.ledger.specs.Table.{pages, Accepted}
use Rattle.ledger.specs.Pages.{code_of, page_of, line_of, laid}
use Rattle.ledger.specs.Image.{Imaged}
use Rattle.ledger.proofs.Lists.Parts.{replaced, replaced_inside}
use Rattle.ledger.proofs.Lists.Digits.{length_digits}
use Rattle.ledger.proofs.Bytes.Writes.{laid_head_put, laid_record_put}
use Rattle.ledger.proofs.Bytes.Places.{record_inside}
use Rattle.model.specs.Reads.{place_in}
use Rattle.ledger.specs.Bytes.{page_start}
use Rattle.model.specs.Writes.{three_put, link_put, head_put}
use Rattle.model.specs.Moves.{part_put}
use Rattle.place_laws.proofs.Image.{image_length, image_within, image_place, image_there, image_part}

-- bytes put inside a list are its bytes up to there, the new ones, and its bytes behind them
pub put_is : (f : List ℕ) (i : ℕ) (d : List ℕ) → i + length d ≤ length f → part_put f i d ≡ take i f ++ d ++ drop (i + length d) f
unfolding part_put
put_is f i d h = sets-eq d f i h

pub put_length : (f : List ℕ) (i : ℕ) (d : List ℕ) → length (part_put f i d) ≡ length f
unfolding part_put
put_length f i d = length-sets f i d

-- inside a part b of a list, and in the place of b
pub put_within : (a b c d : List ℕ) (s k : ℕ) → length a ≡ s → k + length d ≤ length b → part_put (a ++ (b ++ c)) (s + k) d ≡ a ++ (part_put b k d ++ c)
put_within a b c d s k at inside =
    put_is _ (s + k) d (simp length-append (omega arith)) ∙ replaced_inside a b c d s k (length d) at inside ∙ rw (put_is b k d inside)

pub put_here : (a b c d : List ℕ) (s : ℕ) → length a ≡ s → length b ≡ length d → part_put (a ++ (b ++ c)) s d ≡ a ++ (d ++ c)
put_here a b c d s at size = put_is _ s d (simp length-append (omega arith)) ∙ replaced a b c d s (length d) at size

put_inside : (f b d : List ℕ) (s k : ℕ) → part s (length b) f ≡ b → s + length b ≤ length f → k + length d ≤ length b
    → part_put f (s + k) d ≡ take s f ++ part_put b k d ++ drop (s + length b) f
put_inside f b d s k e within inside =
    let behind : b ++ drop (s + length b) f ≡ drop s f = rw (drop-drop, e) at (take-append-drop (length b) (drop s f)) in
    let split : take s f ++ (b ++ drop (s + length b) f) ≡ f = rw behind (take-append-drop s f) in
    rw (append_assoc (take s f)) (rw split at (put_within (take s f) b (drop (s + length b) f) d s k (length-take-le s f (omega arith)) inside))

-- a link is three bytes
pub three_put_lem : (f : List ℕ) (i v : ℕ) → three_put f i v ≡ part_put f i (digits 3 v)
unfolding three_put part_put digits
three_put_lem f i v =
    let e : i + 2 ≡ i + 1 + 1 = omega arith in
    rw (e, add-one i, add-one (suc i))

module _ (t f : List ℕ) (r : ℕ → List ℕ) (h : ℕ → ℕ) (a : Accepted t) (i : Imaged t f r h) where
  -- bytes of a record
  pub image_put_lem : (x k : ℕ) (d : List ℕ) → 0 < length (r x) → k + length d ≤ length (r x)
      → part_put f (place_in f x + k) d ≡ laid (pages t) (update r x (part_put (r x) k d)) h
  image_put_lem x k d some inside =
      let (lo, hi) = image_within t f r h a i x some in
      let s = i.paged.standing x some in
      let e : code_of (page_of x) (line_of x) ≡ x = omega arith in
      let place = image_place t f r h a i x some in
      let end = rw e at (record_inside r (page_of x) (line_of x) s.on_a_line (omega arith) (i.paged.room (page_of x))) in
      let size : length (part_put (r x) k d) ≡ length (r (code_of (page_of x) (line_of x))) = rw e (put_length (r x) k d) in
      let new = laid_record_put (pages t) r h i.paged.room (page_of x) lo hi (line_of x) s.on_a_line (omega arith) (part_put (r x) k d) size in
      put_inside f (r x) d (place_in f x) k (image_part t f r h a i x some) (omega (arith, image_length t f r h a i)) inside
      ∙ rw (← i.bytes, ← place, put_length, e) at new

  pub image_data_put : (x : ℕ) (d : List ℕ) → 0 < length (r x) → 5 + length d ≤ length (r x)
      → part_put f (place_in f x + 5) d ≡ laid (pages t) (update r x (part_put (r x) 5 d)) h
  image_data_put x = image_put_lem x 5

  pub image_link_put : (x k v : ℕ) → 0 < length (r x) → k + 3 ≤ length (r x)
      → link_put f (place_in f x) k v ≡ laid (pages t) (update r x (three_put (r x) k v)) h
  unfolding link_put
  image_link_put x k v some inside =
      rw (ne_eqb (place_in f x) 0 (λ z. omega (arith, image_there t f r h a i x some)), three_put_lem f, three_put_lem (r x))
      (image_put_lem x k (digits 3 v) some (rw length_digits inside))

  -- a page's CALC NEXT
  pub image_head_put : (p v : ℕ) → 1 ≤ p → p ≤ pages t → head_put f p v ≡ laid (pages t) r (update h p v)
  unfolding head_put
  image_head_put p v lo hi =
      let new = laid_head_put (pages t) r h i.paged.room p lo hi v in
      rw (ne_eqb p 0 (λ z. omega arith), three_put_lem)
      (put_is f (page_start p + 13) (digits 3 v) (rw length_digits (omega (arith, image_length t f r h a i)))
      ∙ rw length_digits (rw (← i.bytes) at new))
