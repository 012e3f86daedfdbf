-- The line that is put is the one that is due.
use Prim.Native.Nat.{ℕ, ◌*◌, ◌≤◌, ◌<◌}
use mathlib.Core.Path.{◌≡◌, refl, ◌∙◌}
use mathlib.Core.Logic.{◌⊎◌, inl, inr}
use mathlib.Core.List.{List, [], ◌∷◌}
use native.Mathlib.Omega.{arith}
use native.Mathlib.Nat.{zero-add}
use lib.ListN.{length}
use lib.Seq.{sets, sets-eq}
use borrow.Author.Tests.{ne_eqb, lt-ltb, le-ltb}
use Rattle.std.proofs.Common.{Option, Some, None}
use Rattle.ledger.specs.declared.Due.{Due}
use Rattle.ledger.specs.declared.Due.TheVariants.{Image, Ready, Store, Done, Back, Empty}
use Rattle.ledger.specs.Journal.Writes.{image_line, ready_line, done_line, append}
use Rattle.ledger.specs.Journal.Dues.{write_due}
use Rattle.journal_laws.proofs.Places.{page_full}
use Rattle.restore_model.specs.Plans.{line_on}
use Rattle.ledger.specs.Journal.Promises.{InFile, PutsLine}
use Rattle.restore_model.proofs.Puts.{length_line, length_image, image_put_lem, mark_put_lem}
use Rattle.restore_model.proofs.Marks.{parts}

-- the three lines
data Line (f : List ℕ) : Due → List ℕ → Type 0 where
  image : (p : ℕ) → Line f (Image p) (image_line f p)
  ready : Line f Ready ready_line
  done : Line f Done done_line

module _ (f : List ℕ) where
  -- what is due is a line just where it is one of the three
  line_due : (d : Due) (g bs : List ℕ) → write_due f g d ≡ append bs → Line f d bs
  unfolding write_due
  line_due (Image p) g bs h = let is : bs ≡ image_line f p = cc in rw is (Line.image p)
  line_due Ready g bs h = let is : bs ≡ ready_line = cc in rw is Line.ready
  line_due (Store p) g bs h = absurd (let z : ◌≡◌ {A = ℕ} 0 1 = cc in omega arith)
  line_due Done g bs h = let is : bs ≡ done_line = cc in rw is Line.done
  line_due (Back p) g bs h = absurd (let z : ◌≡◌ {A = ℕ} 0 1 = cc in omega arith)
  line_due Empty g bs h = absurd (let z : ◌≡◌ {A = ℕ} 0 1 = cc in omega arith)

  due_line : (d : Due) (g bs : List ℕ) → Line f d bs → write_due f g d ≡ append bs
  unfolding write_due
  due_line d g bs (Line.image p) = refl
  due_line d g bs Line.ready = refl
  due_line d g bs Line.done = refl

  module _ (out : List ℕ) where
    -- the line put, and the ways in which nothing is
    put_is : (d : Due) (bs : List ℕ) → Line f d bs → InFile f (Some d) → length bs ≤ length out → line_on f (Some d) out ≡ (Some (length bs), sets out 0 bs)
    unfolding line_on
    put_is d bs (Line.image p) fits room =
        let (low, high) = fits p refl in
        let full = page_full f p low high in
        let long = length_image f p full in
        rw (
          ne_eqb p 0 (λ z. omega arith),
          le-ltb (length f) (512 * p) high,
          le-ltb (length out) 1029 (omega arith),
          image_put_lem out 0 f p full (omega arith),
          long,
        )
    put_is d bs Line.ready fits room =
        let long = length_line (0 ∷ 0 ∷ []) in
        rw (le-ltb (length out) 5 (omega arith), mark_put_lem out 0 0 (omega arith), long)
    put_is d bs Line.done fits room =
        let long = length_line (255 ∷ 255 ∷ []) in
        rw (le-ltb (length out) 5 (omega arith), mark_put_lem out 0 65535 (omega arith), long)

    no_room_is : (d : Due) (bs : List ℕ) → Line f d bs → InFile f (Some d) → length out < length bs → line_on f (Some d) out ≡ (None, out)
    unfolding line_on
    no_room_is d bs (Line.image p) fits short =
        let (low, high) = fits p refl in
        let long = length_image f p (page_full f p low high) in
        rw (ne_eqb p 0 (λ z. omega arith), le-ltb (length f) (512 * p) high, lt-ltb (length out) 1029 (omega arith))
    no_room_is d bs Line.ready fits short = let long = length_line (0 ∷ 0 ∷ []) in rw (lt-ltb (length out) 5 (omega arith))
    no_room_is d bs Line.done fits short = let long = length_line (255 ∷ 255 ∷ []) in rw (lt-ltb (length out) 5 (omega arith))

    no_page_is : (p : ℕ) → (p ≡ 0) ⊎ (length f < 512 * p) → line_on f (Some (Image p)) out ≡ (None, out)
    unfolding line_on
    no_page_is p (inl z) = rw z
    no_page_is p (inr short) = rw (ne_eqb p 0 (λ z. omega arith), lt-ltb (length f) (512 * p) short)

    no_line_is : (d : Due) → ((bs : List ℕ) → Line f d bs → ⊥) → line_on f (Some d) out ≡ (None, out)
    unfolding line_on
    no_line_is (Image p) none = absurd (none _ (Line.image p))
    no_line_is Ready none = absurd (none _ Line.ready)
    no_line_is (Store p) none = refl
    no_line_is Done none = absurd (none _ Line.done)
    no_line_is (Back p) none = refl
    no_line_is Empty none = refl

    nothing_is : line_on f None out ≡ (None, out)
    unfolding line_on
    nothing_is = refl

pub puts_line : (f : List ℕ) (d : Option Due) (out : List ℕ) → PutsLine f d out (line_on f d out).0 (line_on f d out).1
puts_line f d out = record {
  line = λ w g bs is fits h room.
      let (a, b) = parts (rw is (put_is f out w bs (line_due f w g bs h) (rw is at fits) room)) in
      (a, b ∙ sets-eq bs out 0 (omega arith) ∙ rw zero-add);
  no_room = λ w g bs is fits h short. parts (rw is (no_room_is f out w bs (line_due f w g bs h) (rw is at fits) short));
  no_page = λ p is bad. parts (rw is (no_page_is f out p bad));
  no_line = λ w g is none. parts (rw is (no_line_is f out w (λ bs l. none bs (due_line f w g bs l))));
  nothing = λ is. parts (rw is (nothing_is f out));
}
