-- Lines of hexadecimal put into an output.
use Prim.Native.Nat.{ℕ, suc, ◌+◌, ◌*◌, ◌/◌, ◌%◌, ◌≤◌}
use mathlib.Core.Path.{◌≡◌, refl, ◌∙◌}
use mathlib.Core.List.{List, [], ◌∷◌, ◌++◌, append_assoc}
use native.Mathlib.Omega.{arith}
use native.Mathlib.Nat.{add-zero}
use native.Mathlib.Numerals.{add-one}
use lib.ListN.{length, set, length-append, length-set}
use lib.Seq.{sets, length-sets}
use borrow.Author.Tests.{le-ltb}
use Rattle.ledger.specs.Numbers.{digits, concat_of}
use Rattle.ledger.specs.Player.{hex_of}
use Rattle.ledger.proofs.Lists.Parts.{sets_append}
use Rattle.ledger.proofs.Lists.Runs.{concat_of_append}
use Rattle.ledger.proofs.Lists.Digits.{length_digits}
use Rattle.ledger.specs.Bytes.{page_in}
use Rattle.frames_model.specs.Texts.{hex_put}
use Rattle.frames_model.proofs.Texts.{length_hex}
use Rattle.ledger.specs.Journal.Writes.{line, image_line}
use Rattle.restore_model.specs.Texts.{digits_put, image_put, mark_put}

-- the text's length
pub length_line : (bs : List ℕ) → length (line bs) ≡ 2 * length bs + 1
unfolding line
length_line bs = length-append (hex_of bs) (10 ∷ []) ∙ omega (arith, length_hex bs)

pub length_image : (f : List ℕ) (p : ℕ) → length (page_in f p) ≡ 512 → length (image_line f p) ≡ 1029
unfolding image_line
length_image f p full = length_line (digits 2 p ++ page_in f p) ∙ rw (length-append, length_digits, full)

-- digits put
digits_put_lem : (bs out : List ℕ) (at : ℕ) → at + 2 * length bs ≤ length out → digits_put out at bs ≡ sets out at (hex_of bs)
unfolding digits_put hex_put hex_of concat_of
digits_put_lem [] out at h = refl
digits_put_lem (b ∷ bs) out at h =
    let e : at + 2 ≡ suc (suc at) = omega arith in
    rw (le-ltb (length out) (at + 2) (omega arith), digits_put_lem bs (hex_put out at b) (at + 2) (rw (length-set, length-set) (omega arith)), e, add-one at)

-- a line put: its bytes in two parts, and its line end
pub line_put : (cs bs out : List ℕ) (at : ℕ) → at + 2 * length cs + 2 * length bs + 1 ≤ length out
    → set (digits_put (digits_put out at cs) (at + 2 * length cs) bs) (at + 2 * length cs + 2 * length bs) 10 ≡ sets out at (line (cs ++ bs))
unfolding line
line_put cs bs out at h =
    let whole : hex_of (cs ++ bs) ≡ hex_of cs ++ hex_of bs = unfold hex_of in concat_of_append _ cs bs in
    rw (
      digits_put_lem cs out at (omega arith),
      digits_put_lem bs (sets out at (hex_of cs)) (at + 2 * length cs) (rw length-sets (omega arith)),
      whole,
      append_assoc,
      sets_append out at (hex_of cs) (hex_of bs ++ (10 ∷ [])),
      length_hex cs,
      sets_append (sets out at (hex_of cs)) (at + 2 * length cs) (hex_of bs) (10 ∷ []),
      length_hex bs,
    )

pub image_put_lem : (out : List ℕ) (at : ℕ) (f : List ℕ) (p : ℕ) → length (page_in f p) ≡ 512 → at + 1029 ≤ length out
    → image_put out at f p ≡ sets out at (image_line f p)
unfolding image_put image_line digits
image_put_lem out at f p full room =
    let e : at + 4 + 2 * length (page_in f p) ≡ at + 1028 = omega arith in
    rw e at (line_put (p / 256 % 256 ∷ p % 256 ∷ []) (page_in f p) out at (omega arith))

-- a line of a number alone
pub mark_put_lem : (out : List ℕ) (at number : ℕ) → at + 5 ≤ length out → mark_put out at number ≡ sets out at (line (number / 256 ∷ number % 256 ∷ []))
unfolding mark_put digits_put
mark_put_lem out at number room = rw add-zero at (line_put (number / 256 ∷ number % 256 ∷ []) [] out at (omega arith))
