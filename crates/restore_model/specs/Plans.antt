-- The write that is due, as the code finds it: `s` tells the pages that are stored, its byte p - 1 is 1.
use Rattle.std.specs.Prelude.{ℕ, zero, suc, ◌+◌, ◌*◌, Option, Some, None, cond, List, [], ◌∷◌, length, set, drop, eqb, ltb}
use Rattle.std.specs.Option.{option_map, unwrap_or}
use Rattle.ledger.specs.declared.Due.{Due}
use Rattle.ledger.specs.declared.Due.TheVariants.{Image, Ready, Store, Done, Back, Empty}
use Rattle.restore_model.specs.Texts.{pages_in, differs, image_put, mark_put}

-- the lowest page told past i, where `ms` is what s says past it
unfoldable pub marked_from : ℕ → List ℕ → Option ℕ
marked_from i [] = None
marked_from i (m ∷ ms) = cond (eqb m 1) (Some (i + 1)) (marked_from (i + 1) ms)

unfoldable pub marked_after : List ℕ → ℕ → Option ℕ
marked_after s p = marked_from p (drop p s)

-- the write of the next page told past p, or `last` where there is none
abbrev pub due_after : List ℕ → (ℕ → Due) → Due → ℕ → Due
due_after s of last p = unwrap_or (option_map of (marked_after s p)) last

abbrev pub call_first : List ℕ → Option Due
call_first s = option_map Image (marked_after s 0)

abbrev pub recovery_first : List ℕ → Option Due
recovery_first s = Some (due_after s Back Empty 0)

abbrev pub due_next : List ℕ → Option Due → Option Due
due_next s (Some (Image p)) = Some (due_after s Image Ready p)
due_next s (Some Ready) = Some (due_after s Store Done 0)
due_next s (Some (Store p)) = Some (due_after s Store Done p)
due_next s (Some Done) = None
due_next s (Some (Back p)) = Some (due_after s Back Empty p)
due_next s (Some Empty) = None
due_next s None = None

-- the pages that differ told in s, from page i + 1 on, k of them
unfoldable pub marks_from : List ℕ → List ℕ → List ℕ → ℕ → ℕ → List ℕ
marks_from f g s i zero = s
marks_from f g s i (suc k) = marks_from f g (set s i (differs f g (i + 1))) (i + 1) k

-- the same of all pages, and how many there are; none where a length is wrong
abbrev pub marks_paged : List ℕ → List ℕ → List ℕ → Option ℕ → Option ℕ × List ℕ
marks_paged f g s None = (None, s)
marks_paged f g s (Some n) = cond (ltb (length s) n) (None, s) (Some n, marks_from f g s 0 n)

unfoldable pub marks_on : List ℕ → List ℕ → List ℕ → Option ℕ × List ℕ
marks_on f g s = cond (eqb (length f) (length g)) (marks_paged f g s (pages_in (length f))) (None, s)

-- a line of n bytes put where the output has room for it, and its length
abbrev pub where_room : ℕ → List ℕ → List ℕ → Option ℕ × List ℕ
where_room n out put = cond (ltb (length out) n) (None, out) (Some n, put)

-- the line that is due put at the front of an output, and its length; none where it is no line, or there is no room
unfoldable pub line_on : List ℕ → Option Due → List ℕ → Option ℕ × List ℕ
line_on f (Some (Image p)) out =
    cond (eqb p 0) (None, out)
    (cond (ltb (length f) (512 * p)) (None, out) (where_room 1029 out (image_put out 0 f p)))
line_on f (Some Ready) out = where_room 5 out (mark_put out 0 0)
line_on f (Some (Store p)) out = (None, out)
line_on f (Some Done) out = where_room 5 out (mark_put out 0 65535)
line_on f (Some (Back p)) out = (None, out)
line_on f (Some Empty) out = (None, out)
line_on f None out = (None, out)
