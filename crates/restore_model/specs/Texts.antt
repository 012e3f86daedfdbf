-- The text of a call's images and ready line, put into an output; nothing is put where there is no place for it.
-- `f` is the file before the call and `g` after it.
use Rattle.std.specs.Prelude.{ℕ, zero, suc, ◌+◌, ◌*◌, ◌/◌, ◌%◌, Option, Some, None, Bool, cond, not, ◌&&◌, List, [], ◌∷◌, length, set, eqb, ltb}
use Rattle.std.specs.Option.{unwrap_or}
use Rattle.ledger.specs.Numbers.{same_key}
use Rattle.ledger.specs.Rules.{between}
use Rattle.ledger.specs.Bytes.{page_in}
use Rattle.frames_model.specs.Texts.{hex_put}

-- how many pages k bytes are, where that is 1 to 128
unfoldable pub pages_in : ℕ → Option ℕ
pages_in k = cond (eqb (k % 512) 0 && between (k / 512) 1 128) (Some (k / 512)) None

-- page p differs, and the same as a number
unfoldable pub apart : List ℕ → List ℕ → ℕ → Bool
apart f g p = not (same_key (page_in f p) (page_in g p))

unfoldable pub differs : List ℕ → List ℕ → ℕ → ℕ
differs f g p = cond (apart f g p) 1 0

-- how many pages differ, from p on, k of them; c is the count so far
unfoldable pub count_from : List ℕ → List ℕ → ℕ → ℕ → ℕ → ℕ
count_from f g p c zero = c
count_from f g p c (suc k) = count_from f g (p + 1) (c + differs f g p) k

unfoldable pub count_of : List ℕ → List ℕ → ℕ → ℕ
count_of f g n = count_from f g 1 0 n

-- bytes as digits from `at` on
unfoldable pub digits_put : List ℕ → ℕ → List ℕ → List ℕ
digits_put out at [] = out
digits_put out at (b ∷ bs) = cond (ltb (length out) (at + 2)) out (digits_put (hex_put out at b) (at + 2) bs)

-- the image of page p
unfoldable pub image_put : List ℕ → ℕ → List ℕ → ℕ → List ℕ
image_put out at f p = set (digits_put (digits_put out at (p / 256 % 256 ∷ p % 256 ∷ [])) (at + 4) (page_in f p)) (at + 1028) 10

-- the same where the page differs, with the length of what was put
unfoldable pub changed_put : List ℕ → ℕ → List ℕ → List ℕ → ℕ → ℕ × List ℕ
changed_put out at f g p = cond (apart f g p) (1029, image_put out at f p) (0, out)

-- the images of the pages that differ, from p on, k of them: where they end, and the output
unfoldable pub images_from : List ℕ → ℕ → List ℕ → List ℕ → ℕ → ℕ → ℕ × List ℕ
images_from out at f g p zero = (at, out)
images_from out at f g p (suc k) =
    let q : ℕ × List ℕ = changed_put out at f g p in
    images_from q.1 (at + q.0) f g (p + 1) k

-- a line of a number alone: 0 ready, 65535 done
unfoldable pub mark_put : List ℕ → ℕ → ℕ → List ℕ
mark_put out at number = set (digits_put out at (number / 256 ∷ number % 256 ∷ [])) (at + 4) 10

-- the images and the ready line
unfoldable pub start_put : List ℕ → List ℕ → List ℕ → ℕ → List ℕ
start_put out f g n = let q : ℕ × List ℕ = images_from out 0 f g 1 n in mark_put q.1 q.0 0

-- the same where some page differs and the output has room: its length, and the output; none where a length is wrong, or there is no room
abbrev pub text_paged : List ℕ → List ℕ → List ℕ → Option ℕ → Option ℕ × List ℕ
text_paged f g out None = (None, out)
text_paged f g out (Some n) =
    let c = count_of f g n in
    cond (eqb c 0) (Some 0, out) (cond (ltb (length out) (1029 * c + 5)) (None, out) (Some (1029 * c + 5), start_put out f g n))

unfoldable pub text_on : List ℕ → List ℕ → List ℕ → Option ℕ × List ℕ
text_on f g out = cond (eqb (length f) (length g)) (text_paged f g out (pages_in (length f))) (None, out)

-- the same with 4294967295 for none
unfoldable pub images_on : List ℕ → List ℕ → List ℕ → ℕ × List ℕ
images_on f g out = let r : Option ℕ × List ℕ = text_on f g out in (unwrap_or r.0 4294967295, r.1)
