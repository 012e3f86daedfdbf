-- Recovery of a file from a journal `j`: the journal walked byte by byte, and the last group's images put back.
use Rattle.std.specs.Prelude.{ℕ, zero, suc, ◌+◌, ◌*◌, ◌-◌, ◌%◌, ⊤, Option, Some, None, Result, Ok, Err, Bool, true, false, cond, List, [], ◌∷◌, length, get_or, set, replicate, eqb, ltb, leb}
use Rattle.ledger.specs.Numbers.{part}
use Rattle.ledger.specs.Player.{digit_value}
use Rattle.model.specs.Moves.{part_put, fill}
use Rattle.restore_model.specs.declared.Said.{Said}
use Rattle.restore_model.specs.declared.Said.TheVariants.{Image, Ready, Done, Malformed}
use Rattle.restore_model.specs.declared.Group.{Group}
use Rattle.restore_model.specs.declared.Group.TheVariants.{Finished, Imaged, Readied, Wrong}
use Rattle.restore_model.specs.declared.Walk.{Walk}
use Rattle.restore_model.specs.declared.Refused.{Refused}
use Rattle.restore_model.specs.declared.Refused.TheVariants.{BadSize, BadJournal}
use Rattle.restore_model.specs.Texts.{pages_in}

-- the group that a number stands for
unfoldable pub group_of : ℕ → Group
group_of number = cond (eqb number 0) Finished (cond (eqb number 1) Imaged (cond (eqb number 2) Readied Wrong))

-- the byte that two digits say, and the number that four do; another character reads as digit 0
unfoldable pub hex_at : List ℕ → ℕ → ℕ
hex_at j i = digit_value (get_or j i 0) % 16 * 16 + digit_value (get_or j (i + 1) 0) % 16

unfoldable pub page_said : List ℕ → ℕ → ℕ
page_said j at = hex_at j at * 256 + hex_at j (at + 2)

-- what a line of a number says, alone and with 512 bytes: 0 ready, 65535 done, another the page of an image
unfoldable pub mark_said : ℕ → Said
mark_said number = cond (eqb number 0) Ready (cond (eqb number 65535) Done Malformed)

unfoldable pub image_said : ℕ → ℕ → Said
image_said n page = cond (eqb page 0) Malformed (cond (ltb n page) Malformed (Image page))

-- the same of the line that starts at `start` and whose line end is the last byte before `next`; `good` is whether it has digits only
unfoldable pub said_in : ℕ → List ℕ → ℕ → ℕ → Bool → Said
said_in n j start next good =
    cond good
    (cond (eqb (next - start) 5) (mark_said (page_said j start))
    (cond (eqb (next - start) 1029) (image_said n (page_said j start)) Malformed))
    Malformed

-- whether a page is above what the line before it said: an image's page, or 0 of ready; no page is above done and malformed
abbrev pub rises : Said → ℕ → Bool
rises (Image last) p = ltb last p
rises Ready p = ltb 0 p
rises last p = false

-- the group after a line, where the line before it said `last`
abbrev pub group_after : Group → Said → Said → Group
group_after Finished last (Image p) = Imaged
group_after Imaged last (Image p) = cond (rises last p) Imaged Wrong
group_after Imaged last Ready = Readied
group_after Readied last Done = Finished
group_after g last said = Wrong

-- where the group starts after a line that starts at `start`
abbrev pub from_after : Group → ℕ → ℕ → ℕ
from_after Finished from start = start
from_after g from start = from

-- a line read, that ends before `next`
unfoldable pub line_read : ℕ → List ℕ → Walk → ℕ → Walk
line_read n j w next =
    let said = said_in n j w.start next w.good in
    record {
      group = group_after w.group w.last said;
      last = said;
      from = from_after w.group w.from w.start;
      start = next;
      good = true;
    }

-- a line that has another character
abbrev pub spoiled : Walk → Walk
spoiled w = record { group = w.group; last = w.last; from = w.from; start = w.start; good = false }

-- a byte read, that stands before `next`
unfoldable pub byte_read : ℕ → List ℕ → Walk → ℕ → ℕ → Walk
byte_read n j w next c = cond (eqb c 10) (line_read n j w next) (cond (leb 16 (digit_value c)) (spoiled w) w)

-- the bytes from i on read
unfoldable pub walk_from : ℕ → List ℕ → ℕ → List ℕ → Walk → Walk
walk_from n j i [] w = w
walk_from n j i (c ∷ cs) w = walk_from n j (i + 1) cs (byte_read n j w (i + 1) c)

abbrev pub unwalked : Walk
unwalked = record { group = Finished; last = Ready; from = 0; start = 0; good = true }

unfoldable pub walk_on : ℕ → List ℕ → Walk
walk_on n j = walk_from n j 0 j unwalked

-- the page in the image that starts at `at`, and where the next line starts
unfoldable pub image_at : List ℕ → ℕ → List ℕ
image_at j at = fill (λ i. hex_at j (at + (4 + 2 * i)))

unfoldable pub next_image : List ℕ → ℕ → ℕ
next_image j at = cond (leb (length j) (at + 1029)) (length j) (at + 1029)

-- that image put into the page at `place`, counted from 0, of the file f, and told in s
unfoldable pub page_put : List ℕ → List ℕ → List ℕ → ℕ → ℕ → List ℕ × List ℕ
page_put f s j at place = (part_put f (512 * place) (image_at j at), set s place 1)

-- the images from `at` on put into the file f, up to a line of page 0, and their pages told in s
unfoldable pub back_from : List ℕ → List ℕ → List ℕ → ℕ → ℕ → List ℕ × List ℕ
back_from j f s at zero = (f, s)
back_from j f s at (suc k) =
    let p : List ℕ × List ℕ = page_put f s j at (page_said j at - 1) in
    cond (eqb (page_said j at) 0) (f, s) (back_from j p.0 p.1 (next_image j at) k)

-- no page told, of n
unfoldable pub untold : List ℕ → ℕ → List ℕ
untold s n = part_put s 0 (part 0 n (replicate 128 0))

-- a walk's last group put back where it is readied
abbrev pub put_back : List ℕ → List ℕ → List ℕ → ℕ → Group → List ℕ × List ℕ
put_back f j s from Readied = back_from j f s from (length j)
put_back f j s from g = (f, s)

unfoldable pub restored_on : List ℕ → List ℕ → List ℕ → ℕ → Walk → List ℕ × List ℕ
restored_on f j s n w = put_back f j (untold s n) w.from w.group

-- recovery: what it comes to, the file, and the pages stored
abbrev pub walked : List ℕ → List ℕ → Group → List ℕ × List ℕ → Result ⊤ Refused × List ℕ × List ℕ
walked f s Wrong p = (Err BadJournal, f, s)
walked f s g p = (Ok tt, p.0, p.1)

abbrev pub paged : List ℕ → List ℕ → List ℕ → Option ℕ → Result ⊤ Refused × List ℕ × List ℕ
paged f j s None = (Err BadSize, f, s)
paged f j s (Some n) =
    let w : Walk = walk_on n j in
    cond (ltb (length s) n) (Err BadSize, f, s) (walked f s w.group (restored_on f j s n w))

unfoldable pub recovery_on : List ℕ → List ℕ → List ℕ → Result ⊤ Refused × List ℕ × List ℕ
recovery_on f j s = paged f j s (pages_in (length f))

-- the same with its number
abbrev pub refused_number : Refused → ℕ
refused_number BadSize = 2
refused_number BadJournal = 13

abbrev pub status : Result ⊤ Refused → ℕ
status (Ok done) = 0
status (Err why) = refused_number why

unfoldable pub recover_on : List ℕ → List ℕ → List ℕ → ℕ × List ℕ × List ℕ
recover_on f j s = let r : Result ⊤ Refused × List ℕ × List ℕ = recovery_on f j s in (status r.0, r.1, r.2)
