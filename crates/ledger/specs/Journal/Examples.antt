-- Journals of a file of one page of zeros, computed by the checker from the definitions: what is refused, and how much is written.
use Rattle.std.specs.Prelude.{ℕ, ◌≡◌, refl, List, [], ◌∷◌, ◌++◌, length, replicate}
use Rattle.ledger.specs.Numbers.{digits, concat_of, same_key}
use Rattle.ledger.specs.Rules.{between}
use Rattle.ledger.specs.Bytes.{two_at}
use Rattle.ledger.specs.Player.{digit_value, digit_of, pairs_of, hex_of}
use Rattle.ledger.specs.Journal.Writes.{line, ready_line, done_line, disk}
use Rattle.ledger.specs.Journal.Recovery.{lines_of, line_says, group_from, last_group, Recovery, refuse, restore, recovery}

-- a refusal's number; or 0, and the number of writes
abbrev told : Recovery → List ℕ
told (refuse number) = number ∷ []
told (restore ws) = 0 ∷ length ws ∷ []

abbrev zeros : List ℕ
zeros = replicate 512 0

abbrev image_of : ℕ → List ℕ
image_of p = line (digits 2 p ++ zeros)

abbrev asked : List ℕ → List ℕ
asked j = told (recovery 1 (disk zeros j))

pub edges : ◌≡◌ {A = List (List ℕ)}
    (ready_line ∷ done_line
    ∷ asked []  -- an empty journal is emptied
    ∷ asked (image_of 1)  -- an image without a ready is not put back
    ∷ asked (image_of 1 ++ ready_line)  -- with one, it is
    ∷ asked (image_of 1 ++ ready_line ++ (70 ∷ 70 ∷ []))  -- also where the done line is not whole
    ∷ asked (image_of 1 ++ ready_line ++ done_line)  -- and where it is, not
    ∷ asked (48 ∷ 48 ∷ 48 ∷ 48 ∷ [])  -- a last line without its line end is ignored
    ∷ asked ready_line  -- a ready needs an image before it
    ∷ asked done_line  -- a done needs a ready
    ∷ asked (image_of 1 ++ image_of 1)  -- images rise
    ∷ asked (image_of 2)  -- a page outside the file
    ∷ asked (image_of 0)
    ∷ asked (10 ∷ [])  -- malformed: no bytes, no digits
    ∷ asked (71 ∷ 48 ∷ 10 ∷ [])
    ∷ told (recovery 2 (disk zeros ready_line))  -- 13 is tried after 2
    ∷ [])
    ((48 ∷ 48 ∷ 48 ∷ 48 ∷ 10 ∷ []) ∷ (70 ∷ 70 ∷ 70 ∷ 70 ∷ 10 ∷ [])
    ∷ (0 ∷ 1 ∷ []) ∷ (0 ∷ 1 ∷ []) ∷ (0 ∷ 2 ∷ []) ∷ (0 ∷ 2 ∷ []) ∷ (0 ∷ 1 ∷ []) ∷ (0 ∷ 1 ∷ [])
    ∷ (13 ∷ []) ∷ (13 ∷ []) ∷ (13 ∷ []) ∷ (13 ∷ []) ∷ (13 ∷ []) ∷ (13 ∷ []) ∷ (13 ∷ [])
    ∷ (2 ∷ []) ∷ [])
unfolding digits concat_of same_key between two_at digit_value digit_of pairs_of hex_of line lines_of line_says group_from last_group recovery
edges = refl
