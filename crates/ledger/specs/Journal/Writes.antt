-- Document 02 a, "A journal for power loss": the journal's lines, what a call writes, and what of it reaches the disk.
-- `f` is the file before a call and `f'` after it, both of `n` pages; `p` is a page, and `ps` are the pages that the call changes.
use Rattle.std.specs.Prelude.{ℕ, zero, suc, not, List, [], ◌∷◌, ◌++◌, map, take}
use Rattle.std.proofs.lemmas.List.Edits.{sets}
use Rattle.ledger.specs.Numbers.{digits, keep, run, same_key}
use Rattle.ledger.specs.Player.{hex_of}
use Rattle.ledger.specs.Bytes.{page_start, page_in}

-- "lines of hexadecimal": two digits a byte, in capitals, and the line end
unfoldable pub line : List ℕ → List ℕ
line bs = hex_of bs ++ (10 ∷ [])

-- "the before image of each page it will change (page number in 2 bytes, 512 bytes)", "a ready line, 0000", "a done line, FFFF"
unfoldable pub image_line : List ℕ → ℕ → List ℕ
image_line f p = line (digits 2 p ++ page_in f p)

abbrev pub ready_line : List ℕ
ready_line = line (0 ∷ 0 ∷ [])

abbrev pub done_line : List ℕ
done_line = line (255 ∷ 255 ∷ [])

-- One thing that is written: a line at the journal's end; a page's bytes over the old ones; the journal emptied.
pub data Write : Type 0 where
  append : (bytes : List ℕ) → Write
  store : (p : ℕ) (bytes : List ℕ) → Write
  clear : Write

-- the pages that differ, "rising"
unfoldable pub changed : ℕ → List ℕ → List ℕ → List ℕ
changed n f f' = keep (λ p. not (same_key (page_in f p) (page_in f' p))) (run 1 n)

unfoldable pub images : List ℕ → List ℕ → List Write
images f ps = map (λ p. append (image_line f p)) ps

unfoldable pub stores : List ℕ → List ℕ → List Write
stores f ps = map (λ p. store p (page_in f p)) ps

-- What a call writes: the images, "then a ready line"; "then it stores the pages; then a done line". Nothing where no page differs.
unfoldable pub writes_of : List ℕ → List ℕ → List ℕ → List Write
writes_of f f' [] = []
writes_of f f' (p ∷ ps) = images f (p ∷ ps) ++ (append ready_line ∷ stores f' (p ∷ ps) ++ (append done_line ∷ []))

abbrev pub writes : ℕ → List ℕ → List ℕ → List Write
writes n f f' = writes_of f f' (changed n f f')

-- The disk: the file and the journal.
pub record Disk : Type 0 where
  pub file : List ℕ
  pub journal : List ℕ

abbrev pub disk : List ℕ → List ℕ → Disk
disk f j = record { file = f; journal = j }

abbrev pub perform : Write → Disk → Disk
perform (append bs) d = disk d.file (d.journal ++ bs)
perform (store p bs) d = disk (sets d.file (page_start p) bs) d.journal
perform clear d = disk d.file []

-- "Lines and page stores reach the disk in order"
unfoldable pub performed : List Write → Disk → Disk
performed [] d = d
performed (w ∷ ws) d = performed ws (perform w d)

-- "the last line or store may be cut at any byte": the first k bytes of it. The journal is emptied "whole or not at all".
abbrev pub up_to : ℕ → Write → Write
up_to k (append bs) = append (take k bs)
up_to k (store p bs) = store p (take k bs)
up_to zero clear = append []
up_to (suc k) clear = clear

-- a sequence cut: its first m, and k bytes of the next
unfoldable pub cut_at : ℕ → ℕ → List Write → List Write
cut_at m k [] = []
cut_at zero k (w ∷ ws) = up_to k w ∷ []
cut_at (suc m) k (w ∷ ws) = w ∷ cut_at m k ws

-- calls one after another: the file before the first, and the files that they leave
unfoldable pub calls : ℕ → List ℕ → List (List ℕ) → List Write
calls n f [] = []
calls n f (g ∷ gs) = writes n f g ++ calls n g gs
