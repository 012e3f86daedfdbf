-- Document 02 a, recovery: what it reads in a journal, what it refuses, and what it writes.
-- `n` is how many pages the file has.
use Rattle.std.specs.Prelude.{ℕ, ◌*◌, cond, ◌&&◌, List, [], ◌∷◌, ◌++◌, map, length, drop, eqb, ltb}
use Rattle.std.proofs.Math.Option.{Option, none, some}
use Rattle.ledger.specs.Numbers.{same_key}
use Rattle.ledger.specs.Rules.{between}
use Rattle.ledger.specs.Bytes.{two_at}
use Rattle.ledger.specs.Player.{pairs_of}
use Rattle.ledger.specs.Journal.Writes.{Write, store, clear, Disk, performed, cut_at}

-- The complete lines, each without its line end; `start` is what was read of the first. It "ignores a last line without its line end".
unfoldable pub lines_of : List ℕ → List ℕ → List (List ℕ)
lines_of start [] = []
lines_of start (c ∷ cs) = cond (eqb 10 c) (start ∷ lines_of [] cs) (lines_of (start ++ (c ∷ [])) cs)

-- What a complete line says: an image of a page of the file, ready, done; or it is malformed.
pub data Line : Type 0 where
  image : (p : ℕ) (bytes : List ℕ) → Line
  ready : Line
  done : Line
  malformed : Line

-- by its bytes: a page number in 2 bytes and 512 bytes; 0000; FFFF
unfoldable pub line_says : ℕ → List ℕ → Line
line_says n bs =
    cond (same_key bs (0 ∷ 0 ∷ [])) ready
    (cond (same_key bs (255 ∷ 255 ∷ [])) done
    (cond (eqb (length bs) 514 && between (two_at bs 0) 1 n) (image (two_at bs 0) (drop 2 bs)) malformed))

abbrev pub line_read : ℕ → Option (List ℕ) → Line
line_read n none = malformed
line_read n (some bs) = line_says n bs

-- what the complete lines of a journal say
abbrev pub lines_said : ℕ → List ℕ → List Line
lines_said n j = map (λ l. line_read n (pairs_of l)) (lines_of [] j)

-- What was read of the last group: it is done, or there is none; images, as the stores that put them back, `last` the last one's page;
-- images and a ready. Or some line was malformed or out of place.
pub data Group : Type 0 where
  finished : Group
  imaged : (last : ℕ) (back : List Write) → Group
  readied : (back : List Write) → Group
  wrong : Group

-- one line more: images rise, "a ready needs an image before it", a done needs a ready
abbrev pub next_group : Group → Line → Group
next_group finished (image p bs) = imaged p (store p bs ∷ [])
next_group finished ready = wrong
next_group finished done = wrong
next_group finished malformed = wrong
next_group (imaged last back) (image p bs) = cond (ltb last p) (imaged p (back ++ (store p bs ∷ []))) wrong
next_group (imaged last back) ready = readied back
next_group (imaged last back) done = wrong
next_group (imaged last back) malformed = wrong
next_group (readied back) (image p bs) = wrong
next_group (readied back) ready = wrong
next_group (readied back) done = finished
next_group (readied back) malformed = wrong
next_group wrong (image p bs) = wrong
next_group wrong ready = wrong
next_group wrong done = wrong
next_group wrong malformed = wrong

unfoldable pub group_from : Group → List Line → Group
group_from g [] = g
group_from g (l ∷ ls) = group_from (next_group g l) ls

-- the last group of a journal
unfoldable pub last_group : ℕ → List ℕ → Group
last_group n j = group_from finished (lines_said n j)

-- What recovery does: it refuses, and nothing is changed; or it "puts the images back where a ready has no done" and "last empties the journal".
pub data Recovery : Type 0 where
  refuse : (number : ℕ) → Recovery
  restore : (ws : List Write) → Recovery

abbrev pub recovery_of : Group → Recovery
recovery_of finished = restore (clear ∷ [])
recovery_of (imaged last back) = restore (clear ∷ [])
recovery_of (readied back) = restore (back ++ (clear ∷ []))
recovery_of wrong = refuse 13

-- "13 .. tried after 2"
unfoldable pub recovery : ℕ → Disk → Recovery
recovery n d = cond (eqb (length d.file) (512 * n)) (recovery_of (last_group n d.journal)) (refuse 2)

abbrev pub writes_in : Recovery → List Write
writes_in (refuse number) = []
writes_in (restore ws) = ws

-- what it writes, and the disk that it leaves
abbrev pub recovery_writes : ℕ → Disk → List Write
recovery_writes n d = writes_in (recovery n d)

abbrev pub recovered : ℕ → Disk → Disk
recovered n d = performed (recovery_writes n d) d

-- recovery cut off again and again: each time its first m writes, and k bytes of the next
unfoldable pub interrupted : ℕ → List (ℕ × ℕ) → Disk → Disk
interrupted n [] d = d
interrupted n (c ∷ cs) d = interrupted n cs (performed (cut_at c.0 c.1 (recovery_writes n d)) d)
