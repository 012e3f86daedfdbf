-- Document 02 a, what the journal is for: "A cut at any moment, also in recovery, leaves, after recovery, the file before the call or the file after it".
use Rattle.std.specs.Prelude.{ℕ, ◌*◌, ◌≤◌, ◌<◌, ◌≡◌, ◌≢◌, ◌⊎◌, List, [], ◌∷◌, ◌++◌, length, get_or}
use Rattle.ledger.specs.Journal.Writes.{ready_line, append, changed, images, stores, writes, Disk, disk, performed, cut_at}
use Rattle.ledger.specs.Journal.Recovery.{finished, readied, last_group, recovery, restore, recovery_writes, recovered, interrupted}

-- a file of n pages
pub record FileOf (n : ℕ) (f : List ℕ) : Type 0 where
  pub few : n ≤ 128
  pub size : length f ≡ 512 * n
  pub bytes : (i : ℕ) → get_or f i 0 < 256

-- a journal that whole calls left, on any files of n pages
pub data Earlier (n : ℕ) : List ℕ → Type 0 where
  none : Earlier n []
  call : {j : List ℕ} (f f' : List ℕ) → FileOf n f → FileOf n f' → Earlier n j → Earlier n (performed (writes n f f') (disk f j)).journal

-- What was written is read: earlier calls are done; up to its ready line, the images of just the pages that a call changes are to be put back;
-- with its done line, it is done too.
pub record ReadBack (n : ℕ) (f f' j : List ℕ) : Type 0 where
  pub earlier_done : last_group n j ≡ finished
  pub images_read : changed n f f' ≢ []
      → last_group n (performed (images f (changed n f f') ++ (append ready_line ∷ [])) (disk f j)).journal ≡ readied (stores f (changed n f f'))
  pub call_done : last_group n (performed (writes n f f') (disk f j)).journal ≡ finished

-- the disk where power was lost in a call, after m of its writes and k bytes of the next, and then in recovery, as `cs` says
abbrev pub lost : ℕ → List ℕ → List ℕ → List ℕ → ℕ → ℕ → List (ℕ × ℕ) → Disk
lost n f f' j m k cs = interrupted n cs (performed (cut_at m k (writes n f f')) (disk f j))

pub record Survives (n : ℕ) (f f' j : List ℕ) (m k : ℕ) (cs : List (ℕ × ℕ)) : Type 0 where
  -- never refused
  pub restores : recovery n (lost n f f' j m k cs) ≡ restore (recovery_writes n (lost n f f' j m k cs))
  -- "the file before the call or the file after it", and an empty journal
  pub one_of : (recovered n (lost n f f' j m k cs) ≡ disk f []) ⊎ (recovered n (lost n f f' j m k cs) ≡ disk f' [])
  -- before it, where not all that the call writes, up to the done line's end, reached the disk; after it, where all did
  pub before : cut_at m k (writes n f f') ≢ writes n f f' → recovered n (lost n f f' j m k cs) ≡ disk f []
  pub after : cut_at m k (writes n f f') ≡ writes n f f' → recovered n (lost n f f' j m k cs) ≡ disk f' []

-- the last file that calls leave, and that all are of n pages
abbrev pub last_file : List ℕ → List (List ℕ) → List ℕ
last_file f [] = f
last_file f (g ∷ gs) = last_file g gs

abbrev pub FilesOf : ℕ → List (List ℕ) → Type 0
FilesOf n [] = Unit {0}
FilesOf n (g ∷ gs) = FileOf n g × FilesOf n gs
