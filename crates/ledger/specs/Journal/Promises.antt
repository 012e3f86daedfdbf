-- What the journal's functions promise, in the words of document 02 a alone.
use Rattle.std.specs.Prelude.{ℕ, ◌*◌, ◌-◌, ◌≤◌, ◌<◌, ◌≡◌, ◌≢◌, ◌⊎◌, cond, Option, Some, None, List, [], ◌∷◌, ◌++◌, length, get_or, take, drop}
use Rattle.ledger.specs.Numbers.{elem}
use Rattle.ledger.specs.Journal.Writes.{ready_line, Write, append, store, clear, changed, images, disk, performed}
use Rattle.ledger.specs.Journal.Recovery.{refuse, restore, recovery}
use Rattle.ledger.specs.declared.Due.{Due}
use Rattle.ledger.specs.declared.Due.TheVariants.{Image}
use Rattle.ledger.specs.Journal.Dues.{marked, call_dues, recovery_dues, first_of, write_due}

-- a file of 1 to 128 pages
pub record Paged (n : ℕ) (f : List ℕ) : Type 0 where
  pub some : 1 ≤ n
  pub few : n ≤ 128
  pub size : length f ≡ 512 * n

-- a call's writes up to its ready line, and their text
abbrev pub start_of : ℕ → List ℕ → List ℕ → List Write
start_of n f f' = images f (changed n f f') ++ (append ready_line ∷ [])

abbrev pub start_text : ℕ → List ℕ → List ℕ → List ℕ
start_text n f f' = (performed (start_of n f f') (disk f [])).journal

-- gerunjap_changed, of a page of the file
pub record Tells (f f' : List ℕ) (p r : ℕ) : Type 0 where
  pub told : (n : ℕ) → 1 ≤ p → p ≤ n → r ≡ cond (elem p (changed n f f')) 1 0

-- gerunjap_images: its text stands at the front of `out`, and the rest stays; nothing where no page differs; 4294967295 and nothing written where
-- a length is wrong, or where there is no room for all of it
pub record Starts (f f' out : List ℕ) (r : ℕ) (out' : List ℕ) : Type 0 where
  pub none : (n : ℕ) → Paged n f → length f ≡ length f' → changed n f f' ≡ [] → (r ≡ 0) × (out' ≡ out)
  pub text : (n : ℕ) → Paged n f → length f ≡ length f' → changed n f f' ≢ [] → length (start_text n f f') ≤ length out
      → (r ≡ length (start_text n f f')) × (out' ≡ start_text n f f' ++ drop r out)
  pub no_room : (n : ℕ) → Paged n f → length f ≡ length f' → changed n f f' ≢ [] → length out < length (start_text n f f')
      → (r ≡ 4294967295) × (out' ≡ out)
  pub wrong_size : ((n : ℕ) → Paged n f → length f ≡ length f' → ⊥) → (r ≡ 4294967295) × (out' ≡ out)

-- the pages that writes store
unfoldable pub stored_in : List Write → List ℕ
stored_in [] = []
stored_in (append bs ∷ ws) = stored_in ws
stored_in (store p bs ∷ ws) = p ∷ stored_in ws
stored_in (clear ∷ ws) = stored_in ws

-- of n pages, those that writes store are told by 1, the others by 0
pub record Told (n : ℕ) (ws : List Write) (s s' : List ℕ) : Type 0 where
  pub each : (p : ℕ) → 1 ≤ p → p ≤ n → get_or s' (p - 1) 0 ≡ cond (elem p (stored_in ws)) 1 0
  pub rest : drop n s' ≡ drop n s
  pub size : length s' ≡ length s

-- gerunjap_recover: refused as recovery is, with nothing changed; or the file is as after recovery's writes, and the pages that they store are told
pub record Restores (f j s : List ℕ) (r : ℕ) (f' s' : List ℕ) : Type 0 where
  pub wrong_size : ((n : ℕ) → Paged n f → n ≤ length s → ⊥) → (r ≡ 2) × (f' ≡ f) × (s' ≡ s)
  pub refused : (n number : ℕ) → Paged n f → n ≤ length s → recovery n (disk f j) ≡ refuse number → (r ≡ number) × (f' ≡ f) × (s' ≡ s)
  pub restored : (n : ℕ) (ws : List Write) → Paged n f → n ≤ length s → recovery n (disk f j) ≡ restore ws
      → (r ≡ 0) × (f' ≡ (performed ws (disk f j)).file) × Told n ws s s'

-- mark: of n pages, those that differ are told by 1, the others by 0; none and nothing written where a length is wrong
pub record Marks (f f' s : List ℕ) (r : Option ℕ) (s' : List ℕ) : Type 0 where
  pub wrong_size : ((n : ℕ) → Paged n f → length f ≡ length f' → n ≤ length s → ⊥) → (r ≡ None) × (s' ≡ s)
  pub all : (n : ℕ) → Paged n f → length f ≡ length f' → n ≤ length s
      → (r ≡ Some n) × (marked (take n s') ≡ changed n f f') × (drop n s' ≡ drop n s) × (length s' ≡ length s)

-- next: after each write of a call, and of recovery, the one that comes after it, none after the last; where nothing is due, nothing after it
pub record Follows (s : List ℕ) (d r : Option Due) : Type 0 where
  pub in_call : (w : Due) (ds es : List Due) → d ≡ Some w → call_dues (marked s) ≡ ds ++ (w ∷ es) → r ≡ first_of es
  pub in_recovery : (w : Due) (ds es : List Due) → d ≡ Some w → recovery_dues (marked s) ≡ ds ++ (w ∷ es) → r ≡ first_of es
  pub nothing : d ≡ None → r ≡ None

-- what a loop performs that begins with d, goes on with what follows, and ends where nothing is due
pub data Performs (s : List ℕ) : Option Due → List Due → Type 0 where
  ends : Performs s None []
  goes : {d : Due} {r : Option Due} {ds : List Due} → Follows s (Some d) r → Performs s r ds → Performs s (Some d) (d ∷ ds)

-- an image that is due is of a page of the file
abbrev pub InFile : List ℕ → Option Due → Type 0
InFile f d = (p : ℕ) → d ≡ Some (Image p) → (1 ≤ p) × (512 * p ≤ length f)

-- put_line: the line that is due, with its line end, stands at the front of `out`, and the rest stays; none and nothing written where a store is
-- due, or nothing, where the page is none of the file, or where there is no room
pub record PutsLine (f : List ℕ) (d : Option Due) (out : List ℕ) (r : Option ℕ) (out' : List ℕ) : Type 0 where
  pub line : (w : Due) (g bs : List ℕ) → d ≡ Some w → InFile f d → write_due f g w ≡ append bs → length bs ≤ length out
      → (r ≡ Some (length bs)) × (out' ≡ bs ++ drop (length bs) out)
  pub no_room : (w : Due) (g bs : List ℕ) → d ≡ Some w → InFile f d → write_due f g w ≡ append bs → length out < length bs → (r ≡ None) × (out' ≡ out)
  pub no_page : (p : ℕ) → d ≡ Some (Image p) → (p ≡ 0) ⊎ (length f < 512 * p) → (r ≡ None) × (out' ≡ out)
  pub no_line : (w : Due) (g : List ℕ) → d ≡ Some w → ((bs : List ℕ) → write_due f g w ≡ append bs → ⊥) → (r ≡ None) × (out' ≡ out)
  pub nothing : d ≡ None → (r ≡ None) × (out' ≡ out)
