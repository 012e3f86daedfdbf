-- What recovery writes: whole pages of the file, rising, and the journal emptied last.
use Prim.Native.Nat.{ℕ, ◌*◌, ◌≤◌, ◌<◌}
use mathlib.Core.Path.{◌≡◌, refl, ap}
use mathlib.Core.Bool.{◌&&◌}
use mathlib.Core.List.{List, [], ◌∷◌, ◌++◌, map}
use mathlib.Core.Option.{Option, none, some}
use native.Mathlib.Omega.{arith}
use lib.ListN.{length, length-drop}
use lib.Dec.{eqb, ltb, leb}
use borrow.Author.Tests.{eqb-true, leb-true, ltb-true}
use Rattle.ledger.specs.Numbers.{same_key}
use Rattle.ledger.specs.Rules.{between}
use Rattle.ledger.specs.Bytes.{two_at}
use Rattle.ledger.specs.Player.{pairs_of}
use Rattle.ledger.proofs.Lists.Tests.{by_cases, both}
use Rattle.ledger.specs.Journal.Writes.{Write, append, store, clear, Disk, performed}
use Rattle.ledger.specs.Journal.Recovery.{lines_of, Line, image, ready, done, malformed, line_says, line_read, Group, finished, imaged, readied, wrong, next_group, group_from, last_group, refuse, restore, recovery_of, recovery}
use Rattle.ledger.specs.Journal.Promises.{stored_in}
use Rattle.journal_laws.proofs.Cuts.{performed_append}

-- stores of whole pages of n, rising from past q; the last one's page is `last`, or q where there is none
pub data PutsBack (n : ℕ) : ℕ → ℕ → List Write → Type 0 where
  end : {q : ℕ} → PutsBack n q q []
  next : {q p last : ℕ} {bs : List ℕ} {ws : List Write} → q < p → p ≤ n → length bs ≡ 512 → PutsBack n p last ws → PutsBack n q last (store p bs ∷ ws)

-- one more at the end
puts_more : {n q last p : ℕ} {ws : List Write} (bs : List ℕ) → PutsBack n q last ws → last < p → p ≤ n → length bs ≡ 512 → PutsBack n q p (ws ++ (store p bs ∷ []))
puts_more bs PutsBack.end lt high long = PutsBack.next lt high long PutsBack.end
puts_more bs (PutsBack.next a b c r) lt high long = PutsBack.next a b c (puts_more bs r lt high long)

-- an image is of a whole page of the file
abbrev Fits : ℕ → Line → Type 0
Fits n (image p bs) = (1 ≤ p) × (p ≤ n) × (length bs ≡ 512)
Fits n ready = Unit {0}
Fits n done = Unit {0}
Fits n malformed = Unit {0}

says_fits : (n : ℕ) (bs : List ℕ) → Fits n (line_says n bs)
unfolding line_says between
says_fits n bs = by_cases (same_key bs (0 ∷ 0 ∷ []))
    (λ e. rw e tt)
    (λ e0. by_cases (same_key bs (255 ∷ 255 ∷ []))
    (λ e. rw (e0, e) tt)
    (λ e1. by_cases (eqb (length bs) 514 && between (two_at bs 0) 1 n)
    (λ e.
    let (e2, e3) = both (eqb (length bs) 514) (between (two_at bs 0) 1 n) e in
    let (low, high) = both (leb 1 (two_at bs 0)) (leb (two_at bs 0) n) e3 in
    let long = eqb-true (length bs) 514 e2 in
    rw (e0, e1, e) (leb-true 1 (two_at bs 0) low, leb-true (two_at bs 0) n high, rw length-drop (omega arith)))
    (λ e. rw (e0, e1, e) tt)))

read_fits : (n : ℕ) (o : Option (List ℕ)) → Fits n (line_read n o)
read_fits n none = tt
read_fits n (some bs) = says_fits n bs

-- what a group holds: nothing, or stores to be put back
abbrev Holds : ℕ → Group → Type 0
Holds n finished = Unit {0}
Holds n (imaged last back) = PutsBack n 0 last back
Holds n (readied back) = (last : ℕ) × PutsBack n 0 last back
Holds n wrong = Unit {0}

-- one line more, all lines, and a journal's last group
step_holds : (n : ℕ) (g : Group) (l : Line) → Holds n g → Fits n l → Holds n (next_group g l)
step_holds n finished (image p bs) h (low, high, long) = PutsBack.next low high long PutsBack.end
step_holds n finished ready h f = tt
step_holds n finished done h f = tt
step_holds n finished malformed h f = tt
step_holds n (imaged last back) (image p bs) h (low, high, long) = by_cases (ltb last p)
    (λ e. rw e (puts_more bs h (ltb-true last p e) high long))
    (λ e. rw e tt)
step_holds n (imaged last back) ready h f = (last, h)
step_holds n (imaged last back) done h f = tt
step_holds n (imaged last back) malformed h f = tt
step_holds n (readied back) (image p bs) h f = tt
step_holds n (readied back) ready h f = tt
step_holds n (readied back) done h f = tt
step_holds n (readied back) malformed h f = tt
step_holds n wrong (image p bs) h f = tt
step_holds n wrong ready h f = tt
step_holds n wrong done h f = tt
step_holds n wrong malformed h f = tt

lines_hold : (n : ℕ) (ts : List (List ℕ)) (g : Group) → Holds n g → Holds n (group_from g (map (λ l. line_read n (pairs_of l)) ts))
unfolding group_from
lines_hold n [] g h = h
lines_hold n (t ∷ ts) g h = lines_hold n ts _ (step_holds n g (line_read n (pairs_of t)) h (read_fits n (pairs_of t)))

group_holds : (n : ℕ) (j : List ℕ) → Holds n (last_group n j)
unfolding last_group
group_holds n j = lines_hold n (lines_of [] j) finished tt

-- recovery that is not refused: the file has its size, and the writes are stores put back and the journal emptied
pub record Written (n : ℕ) (f : List ℕ) (ws : List Write) : Type 0 where
  pub size : length f ≡ 512 * n
  pub last : ℕ
  pub back : List Write
  pub rising : PutsBack n 0 last back
  pub is : ws ≡ back ++ (clear ∷ [])

group_written : (n : ℕ) (f : List ℕ) (ws : List Write) (g : Group) → length f ≡ 512 * n → Holds n g → recovery_of g ≡ restore ws → Written n f ws
group_written n f ws finished s h e = record { size = s; last = 0; back = []; rising = PutsBack.end; is = (cc) }
group_written n f ws (imaged last back) s h e = record { size = s; last = 0; back = []; rising = PutsBack.end; is = (cc) }
group_written n f ws (readied back) s (last, h) e = record { size = s; last = last; back = back; rising = h; is = (cc) }
group_written n f ws wrong s h e = absurd (let z : ◌≡◌ {A = ℕ} 0 1 = cc in omega arith)

pub recovery_written : (n : ℕ) (d : Disk) (ws : List Write) → recovery n d ≡ restore ws → Written n d.file ws
unfolding recovery
recovery_written n d ws e = by_cases (eqb (length d.file) (512 * n))
    (λ t. group_written n d.file ws (last_group n d.journal) (eqb-true (length d.file) (512 * n) t) (group_holds n d.journal) (rw t at e))
    (λ t. let r : refuse 2 ≡ restore ws = rw t at e in absurd (let z : ◌≡◌ {A = ℕ} 0 1 = cc in omega arith))

-- the journal emptied stores no page, and leaves the file
pub stored_clear : (ws : List Write) → stored_in (ws ++ (clear ∷ [])) ≡ stored_in ws
unfolding stored_in
stored_clear [] = refl
stored_clear (append bs ∷ ws) = stored_clear ws
stored_clear (store p bs ∷ ws) = ap (λ (ps : List ℕ). p ∷ ps) (stored_clear ws)
stored_clear (clear ∷ ws) = stored_clear ws

pub file_left : (ws : List Write) (d : Disk) → (performed (ws ++ (clear ∷ [])) d).file ≡ (performed ws d).file
unfolding performed
file_left ws d = ap (λ (d : Disk). d.file) (performed_append ws (clear ∷ []) d)
