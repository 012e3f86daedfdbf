-- The last group after one line more, as a walk shows it.
use Prim.Native.Nat.{ℕ, ◌≤◌}
use mathlib.Core.Path.{◌≡◌, refl}
use mathlib.Core.List.{List, [], ◌∷◌, ◌++◌, append_assoc}
use lib.ListN.{drop}
use lib.Dec.{ltb}
use Rattle.ledger.proofs.Lists.Tests.{by_cases}
use Rattle.ledger.specs.Journal.Writes.{Write, store}
use Rattle.ledger.specs.Journal.Recovery.{Line, image, ready, done, malformed, lines_said, Group, finished, imaged, readied, wrong, next_group}
use Rattle.restore_model.specs.declared.Said.{Said}
use Rattle.restore_model.specs.declared.Said.TheVariants.{Image}
use Rattle.restore_model.specs.declared.Group as walked
use Rattle.restore_model.specs.declared.Group.TheVariants.{Finished, Imaged, Readied, Wrong}
use Rattle.restore_model.specs.Walks.{group_after, from_after}
use Rattle.restore_model.proofs.Lines.{said_of}

-- images of pages of the file, and the stores that put them back
pub data Backs (n : ℕ) : List Line → List Write → Type 0 where
  none : Backs n [] []
  next : {p : ℕ} {bs : List ℕ} {is : List Line} {ws : List Write} → 1 ≤ p → p ≤ n → Backs n is ws → Backs n (image p bs ∷ is) (store p bs ∷ ws)

backs_more : {n p : ℕ} {is : List Line} {ws : List Write} (bs : List ℕ) → Backs n is ws → 1 ≤ p → p ≤ n → Backs n (is ++ (image p bs ∷ [])) (ws ++ (store p bs ∷ []))
backs_more bs Backs.none low high = Backs.next low high Backs.none
backs_more bs (Backs.next a b r) low high = Backs.next a b (backs_more bs r low high)

-- what a walk shows of the last group: the lines from where it starts
abbrev pub Shown : ℕ → List ℕ → walked.Group → Said → ℕ → ℕ → Group → Type 0
Shown n j group last from start finished = group ≡ Finished
Shown n j group last from start (imaged q back) =
    (group ≡ Imaged) × (last ≡ Image q) × (is : List Line) × Backs n is back × (lines_said n (drop from j) ≡ is ++ lines_said n (drop start j))
Shown n j group last from start (readied back) =
    (group ≡ Readied) × (is : List Line) × Backs n is back × (lines_said n (drop from j) ≡ is ++ (ready ∷ lines_said n (drop start j)))
Shown n j group last from start wrong = group ≡ Wrong

-- an image's page is of the file
abbrev pub Fits : ℕ → Line → Type 0
Fits n (image p bs) = (1 ≤ p) × (p ≤ n)
Fits n ready = Unit {0}
Fits n done = Unit {0}
Fits n malformed = Unit {0}

-- one line more
module _ (n : ℕ) (j : List ℕ) (group : walked.Group) (last : Said) (from start next : ℕ) where
  abbrev pub Then : Line → Group → Type 0
  Then l g = Shown n j (group_after group last (said_of l)) (said_of l) (from_after group from start) next g

  pub step : (g : Group) (l : Line) → Fits n l → lines_said n (drop start j) ≡ l ∷ lines_said n (drop next j) → Shown n j group last from start g → Then l (next_group g l)
  step finished (image p bs) (low, high) t h = (rw h, refl, image p bs ∷ [], Backs.next low high Backs.none, rw h t)
  step finished ready f t h = rw h
  step finished done f t h = rw h
  step finished malformed f t h = rw h
  step (imaged q back) (image p bs) (low, high) t (h, e, is, b, w) = by_cases (ltb q p)
      (λ lt. rw lt (
        rw (h, e, lt),
        refl,
        is ++ (image p bs ∷ []),
        backs_more bs b low high,
        rw (h, append_assoc, ← t) w,
      ))
      (λ ge. rw ge (rw (h, e, ge)))
  step (imaged q back) ready f t (h, e, is, b, w) = (rw h, is, b, rw (h, ← t) w)
  step (imaged q back) done f t (h, e, is, b, w) = rw h
  step (imaged q back) malformed f t (h, e, is, b, w) = rw h
  step (readied back) (image p bs) (low, high) t (h, is, b, w) = rw h
  step (readied back) ready f t (h, is, b, w) = rw h
  step (readied back) done f t (h, is, b, w) = rw h
  step (readied back) malformed f t (h, is, b, w) = rw h
  step wrong (image p bs) (low, high) t h = rw h
  step wrong ready f t h = rw h
  step wrong done f t h = rw h
  step wrong malformed f t h = rw h
