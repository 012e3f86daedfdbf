-- Document 02 a, recovery told as the order of a journal's lines: whole groups, ((image)+ ready done)*, and of the last group as much as was written.
use Rattle.std.specs.Prelude.{ℕ, ◌*◌, ◌<◌, ◌≡◌, ◌≢◌, List, [], ◌∷◌, ◌++◌, length}
use Rattle.ledger.specs.Journal.Writes.{Write, store, clear, Disk}
use Rattle.ledger.specs.Journal.Recovery.{Line, image, ready, done, lines_said, refuse, restore, recovery, recovered}

-- images of rising pages past q, and the stores that put them back
pub data Rising : ℕ → List Line → List Write → Type 0 where
  none : {q : ℕ} → Rising q [] []
  next : {q p : ℕ} {bs : List ℕ} {ls : List Line} {ws : List Write} → q < p → Rising p ls ws → Rising q (image p bs ∷ ls) (store p bs ∷ ws)

-- lines in their place, and what is to be put back: the images "where a ready has no done"
pub data InOrder : List Line → List Write → Type 0 where
  none : InOrder [] []
  images : {p : ℕ} {bs : List ℕ} {is : List Line} {ws : List Write} → Rising p is ws → InOrder (image p bs ∷ is) []
  readied : {p : ℕ} {bs : List ℕ} {is : List Line} {ws : List Write} → Rising p is ws → InOrder (image p bs ∷ is ++ (ready ∷ [])) (store p bs ∷ ws)
  group : {p : ℕ} {bs : List ℕ} {is ls : List Line} {ws back : List Write} → Rising p is ws → InOrder ls back
      → InOrder (image p bs ∷ is ++ (ready ∷ done ∷ ls)) back

-- Refusal 2, then 13, exactly where due, and then nothing is changed; else the images are put back, and the journal is emptied last.
pub record Recovers (n : ℕ) (d : Disk) : Type 0 where
  pub size_refused : length d.file ≢ 512 * n → recovery n d ≡ refuse 2
  pub order_refused : length d.file ≡ 512 * n → ((back : List Write) → InOrder (lines_said n d.journal) back → ⊥) → recovery n d ≡ refuse 13
  pub unchanged : (number : ℕ) → recovery n d ≡ refuse number → recovered n d ≡ d
  pub put_back : length d.file ≡ 512 * n → (back : List Write) → InOrder (lines_said n d.journal) back → recovery n d ≡ restore (back ++ (clear ∷ []))
