-- How a new data file and its table are put in place (frame 00), since page images tell neither a file's size nor its table; and what a start makes of it.
-- `l` is the line of the new table without its line end, and `fresh` the file that a line makes.
use Rattle.std.specs.Prelude.{ℕ, ◌-◌, ◌≡◌, ◌⊎◌, Bool, false, cond, List, [], ◌∷◌, ◌++◌, length, take, eqb}

-- The data file, the table's line with its line end, and as much as there is of a new one; no bytes where there is none.
pub record Place : Type 0 where
  pub file : List ℕ
  pub table : List ℕ
  pub next : List ℕ

abbrev pub place : List ℕ → List ℕ → List ℕ → Place
place f t n = record { file = f; table = t; next = n }

-- One thing that is written: the new line begun; more of it; the data file, whole; the new line takes the table's name.
pub data Put : Type 0 where
  begin : Put
  more : (bytes : List ℕ) → Put
  whole : (bytes : List ℕ) → Put
  rename : Put

abbrev pub put : Put → Place → Place
put begin p = place p.file p.table []
put (more bs) p = place p.file p.table (p.next ++ bs)
put (whole bs) p = place bs p.table p.next
put rename p = place p.file p.next []

unfoldable pub puts : List Put → Place → Place
puts [] p = p
puts (w ∷ ws) p = puts ws (put w p)

-- each on the disk before the next, the line end by itself
abbrev pub puts_of : (List ℕ → List ℕ) → List ℕ → List Put
puts_of fresh l = begin ∷ more l ∷ more (10 ∷ []) ∷ whole (fresh l) ∷ rename ∷ []

-- What a cut may leave of one: a line's first bytes; of the data file anything; what is begun or named is so or is not.
abbrev pub Left : Put → Place → Place → Type 0
Left begin p q = (q ≡ p) ⊎ (q ≡ put begin p)
Left (more bs) p q = (k : ℕ) × (q ≡ put (more (take k bs)) p)
Left (whole bs) p q = (g : List ℕ) × (q ≡ put (whole g) p)
Left rename p q = (q ≡ p) ⊎ (q ≡ put rename p)

-- some are done, and the next is cut
pub data Cut : List Put → Place → Place → Type 0 where
  here : {w : Put} {ws : List Put} {p q : Place} → Left w p q → Cut (w ∷ ws) p q
  later : {w : Put} {ws : List Put} {p q : Place} → Cut ws (put w p) q → Cut (w ∷ ws) p q

-- A new line is whole where it has its line end. Then a start writes the data file that it makes and names it; else it means nothing.
unfoldable pub ended : List ℕ → Bool
ended [] = false
ended (c ∷ []) = eqb c 10
ended (c ∷ d ∷ cs) = ended (d ∷ cs)

unfoldable pub line_in : List ℕ → List ℕ
line_in n = take (length n - 1) n

unfoldable pub start_puts : (List ℕ → List ℕ) → Place → List Put
start_puts fresh p = cond (ended p.next) (whole (fresh (line_in p.next)) ∷ rename ∷ []) []

abbrev pub started : (List ℕ → List ℕ) → Place → Place
started fresh p = puts (start_puts fresh p) p

-- The file and the table before, or the new ones.
abbrev pub OneOf : (List ℕ → List ℕ) → List ℕ → Place → Place → Type 0
OneOf fresh l p q = ((q.file ≡ p.file) × (q.table ≡ p.table) × (ended q.next ≡ false)) ⊎ (q ≡ place (fresh l) (l ++ (10 ∷ [])) [])
