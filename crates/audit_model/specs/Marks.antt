-- Walks that mark what they meet, a byte for each code: 0 where none has met it; and the first fault of several.
use Rattle.std.specs.Prelude.{ℕ, zero, suc, Bool, false, cond, List, [], ◌∷◌, set, replicate, eqb}

unfoldable pub no_marks : List ℕ
no_marks = replicate 8256 0

-- whether a walk comes home, with the marks after it; and the first whose walk does not, or 0
abbrev pub Walk : Type 0
Walk = Bool × List ℕ

abbrev pub Sweep : Type 0
Sweep = ℕ × List ℕ

-- a walk to m that comes from `last` to `at`: `met` is the code after one that may be met with such marks after `last`, else 0;
-- `back` says whether m may be met after `last`
unfoldable pub walk_on : ℕ → (List ℕ → ℕ → ℕ → ℕ) → (ℕ → Bool) → ℕ → ℕ → ℕ → List ℕ → Walk
walk_on zero met back m last at g = (false, g)
walk_on (suc fuel) met back m last at g =
    let next = met g last at in
    let rest = walk_on fuel met back m at next (set g at 1) in
    cond (eqb at m) (back last, g) (cond (eqb next 0) (false, g) rest)

-- the walks of a list, one after another over the same marks
unfoldable pub sweep_on : (ℕ → List ℕ → Walk) → List ℕ → List ℕ → Sweep
sweep_on walk [] g = (0, g)
sweep_on walk (x ∷ xs) g = let w = walk x g in let rest = sweep_on walk xs w.1 in cond w.0 rest (x, w.1)

-- the first fault of a list's members, or 0
unfoldable pub first_fault : (ℕ → ℕ) → List ℕ → ℕ
first_fault fault [] = 0
first_fault fault (x ∷ xs) = let rest = first_fault fault xs in cond (eqb (fault x) 0) rest (fault x)
