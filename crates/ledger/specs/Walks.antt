-- The walks of one chain: NEXT followed from every master over one set of marks, and the rings that it shows.
-- `nx` is NEXT, `det` and `mas` tell details and masters.
use Rattle.std.specs.Prelude.{ℕ, zero, suc, ◌≡◌, Bool, true, false, cond, not, ◌&&◌, List, [], ◌∷◌, length, eqb}
use Rattle.std.proofs.Math.Option.{Option, none, some, map, get_or}
use Rattle.ledger.specs.Numbers.{elem, keep, any, once, follower, update}
use Rattle.ledger.specs.Pages.{round}

-- NEXT is what a list says, from the master round to it again
abbrev pub Agrees : (ℕ → ℕ) → ℕ → List ℕ → Type 0
Agrees nx m xs = (x : ℕ) → elem x (m ∷ xs) ≡ true → nx x ≡ follower x (round m xs)

-- the rings of one chain: the fields of WellFormed, over tests for detail and master
pub record Rings (det mas : ℕ → Bool) (ring : ℕ → List ℕ) : Type 0 where
  pub ones : (m : ℕ) → once (ring m) ≡ true
  pub own : (m x : ℕ) → elem x (ring m) ≡ true → (mas m ≡ true) × (det x ≡ true)
  pub every : (x : ℕ) → det x ≡ true → (m : ℕ) × (elem x (ring m) ≡ true)
  pub one : (m n x : ℕ) → elem x (ring m) ≡ true → elem x (ring n) ≡ true → m ≡ n

-- the details met from x along NEXT until m: none where it does not come home
unfoldable pub walk : ℕ → (ℕ → ℕ) → (ℕ → Bool) → ℕ → ℕ → Option (List ℕ)
walk zero nx det m x = none
walk (suc fuel) nx det m x =
    let rest = walk fuel nx det m (nx x) in
    cond (eqb x m) (some []) (cond (det x) (map (λ xs. x ∷ xs) rest) none)

-- a master's walk as its ring: empty where it does not come home
unfoldable pub walked : ℕ → (ℕ → ℕ) → (ℕ → Bool) → (ℕ → Bool) → ℕ → List ℕ
walked fuel nx det mas m = cond (mas m) (get_or (walk fuel nx det m (nx m)) []) []

-- what a walk that marks each code that it meets ends with: no fuel left, a stray or marked code, or home with these marks
pub data Marking : Type 0 where
  spent failed : Marking
  marked : (ℕ → Bool) → Marking

unfoldable pub mark_walk : ℕ → (ℕ → ℕ) → (ℕ → Bool) → ℕ → ℕ → (ℕ → Bool) → Marking
mark_walk zero nx det m x g = spent
mark_walk (suc fuel) nx det m x g =
    let rest = mark_walk fuel nx det m (nx x) (update g x true) in
    cond (eqb x m) (marked g) (cond (det x) (cond (g x) failed rest) failed)

-- how many codes bear no mark: what each step of a walk makes less
unfoldable pub unmarked : List ℕ → (ℕ → Bool) → ℕ
unmarked cs g = length (keep (λ y. not (g y)) cs)

-- the walk with marks, with fuel for each code without mark
unfoldable pub marking : List ℕ → (ℕ → ℕ) → (ℕ → Bool) → ℕ → ℕ → (ℕ → Bool) → Marking
marking cs nx det m x g = mark_walk (suc (unmarked cs g)) nx det m x g

unfoldable pub onward : Marking → ((ℕ → Bool) → Marking) → Marking
onward spent k = spent
onward failed k = failed
onward (marked h) k = k h

-- the walks of a list of masters, one after another over the same marks
unfoldable pub sweep : ℕ → (ℕ → ℕ) → (ℕ → Bool) → List ℕ → (ℕ → Bool) → Marking
sweep fuel nx det [] g = marked g
sweep fuel nx det (m ∷ ms) g = onward (mark_walk fuel nx det m (nx m) g) (λ h. sweep fuel nx det ms h)

unfoldable pub passes : Marking → ((ℕ → Bool) → Bool) → Bool
passes spent p = false
passes failed p = false
passes (marked h) p = p h

-- the walks of the masters among cs from no marks, then no detail without mark
unfoldable pub audit : ℕ → (ℕ → ℕ) → (ℕ → Bool) → (ℕ → Bool) → List ℕ → Bool
audit fuel nx det mas cs = passes (sweep fuel nx det (keep mas cs) (λ x. false)) (λ h. not (any (λ x. det x && not (h x)) cs))
