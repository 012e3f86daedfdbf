-- What the other definitions share: numbers as bytes, lists of numbers, keys.
use Rattle.std.specs.Prelude.{ℕ, zero, suc, Option, Some, None, ◌+◌, ◌/◌, ◌%◌, Bool, true, false, cond, not, ◌&&◌, ◌||◌, List, [], ◌∷◌, ◌++◌, take, drop, eqb, ltb}

-- n bytes of v, the high byte first
unfoldable pub digits : ℕ → ℕ → List ℕ
digits zero v = []
digits (suc n) v = digits n (v / 256) ++ (v % 256 ∷ [])

-- a number, where 0 stands for none
unfoldable pub or_none : ℕ → Option ℕ
or_none zero = None
or_none (suc n) = Some (suc n)

unfoldable pub elem : ℕ → List ℕ → Bool
elem x [] = false
elem x (y ∷ ys) = eqb x y || elem x ys

unfoldable pub keep : (ℕ → Bool) → List ℕ → List ℕ
keep p [] = []
keep p (x ∷ xs) = cond (p x) (x ∷ keep p xs) (keep p xs)

-- the numbers k, k + 1, .., n of them
unfoldable pub run : ℕ → ℕ → List ℕ
run k zero = []
run k (suc n) = k ∷ run (suc k) n

-- the first of a list that passes, or 0
unfoldable pub first_of : (ℕ → Bool) → List ℕ → ℕ
first_of p [] = 0
first_of p (x ∷ xs) = let rest = first_of p xs in cond (p x) x rest

unfoldable pub sum_of : (ℕ → ℕ) → List ℕ → ℕ
sum_of g [] = 0
sum_of g (x ∷ xs) = g x + sum_of g xs

unfoldable pub concat_of : (ℕ → List ℕ) → List ℕ → List ℕ
concat_of g [] = []
concat_of g (x ∷ xs) = g x ++ concat_of g xs

unfoldable pub any : (ℕ → Bool) → List ℕ → Bool
any p [] = false
any p (x ∷ xs) = p x || any p xs

unfoldable pub all : (ℕ → Bool) → List ℕ → Bool
all p [] = true
all p (x ∷ xs) = p x && all p xs

-- each member against each later one
unfoldable pub pairs : (ℕ → ℕ → Bool) → List ℕ → Bool
pairs r [] = true
pairs r (x ∷ xs) = all (r x) xs && pairs r xs

-- no number twice
unfoldable pub once : List ℕ → Bool
once xs = pairs (λ x y. not (eqb x y)) xs

-- x before the first that stops it, at the end where none does
unfoldable pub put_before : (ℕ → Bool) → ℕ → List ℕ → List ℕ
put_before stops x [] = x ∷ []
put_before stops x (y ∷ ys) = cond (stops y) (x ∷ y ∷ ys) (y ∷ put_before stops x ys)

unfoldable pub head_or : ℕ → List ℕ → ℕ
head_or d [] = d
head_or d (x ∷ xs) = x

unfoldable pub last_or : ℕ → List ℕ → ℕ
last_or d [] = d
last_or d (x ∷ xs) = last_or x xs

-- what stands after the first x, or 0
unfoldable pub follower : ℕ → List ℕ → ℕ
follower x [] = 0
follower x (y ∷ ys) = cond (eqb x y) (head_or 0 ys) (follower x ys)

-- keys compare as unsigned bytes, the first most significant
unfoldable pub less_key : List ℕ → List ℕ → Bool
less_key [] [] = false
less_key [] (b ∷ bs) = true
less_key (a ∷ xs) [] = false
less_key (a ∷ xs) (b ∷ ys) = ltb a b || (eqb a b && less_key xs ys)

unfoldable pub same_key : List ℕ → List ℕ → Bool
same_key [] [] = true
same_key [] (b ∷ bs) = false
same_key (a ∷ xs) [] = false
same_key (a ∷ xs) (b ∷ ys) = eqb a b && same_key xs ys

-- n members of a list from a place on
abbrev pub part : ℕ → ℕ → List ℕ → List ℕ
part at n xs = take n (drop at xs)

unfoldable pub without : ℕ → List ℕ → List ℕ
without x xs = keep (λ y. not (eqb y x)) xs

-- the place of a list's first that passes, counted from i; 0 where none does
unfoldable pub place_from : (ℕ → Bool) → ℕ → List ℕ → ℕ
place_from p i [] = 0
place_from p i (x ∷ xs) = cond (p x) i (place_from p (suc i) xs)

-- a list, each element by its index, counted from i
unfoldable pub by_index : (ℕ → ℕ → ℕ) → ℕ → List ℕ → List ℕ
by_index g i [] = []
by_index g i (x ∷ xs) = g i x ∷ by_index g (suc i) xs

-- a function with another value at one place
unfoldable pub update {ℓ} : {A : Type ℓ} → (ℕ → A) → ℕ → A → ℕ → A
update g x a y = cond (eqb y x) a (g y)
