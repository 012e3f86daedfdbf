-- Records sorted by type and CALC key, by merging. A record is named by where it starts in the file.
use Rattle.std.specs.Prelude.{ℕ, zero, suc, ◌+◌, ◌/◌, Bool, true, false, cond, List, [], ◌∷◌, ◌++◌, length, take, drop, get_or, ltb}
use Rattle.ledger.specs.Numbers.{part, less_key}
use Rattle.ledger.specs.Table.{key_at, key_len, row}
use Rattle.ledger.specs.Bytes.{two_at}

-- the CALC key of the record that starts at s
unfoldable pub key_from : List ℕ → List ℕ → ℕ → List ℕ
key_from t f s = part (s + (5 + key_at t (row t (two_at f s)))) (key_len t (row t (two_at f s))) f

-- whether the record at a goes before the one at b: a lower type, or the type's lower key
unfoldable pub goes_before : List ℕ → List ℕ → ℕ → ℕ → Bool
goes_before t f a b =
    cond (ltb (two_at f a) (two_at f b)) true
    (cond (ltb (two_at f b) (two_at f a)) false (less_key (key_from t f a) (key_from t f b)))

-- of two lists to be merged, whether the second's first comes next: where the first list is at its end, or where it goes before the first's
unfoldable pub second_first : (ℕ → ℕ → Bool) → List ℕ → List ℕ → Bool
second_first less xs [] = false
second_first less [] (y ∷ ys) = true
second_first less (x ∷ xs) (y ∷ ys) = less y x

-- n numbers of two lists merged, zeros past their ends
unfoldable pub merged : (ℕ → ℕ → Bool) → ℕ → List ℕ → List ℕ → List ℕ
merged less zero xs ys = []
merged less (suc n) xs ys =
    cond (second_first less xs ys)
    (get_or ys 0 0 ∷ merged less n xs (drop 1 ys))
    (get_or xs 0 0 ∷ merged less n (drop 1 xs) ys)

-- the middle of a list
unfoldable pub half : List ℕ → ℕ
half l = length l / 2

-- a list with its two halves merged, where it has no more than `room` numbers
unfoldable pub halves_merged : (ℕ → ℕ → Bool) → ℕ → List ℕ → List ℕ
halves_merged less room l = cond (ltb room (length l)) l (merged less (length l) (take (half l) l) (drop (half l) l))

-- a list of at most 2 ^ level numbers, and no more than `room`, sorted
unfoldable pub sorted : (ℕ → ℕ → Bool) → ℕ → ℕ → List ℕ → List ℕ
sorted less room zero l = l
sorted less room (suc level) l = halves_merged less room (sorted less room level (take (half l) l) ++ sorted less room level (drop (half l) l))
