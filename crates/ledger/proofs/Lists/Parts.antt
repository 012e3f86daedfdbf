-- The parts of a list, read and replaced; its entries, changed at an index.
use Prim.Native.Nat.{ℕ, zero, suc, ◌+◌, ◌≤◌, ◌<◌}
use mathlib.Core.Path.{◌≡◌, refl, ◌∙◌, ap, sym}
use mathlib.Core.List.{List, [], ◌∷◌, ◌++◌, append_assoc}
use native.Mathlib.Omega.{arith}
use native.Mathlib.Nat.{add_assoc, add-zero}
use lib.ListN.{length, take, drop, get_or, length-append, length-replicate, replicate, replicate-append-replicate, get_or-eq_default, length-take, set}
use lib.Seq.{sets, take-take, drop-drop, take_at, drop_at, get_or-drop, get_or-take, take-append-add, drop-append-add, take-append-le, drop-append-le, take-add}
use borrow.Author.Tests.{ltb-true, ltb-false}
use lib.Dec.{ltb}
use Rattle.ledger.specs.Numbers.{part, by_index}
use Rattle.ledger.proofs.Lists.Tests.{by_cases}

pub part_here : (a b c : List ℕ) (s n : ℕ) → length a ≡ s → length b ≡ n → take n (drop s (a ++ (b ++ c))) ≡ b
part_here a b c s n at size = rw (drop_at a (b ++ c) s at) (take_at b c n size)

pub after_part : (a b c : List ℕ) (s n : ℕ) → length a ≡ s → length b ≡ n → drop (s + n) (a ++ (b ++ c)) ≡ c
after_part a b c s n at size = rw (← append_assoc a b c) (drop_at (a ++ b) c (s + n) (rw (length-append, at, size)))

-- b' in the place of b
pub replaced : (a b c b' : List ℕ) (s n : ℕ) → length a ≡ s → length b ≡ n
    → take s (a ++ (b ++ c)) ++ b' ++ drop (s + n) (a ++ (b ++ c)) ≡ a ++ (b' ++ c)
replaced a b c b' s n at size = rw (take_at a (b ++ c) s at, after_part a b c s n at size, append_assoc)

-- what a part says of each of its elements
pub get_d_part : (f b : List ℕ) (s n i : ℕ) → take n (drop s f) ≡ b → i < n → get_or f (s + i) 0 ≡ get_or b i 0
get_d_part f b s n i e lt = rw (← e, get_or-take, get_or-drop)

-- b' in the place of a part of b, addressed from the start of the whole
pub replaced_inside : (a b c b' : List ℕ) (m s n : ℕ) → length a ≡ m → s + n ≤ length b
    → take (m + s) (a ++ (b ++ c)) ++ b' ++ drop (m + s + n) (a ++ (b ++ c)) ≡ a ++ (take s b ++ b' ++ drop (s + n) b ++ c)
replaced_inside a b c b' m s n at inside =
    let t : s ≤ length b = omega arith in
    rw (← at, add_assoc, take-append-add, drop-append-add, take-append-le s b c t, drop-append-le (s + n) b c inside) (simp append_assoc)

-- a part of a part
pub take_drop_take : (m o n : ℕ) (g : List ℕ) → o + m ≤ n → take m (drop o (take n g)) ≡ take m (drop o g)
take_drop_take m zero n g h = take-take m n g (omega arith)
take_drop_take m (suc o) zero g h = absurd (omega arith)
take_drop_take m (suc o) (suc n) [] h = refl
take_drop_take m (suc o) (suc n) (a ∷ g) h = take_drop_take m o n g (omega arith)

pub part_inside : (f b : List ℕ) (s n o m : ℕ) → take n (drop s f) ≡ b → o + m ≤ n → take m (drop (s + o) f) ≡ take m (drop o b)
part_inside f b s n o m e h = rw (← e, take_drop_take m o n (drop s f) h, drop-drop o s f)

-- a part and the next are a part
pub part_join : (b : List ℕ) (s n m : ℕ) (u v : List ℕ) → take n (drop s b) ≡ u → take m (drop (s + n) b) ≡ v → take (n + m) (drop s b) ≡ u ++ v
part_join b s n m u v e f = take-add n m (drop s b) ∙ rw (drop-drop, e, f)

-- one list written over another, in two parts
pub sets_append : (f : List ℕ) (i : ℕ) (u v : List ℕ) → sets f i (u ++ v) ≡ sets (sets f i u) (i + length u) v
sets_append f i [] v = rw (add-zero i)
sets_append f i (x ∷ u) v = let e : i + suc (length u) ≡ suc i + length u = omega arith in rw e (sets_append (set f i x) (suc i) u v)

-- zeros
pub get_d_zeros : (n i : ℕ) → ◌≡◌ {A = ℕ} (get_or (replicate n 0) i 0) 0
get_d_zeros zero i = refl
get_d_zeros (suc n) zero = refl
get_d_zeros (suc n) (suc i) = get_d_zeros n i

pub take_zeros : (n m : ℕ) → take {A = ℕ} n (replicate (n + m) 0) ≡ replicate n 0
take_zeros n m = rw (← replicate-append-replicate) (take_at (replicate n 0) _ n (length-replicate n 0))

-- a part of bytes is bytes
pub part_bytes : (b : List ℕ) (s n : ℕ) → ((i : ℕ) → get_or b i 0 < 256) → (i : ℕ) → get_or (part s n b) i 0 < 256
part_bytes b s n small i = by_cases (ltb i n)
    (λ e. let lt = ltb-true i n e in rw (get_or-take, get_or-drop) (small (s + i)))
    (λ e. let le = ltb-false i n e in rw (get_or-eq_default (part s n b) 0 {n = i} (rw length-take (omega arith))) (omega arith))

-- what holds of the entries, and of what is put in, holds of the entries after
pub set_keeps : (A : ℕ → Type 0) (xs : List ℕ) (i x j : ℕ) → A (get_or xs j 0) → (j ≡ i → A x) → A (get_or (set xs i x) j 0)
set_keeps A [] i x j old new = old
set_keeps A (y ∷ ys) zero x zero old new = new refl
set_keeps A (y ∷ ys) zero x (suc j) old new = old
set_keeps A (y ∷ ys) (suc i) x zero old new = old
set_keeps A (y ∷ ys) (suc i) x (suc j) old new = set_keeps A ys i x j old (λ e. new (ap suc e))

pub index_keeps : (A : ℕ → Type 0) (g : ℕ → ℕ → ℕ) (i : ℕ) (xs : List ℕ) (j : ℕ) → A 0 → A (g (i + j) (get_or xs j 0)) → A (get_or (by_index g i xs) j 0)
unfolding by_index
index_keeps A g i [] j none some = none
index_keeps A g i (x ∷ xs) zero none some = rw (add-zero i) at some
index_keeps A g i (x ∷ xs) (suc j) none some =
    let e : i + suc j ≡ suc i + j = omega arith in
    index_keeps A g (suc i) xs j none (rw e at some)

-- entries changed alike
pub by_index_same : (g g' : ℕ → ℕ → ℕ) (i : ℕ) (xs : List ℕ)
    → ((j : ℕ) → g (i + j) (get_or xs j 0) ≡ g' (i + j) (get_or xs j 0)) → by_index g i xs ≡ by_index g' i xs
unfolding by_index
by_index_same g g' i [] h = refl
by_index_same g g' i (x ∷ xs) h =
    let rest = by_index_same g g' (suc i) xs (λ j. let e : i + suc j ≡ suc i + j = omega arith in rw e at (h (suc j))) in
    let e : g i x ≡ g' i x = rw (add-zero i) at (h 0) in
    rw (e, rest)

-- each entry by its index
pub length_by_index : (g : ℕ → ℕ → ℕ) (i : ℕ) (xs : List ℕ) → length (by_index g i xs) ≡ length xs
unfolding by_index
length_by_index g i [] = refl
length_by_index g i (x ∷ xs) = ap suc (length_by_index g (suc i) xs)

pub get_d_by_index : (g : ℕ → ℕ → ℕ) → ((j : ℕ) → g j 0 ≡ 0) → (i k : ℕ) (xs : List ℕ) → get_or (by_index g i xs) k 0 ≡ g (i + k) (get_or xs k 0)
unfolding by_index
get_d_by_index g none i k [] = sym (none (i + k))
get_d_by_index g none i zero (x ∷ xs) = rw (add-zero i)
get_d_by_index g none i (suc k) (x ∷ xs) = let e : i + suc k ≡ suc i + k = omega arith in rw e (get_d_by_index g none (suc i) k xs)
