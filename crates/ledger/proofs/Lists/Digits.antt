-- Numbers as bytes: how many, read back, and that they are bytes.
use Prim.Native.Nat.{ℕ, zero, suc, ◌+◌, ◌<◌, ◌/◌, ◌%◌, ◌≤◌}
use mathlib.Core.Path.{◌≡◌, refl}
use mathlib.Core.List.{List, [], ◌∷◌, ◌++◌}
use native.Mathlib.Omega.{arith}
use native.Mathlib.Nat.{add-zero}
use native.Mathlib.Numerals.{add-one}
use lib.ListN.{length, take, drop, get_or, length-append}
use lib.Seq.{drop-cons}
use mathlib.Core.Bool.{false, true, cond, Bool}
use Rattle.ledger.specs.Numbers.{digits, concat_of}
use Rattle.ledger.specs.Bytes.{two_at, three_at}
use Rattle.ledger.proofs.Lists.Parts.{get_d_part}

pub length_digits : (n v : ℕ) → length (digits n v) ≡ n
unfolding digits
length_digits zero v = refl
length_digits (suc n) v = rw (length-append, length_digits n) (add-one n)

-- the bytes of a part that is a number's
pub part_two : (f : List ℕ) (s v : ℕ) → take 2 (drop s f) ≡ digits 2 v → v < 65536 → two_at f s ≡ v
unfolding digits two_at
part_two f s v e small =
    let a : get_or f s 0 ≡ get_or (digits 2 v) 0 0 = rw (add-zero s) at (get_d_part f (digits 2 v) s 2 0 e (omega arith)) in
    let b : get_or f (s + 1) 0 ≡ get_or (digits 2 v) 1 0 = get_d_part f (digits 2 v) s 2 1 e (omega arith) in
    rw (a, b) (omega arith)

pub part_three : (f : List ℕ) (s v : ℕ) → take 3 (drop s f) ≡ digits 3 v → v < 16777216 → three_at f s ≡ v
unfolding digits three_at
part_three f s v e small =
    let a : get_or f s 0 ≡ get_or (digits 3 v) 0 0 = rw (add-zero s) at (get_d_part f (digits 3 v) s 3 0 e (omega arith)) in
    let b : get_or f (s + 1) 0 ≡ get_or (digits 3 v) 1 0 = get_d_part f (digits 3 v) s 3 1 e (omega arith) in
    let c : get_or f (s + 2) 0 ≡ get_or (digits 3 v) 2 0 = get_d_part f (digits 3 v) s 3 2 e (omega arith) in
    rw (a, b, c) (omega arith)

-- Bytes as numbers: the converse of part_two and part_three.
module _ (b : List ℕ) (small : (i : ℕ) → get_or b i 0 < 256) (s : ℕ) where
  pub digit_part : (v : ℕ) → s + 1 ≤ length b → get_or b s 0 ≡ v → take 1 (drop s b) ≡ digits 1 v
  unfolding digits
  digit_part v fits e =
      let a = small s in
      let low : v % 256 ≡ get_or b s 0 = omega arith in
      rw (drop-cons b s 0 (omega arith), low)

  pub two_part : (v : ℕ) → s + 2 ≤ length b → two_at b s ≡ v → take 2 (drop s b) ≡ digits 2 v
  unfolding digits two_at
  two_part v fits e =
      let a = small s in
      let c = small (s + 1) in
      let high : v / 256 % 256 ≡ get_or b s 0 = omega arith in
      let low : v % 256 ≡ get_or b (s + 1) 0 = omega arith in
      rw (drop-cons b s 0 (omega arith), drop-cons b (suc s) 0 (omega arith), high, low, add-one)

  pub three_part : (v : ℕ) → s + 3 ≤ length b → three_at b s ≡ v → take 3 (drop s b) ≡ digits 3 v
  unfolding digits three_at
  three_part v fits e =
      let a = small s in
      let c = small (s + 1) in
      let d = small (s + 2) in
      let high : v / 256 / 256 % 256 ≡ get_or b s 0 = omega arith in
      let mid : v / 256 % 256 ≡ get_or b (s + 1) 0 = omega arith in
      let low : v % 256 ≡ get_or b (s + 2) 0 = omega arith in
      let f : s + 1 ≡ suc s = add-one s in
      let g : s + 2 ≡ suc (suc s) = omega arith in
      rw (drop-cons b s 0 (omega arith), drop-cons b (suc s) 0 (omega arith), drop-cons b (suc (suc s)) 0 (omega arith), high, mid, low, f, g)

-- all bytes of a list are bytes
pub record Bytes (b : List ℕ) : Type 0 where
  pub small : (i : ℕ) → get_or b i 0 < 256

pub nil_bytes : Bytes []
nil_bytes = record { small = λ i. omega arith }

pub cons_bytes : {y : ℕ} {b : List ℕ} → y < 256 → Bytes b → Bytes (y ∷ b)
cons_bytes {y} {b} f g = record { small = go }
  where
    go : (i : ℕ) → get_or (y ∷ b) i 0 < 256
    go zero = f
    go (suc i) = g.small i

pub append_bytes : {a b : List ℕ} → Bytes a → Bytes b → Bytes (a ++ b)
append_bytes {a} {b} f g = go a f
  where
    go : (a : List ℕ) → Bytes a → Bytes (a ++ b)
    go [] f = g
    go (y ∷ a) f = cons_bytes (f.small 0) (go a (record { small = λ k. f.small (suc k) }))

pub digits_bytes : (n v : ℕ) → Bytes (digits n v)
unfolding digits
digits_bytes zero v = nil_bytes
digits_bytes (suc n) v = append_bytes (digits_bytes n (v / 256)) (cons_bytes (omega arith) nil_bytes)

pub cond_bytes : (c : Bool) {a b : List ℕ} → Bytes a → Bytes b → Bytes (cond c a b)
cond_bytes true f g = f
cond_bytes false f g = g

pub concat_bytes : (g : ℕ → List ℕ) (xs : List ℕ) → ((x : ℕ) → Bytes (g x)) → Bytes (concat_of g xs)
unfolding concat_of
concat_bytes g [] f = nil_bytes
concat_bytes g (x ∷ xs) f = append_bytes (f x) (concat_bytes g xs f)
