-- Any number of bytes as a number, and back; zeros to the end.
use Prim.Native.Nat.{ℕ, zero, suc, ◌+◌, ◌*◌, ◌/◌, ◌%◌, ◌-◌, ◌≤◌, ◌<◌, ◌^◌}
use mathlib.Core.Path.{◌≡◌, refl, sym, ◌∙◌, ap}
use mathlib.Core.Bool.{true, true≢false}
use mathlib.Core.List.{List, [], ◌∷◌, ◌++◌}
use native.Mathlib.Omega.{arith}
use native.Mathlib.Nat.{pow-suc}
use native.Mathlib.Numerals.{add-one}
use lib.ListN.{length, get_or, take, drop, replicate, length-drop}
use lib.Seq.{take-suc, get_or-drop, drop-cons, take-take, drop-length, get_or_at, take_at}
use lib.Dec.{eqb}
use borrow.Author.Tests.{eqb-true, eq-eqb}
use Rattle.ledger.specs.Numbers.{digits}
use Rattle.ledger.specs.Bytes.{two_at}
use Rattle.ledger.proofs.Lists.Tests.{by_cases}
use Rattle.ledger.proofs.Lists.Digits.{length_digits}
use Rattle.ledger.proofs.Lists.Parts.{get_d_part, get_d_zeros}
use Rattle.model.specs.Room.{flags_at}
use Rattle.audit_model.specs.Scan.{zeros_from}

-- the number of n bytes from i on
unfoldable pub number_at : List ℕ → ℕ → ℕ → ℕ
number_at f i zero = 0
number_at f i (suc n) = number_at f i n * 256 + get_or f (i + n) 0

pub number_part : (f : List ℕ) (i n : ℕ) → ((j : ℕ) → get_or f j 0 < 256) → i + n ≤ length f → take n (drop i f) ≡ digits n (number_at f i n)
unfolding number_at digits
number_part f i zero small fits = refl
number_part f i (suc n) small fits =
    let b = small (i + n) in
    let high : (number_at f i n * 256 + get_or f (i + n) 0) / 256 ≡ number_at f i n = omega arith in
    let low : (number_at f i n * 256 + get_or f (i + n) 0) % 256 ≡ get_or f (i + n) 0 = omega arith in
    rw (take-suc (drop i f) n 0 (rw length-drop (omega arith)), get_or-drop, high, low, ← number_part f i n small (omega arith))

pub part_number : (f : List ℕ) (i n v : ℕ) → take n (drop i f) ≡ digits n v → v < 256 ^ n → i + n ≤ length f → number_at f i n ≡ v
unfolding number_at digits
part_number f i zero v e small fits = omega arith
part_number f i (suc n) v e small fits =
    let last : get_or f (i + n) 0 ≡ v % 256 =
    get_d_part f (digits n (v / 256) ++ (v % 256 ∷ [])) i (suc n) n e (omega arith) ∙ get_or_at (digits n (v / 256)) (v % 256) [] 0 n (length_digits n (v / 256)) in
    let front : take n (drop i f) ≡ digits n (v / 256) =
    sym (take-take n (suc n) (drop i f) (omega arith)) ∙ rw e (take_at (digits n (v / 256)) _ n (length_digits n (v / 256))) in
    let more : v / 256 < 256 ^ n = omega (arith, pow-suc 256 n) in
    rw (part_number f i n (v / 256) front more (omega arith), last) (omega arith)

pub flags_number : (g : List ℕ) → flags_at g ≡ number_at g 5 8
unfolding flags_at two_at number_at
flags_number g = omega arith

-- zeros to the end
pub zeros_part : (g : List ℕ) (n at : ℕ) → zeros_from g at n ≡ true → at + n ≡ length g → drop at g ≡ replicate n 0
unfolding zeros_from
zeros_part g zero at e l = let here : at ≡ length g = omega arith in rw here (drop-length g)
zeros_part g (suc n) at e l = by_cases (eqb (get_or g at 0) 0)
    (λ z.
    let rest : zeros_from g (at + 1) n ≡ true = rw z at e in
    let here : get_or g at 0 ≡ 0 = eqb-true _ _ z in
    rw (drop-cons g at 0 (omega arith), here, ← add-one at) (ap (λ (l : List ℕ). 0 ∷ l) (zeros_part g n (at + 1) rest (omega arith))))
    (λ z. absurd (true≢false (sym e ∙ rw z)))

pub zeros_byte : (g : List ℕ) (at n i : ℕ) → drop at g ≡ replicate n 0 → at ≤ i → get_or g i 0 ≡ 0
zeros_byte g at n i e le =
    let f : at + (i - at) ≡ i = omega arith in
    let z : get_or (drop at g) (i - at) 0 ≡ 0 = rw e (get_d_zeros n (i - at)) in
    rw f at (sym (get_or-drop at g (i - at) 0) ∙ z)

pub zeros_pass : (g : List ℕ) (n at : ℕ) → ((i : ℕ) → at ≤ i → get_or g i 0 ≡ 0) → zeros_from g at n ≡ true
unfolding zeros_from
zeros_pass g zero at z = refl
zeros_pass g (suc n) at z = rw (eq-eqb (get_or g at 0) 0 (z at (omega arith))) (zeros_pass g n (at + 1) (λ i le. z i (omega arith)))
