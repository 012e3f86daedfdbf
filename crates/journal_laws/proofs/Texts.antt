-- A journal's text: a whole line is read back, and the first bytes of a line that is not whole are no line.
use Prim.Native.Nat.{ℕ, zero, suc, ◌+◌, ◌*◌, ◌/◌, ◌%◌, ◌≤◌, ◌<◌}
use mathlib.Core.Path.{◌≡◌, refl, ap}
use mathlib.Core.Logic.{◌⊎◌, inl, inr}
use mathlib.Core.Bool.{false}
use mathlib.Core.List.{List, [], ◌∷◌, ◌++◌, append_assoc, append-nil}
use mathlib.Core.Option.{Option, some}
use native.Mathlib.Omega.{arith}
use lib.ListN.{length, take, length-append}
use lib.Seq.{take-append-le, take_all}
use lib.Dec.{eqb, ltb, leb}
use borrow.Author.Tests.{ltb-true, ltb-false, leb-true, leb-false, lt-ltb, le-leb, lt-leb, ne_eqb}
use Rattle.ledger.specs.Numbers.{elem, concat_of}
use Rattle.ledger.specs.Rules.{between}
use Rattle.ledger.specs.Player.{digit_value, digit_of, pairs_of, hex_of}
use Rattle.ledger.proofs.Lists.Tests.{by_cases, neither}
use Rattle.ledger.proofs.Lists.Digits.{Bytes}
use Rattle.ledger.specs.Journal.Writes.{line}
use Rattle.ledger.specs.Journal.Recovery.{lines_of, line_says, line_read, lines_said, Group, next_group, group_from}

-- a digit read back; no digit is a line end
digit_back : (v : ℕ) → v < 16 → digit_value (digit_of v) ≡ v
unfolding digit_value digit_of between
digit_back v h = by_cases (ltb v 10)
    (λ e. let lt = ltb-true v 10 e in rw (e, le-leb 48 (48 + v) (omega arith), le-leb (48 + v) 57 (omega arith)) (omega arith))
    (λ e.
    let le = ltb-false v 10 e in
    rw (e, le-leb 48 (55 + v) (omega arith), lt-leb (55 + v) 57 (omega arith), le-leb 65 (55 + v) (omega arith), le-leb (55 + v) 70 (omega arith)) (omega arith))

digit_high : (v : ℕ) → 48 ≤ digit_of v
unfolding digit_of
digit_high v = by_cases (ltb v 10) (λ e. rw e (omega arith)) (λ e. rw e (omega arith))

-- hexadecimal read back
pub hex_back : (bs : List ℕ) → Bytes bs → pairs_of (hex_of bs) ≡ some bs
unfolding pairs_of hex_of concat_of
hex_back [] s = refl
hex_back (b ∷ bs) s =
    let small = s.small 0 in
    let e : 16 * (b / 16) + b % 16 ≡ b = omega arith in
    rw (
      digit_back (b / 16) (omega arith),
      digit_back (b % 16) (omega arith),
      lt-ltb (b / 16) 16 (omega arith),
      lt-ltb (b % 16) 16 (omega arith),
      hex_back bs (record { small = λ i. s.small (suc i) }),
      e,
    )

hex_no_end : (bs : List ℕ) → elem 10 (hex_of bs) ≡ false
unfolding elem hex_of concat_of
hex_no_end [] = refl
hex_no_end (b ∷ bs) =
    rw (
      ne_eqb 10 (digit_of (b / 16)) (λ e. omega (arith, digit_high (b / 16))),
      ne_eqb 10 (digit_of (b % 16)) (λ e. omega (arith, digit_high (b % 16))),
    )
    (hex_no_end bs)

-- a line end ends a line, and without one there is none
line_ended : (start xs cs : List ℕ) → elem 10 xs ≡ false → lines_of start (xs ++ (10 ∷ cs)) ≡ (start ++ xs) ∷ lines_of [] cs
unfolding lines_of elem
line_ended start [] cs h = rw append-nil
line_ended start (x ∷ xs) cs h =
    let (a, b) = neither (eqb 10 x) (elem 10 xs) h in
    rw (a, line_ended (start ++ (x ∷ [])) xs cs b, append_assoc)

no_line : (start xs : List ℕ) → elem 10 xs ≡ false → lines_of start xs ≡ []
unfolding lines_of elem
no_line start [] h = refl
no_line start (x ∷ xs) h =
    let (a, b) = neither (eqb 10 x) (elem 10 xs) h in
    rw a (no_line (start ++ (x ∷ [])) xs b)

take_none : (k : ℕ) (xs : List ℕ) → elem 10 xs ≡ false → elem 10 (take k xs) ≡ false
unfolding elem
take_none zero xs h = refl
take_none (suc k) [] h = refl
take_none (suc k) (x ∷ xs) h =
    let (a, b) = neither (eqb 10 x) (elem 10 xs) h in
    rw a (take_none k xs b)

-- reading on in a journal from a group
abbrev pub read_on : ℕ → Group → List ℕ → Group
read_on n g j = group_from g (lines_said n j)

pub read_line : (n : ℕ) (g : Group) (bs j : List ℕ) → Bytes bs → read_on n g (line bs ++ j) ≡ read_on n (next_group g (line_says n bs)) j
unfolding line group_from
read_line n g bs j s =
    rw (append_assoc, line_ended [] (hex_of bs) j (hex_no_end bs))
    (ap (λ (o : Option (List ℕ)). read_on n (next_group g (line_read n o)) j) (hex_back bs s))

-- the first bytes of a line are all of it, or no line
pub line_cut : (k : ℕ) (bs : List ℕ) → (take k (line bs) ≡ line bs) ⊎ ((n : ℕ) (g : Group) → read_on n g (take k (line bs)) ≡ g)
unfolding line group_from
line_cut k bs = by_cases (leb k (length (hex_of bs)))
    (λ e.
    let le = leb-true k (length (hex_of bs)) e in
    inr (λ n g. rw (take-append-le k (hex_of bs) (10 ∷ []) le, no_line [] (take k (hex_of bs)) (take_none k (hex_of bs) (hex_no_end bs)))))
    (λ e. let lt = leb-false k (length (hex_of bs)) e in inl (take_all k (hex_of bs ++ (10 ∷ [])) (rw length-append (omega arith))))
