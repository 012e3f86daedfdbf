-- The lookup of a line in a page's bytes.
use Prim.Native.Nat.{ℕ, zero, suc, ◌+◌, ◌-◌, ◌≤◌, ◌<◌}
use mathlib.Core.Path.{◌≡◌, refl, sym, ◌∙◌, ap}
use mathlib.Core.Logic.{◌≢◌}
use mathlib.Core.Bool.{or-true}
use mathlib.Core.List.{List, [], ◌∷◌}
use native.Mathlib.Omega.{arith}
use native.Mathlib.Nat.{add_assoc, add-zero}
use lib.ListN.{length}
use lib.Dec.{eqb}
use borrow.Author.Tests.{eq-eqb, ne_eqb, eqb-true, eqb-false, le-leb, lt-leb}
use Rattle.ledger.specs.Pages.{code_of, page_of, line_of, page, used}
use Rattle.ledger.specs.Bytes.{start_of, size_at, two_at, line_at, Formed, lookup}
use Rattle.ledger.proofs.Lists.Tests.{by_cases}
use Rattle.ledger.proofs.Bytes.Places.{start_least, start_first, start_next, record_part, record_byte, record_inside, free_byte}

module _ (end : ℕ) (f : List ℕ) (at line : ℕ) where
  pub lookup_stop : (fuel : ℕ) → size_at f at ≡ 0 → lookup end fuel f at line ≡ 0
  unfolding lookup
  lookup_stop zero e = refl
  lookup_stop (suc fuel) e = rw (eq-eqb (size_at f at) 0 e)

  pub lookup_out : lookup end 0 f at line ≡ 0
  unfolding lookup
  lookup_out = refl

  pub lookup_limit : (fuel : ℕ) → end ≤ at → lookup end fuel f at line ≡ 0
  unfolding lookup
  lookup_limit zero le = refl
  lookup_limit (suc fuel) le = rw (le-leb end at le, or-true (eqb (size_at f at) 0))

  pub lookup_here : (fuel : ℕ) → at < end → 0 < size_at f at → line_at f at ≡ line → lookup end (suc fuel) f at line ≡ at
  unfolding lookup
  lookup_here fuel lt size e = rw (lt-leb end at lt, ne_eqb (size_at f at) 0 (λ z. omega arith), eq-eqb (line_at f at) line e)

  pub lookup_past : (fuel : ℕ) → at < end → 0 < size_at f at → line_at f at ≢ line
      → lookup end (suc fuel) f at line ≡ lookup end fuel f (at + size_at f at) line
  unfolding lookup
  lookup_past fuel lt size ne = rw (lt-leb end at lt, ne_eqb (size_at f at) 0 (λ z. omega arith), ne_eqb (line_at f at) line ne)

-- A page of formed records.
module _ (r : ℕ → List ℕ) (h : ℕ → ℕ) (p : ℕ) (fits : used r p ≤ 496)
    (formed : (x : ℕ) → 0 < length (r x) → Formed x (r x)) where
  module _ (k : ℕ) (low : 1 ≤ k) (high : k ≤ 63) (some : 0 < length (r (code_of p k))) where
    pub size_there : size_at (page r h p) (start_of r p k) ≡ length (r (code_of p k))
    unfolding size_at two_at
    size_there =
        let o : Formed (code_of p k) (r (code_of p k)) = formed (code_of p k) some in
        rw (add_assoc, record_byte r h p k low high 2 (omega arith), record_byte r h p k low high 3 (omega arith)) o.size

    pub line_there : line_at (page r h p) (start_of r p k) ≡ k
    unfolding line_at
    line_there =
        let o : Formed (code_of p k) (r (code_of p k)) = formed (code_of p k) some in
        record_byte r h p k low high 4 (omega arith) ∙ o.line ∙ omega arith

    pub start_room : start_of r p k < 508
    start_room =
        let o : Formed (code_of p k) (r (code_of p k)) = formed (code_of p k) some in
        omega (arith, record_inside r p k low high fits)

  pub size_last : size_at (page r h p) (start_of r p 64) ≡ 0
  unfolding size_at two_at
  size_last = rw (add_assoc, free_byte r h p 2, free_byte r h p 3)

  -- what stands where line k's record would stand is of no line before it
  line_after : (n k j : ℕ) → k + n ≡ 64 → 1 ≤ j → j < k → line_at (page r h p) (start_of r p k) ≢ j
  unfolding line_at
  line_after zero k j e lo lt at =
      let last : k ≡ 64 = omega arith in
      let z : line_at (page r h p) (start_of r p k) ≡ 0 = rw last (free_byte r h p 4) in
      omega arith
  line_after (suc n) k j e lo lt at = by_cases (eqb (length (r (code_of p k))) 0)
      (λ none.
      let z : length (r (code_of p k)) ≡ 0 = eqb-true _ _ none in
      let s : start_of r p (suc k) ≡ start_of r p k = omega (arith, start_next r p k (omega arith)) in
      line_after n (suc k) j (omega arith) lo (omega arith) (rw s at))
      (λ some. omega (arith, line_there k (omega arith) (omega arith) (omega (arith, eqb-false (length (r (code_of p k))) 0 some))))

  pub line_other : (k : ℕ) → 1 ≤ k → k ≤ 63 → length (r (code_of p k)) ≡ 0 → line_at (page r h p) (start_of r p k) ≢ k
  line_other k lo hi z =
      let s : start_of r p (suc k) ≡ start_of r p k = omega (arith, start_next r p k lo) in
      rw s at (line_after (64 - suc k) (suc k) k (omega arith) lo (omega arith))

  module _ (end : ℕ) (room : 508 ≤ end) (k : ℕ) where
    -- past line j, whose record is not the one looked for
    past_line : (j fuel v : ℕ) → 1 ≤ j → j ≤ 63 → (0 < length (r (code_of p j)) → j ≢ k)
        → lookup end (suc fuel) (page r h p) (start_of r p (suc j)) k ≡ v → lookup end fuel (page r h p) (start_of r p (suc j)) k ≡ v
        → lookup end (suc fuel) (page r h p) (start_of r p j) k ≡ v
    past_line j fuel v low high ne without with-one = go (length (r (code_of p j))) refl
      where
        go : (n : ℕ) → length (r (code_of p j)) ≡ n → lookup end (suc fuel) (page r h p) (start_of r p j) k ≡ v
        go zero e = rw (start_next r p j low, e, add-zero) at without
        go (suc n) e =
            let some : 0 < length (r (code_of p j)) = omega arith in
            let size : size_at (page r h p) (start_of r p j) ≡ length (r (code_of p j)) = size_there j low high some in
            let next : lookup end fuel (page r h p) (start_of r p j + length (r (code_of p j))) k ≡ v = rw (start_next r p j low) at with-one in
            lookup_past end (page r h p) (start_of r p j) k fuel (omega (arith, start_room j low high some)) (omega arith)
            (λ at. ne some (sym (line_there j low high some) ∙ at))
            ∙ rw size next

    found_from : (m j fuel : ℕ) → j + m ≡ k → m < fuel → 1 ≤ j → k ≤ 63 → 0 < length (r (code_of p k))
        → lookup end fuel (page r h p) (start_of r p j) k ≡ start_of r p k
    found_from zero j zero e less low high some = absurd (omega arith)
    found_from (suc m) j zero e less low high some = absurd (omega arith)
    found_from zero j (suc fuel) e less low high some =
        let here : j ≡ k = omega arith in
        rw here
        (lookup_here end (page r h p) (start_of r p k) k fuel (omega (arith, start_room k (omega arith) high some))
        (omega (arith, size_there k (omega arith) high some)) (line_there k (omega arith) high some))
    found_from (suc m) j (suc fuel) e less low high some =
        past_line j fuel (start_of r p k) low (omega arith) (λ o at. omega arith)
        (found_from m (suc j) (suc fuel) (omega arith) (omega arith) (omega arith) high some)
        (found_from m (suc j) fuel (omega arith) (omega arith) (omega arith) high some)

    none_from : (m j fuel : ℕ) → j + m ≡ 64 → 1 ≤ j → r (code_of p k) ≡ [] → lookup end fuel (page r h p) (start_of r p j) k ≡ 0
    none_from zero j fuel e low no_record =
        let last : j ≡ 64 = omega arith in
        rw last (lookup_stop end (page r h p) (start_of r p 64) k fuel size_last)
    none_from (suc m) j zero e low no_record = lookup_out end (page r h p) (start_of r p j) k
    none_from (suc m) j (suc fuel) e low no_record =
        past_line j fuel 0 low (omega arith) (λ o at. omega (arith, ap length no_record, ap (λ (i : ℕ). length (r (code_of p i))) at))
        (none_from m (suc j) (suc fuel) (omega arith) (omega arith) no_record)
        (none_from m (suc j) fuel (omega arith) (omega arith) no_record)

    pub lookup_found : (fuel : ℕ) → 63 ≤ fuel → 1 ≤ k → k ≤ 63 → 0 < length (r (code_of p k)) → lookup end fuel (page r h p) 16 k ≡ start_of r p k
    lookup_found fuel enough low high some = rw (start_first r p) at (found_from (k - 1) 1 fuel (omega arith) (omega arith) (omega arith) high some)

    pub lookup_none : (fuel : ℕ) → r (code_of p k) ≡ [] → lookup end fuel (page r h p) 16 k ≡ 0
    lookup_none fuel no_record = rw (start_first r p) at (none_from 63 1 fuel refl (omega arith) no_record)

-- A page tells the bytes of its records.
module _ (r r' : ℕ → List ℕ) (h h' : ℕ → ℕ) (p : ℕ) (fits : used r p ≤ 496) (fits' : used r' p ≤ 496)
    (formed : (x : ℕ) → 0 < length (r x) → Formed x (r x)) (formed' : (x : ℕ) → 0 < length (r' x) → Formed x (r' x))
    (same : page r h p ≡ page r' h' p) (k : ℕ) (low : 1 ≤ k) (high : k ≤ 63) where
  pub record_told : r (code_of p k) ≡ r' (code_of p k)
  record_told = go (r (code_of p k)) (r' (code_of p k)) refl refl
    where
      there : 0 < length (r (code_of p k)) → lookup 508 63 (page r h p) 16 k ≡ start_of r p k
      there = lookup_found r h p fits formed 508 (omega arith) k 63 (omega arith) low high

      there' : 0 < length (r' (code_of p k)) → lookup 508 63 (page r h p) 16 k ≡ start_of r' p k
      there' some = rw same (lookup_found r' h' p fits' formed' 508 (omega arith) k 63 (omega arith) low high some)

      go : (b c : List ℕ) → r (code_of p k) ≡ b → r' (code_of p k) ≡ c → r (code_of p k) ≡ r' (code_of p k)
      go [] [] e f = e ∙ sym f
      go [] (z ∷ c) e f =
          let none = lookup_none r h p fits formed 508 (omega arith) k 63 e in
          absurd (omega (arith, there' (rw f (omega arith)), start_least r' p k))
      go (y ∷ b) [] e f =
          let none : lookup 508 63 (page r h p) 16 k ≡ 0 = rw same (lookup_none r' h' p fits' formed' 508 (omega arith) k 63 f) in
          absurd (omega (arith, there (rw e (omega arith)), start_least r p k))
      go (y ∷ b) (z ∷ c) e f =
          let some : 0 < length (r (code_of p k)) = rw e (omega arith) in
          let some' : 0 < length (r' (code_of p k)) = rw f (omega arith) in
          let start : start_of r p k ≡ start_of r' p k = sym (there some) ∙ there' some' in
          let size : length (r (code_of p k)) ≡ length (r' (code_of p k)) =
          sym (size_there r h p fits formed k low high some) ∙ rw (same, start) (size_there r' h' p fits' formed' k low high some') in
          sym (record_part r h p k low high) ∙ rw (same, start, size) (record_part r' h' p k low high)

-- so of a code whose page they share
pub code_told : (r r' : ℕ → List ℕ) (h h' : ℕ → ℕ) (x : ℕ) → used r (page_of x) ≤ 496 → used r' (page_of x) ≤ 496
    → ((y : ℕ) → 0 < length (r y) → Formed y (r y)) → ((y : ℕ) → 0 < length (r' y) → Formed y (r' y))
    → page r h (page_of x) ≡ page r' h' (page_of x) → 1 ≤ line_of x → r x ≡ r' x
code_told r r' h h' x fits fits' formed formed' same line =
    let e : code_of (page_of x) (line_of x) ≡ x = omega arith in
    rw e at (record_told r r' h h' (page_of x) fits fits' formed formed' same (line_of x) line (omega arith))
