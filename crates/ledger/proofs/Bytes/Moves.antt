-- What a page becomes where a record is taken in or taken out.
use Prim.Native.Nat.{ℕ, suc, ◌+◌, ◌-◌, ◌^◌, ◌≤◌, ◌<◌, zero-le}
use mathlib.Core.Path.{◌≡◌, refl, ap}
use mathlib.Core.Logic.{◌≢◌}
use mathlib.Core.Bool.{cond}
use mathlib.Core.List.{List, [], ◌∷◌, ◌++◌, append_assoc}
use native.Mathlib.Omega.{arith}
use lib.ListN.{length, replicate, replicate-append-replicate}
use lib.Dec.{ltb}
use lib.Seq.{take_at, drop_at, take-append-add}
use borrow.Author.Tests.{lt-ltb}
use Rattle.ledger.specs.Numbers.{digits, update}
use Rattle.ledger.specs.Pages.{code_of, header, page, used, free, flags}
use Rattle.ledger.specs.Bytes.{before, after, start_of, opened, closed, fielded}
use Rattle.ledger.proofs.Lists.Tests.{same_or_not, update_same, update_other}
use Rattle.ledger.proofs.Lists.Runs.{sum_of_at, sum_of_same, powers_bound}
use Rattle.ledger.proofs.Lists.Parts.{after_part, take_zeros}
use Rattle.ledger.proofs.Bytes.Places.{start_length, page_at_lem, used_at}
use Rattle.ledger.proofs.Bytes.Writes.{before_same, after_same, other_used}

-- what a record's bytes add to the flags
abbrev pub bit : ℕ → List ℕ → ℕ
bit k b = cond (ltb 0 (length b)) (2 ^ k) 0

pub bit_some : (k : ℕ) (b : List ℕ) → 0 < length b → bit k b ≡ 2 ^ k
bit_some k b some = rw (lt-ltb 0 (length b) some)

pub fielded_header : (r r' : ℕ → List ℕ) (h : ℕ → ℕ) (p : ℕ) (rest : List ℕ)
    → fielded (header r h p ++ rest) (free r' p) (flags r' p) ≡ header r' h p ++ rest
unfolding fielded header digits
fielded_header r r' h p rest = refl

-- The bytes r and r' differ at the code of page p and line k alone.
module _ (r r' : ℕ → List ℕ) (p k : ℕ) (low : 1 ≤ k) (high : k ≤ 63)
    (same : (y : ℕ) → y ≢ code_of p k → r' y ≡ r y) where
  pub used_moved : used r' p + length (r (code_of p k)) ≡ used r p + length (r' (code_of p k))
  used_moved =
      rw (used_at r p k low high, used_at r' p k low high, before_same r r' p k low high same, after_same r r' p k low high same) (omega arith)

  pub fits_moved : ((q : ℕ) → used r q ≤ 496) → length (r' (code_of p k)) ≤ free r p + length (r (code_of p k)) → (q : ℕ) → used r' q ≤ 496
  unfolding free
  fits_moved fits room q = same_or_not q p
      (λ e. rw e (omega (arith, used_moved, fits p)))
      (λ ne. rw (other_used r r' p k low high same q ne) (fits q))

  pub flags_moved : flags r' p + bit k (r (code_of p k)) ≡ flags r p + bit k (r' (code_of p k))
  unfolding flags
  flags_moved =
      let g : ℕ → ℕ = λ j. bit j (r (code_of p j)) in
      let g' : ℕ → ℕ = λ j. bit j (r' (code_of p j)) in
      let e : (j : ℕ) → j ≢ k → g' j ≡ g j = λ j ne. ap (bit j) (same (code_of p j) (λ i. ne (omega arith))) in
      omega (
        arith,
        sum_of_at g 1 63 k low (omega arith),
        sum_of_at g' 1 63 k low (omega arith),
        sum_of_same g g' 1 (k - 1) (λ j lo hi. e j (λ i. omega arith)),
        sum_of_same g g' (suc k) (64 - suc k) (λ j lo hi. e j (λ i. omega arith)),
      )

  pub free_in : r (code_of p k) ≡ [] → free r' p ≡ free r p - length (r' (code_of p k))
  unfolding free
  free_in nothing = omega (arith, used_moved, ap length nothing)

  pub flags_in : r (code_of p k) ≡ [] → 0 < length (r' (code_of p k)) → flags r' p ≡ flags r p + 2 ^ k
  flags_in nothing some = omega (arith, flags_moved, ap (bit k) nothing, bit_some k (r' (code_of p k)) some)

  pub free_out : used r p ≤ 496 → r' (code_of p k) ≡ [] → free r' p ≡ free r p + length (r (code_of p k))
  unfolding free
  free_out fits nothing = omega (arith, used_moved, ap length nothing)

  pub flags_out : 0 < length (r (code_of p k)) → r' (code_of p k) ≡ [] → flags r' p ≡ flags r p - 2 ^ k
  flags_out some nothing = omega (arith, flags_moved, ap (bit k) nothing, bit_some k (r (code_of p k)) some)

module _ (r r' : ℕ → List ℕ) (h : ℕ → ℕ) (p k : ℕ) (low : 1 ≤ k) (high : k ≤ 63)
    (same : (y : ℕ) → y ≢ code_of p k → r' y ≡ r y) where
  -- the page in the terms of r, but for its fields and the record
  pub page_moved : page r' h p ≡ header r' h p ++ (before r p k ++ (r' (code_of p k) ++ (after r p k ++ replicate (free r' p) 0)))
  page_moved =
      rw (page_at_lem r' h p k low high, before_same r r' p k low high same, after_same r r' p k low high same) (simp append_assoc)

  -- Taken in.
  module _ (nothing : r (code_of p k) ≡ []) (some : 0 < length (r' (code_of p k))) (room : length (r' (code_of p k)) ≤ free r p) where
    opened_page : opened (page r h p) (start_of r p k) (r' (code_of p k))
        ≡ header r h p ++ (before r p k ++ (r' (code_of p k) ++ (after r p k ++ replicate (free r' p) 0)))
    unfolding opened
    opened_page =
        let e : 512 - (start_of r p k + length (r' (code_of p k))) ≡ length (after r p k) + free r' p =
        unfold start_of free in omega (arith, used_at r p k low high, used_moved r r' p k low high same, ap length nothing) in
        let f : free r p ≡ free r' p + length (r' (code_of p k)) = omega (arith, free_in r r' p k low high same nothing) in
        rw (
          page_at_lem r h p k low high,
          take_at (header r h p ++ before r p k) _ (start_of r p k) (start_length r h p k),
          drop_at (header r h p ++ before r p k) _ (start_of r p k) (start_length r h p k),
          nothing,
          e,
          f,
          take-append-add,
          take_zeros,
        ) (simp append_assoc)

    pub page_in_lem : fielded (opened (page r h p) (start_of r p k) (r' (code_of p k))) (free r p - length (r' (code_of p k))) (flags r p + 2 ^ k)
        ≡ page r' h p
    page_in_lem = rw (opened_page, ← free_in r r' p k low high same nothing, ← flags_in r r' p k low high same nothing some, page_moved) (fielded_header r r' h p _)

  -- Taken out.
  module _ (fits : used r p ≤ 496) (some : 0 < length (r (code_of p k))) (nothing : r' (code_of p k) ≡ []) where
    closed_page : closed (page r h p) (start_of r p k) (length (r (code_of p k)))
        ≡ header r h p ++ (before r p k ++ (r' (code_of p k) ++ (after r p k ++ replicate (free r' p) 0)))
    unfolding closed
    closed_page =
        rw (
          page_at_lem r h p k low high,
          take_at (header r h p ++ before r p k) _ (start_of r p k) (start_length r h p k),
          after_part (header r h p ++ before r p k) (r (code_of p k)) _ (start_of r p k) _ (start_length r h p k) refl,
          nothing,
          free_out r r' p k low high same fits nothing,
          ← replicate-append-replicate,
        ) (simp append_assoc)

    pub page_out : fielded (closed (page r h p) (start_of r p k) (length (r (code_of p k)))) (free r p + length (r (code_of p k))) (flags r p - 2 ^ k)
        ≡ page r' h p
    page_out = rw (closed_page, ← free_out r r' p k low high same fits nothing, ← flags_out r r' p k low high same some nothing, page_moved) (fielded_header r r' h p _)

-- Page p with the bytes b taken in at line k, and with those of line k taken out.
module _ (r : ℕ → List ℕ) (h : ℕ → ℕ) (p k : ℕ) (low : 1 ≤ k) (high : k ≤ 63) where
  pub page_put_in : r (code_of p k) ≡ [] → (b : List ℕ) → 0 < length b → length b ≤ free r p
      → fielded (opened (page r h p) (start_of r p k) b) (free r p - length b) (flags r p + 2 ^ k) ≡ page (update r (code_of p k) b) h p
  page_put_in nothing b some room =
      let there : update r (code_of p k) b (code_of p k) ≡ b = update_same r (code_of p k) b in
      rw there at
      (page_in_lem r (update r (code_of p k) b) h p k low high (update_other r (code_of p k) b) nothing (rw there some) (rw there room))

  pub page_put_out : used r p ≤ 496 → 0 < length (r (code_of p k))
      → fielded (closed (page r h p) (start_of r p k) (length (r (code_of p k)))) (free r p + length (r (code_of p k))) (flags r p - 2 ^ k)
      ≡ page (update r (code_of p k) []) h p
  page_put_out fits some =
      page_out r (update r (code_of p k) []) h p k low high (update_other r (code_of p k) []) fits some (update_same r (code_of p k) [])

bit_small : (k : ℕ) (b : List ℕ) → bit k b ≤ 2 ^ k
bit_small k [] = zero-le
bit_small k (x ∷ b) = omega (arith, bit_some k (x ∷ b) (omega arith))

-- the flags are eight bytes
pub flags_small : (r : ℕ → List ℕ) (p : ℕ) → flags r p < 2 ^ 64
unfolding flags
flags_small r p = omega (arith, powers_bound (λ j. bit j (r (code_of p j))) 1 63 (λ j. bit_small j (r (code_of p j))))
