-- Where records stand in a page.
use Prim.Native.Nat.{ℕ, suc, ◌+◌, ◌-◌, ◌≤◌, ◌<◌}
use mathlib.Core.Path.{◌≡◌, refl}
use mathlib.Core.List.{List, ◌++◌, append_assoc, append-nil}
use native.Mathlib.Omega.{arith}
use lib.ListN.{length, take, drop, get_or, length-append, replicate}
use lib.Seq.{get_or-append-add}
use Rattle.ledger.specs.Numbers.{run, concat_of}
use Rattle.ledger.specs.Pages.{code_of, header, page, packed, used, free}
use Rattle.ledger.specs.Bytes.{before, after, start_of}
use Rattle.ledger.proofs.Lists.Runs.{run_append, concat_of_append, concat_of_at, sum_of_at, length_concat_of}
use Rattle.ledger.proofs.Lists.Parts.{part_here, get_d_part, get_d_zeros}
use Rattle.ledger.proofs.Bytes.Pages.{header_length}

module _ (r : ℕ → List ℕ) (p k : ℕ) (low : 1 ≤ k) (high : k ≤ 63) where
  pub packed_at : packed r p ≡ before r p k ++ (r (code_of p k) ++ after r p k)
  unfolding packed before after
  packed_at = concat_of_at (λ j. r (code_of p j)) 1 63 k low (omega arith)

  pub used_at : used r p ≡ length (before r p k) + (length (r (code_of p k)) + length (after r p k))
  unfolding used before after
  used_at = simp length_concat_of (sum_of_at (λ j. length (r (code_of p j))) 1 63 k low (omega arith))

  pub record_inside : used r p ≤ 496 → start_of r p k + length (r (code_of p k)) ≤ 512
  unfolding start_of
  record_inside fits = omega (arith, used_at)

pub start_length : (r : ℕ → List ℕ) (h : ℕ → ℕ) (p k : ℕ) → length (header r h p ++ before r p k) ≡ start_of r p k
unfolding start_of
start_length r h p k = rw (length-append, header_length r h p)

-- The page at one of its records.
module _ (r : ℕ → List ℕ) (h : ℕ → ℕ) (p k : ℕ) (low : 1 ≤ k) (high : k ≤ 63) where
  pub page_at_lem : page r h p ≡ header r h p ++ before r p k ++ (r (code_of p k) ++ (after r p k ++ replicate (free r p) 0))
  unfolding page
  page_at_lem = rw (packed_at r p k low high) (simp append_assoc)

  pub record_part : take (length (r (code_of p k))) (drop (start_of r p k) (page r h p)) ≡ r (code_of p k)
  record_part = rw page_at_lem (part_here (header r h p ++ before r p k) (r (code_of p k)) _ _ _ (start_length r h p k) refl)

  pub record_byte : (i : ℕ) → i < length (r (code_of p k)) → get_or (page r h p) (start_of r p k + i) 0 ≡ get_or (r (code_of p k)) i 0
  record_byte i lt = get_d_part (page r h p) _ (start_of r p k) _ i record_part lt

-- From line to line.
module _ (r : ℕ → List ℕ) (p : ℕ) where
  pub packed_length : length (packed r p) ≡ used r p
  unfolding packed used
  packed_length = length_concat_of (λ k. r (code_of p k)) (run 1 63)

  pub before_next : (k : ℕ) → 1 ≤ k → before r p (suc k) ≡ before r p k ++ r (code_of p k)
  unfolding before concat_of run
  before_next k low =
      let e : suc k - 1 ≡ (k - 1) + 1 = omega arith in
      let f : 1 + (k - 1) ≡ k = omega arith in
      rw (e, run_append, concat_of_append, f, append-nil)

  pub start_next : (k : ℕ) → 1 ≤ k → start_of r p (suc k) ≡ start_of r p k + length (r (code_of p k))
  unfolding start_of
  start_next k low = rw (before_next k low, length-append) (omega arith)

  pub start_least : (k : ℕ) → 16 ≤ start_of r p k
  unfolding start_of
  start_least k = omega arith

  pub start_first : start_of r p 1 ≡ 16
  unfolding start_of before concat_of run
  start_first = refl

  pub start_last : start_of r p 64 ≡ 16 + used r p
  unfolding start_of before used
  start_last = rw length_concat_of

pub free_byte : (r : ℕ → List ℕ) (h : ℕ → ℕ) (p i : ℕ) → get_or (page r h p) (start_of r p 64 + i) 0 ≡ 0
unfolding page
free_byte r h p i =
    let e : start_of r p 64 ≡ length (header r h p ++ packed r p) = rw (start_last, length-append, header_length, packed_length) in
    rw (e, get_or-append-add) (get_d_zeros (free r p) i)
