-- Where a page stands in the layout, and the fields of its header.
use Prim.Native.Nat.{ℕ, ◌+◌, ◌*◌, ◌-◌, ◌≤◌, ◌<◌}
use mathlib.Core.Path.{◌≡◌, refl, ◌∙◌, ap}
use mathlib.Core.List.{List, ◌++◌}
use native.Mathlib.Omega.{arith}
use lib.ListN.{length, take, drop, get_or, length-append, length-replicate}
use Rattle.ledger.specs.Numbers.{digits}
use Rattle.ledger.specs.Pages.{header, page, packed, used, free, flags, laid}
use Rattle.ledger.proofs.Lists.Runs.{length_concat_of, piece, length_pieces}
use Rattle.ledger.proofs.Lists.Digits.{length_digits}

pub page_length : (r : ℕ → List ℕ) (h : ℕ → ℕ) (p : ℕ) → used r p ≤ 496 → length (page r h p) ≡ 512
unfolding page header free used packed
page_length r h p fits = simp (length-append, length_digits, length_concat_of, length-replicate) (omega arith)

module _ (n : ℕ) (r : ℕ → List ℕ) (h : ℕ → ℕ) (fits : (p : ℕ) → used r p ≤ 496) where
  pub laid_length : length (laid n r h) ≡ 512 * n
  unfolding laid
  laid_length = length_pieces (page r h) 512 1 n (λ p. page_length r h p (fits p))

  pub laid_page : (p : ℕ) → 1 ≤ p → p ≤ n → take 512 (drop (512 * (p - 1)) (laid n r h)) ≡ page r h p
  unfolding laid
  laid_page p low high =
      let e : 1 + (p - 1) ≡ p = omega arith in
      piece (page r h) 512 1 n (p - 1) (λ q. page_length r h q (fits q)) (omega arith) ∙ ap (page r h) e

-- The header and its fields.
module _ (r : ℕ → List ℕ) (h : ℕ → ℕ) (p : ℕ) where
  pub header_length : length (header r h p) ≡ 16
  unfolding header
  header_length = simp (length-append, length_digits)

  pub own_part : take 3 (page r h p) ≡ digits 3 (64 * p)
  unfolding page header digits
  own_part = refl

  pub free_part : take 2 (drop 3 (page r h p)) ≡ digits 2 (free r p)
  unfolding page header digits
  free_part = refl

  pub flags_part : take 8 (drop 5 (page r h p)) ≡ digits 8 (flags r p)
  unfolding page header digits
  flags_part = refl

  pub head_part : take 3 (drop 13 (page r h p)) ≡ digits 3 (h p)
  unfolding page header digits
  head_part = refl

  -- the numbers that the bytes make
  pub free_number : get_or (page r h p) 3 0 * 256 + get_or (page r h p) 4 0 ≡ free r p
  unfolding page header digits free
  free_number = omega arith

  pub head_number : h p < 16777216 → (get_or (page r h p) 13 0 * 256 + get_or (page r h p) 14 0) * 256 + get_or (page r h p) 15 0 ≡ h p
  unfolding page header digits
  head_number small = omega arith

  -- another head, which only the header's last three bytes hold
  pub head_put_lem : (h' : ℕ → ℕ) → take 13 (page r h p) ++ digits 3 (h' p) ++ drop 16 (page r h p) ≡ page r h' p
  unfolding page header digits
  head_put_lem h' = refl
