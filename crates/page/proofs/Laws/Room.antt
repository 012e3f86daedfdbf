-- A page's lowest free line.
use Rattle.std.proofs.Common.{◌≡◌, ℕ, zero, suc, ◌+◌, ◌<◌, List, arith, eq-eqb, ne_eqb}
use Rattle.ledger.specs.Bytes.{size_at, line_at}
use Rattle.model.specs.declared.Gap.{Gap}
use Rattle.model.specs.Room.{gap_from}

-- first_gap; n lines are left
module _ (p : List ℕ) (at line : ℕ) (x : Gap) where
  pub gap_full : (n : ℕ) → gap_from p at line n ≡ x → n ≡ 0 → ◌≡◌ {A = Gap} (record { line = 0; at = at }) x
  unfolding gap_from
  gap_full zero inv h = inv
  gap_full (suc n) inv h = absurd (omega arith)

  pub gap_here : (n : ℕ) → gap_from p at line n ≡ x → 0 < n → (line_at p at ≡ line → ⊥) → ◌≡◌ {A = Gap} (record { line = line; at = at }) x
  unfolding gap_from
  gap_here zero inv h ne = absurd (omega arith)
  gap_here (suc n) inv h ne = rw (ne_eqb (line_at p at) line ne) at inv

  pub gap_next : (n m : ℕ) → gap_from p at line n ≡ x → n ≡ suc m → line_at p at ≡ line → gap_from p (at + size_at p at) (line + 1) m ≡ x
  unfolding gap_from
  gap_next zero m inv h e = absurd (omega arith)
  gap_next (suc n) m inv h e = let l : m ≡ n = omega arith in rw l (rw (eq-eqb (line_at p at) line e) at inv)
