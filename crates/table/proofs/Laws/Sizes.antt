-- Where a record's links stand.
use Rattle.std.proofs.Common.{◌≡◌, ℕ, suc, ◌+◌, ◌-◌, ◌<◌, ◌≤◌, cond, List, add-one, arith}
use Rattle.ledger.specs.Numbers.{sum_of, run}
use Rattle.ledger.specs.Table.{row, data_len, calculated}
use Rattle.ledger.specs.Pages.{link_bytes, calc_at, link_at}

-- link_at
module _ (t : List ℕ) (n j : ℕ) where
  pub link_first : (d c : ℕ) → d ≡ data_len t (row t n) → c ≡ cond (calculated t n) 3 0
      → 5 + d + c + sum_of (link_bytes t n) (run 0 (j - 0)) ≡ link_at t n j
  unfolding link_at calc_at
  link_first d c ed ec = let z : j - 0 ≡ j = omega arith in rw (z, ed, ec)

  pub link_next : (at k b x : ℕ) → at + sum_of (link_bytes t n) (run k (j - k)) ≡ x → k < j → b ≡ link_bytes t n k
      → at + b + sum_of (link_bytes t n) (run (k + 1) (j - (k + 1))) ≡ x
  unfolding sum_of run
  link_next at k b x inv h eb =
      let m : j - k ≡ suc (j - (k + 1)) = omega arith in
      let turn : at + (link_bytes t n k + sum_of (link_bytes t n) (run (suc k) (j - (k + 1)))) ≡ x = rw m at inv in
      rw eb (omega (arith, rw (← add-one k) at turn))

  pub link_end : (at k x : ℕ) → at + sum_of (link_bytes t n) (run k (j - k)) ≡ x → j ≤ k → at ≡ x
  unfolding sum_of run
  link_end at k x inv h = let m : j - k ≡ 0 = omega arith in omega (arith, rw m at inv)
