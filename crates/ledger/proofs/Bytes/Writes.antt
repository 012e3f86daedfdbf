-- What a layout becomes where one record's bytes, or one header's link, change in place.
use Prim.Native.Nat.{ℕ, suc, ◌+◌, ◌*◌, ◌-◌, ◌^◌, ◌≤◌, ◌<◌}
use mathlib.Core.Path.{◌≡◌, refl, sym, ◌∙◌, ap}
use mathlib.Core.Logic.{◌≢◌}
use mathlib.Core.Bool.{cond}
use mathlib.Core.List.{List, ◌++◌}
use native.Mathlib.Omega.{arith}
use lib.ListN.{length, take, drop}
use lib.Dec.{ltb}
use Rattle.ledger.specs.Numbers.{digits, run, concat_of, update}
use Rattle.ledger.specs.Pages.{code_of, header, page, packed, used, free, flags, laid}
use Rattle.ledger.specs.Bytes.{before, after, start_of}
use Rattle.ledger.proofs.Lists.Tests.{same_or_not, update_same, update_other}
use Rattle.ledger.proofs.Lists.Runs.{concat_of_at, concat_of_same, sum_of_same, length_pieces}
use Rattle.ledger.proofs.Lists.Parts.{replaced, replaced_inside}
use Rattle.ledger.proofs.Bytes.Pages.{page_length, head_put_lem}
use Rattle.ledger.proofs.Bytes.Places.{start_length, page_at_lem, record_inside}

-- One page, from the bytes r and from the bytes r'.
module _ (r r' : ℕ → List ℕ) (p : ℕ) where
  pub used_same : ((k : ℕ) → 1 ≤ k → k < 64 → length (r' (code_of p k)) ≡ length (r (code_of p k))) → used r' p ≡ used r p
  unfolding used
  used_same same = sum_of_same (λ k. length (r (code_of p k))) (λ k. length (r' (code_of p k))) 1 63 same

  pub flags_same : ((k : ℕ) → 1 ≤ k → k < 64 → length (r' (code_of p k)) ≡ length (r (code_of p k))) → flags r' p ≡ flags r p
  unfolding flags
  flags_same same =
      ap (λ (s : ℕ). 1 + s) (sum_of_same (λ k. cond (ltb 0 (length (r (code_of p k)))) (2 ^ k) 0) _ 1 63 (λ k low high. rw (same k low high)))

module _ (r r' : ℕ → List ℕ) (h h' : ℕ → ℕ) (p : ℕ) where
  pub header_same : h' p ≡ h p → ((k : ℕ) → 1 ≤ k → k < 64 → length (r' (code_of p k)) ≡ length (r (code_of p k)))
      → header r' h' p ≡ header r h p
  unfolding header free
  header_same head same = rw (head, used_same r r' p same, flags_same r r' p same)

  pub page_same : h' p ≡ h p → ((k : ℕ) → 1 ≤ k → k < 64 → r' (code_of p k) ≡ r (code_of p k)) → page r' h' p ≡ page r h p
  unfolding page packed free
  page_same head same =
      let lengths : (k : ℕ) → 1 ≤ k → k < 64 → length (r' (code_of p k)) ≡ length (r (code_of p k)) = λ k low high. ap length (same k low high) in
      rw (header_same head lengths, used_same r r' p lengths, concat_of_same (λ k. r (code_of p k)) (λ k. r' (code_of p k)) 1 63 same)

-- a layout is told by its records and its headers' links
pub laid_same : (n : ℕ) (r r' : ℕ → List ℕ) (h h' : ℕ → ℕ) → ((x : ℕ) → r x ≡ r' x) → ((p : ℕ) → 1 ≤ p → p ≤ n → h p ≡ h' p)
    → laid n r h ≡ laid n r' h'
unfolding laid
laid_same n r r' h h' bytes heads =
    concat_of_same (page r' h') (page r h) 1 n (λ p lo hi. page_same r' r h' h p (heads p lo (omega arith)) (λ k low high. bytes (code_of p k)))

-- The bytes r and r' differ at the code of page p and line k alone.
module _ (r r' : ℕ → List ℕ) (p k : ℕ) (low : 1 ≤ k) (high : k ≤ 63)
    (same : (y : ℕ) → y ≢ code_of p k → r' y ≡ r y) where
  pub other_used : (q : ℕ) → q ≢ p → used r' q ≡ used r q
  other_used q ne = used_same r r' q (λ j lo hi. ap length (same (code_of q j) (λ e. ne (omega arith))))

  pub before_same : before r' p k ≡ before r p k
  unfolding before
  before_same = concat_of_same (λ j. r (code_of p j)) _ 1 (k - 1) (λ j lo hi. same (code_of p j) (λ e. omega arith))

  pub after_same : after r' p k ≡ after r p k
  unfolding after
  after_same = concat_of_same (λ j. r (code_of p j)) _ (suc k) (64 - suc k) (λ j lo hi. same (code_of p j) (λ e. omega arith))

module _ (r r' : ℕ → List ℕ) (h : ℕ → ℕ) (p k : ℕ) (low : 1 ≤ k) (high : k ≤ 63)
    (same : (y : ℕ) → y ≢ code_of p k → r' y ≡ r y) where
  pub other_page : (q : ℕ) → q ≢ p → page r' h q ≡ page r h q
  other_page q ne = page_same r r' h h q refl (λ j lo hi. same (code_of q j) (λ e. ne (omega arith)))

  pub record_put_lem : length (r' (code_of p k)) ≡ length (r (code_of p k))
      → take (start_of r p k) (page r h p) ++ r' (code_of p k) ++ drop (start_of r p k + length (r' (code_of p k))) (page r h p) ≡ page r' h p
  unfolding free
  record_put_lem size =
      let lengths : (j : ℕ) → 1 ≤ j → j < 64 → length (r' (code_of p j)) ≡ length (r (code_of p j)) = λ j lo hi.
      same_or_not j k (λ e. rw e size) (λ ne. ap length (same (code_of p j) (λ e. ne (omega arith)))) in
      rw (page_at_lem r h p k low high, page_at_lem r' h p k low high, before_same r r' p k low high same, after_same r r' p k low high same, header_same r r' h h p refl lengths, used_same r r' p lengths)
      (replaced (header r h p ++ before r p k) (r (code_of p k)) _ _ _ _ (start_length r h p k) (sym size))

-- b in the place of one record's bytes
pub page_record_put : (r : ℕ → List ℕ) (h : ℕ → ℕ) (p k : ℕ) → 1 ≤ k → k ≤ 63 → (b : List ℕ) → length b ≡ length (r (code_of p k))
    → take (start_of r p k) (page r h p) ++ b ++ drop (start_of r p k + length b) (page r h p) ≡ page (update r (code_of p k) b) h p
page_record_put r h p k low high b size =
    let there : update r (code_of p k) b (code_of p k) ≡ b = update_same r (code_of p k) b in
    rw there at (record_put_lem r (update r (code_of p k) b) h p k low high (update_other r (code_of p k) b) (ap length there ∙ size))

-- v in the place of one header's link
pub page_head_put : (r : ℕ → List ℕ) (h : ℕ → ℕ) (p v : ℕ)
    → take 13 (page r h p) ++ digits 3 v ++ drop 16 (page r h p) ≡ page r (update h p v) p
page_head_put r h p v = rw (update_same h p v) at (head_put_lem r h p (update h p v))

-- Page p alone changes: the whole layout.
module _ (n : ℕ) (r r' : ℕ → List ℕ) (h h' : ℕ → ℕ) (fits : (q : ℕ) → used r q ≤ 496) (p : ℕ) (low : 1 ≤ p) (high : p ≤ n)
    (same : (q : ℕ) → q ≢ p → page r' h' q ≡ page r h q) where
  laid_at : laid n r h ≡ concat_of (page r h) (run 1 (p - 1)) ++ (page r h p ++ concat_of (page r h) (run (suc p) (1 + n - suc p)))
  unfolding laid
  laid_at = concat_of_at (page r h) 1 n p low (omega arith)

  laid_at' : laid n r' h' ≡ concat_of (page r h) (run 1 (p - 1)) ++ (page r' h' p ++ concat_of (page r h) (run (suc p) (1 + n - suc p)))
  unfolding laid
  laid_at' =
      rw (
        concat_of_at (page r' h') 1 n p low (omega arith),
        concat_of_same (page r h) (page r' h') 1 (p - 1) (λ q lo hi. same q (λ e. omega arith)),
        concat_of_same (page r h) (page r' h') (suc p) (1 + n - suc p) (λ q lo hi. same q (λ e. omega arith)),
      )

  -- m bytes of it at s are replaced by b
  pub laid_put : (b : List ℕ) (s m : ℕ) → s + m ≤ 512 → take s (page r h p) ++ b ++ drop (s + m) (page r h p) ≡ page r' h' p
      → take (512 * (p - 1) + s) (laid n r h) ++ b ++ drop (512 * (p - 1) + s + m) (laid n r h) ≡ laid n r' h'
  laid_put b s m inside e =
      let pages : (q : ℕ) → length (page r h q) ≡ 512 = λ q. page_length r h q (fits q) in
      rw (laid_at, laid_at', ← e)
      (replaced_inside (concat_of (page r h) (run 1 (p - 1))) (page r h p) (concat_of (page r h) (run (suc p) (1 + n - suc p))) b (512 * (p - 1)) s m (length_pieces (page r h) 512 1 (p - 1) pages) (rw pages inside))

  pub laid_page_put : take (512 * (p - 1)) (laid n r h) ++ page r' h' p ++ drop (512 * (p - 1) + 512) (laid n r h) ≡ laid n r' h'
  laid_page_put =
      let pages : (q : ℕ) → length (page r h q) ≡ 512 = λ q. page_length r h q (fits q) in
      rw (laid_at, laid_at')
      (replaced (concat_of (page r h) (run 1 (p - 1))) (page r h p) (concat_of (page r h) (run (suc p) (1 + n - suc p))) (page r' h' p)
      (512 * (p - 1)) 512 (length_pieces (page r h) 512 1 (p - 1) pages) (pages p))

-- One record, or one header's link, written in place.
module _ (n : ℕ) (r : ℕ → List ℕ) (h : ℕ → ℕ) (fits : (q : ℕ) → used r q ≤ 496) (p : ℕ) (low : 1 ≤ p) (high : p ≤ n) where
  pub laid_head_put : (v : ℕ)
      → take (512 * (p - 1) + 13) (laid n r h) ++ digits 3 v ++ drop (512 * (p - 1) + 13 + 3) (laid n r h) ≡ laid n r (update h p v)
  laid_head_put v =
      laid_put n r r h (update h p v) fits p low high
      (λ q ne. page_same r r h (update h p v) q (update_other h p v q ne) (λ j lo hi. refl)) (digits 3 v) 13 3 (omega arith)
      (page_head_put r h p v)

  pub laid_record_put : (k : ℕ) → 1 ≤ k → k ≤ 63 → (b : List ℕ) → length b ≡ length (r (code_of p k))
      → take (512 * (p - 1) + start_of r p k) (laid n r h) ++ b ++ drop (512 * (p - 1) + start_of r p k + length b) (laid n r h)
      ≡ laid n (update r (code_of p k) b) h
  laid_record_put k lo hi b size =
      laid_put n r (update r (code_of p k) b) h h fits p low high
      (other_page r (update r (code_of p k) b) h p k lo hi (update_other r (code_of p k) b))
      b (start_of r p k) (length b) (omega (arith, record_inside r p k lo hi (fits p))) (page_record_put r h p k lo hi b size)
