-- The layout of records that stand as the table says passes the scan.
use Prim.Native.Nat.{ℕ, zero, suc, ◌+◌, ◌*◌, ◌-◌, ◌^◌, ◌≤◌, ◌<◌}
use mathlib.Core.Path.{◌≡◌, refl, sym, ◌∙◌, ap}
use mathlib.Core.Bool.{true}
use mathlib.Core.List.{List}
use native.Mathlib.Omega.{arith}
use native.Mathlib.Nat.{add-zero}
use native.Mathlib.Numerals.{add-one}
use lib.ListN.{length, get_or}
use lib.Dec.{ltb}
use borrow.Author.Tests.{eq-eqb, le-leb, ltb-true, ltb-false}
use Rattle.ledger.specs.Numbers.{digits, run, sum_of}
use Rattle.ledger.specs.Pages.{code_of, page_of, used, free, flags, page}
use Rattle.ledger.specs.Bytes.{two_at, three_at, size_at, start_of, Formed}
use Rattle.ledger.specs.Image.{kind_read, Standing}
use Rattle.ledger.proofs.Lists.Tests.{by_cases}
use Rattle.ledger.proofs.Lists.Runs.{run_append, sum_of_append, powers_bound}
use Rattle.ledger.proofs.Lists.Digits.{part_three}
use Rattle.ledger.proofs.Bytes.Pages.{page_length, own_part, flags_part, free_number}
use Rattle.ledger.proofs.Bytes.Places.{start_first, start_next, start_last, record_byte, record_inside, free_byte}
use Rattle.ledger.proofs.Bytes.Lookup.{size_there, line_there, line_other}
use Rattle.model.specs.Room.{flags_at}
use Rattle.audit_model.specs.Scan.{stands, taken, flag_of, ends, lines_from, lines_in, scan_page}
use Rattle.audit_model.proofs.Scan.Numbers.{part_number, flags_number, zeros_pass}
use Rattle.audit_model.proofs.Scan.Lines.{may_stands, taken_none, taken_some, flag_most}

-- one turn
lines_pass : (t g : List ℕ) (p at bits k n s : ℕ) → taken t g p at k ≡ s → at + s ≤ 512
    → lines_from t g p (at + s) (bits + flag_of s (2 ^ k)) (k + 1) n ≡ true → lines_from t g p at bits k (suc n) ≡ true
unfolding lines_from
lines_pass t g p at bits k n s e fits h = rw (e, le-leb (at + s) 512 fits) h

sum_of_one : (g : ℕ → ℕ) (k : ℕ) → sum_of g (run k 1) ≡ g k
unfolding sum_of run
sum_of_one g k = add-zero (g k)

sum_of_last : (g : ℕ → ℕ) (n : ℕ) → sum_of g (run 1 (suc n)) ≡ sum_of g (run 1 n) + g (suc n)
sum_of_last g n =
    let e : suc n ≡ n + 1 = sym (add-one n) in
    let f : 1 + n ≡ suc n = omega arith in
    let one : sum_of g (run (1 + n) 1) ≡ g (suc n) = sum_of_one g (1 + n) ∙ ap g f in
    ap (λ (m : ℕ). sum_of g (run 1 m)) e ∙ ap (sum_of g) (run_append 1 n 1) ∙ sum_of_append g (run 1 n) (run (1 + n) 1) ∙ ap (λ (s : ℕ). sum_of g (run 1 n) + s) one

module _ (t : List ℕ) (r : ℕ → List ℕ) (h : ℕ → ℕ) (p : ℕ) (fits : used r p ≤ 496) (standing : (x : ℕ) → 0 < length (r x) → Standing t x (r x)) where
  formed : (x : ℕ) → 0 < length (r x) → Formed x (r x)
  formed x full = (standing x full).head

  -- line k takes its record's bytes
  takes : (k : ℕ) → 1 ≤ k → k < 64 → taken t (page r h p) p (start_of r p k) k ≡ length (r (code_of p k))
  unfolding two_at
  takes k lo hi = by_cases (ltb 0 (length (r (code_of p k))))
      (λ some.
      let full = ltb-true _ _ some in
      let st = standing (code_of p k) full in
      let long = st.head.long in
      let size = size_there r h p fits formed k lo (omega arith) full in
      let kind : two_at (page r h p) (start_of r p k) ≡ kind_read (r (code_of p k)) =
      rw (← record_byte r h p k lo (omega arith) 0 (omega arith), ← record_byte r h p k lo (omega arith) 1 (omega arith), add-zero) in
      let on : page_of (code_of p k) ≡ p = omega arith in
      let good : stands t (two_at (page r h p) (start_of r p k)) (size_at (page r h p) (start_of r p k)) p ≡ true =
      rw (kind, size)
      (may_stands t (kind_read (r (code_of p k))) (length (r (code_of p k))) p
      (record { typed = st.typed; whole = st.whole; low_page = rw on at st.low_page; high_page = rw on at st.high_page })) in
      taken_some t (page r h p) p (start_of r p k) k (line_there r h p fits formed k lo (omega arith) full) good ∙ size)
      (λ none.
      let z : length (r (code_of p k)) ≡ 0 = omega (arith, ltb-false 0 (length (r (code_of p k))) none) in
      taken_none t (page r h p) p (start_of r p k) k (line_other r h p fits formed k lo (omega arith) z) ∙ sym z)

  bits_to : ℕ → ℕ
  bits_to n = 1 + sum_of (λ j. flag_of (length (r (code_of p j))) (2 ^ j)) (run 1 n)

  bits_first : bits_to 0 ≡ 1
  unfolding bits_to sum_of run
  bits_first = refl

  bits_next : (n : ℕ) → bits_to n + flag_of (length (r (code_of p (suc n)))) (2 ^ suc n) ≡ bits_to (suc n)
  unfolding bits_to
  bits_next n = omega (arith, sum_of_last (λ j. flag_of (length (r (code_of p j))) (2 ^ j)) n)

  bits_all : flags r p ≡ bits_to 63
  unfolding flags flag_of bits_to
  bits_all = refl

  bits_small : bits_to 63 < 256 ^ 8
  unfolding bits_to
  bits_small = omega (arith, powers_bound (λ j. flag_of (length (r (code_of p j))) (2 ^ j)) 1 63 (λ i. flag_most _ _))

  flags_read : flags_at (page r h p) ≡ bits_to 63
  flags_read =
      flags_number (page r h p)
      ∙ part_number (page r h p) 5 8 (bits_to 63) (flags_part r h p ∙ ap (digits 8) bits_all) bits_small (omega (arith, page_length r h p fits))

  passes_end : ends (page r h p) (start_of r p 64) (bits_to 63) ≡ true
  unfolding ends free two_at
  passes_end =
      let zero-byte : (i : ℕ) → start_of r p 64 ≤ i → get_or (page r h p) i 0 ≡ 0 =
      λ i le. let e : start_of r p 64 + (i - start_of r p 64) ≡ i = omega arith in rw e at (free_byte r h p (i - start_of r p 64)) in
      let room : two_at (page r h p) 3 ≡ 512 - start_of r p 64 = omega (arith, free_number r h p, start_last r p) in
      rw (zeros_pass (page r h p) (512 - start_of r p 64) (start_of r p 64) zero-byte, eq-eqb _ _ room, eq-eqb _ _ flags_read)

  passes_from : (n k : ℕ) → k + n ≡ 63 → lines_from t (page r h p) p (start_of r p (suc k)) (bits_to k) (suc k) n ≡ true
  unfolding lines_from
  passes_from zero k e = let last : k ≡ 63 = omega arith in rw last passes_end
  passes_from (suc n) k e =
      let x : ℕ = code_of p (suc k) in
      let next : lines_from t (page r h p) p (start_of r p (suc (suc k))) (bits_to (suc k)) (suc (suc k)) n ≡ true = passes_from n (suc k) (omega arith) in
      lines_pass t (page r h p) p (start_of r p (suc k)) (bits_to k) (suc k) n (length (r (code_of p (suc k)))) (takes (suc k) (omega arith) (omega arith))
      (record_inside r p (suc k) (omega arith) (omega arith) fits)
      (rw (← start_next r p (suc k) (omega arith), bits_next k, add-one (suc k)) next)

  pub page_passes : p < 262144 → scan_page t (page r h p) p ≡ true
  unfolding scan_page lines_in
  page_passes low =
      let own : three_at (page r h p) 0 ≡ 64 * p = part_three (page r h p) 0 (64 * p) (own_part r h p) (omega arith) in
      let lines : lines_in t (page r h p) p ≡ true = rw (start_first r p, bits_first) at (passes_from 63 0 refl) in
      rw (eq-eqb _ _ own, lines)
