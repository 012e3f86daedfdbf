-- A page that passes the scan is the layout of the records looked up in it.
use Prim.Native.Nat.{ℕ, zero, suc, ◌+◌, ◌*◌, ◌^◌, ◌≤◌, ◌<◌}
use mathlib.Core.Path.{◌≡◌, refl, sym, ◌∙◌, ap}
use mathlib.Core.Bool.{true}
use mathlib.Core.List.{List, ◌++◌, append_assoc}
use native.Mathlib.Omega.{arith}
use native.Mathlib.Nat.{add-zero, add_assoc}
use lib.ListN.{length, get_or, take, drop, replicate, length-drop, take-append-drop}
use lib.Seq.{drop-drop, get_or-take, get_or-drop}
use lib.Dec.{eqb}
use borrow.Author.Tests.{eqb-true, ne_eqb}
use Rattle.ledger.specs.Numbers.{digits, run, sum_of, concat_of}
use Rattle.ledger.specs.Pages.{code_of, used, free, flags, header, packed, page}
use Rattle.ledger.specs.Bytes.{two_at, three_at, page_start}
use Rattle.ledger.proofs.Lists.Tests.{both}
use Rattle.ledger.proofs.Lists.Members.{no_length}
use Rattle.ledger.proofs.Lists.Runs.{concat_of_same, sum_of_same}
use Rattle.ledger.proofs.Lists.Parts.{part_join}
use Rattle.ledger.proofs.Lists.Digits.{two_part, three_part}
use Rattle.model.specs.Reads.{head_next_in}
use Rattle.model.specs.Room.{flags_at}
use Rattle.audit_model.specs.Scan.{flag_of, lines_in, scan_page, page_part, record_from}
use Rattle.audit_model.proofs.Scan.Numbers.{number_part, flags_number}
use Rattle.audit_model.proofs.Scan.Lines.{Told, lines_told}

module _ (t g : List ℕ) (p : ℕ) (small : (i : ℕ) → get_or g i 0 < 256) (long : length g ≡ 512) (pass : scan_page t g p ≡ true) where
  pub own_code : three_at g 0 ≡ 64 * p
  unfolding scan_page
  own_code = eqb-true _ _ (both (eqb (three_at g 0) (64 * p)) (lines_in t g p) pass).0

  pub page_lines : Told t g p 63 16 1 1 63
  unfolding scan_page lines_in
  page_lines = lines_told t g p small long 63 16 1 1 63 refl (omega arith) (omega arith) (omega arith) (omega arith)
      (both (eqb (three_at g 0) (64 * p)) (lines_in t g p) pass).1

  module _ (r : ℕ → List ℕ) (same : (j : ℕ) → 1 ≤ j → j < 64 → r (code_of p j) ≡ record_from g 63 16 j) where
    pub used_told : used r p + two_at g 3 ≡ 496
    unfolding used
    used_told =
        let e : sum_of (λ k. length (r (code_of p k))) (run 1 63) ≡ sum_of (λ k. length (record_from g 63 16 k)) (run 1 63) =
        sum_of_same _ _ 1 63 (λ j lo hi. ap length (same j lo hi)) in
        rw e (omega (arith, page_lines.filled))

    free_told : free r p ≡ two_at g 3
    unfolding free
    free_told = omega (arith, used_told)

    flags_told : flags r p ≡ flags_at g
    unfolding flags flag_of
    flags_told =
        let e : sum_of (λ k. flag_of (length (r (code_of p k))) (2 ^ k)) (run 1 63) ≡ sum_of (λ k. flag_of (length (record_from g 63 16 k)) (2 ^ k)) (run 1 63) =
        sum_of_same _ _ 1 63 (λ j lo hi. ap (λ (b : List ℕ). flag_of (length b) (2 ^ j)) (same j lo hi)) in
        ap (λ (s : ℕ). 1 + s) e ∙ page_lines.flagged

    packed_told : packed r p ≡ concat_of (λ j. record_from g 63 16 j) (run 1 63)
    unfolding packed
    packed_told = concat_of_same _ _ 1 63 same

    module _ (h : ℕ → ℕ) (head : h p ≡ three_at g 13) where
      header_told : take 16 g ≡ header r h p
      unfolding header
      header_told =
          let own = three_part g small 0 (64 * p) (omega arith) own_code in
          let room = two_part g small 3 (free r p) (omega arith) (sym free_told) in
          let bits : take 8 (drop 5 g) ≡ digits 8 (flags r p) = rw (flags_told, flags_number g) (number_part g 5 8 small (omega arith)) in
          let next = three_part g small 13 (h p) (omega arith) (sym head) in
          part_join g 0 13 3 _ _ (part_join g 0 5 8 _ _ (part_join g 0 3 2 _ _ own room) bits) next

      pub page_told : g ≡ page r h p
      unfolding page
      page_told =
          let e : drop 16 g ≡ packed r p ++ replicate (free r p) 0 = rw (packed_told, free_told) page_lines.rest in
          sym (take-append-drop 16 g) ∙ rw (header_told, e, append_assoc)

-- a file of pages
pub pages_joined : (g : ℕ → List ℕ) (n k : ℕ) (f : List ℕ) → length f ≡ 512 * n
    → ((i : ℕ) → i < n → take 512 (drop (512 * i) f) ≡ g (k + i)) → f ≡ concat_of g (run k n)
unfolding concat_of run
pages_joined g zero k f long each = no_length f (omega arith)
pages_joined g (suc n) k f long each =
    let first : take 512 f ≡ g k = rw (add-zero k) at (each 0 (omega arith)) in
    let others : (i : ℕ) → i < n → take 512 (drop (512 * i) (drop 512 f)) ≡ g (suc k + i) =
    λ i lt.
    let e : 512 + 512 * i ≡ 512 * suc i = omega arith in
    let j : suc k + i ≡ k + suc i = omega arith in
    rw (drop-drop, e, j) (each (suc i) (omega arith)) in
    let rest : drop 512 f ≡ concat_of g (run (suc k) n) = pages_joined g n (suc k) (drop 512 f) (rw length-drop (omega arith)) others in
    sym (take-append-drop 512 f) ∙ rw (first, rest)

-- a header's CALC NEXT, read in the file and in its page
pub head_there : (f : List ℕ) (p : ℕ) → 1 ≤ p → head_next_in f p ≡ three_at (page_part f p) 13
unfolding head_next_in three_at
head_there f p lo =
    let byte : (i : ℕ) → i < 512 → get_or (page_part f p) i 0 ≡ get_or f (page_start p + i) 0 =
    λ i lt. get_or-take 512 (drop (page_start p) f) i 0 lt ∙ get_or-drop (page_start p) f i 0 in
    let some = ne_eqb p 0 (λ z. omega arith) in
    simp (some, byte 13 (omega arith), byte 14 (omega arith), byte 15 (omega arith), add_assoc)
