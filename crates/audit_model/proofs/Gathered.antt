-- The gathered records are the calculated records of the file's codes, each once; and what that says of twins.
use Prim.Native.Nat.{ℕ, zero, suc, ◌+◌, ◌-◌, ◌*◌, ◌%◌, ◌≤◌, ◌<◌}
use mathlib.Core.Path.{◌≡◌, refl, sym, ◌∙◌, ap}
use mathlib.Core.Logic.{◌≢◌, inl, inr}
use mathlib.Core.Bool.{Bool, true, false, not}
use mathlib.Core.List.{List}
use native.Mathlib.Omega.{arith}
use native.Mathlib.Nat.{add_assoc}
use native.Mathlib.Numerals.{add-one}
use lib.ListN.{length, drop, length-append}
use lib.Seq.{drop-drop}
use lib.Dec.{eqb, ltb, leb}
use borrow.Author.Tests.{eqb-true, eqb-false, ne_eqb, leb-true, leb-false}
use Rattle.ledger.specs.Numbers.{elem, keep, run, once, part}
use Rattle.ledger.specs.Table.{pages, row, data_len, key_at, key_len, calculated, calc_key}
use Rattle.ledger.specs.Pages.{page_of, line_of, codes}
use Rattle.ledger.specs.Bytes.{two_at, size_at, line_at, lookup, page_start}
use Rattle.ledger.proofs.Lists.Tests.{by_cases, same_or_not, not_true_false}
use Rattle.ledger.proofs.Lists.Members.{elem_cases, elem_here, elem_tail, elem_nil, elem_run, run_elem}
use Rattle.ledger.proofs.Lists.Sieves.{keep_append, length_keep}
use Rattle.ledger.proofs.Lists.Pairs.{once_nil, once_cons}
use Rattle.ledger.proofs.Lists.Runs.{run_append, length_run}
use Rattle.ledger.proofs.Lists.Parts.{take_drop_take, get_d_part}
use Rattle.ledger.proofs.Bytes.Lookup.{lookup_out, lookup_limit, lookup_stop, lookup_here, lookup_past}
use Rattle.model.specs.Reads.{line_in, place_in}
use Rattle.audit_model.specs.Sorting.{key_from}
use Rattle.audit_model.specs.Twins.{calculated_at, gather_from, gathered, code_from, twin_fault}
use Rattle.audit_model.proofs.Twinned.{fault_none, none_fault}

-- what a lookup finds has the line that is looked for
found : (end : ℕ) (f : List ℕ) (line fuel at v : ℕ) → lookup end fuel f at line ≡ v → v ≢ 0 → (line_at f v ≡ line) × (v < end)
found end f line zero at v e n = absurd (n (sym e ∙ lookup_out end f at line))
found end f line (suc fuel) at v e n = by_cases (leb end at)
    (λ b. absurd (n (sym e ∙ lookup_limit end f at line (suc fuel) (leb-true end at b))))
    (λ b. let lt = leb-false end at b in
    same_or_not (size_at f at) 0
    (λ z. absurd (n (sym e ∙ lookup_stop end f at line (suc fuel) z)))
    (λ nz. same_or_not (line_at f at) line
    (λ o. let h : at ≡ v = sym (lookup_here end f at line fuel lt (omega arith) o) ∙ e in (rw (← h) o, rw (← h) lt))
    (λ ne. found end f line fuel (at + size_at f at) v (sym (lookup_past end f at line fuel lt (omega arith) ne) ∙ e) n)))

found_line : (page : List ℕ) (line : ℕ) → line_in page line ≢ 0 → (line_at page (line_in page line) ≡ line) × (line_in page line < 508)
unfolding line_in
found_line page line n = found 508 page line 63 16 (line_in page line) refl n

module _ (f : List ℕ) (c : ℕ) (some : place_in f c ≢ 0) where
  -- it starts in the code's page, on the code's line
  place_there : (o : ℕ) × (place_in f c ≡ page_start (page_of c) + o) × (line_at (part (page_start (page_of c)) 512 f) o ≡ line_of c) × (o < 508) × (1 ≤ page_of c) × (o ≢ 0)
  unfolding place_in
  place_there =
      let o : ℕ = line_in (part (page_start (page_of c)) 512 f) (line_of c) in
      by_cases (eqb (page_of c) 0) (λ a. absurd (some (rw a)))
      (λ a. by_cases (ltb (length f) (page_start (page_of c) + 512)) (λ b. absurd (some (rw (a, b))))
      (λ b. by_cases (eqb o 0) (λ d. absurd (some (rw (a, b, d))))
      (λ d. let (l, lt) = found_line _ (line_of c) (eqb-false o 0 d) in (o, rw (a, b, d), l, lt, (let nz = eqb-false (page_of c) 0 a in omega arith), eqb-false o 0 d))))

  pub place_code : code_from f (place_in f c) ≡ c
  unfolding code_from line_at
  place_code =
      let (o, e, l, lt, p, nz) = place_there in
      let k = get_d_part f _ (page_start (page_of c)) 512 (o + 4) refl (omega arith) ∙ l in
      let q : page_start (page_of c) + o + 4 ≡ page_start (page_of c) + (o + 4) = omega arith in
      rw (e, q, k) (omega arith)

  pub place_within : place_in f c < 512 * page_of c
  place_within = let (o, e, l, lt, p, nz) = place_there in rw e (omega arith)

  -- nor does it start where two bytes would say 0
  pub place_wraps : place_in f c % 65536 ≢ 0
  place_wraps = let (o, e, l, lt, p, nz) = place_there in rw e (omega arith)

module _ (t f : List ℕ) where
  -- calculated_at, in a file of at most 128 pages
  module _ (c : ℕ) (page : page_of c ≤ 128) where
    pub calc_place : calculated_at t f c ≢ 0 → (place_in f c ≢ 0) × (calculated_at t f c ≡ place_in f c) × (calculated t (two_at f (place_in f c)) ≡ true)
    unfolding calculated_at
    calc_place n = by_cases (eqb (place_in f c) 0) (λ a. absurd (n (rw a))) (λ a.
        let s = eqb-false (place_in f c) 0 a in
        by_cases (calculated t (two_at f (place_in f c)))
        (λ b. (s, rw (a, b) (omega (arith, place_within f c s)), b))
        (λ b. absurd (n (rw (a, b)))))

    pub place_calc : place_in f c ≢ 0 → calculated t (two_at f (place_in f c)) ≡ true → calculated_at t f c ≡ place_in f c
    unfolding calculated_at
    place_calc s b = rw (ne_eqb (place_in f c) 0 s, b) (omega (arith, place_within f c s))

    calc_code : calculated_at t f c ≢ 0 → code_from f (calculated_at t f c) ≡ c
    calc_code n = let (s, e, b) = calc_place n in ap (code_from f) e ∙ place_code f c s

  calc_one : (c d : ℕ) → page_of c ≤ 128 → page_of d ≤ 128 → calculated_at t f c ≢ 0 → calculated_at t f d ≡ calculated_at t f c → d ≡ c
  calc_one c d p q n e = sym (calc_code d q (rw e n)) ∙ ap (code_from f) e ∙ calc_code c p n

  -- a code that has a calculated record
  abbrev some : ℕ → Bool
  some c = not (eqb (calculated_at t f c) 0)

  -- the members that are gathered from n codes from c on
  abbrev From : ℕ → ℕ → ℕ → Type 0
  From c n s = (d : ℕ) × (c ≤ d) × (d < c + n) × (calculated_at t f d ≡ s) × (s ≢ 0)

  gathered_from : (room c n s : ℕ) → elem s (gather_from t f room c n) ≡ true → From c n s
  unfolding gather_from
  gathered_from room c zero s e = elem_nil s e
  gathered_from room c (suc n) s e =
      let later : (m : ℕ) → elem s (gather_from t f m (c + 1) n) ≡ true → From c (suc n) s =
      λ m g. let (d, low, high, k, z) = gathered_from m (c + 1) n s g in (d, omega arith, omega arith, k, z) in
      by_cases (eqb (calculated_at t f c) 0) (λ a. later room (rw a at e)) (λ a.
      by_cases (eqb room 0) (λ b. later room (rw (a, b) at e)) (λ b.
      elim (elem_cases s (calculated_at t f c) _ (rw (a, b) at e)) [
        | inl q ↦ (c, omega arith, omega arith, sym q, (λ z. eqb-false (calculated_at t f c) 0 a (sym q ∙ z)))
        | inr q ↦ later (room - 1) q
      ]))

  gathered_once : (room c n : ℕ) → c + n ≤ 8256 → once (gather_from t f room c n) ≡ true
  unfolding gather_from
  gathered_once room c zero h = once_nil
  gathered_once room c (suc n) h = by_cases (eqb (calculated_at t f c) 0)
      (λ a. rw a (gathered_once room (c + 1) n (omega arith)))
      (λ a. by_cases (eqb room 0)
      (λ b. rw (a, b) (gathered_once room (c + 1) n (omega arith)))
      (λ b. rw (a, b) (once_cons _ _
      (not_true_false _ λ e. let (d, g, k, q, z) = gathered_from (room - 1) (c + 1) n _ e in
      omega (arith, calc_one c d (omega arith) (omega arith) (eqb-false _ 0 a) q))
      (gathered_once (room - 1) (c + 1) n (omega arith)))))

  gathered_all : (room c n d : ℕ) → length (keep some (run c n)) ≤ room → c ≤ d → d < c + n → calculated_at t f d ≢ 0
      → elem (calculated_at t f d) (gather_from t f room c n) ≡ true
  unfolding gather_from run keep
  gathered_all room c zero d h low high nz = absurd (omega arith)
  gathered_all room c (suc n) d h low high nz = by_cases (eqb (calculated_at t f c) 0)
      (λ a.
      let other : d ≢ c = λ q. nz (ap (calculated_at t f) q ∙ eqb-true (calculated_at t f c) 0 a) in
      rw a (gathered_all room (c + 1) n d (rw add-one (rw a at h)) (omega arith) (omega arith) nz))
      (λ a.
      let h' = rw a at h in
      rw (a, ne_eqb room 0 (λ z. omega arith)) (same_or_not d c
      (λ q. rw q (elem_here (calculated_at t f c) _))
      (λ other. elem_tail _ (calculated_at t f c) _ (gathered_all (room - 1) (c + 1) n d (rw add-one (omega arith)) (omega arith) (omega arith) nz))))

  -- a page has at most 63 of them, where no record has line 0
  module _ (no_head : (p : ℕ) → place_in f (64 * p) ≡ 0) where
    some_head : (p : ℕ) → some (64 * p) ≡ false
    unfolding calculated_at
    some_head p = rw (no_head p)

    page_some : (p m : ℕ) → length (keep some (run (64 * p) (suc m))) ≤ m
    unfolding keep run
    page_some p m = rw (some_head p) (omega (arith, length_keep some (run (suc (64 * p)) m), length_run (suc (64 * p)) m))

    pages_some : (n : ℕ) → length (keep some (run 64 (64 * n))) ≤ 63 * n
    pages_some zero = unfold run keep in omega arith
    pages_some (suc n) =
        let e : 64 * suc n ≡ 64 * n + 64 = omega arith in
        let k : 64 + 64 * n ≡ 64 * suc n = omega arith in
        rw (e, run_append, keep_append, length-append, k) (omega (arith, pages_some n, page_some (suc n) 63))

    module _ (few : pages t ≤ 128) where
      -- the place of a calculated record of the file's is gathered
      gathered_place : (c : ℕ) → elem c (codes t) ≡ true → place_in f c ≢ 0 → calculated t (two_at f (place_in f c)) ≡ true
          → elem (place_in f c) (gathered t f 8064) ≡ true
      unfolding gathered codes
      gathered_place c e s k =
          let (low, high) = run_elem c 64 (64 * pages t) e in
          let q = place_calc c (omega arith) s k in
          rw (← q) (gathered_all 8064 64 (64 * pages t) c (omega (arith, pages_some (pages t))) low high (λ z. s (sym q ∙ z)))

      -- twin_fault gives 0 exactly where no two calculated records of one type have one key
      pub fault_codes : twin_fault t f ≡ 0 → (c d : ℕ) → elem c (codes t) ≡ true → elem d (codes t) ≡ true → place_in f c ≢ 0 → place_in f d ≢ 0
          → calculated t (two_at f (place_in f c)) ≡ true → two_at f (place_in f c) ≡ two_at f (place_in f d) → key_from t f (place_in f c) ≡ key_from t f (place_in f d) → c ≡ d
      fault_codes z c d ec ed sc sd k e q = same_or_not (place_in f c) (place_in f d)
          (λ p. sym (place_code f c sc) ∙ ap (code_from f) p ∙ place_code f d sd)
          (λ n. absurd (fault_none t f z (place_in f c) (place_in f d) (gathered_place c ec sc k) (gathered_place d ed sd (rw (← e) k)) n e q))

      pub codes_fault : ((c d : ℕ) → elem c (codes t) ≡ true → elem d (codes t) ≡ true → place_in f c ≢ 0 → place_in f d ≢ 0
          → calculated t (two_at f (place_in f c)) ≡ true → two_at f (place_in f c) ≡ two_at f (place_in f d) → key_from t f (place_in f c) ≡ key_from t f (place_in f d) → c ≡ d)
          → twin_fault t f ≡ 0
      unfolding gathered codes
      codes_fault one = none_fault t f (gathered_once 8064 64 (64 * pages t) (omega arith)) λ a b ea eb n e q.
          let (c, lc, hc, pc, zc) = gathered_from 8064 64 (64 * pages t) a ea in
          let (d, ld, hd, pd, zd) = gathered_from 8064 64 (64 * pages t) b eb in
          let (sc, fc, kc) = calc_place c (omega arith) (λ z. zc (sym pc ∙ z)) in
          let (sd, fd, kd) = calc_place d (omega arith) (λ z. zd (sym pd ∙ z)) in
          let ac : a ≡ place_in f c = sym pc ∙ fc in
          let bd : b ≡ place_in f d = sym pd ∙ fd in
          n (ac ∙ ap (place_in f) (one c d (elem_run c 64 _ lc hc) (elem_run d 64 _ ld hd) sc sd kc (rw (ac, bd) at e) (rw (ac, bd) at q)) ∙ sym bd)

  -- the key read in the file is the key in the record's data
  pub key_data : (s : ℕ) → key_at t (row t (two_at f s)) + key_len t (row t (two_at f s)) ≤ data_len t (row t (two_at f s))
      → key_from t f s ≡ calc_key t (two_at f s) (part (s + 5) (data_len t (row t (two_at f s))) f)
  unfolding key_from calc_key
  key_data s h = sym (take_drop_take (key_len t (row t (two_at f s))) (key_at t (row t (two_at f s))) (data_len t (row t (two_at f s))) (drop (s + 5) f) h ∙ rw (drop-drop, add_assoc s 5))
