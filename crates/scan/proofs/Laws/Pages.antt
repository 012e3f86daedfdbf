-- The pages phase: zeros, lines, pages.
use Prim.Native.Nat.{ℕ, zero, suc, ◌+◌, ◌*◌, ◌-◌, ◌^◌, ◌%◌, ◌≤◌, ◌<◌}
use mathlib.Core.Path.{◌≡◌, refl, sym, ◌∙◌}
use mathlib.Core.Bool.{Bool, true, false, cond, ◌&&◌}
use mathlib.Core.List.{List}
use native.Mathlib.Omega.{arith}
use native.Mathlib.Nat.{pow-suc, pow-le-pow_right}
use native.Mathlib.Numerals.{add-one}
use lib.ListN.{length, get_or, take, drop}
use lib.Seq.{drop-cons}
use lib.Dec.{eqb, ltb}
use borrow.Author.Tests.{le-leb, lt-leb, le-ltb, lt-ltb, ltb-true, ltb-false}
use mathlib.Core.Logic.{◌⊎◌, inl, inr}
use mir.Syntax.{w8}
use mir.Val.{Fits}
use Rattle.std.specs.Prelude.{Option, Some}
use Rattle.std.specs.List.{list_all, slice_range}
use Rattle.ledger.specs.Numbers.{or_none}
use Rattle.ledger.specs.Table.{pages}
use Rattle.std.proofs.lemmas.List.{get_or_past, drop_all}
use Rattle.ledger.proofs.Lists.Nones.{some_above}
use Rattle.ledger.proofs.Lists.Tests.{by_cases}
use Rattle.audit_model.specs.Scan.{taken, flag_of, zeros_from, ends, lines_from, scan_page, page_part, scan_from, scan, ScanExact}
use Rattle.audit_model.proofs.Scan.Lines.{flag_some}
use Rattle.audit_model.proofs.Scan.Exact.{scan_means}

-- zeros
and_as_cond : (a b : Bool) → (a && b) ≡ cond a b false
and_as_cond true b = refl
and_as_cond false b = refl

zeros_past : (g : List ℕ) (n at : ℕ) → length g ≤ at → zeros_from g at n ≡ true
unfolding zeros_from
zeros_past g zero at out = refl
zeros_past g (suc n) at out = rw (get_or_past g at 0 out) (zeros_past g n (at + 1) (omega arith))

pub zeros_listed : (g : List ℕ) (n at : ℕ) → list_all (λ b. eqb b 0) (take n (drop at g)) ≡ zeros_from g at n
unfolding zeros_from
zeros_listed g zero at = refl
zeros_listed g (suc n) at = by_cases (ltb at (length g))
    (λ here. let there : at < length g = ltb-true _ _ here in rw (drop-cons g at 0 there, zeros_listed g n (suc at), ← add-one at) (and_as_cond (eqb (get_or g at 0) 0) (zeros_from g (at + 1) n)))
    (λ past. let out : length g ≤ at = ltb-false _ _ past in
    rw (drop_all at g out, get_or_past g at 0 out) (sym (zeros_past g n (at + 1) (omega arith))))

-- scan_lines: a turn
left_lines : {line : ℕ} → line < 64 → 64 - line ≡ suc (64 - (line + 1))
left_lines h = omega arith

module _ (t g : List ℕ) (p at bits line : ℕ) (x : Bool) (inv : lines_from t g p at bits line (64 - line) ≡ x) where
  pub lines_end : (r : Bool) → 64 ≤ line → r ≡ ends g at bits → r ≡ x
  unfolding lines_from
  lines_end r le er = let z : 64 - line ≡ 0 = omega arith in er ∙ (rw z at inv)

  module _ (more : line < 64) (s : ℕ) (es : s ≡ taken t g p at line) where
    pub lines_far : 512 < at + s → false ≡ x
    unfolding lines_from
    lines_far far = rw (left_lines more, ← es, lt-leb (at + s) 512 far) at inv

    lines_next : (f : ℕ) → f ≡ flag_of s (2 ^ line) → at + s ≤ 512 → lines_from t g p (at + s) (bits + f) (line + 1) (64 - (line + 1)) ≡ x
    unfolding lines_from
    lines_next f ef fits = rw ef (rw (left_lines more, ← es, le-leb (at + s) 512 fits) at inv)

    module _ (fits : at + s ≤ 512) (small : bits < 2 ^ line) (flags : ℕ) where
      -- a shift by less than 64 loses no bit
      shifted : 1 * 2 ^ line % 18446744073709551616 ≡ 2 ^ line
      shifted =
          let most : 2 ^ line ≤ 2 ^ 63 = pow-le-pow_right {n = 2} (omega arith) {i = line} {j = 63} (omega arith) in
          omega arith

      pub lines_flag : 0 < s → flags ≡ bits + 1 * 2 ^ line % 18446744073709551616 → (at + s ≤ 512) × (flags < 2 ^ (line + 1)) × (lines_from t g p (at + s) flags (line + 1) (64 - (line + 1)) ≡ x)
      lines_flag some e =
          let same : flags ≡ bits + 2 ^ line = rw shifted at e in
          (fits, rw (same, add-one line) (omega (arith, pow-suc 2 line)), rw same (lines_next (2 ^ line) (sym (flag_some s (2 ^ line) some)) fits))

      pub lines_plain : s ≤ 0 → flags ≡ bits → (at + s ≤ 512) × (flags < 2 ^ (line + 1)) × (lines_from t g p (at + s) flags (line + 1) (64 - (line + 1)) ≡ x)
      unfolding flag_of
      lines_plain none e =
          let more : lines_from t g p (at + s) (bits + 0) (line + 1) (64 - (line + 1)) ≡ x = lines_next 0 (rw (le-ltb 0 s none)) fits in
          let same : flags ≡ bits + 0 = omega arith in
          (fits, rw (e, add-one line) (omega (arith, pow-suc 2 line)), rw same more)

-- faulty_page: a turn, where page p of n is the part of the file from 512 x (p - 1) on
pub pages_first : (t f : List ℕ) (n : ℕ) → n ≡ pages t → scan_from t f 1 (n + 1 - 1) ≡ scan t f
unfolding scan
pages_first t f n e = let same : n + 1 - 1 ≡ n = omega arith in rw (same, e)

lent_page : (f : List ℕ) (p : ℕ) → slice_range f (512 * (p - 1)) (512 * (p - 1) + 512) ≡ page_part f p
lent_page f p = let e : 512 * (p - 1) + 512 - 512 * (p - 1) ≡ 512 = omega arith in rw e

module _ (t f : List ℕ) (p n x : ℕ) (inv : scan_from t f p (n + 1 - p) ≡ x) where
  pub pages_out : n < p → 0 ≡ x
  unfolding scan_from
  pages_out past = let z : n + 1 - p ≡ 0 = omega arith in rw z at inv

  module _ (lo : 1 ≤ p) (more : p ≤ n) where
    left_pages : n + 1 - p ≡ suc (n + 1 - (p + 1))
    left_pages = omega arith

    pub pages_short : (512 * (p - 1) + 512 < 512 * (p - 1)) ⊎ (length f < 512 * (p - 1) + 512) → p ≡ x
    unfolding scan_from
    pages_short (inl never) = absurd (omega arith)
    pages_short (inr short) = rw (left_pages, lt-ltb (length f) (512 * p) (omega arith)) at inv

    module _ (g : List ℕ) (m : Bool) (whole : 512 * (p - 1) + 512 ≤ length f) (eg : g ≡ slice_range f (512 * (p - 1)) (512 * (p - 1) + 512)) (em : m ≡ scan_page t g p) where
      told : m ≡ scan_page t (page_part f p) p
      told = rw (eg, lent_page f p) at em

      pub pages_fault : m ≡ false → p ≡ x
      unfolding scan_from
      pages_fault bad = rw (left_pages, le-ltb (length f) (512 * p) (omega arith), ← told, bad) at inv

      pub pages_next : m ≡ true → scan_from t f (p + 1) (n + 1 - (p + 1)) ≡ x
      unfolding scan_from
      pages_next good = rw (left_pages, le-ltb (length f) (512 * p) (omega arith), ← told, good) at inv

pub page_found : (p x : ℕ) → p ≡ x → 1 ≤ p → Some p ≡ or_none x
page_found p x e lo = some_above e (rw e at lo)

-- what the answer means; each element of a slice of bytes fits a byte
pub means : (t f : List ℕ) (r : Option ℕ) → ((i : ℕ) → Fits w8 (get_or f i 0)) → r ≡ or_none (scan t f) → ScanExact t f r
means t f r small e = scan_means t f r (λ i. omega (arith, small i)) e
