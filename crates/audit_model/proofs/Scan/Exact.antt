-- The scan finds no fault exactly where the file is an image whose records stand as the table says: the one that the lookups show.
use Prim.Native.Nat.{ℕ, zero, suc, ◌+◌, ◌*◌, ◌-◌, ◌≤◌, ◌<◌}
use mathlib.Core.Path.{◌≡◌, refl, sym, ◌∙◌, ap}
use mathlib.Core.Logic.{◌↔◌}
use mathlib.Core.Bool.{true, false, ◌&&◌}
use mathlib.Core.List.{List, []}
use native.Mathlib.Omega.{arith}
use lib.ListN.{length, get_or, drop, length-drop}
use lib.Seq.{length-take-le}
use lib.Dec.{leb, ltb}
use borrow.Author.Tests.{le-leb, leb-true, leb-false, le-ltb}
use Rattle.std.specs.Prelude.{Option}
use Rattle.ledger.specs.Numbers.{run, sum_of, or_none}
use Rattle.ledger.specs.Table.{pages, Accepted}
use Rattle.ledger.specs.Pages.{code_of, page_of, line_of, Ledger, used, page, laid, record_bytes, head_next, Sound}
use Rattle.ledger.specs.Bytes.{three_at}
use Rattle.ledger.specs.Image.{Standing, Imaged}
use Rattle.ledger.specs.Audit.{Audited}
use Rattle.ledger.proofs.Lists.Nones.{zero_of_none, or_none-zero}
use Rattle.ledger.proofs.Lists.Tests.{by_cases, both, same_or_not}
use Rattle.ledger.proofs.Lists.Runs.{sum_of_same, sum_of_most}
use Rattle.ledger.proofs.Lists.Parts.{part_bytes}
use Rattle.ledger.proofs.Bytes.Pages.{laid_page, laid_length}
use Rattle.ledger.proofs.Image.Images.{image_exactly, sound_imaged}
use Rattle.model.specs.Reads.{head_next_in}
use Rattle.audit_model.specs.Scan.{scan_page, page_part, scan_from, scan, record_from, records_in, ScanExact}
use Rattle.audit_model.proofs.Scan.Pages.{page_lines, used_told, page_told, pages_joined, head_there}
use Rattle.audit_model.proofs.Scan.Passes.{page_passes}

-- no faulty page
pub scan_pages : (t f : List ℕ) (n p : ℕ) → 1 ≤ p → scan_from t f p n ≡ 0 → (q : ℕ) → p ≤ q → q < p + n → scan_page t (page_part f q) q ≡ true
unfolding scan_from
scan_pages t f zero p lo e q from to = absurd (omega arith)
scan_pages t f (suc n) p lo e q from to = by_cases (ltb (length f) (512 * p))
    (λ short. let here : p ≡ 0 = rw short at e in absurd (omega arith))
    (λ whole. by_cases (scan_page t (page_part f p) p)
    (λ good.
    let rest : scan_from t f (p + 1) n ≡ 0 = rw (whole, good) at e in
    same_or_not q p (λ s. rw s good) (λ s. scan_pages t f n (p + 1) (omega arith) rest q (omega arith) (omega arith)))
    (λ bad. let here : p ≡ 0 = rw (whole, bad) at e in absurd (omega arith)))

pub pages_scan : (t f : List ℕ) (n p : ℕ) → ((q : ℕ) → p ≤ q → q < p + n → (512 * q ≤ length f) × (scan_page t (page_part f q) q ≡ true)) → scan_from t f p n ≡ 0
unfolding scan_from
pages_scan t f zero p good = refl
pages_scan t f (suc n) p good =
    let here = good p (omega arith) (omega arith) in
    rw (le-ltb _ _ here.0, here.1) (pages_scan t f n (p + 1) (λ q from to. good q (omega arith) (omega arith)))

module _ (t f : List ℕ) (small : (i : ℕ) → get_or f i 0 < 256) (long : length f ≡ 512 * pages t) where
  page_long : (p : ℕ) → 1 ≤ p → p ≤ pages t → length (page_part f p) ≡ 512
  page_long p lo hi = length-take-le 512 (drop (512 * (p - 1)) f) (rw length-drop (omega arith))

  page_small : (p i : ℕ) → get_or (page_part f p) i 0 < 256
  page_small p = part_bytes f (512 * (p - 1)) 512 small

  records_there : (p j : ℕ) → 1 ≤ p → p ≤ pages t → j < 64 → records_in t f (code_of p j) ≡ record_from (page_part f p) 63 16 j
  unfolding records_in
  records_there p j lo hi lt =
      let a : page_of (code_of p j) ≡ p = omega arith in
      let b : line_of (code_of p j) ≡ j = omega arith in
      rw (a, b, le-leb 1 p lo, le-leb p (pages t) hi)

  records_out : (x : ℕ) → (leb 1 (page_of x) && leb (page_of x) (pages t)) ≡ false → records_in t f x ≡ []
  unfolding records_in
  records_out x e = rw e

  no_room : (p : ℕ) → (leb 1 p && leb p (pages t)) ≡ false → used (records_in t f) p ≤ 496
  unfolding used
  no_room p e =
      let none : sum_of (λ j. length (records_in t f (code_of p j))) (run 1 63) ≡ sum_of (λ j. 0) (run 1 63) =
      sum_of_same _ _ 1 63 (λ j from to. let a : page_of (code_of p j) ≡ p = omega arith in ap length (records_out (code_of p j) (rw a e))) in
      omega (arith, none, sum_of_most (λ j. 0) 0 1 63 (λ i. omega arith))

  module _ (clean : scan t f ≡ 0) where
    passed : (p : ℕ) → 1 ≤ p → p ≤ pages t → scan_page t (page_part f p) p ≡ true
    unfolding scan
    passed p lo hi = scan_pages t f (pages t) 1 (omega arith) clean p lo (omega arith)

    room_here : (p : ℕ) → 1 ≤ p → p ≤ pages t → used (records_in t f) p ≤ 496
    room_here p lo hi =
        omega (arith, used_told t (page_part f p) p (page_small p) (page_long p lo hi) (passed p lo hi) (records_in t f) (λ j from to. records_there p j lo hi to))

    room : (p : ℕ) → used (records_in t f) p ≤ 496
    room p = by_cases (leb 1 p && leb p (pages t))
        (λ e. let (a, b) = both (leb 1 p) (leb p (pages t)) e in room_here p (leb-true _ _ a) (leb-true _ _ b))
        (λ e. no_room p e)

    line_standing : (p k : ℕ) → 1 ≤ p → p ≤ pages t → k < 64 → 0 < length (record_from (page_part f p) 63 16 k)
        → Standing t (code_of p k) (record_from (page_part f p) 63 16 k)
    line_standing p k lo hi lt full =
        let w = page_lines t (page_part f p) p (page_small p) (page_long p lo hi) (passed p lo hi) in
        by_cases (leb 1 k)
        (λ e. w.each k (leb-true _ _ e) lt full)
        (λ e. absurd (omega (arith, ap length (w.none k (leb-false 1 k e)))))

    standing : (x : ℕ) → 0 < length (records_in t f x) → Standing t x (records_in t f x)
    standing x full = by_cases (leb 1 (page_of x) && leb (page_of x) (pages t))
        (λ e.
        let (a, b) = both (leb 1 (page_of x)) (leb (page_of x) (pages t)) e in
        let c : code_of (page_of x) (line_of x) ≡ x = omega arith in
        let there : records_in t f x ≡ record_from (page_part f (page_of x)) 63 16 (line_of x) =
        rw c at (records_there (page_of x) (line_of x) (leb-true _ _ a) (leb-true _ _ b) (omega arith)) in
        let some : 0 < length (record_from (page_part f (page_of x)) 63 16 (line_of x)) = rw there at full in
        rw there (rw c at (line_standing (page_of x) (line_of x) (leb-true _ _ a) (leb-true _ _ b) (omega arith) some)))
        (λ e. absurd (omega (arith, ap length (records_out x e))))

    page_is : (p : ℕ) → 1 ≤ p → p ≤ pages t → page_part f p ≡ page (records_in t f) (head_next_in f) p
    page_is p lo hi =
        page_told t (page_part f p) p (page_small p) (page_long p lo hi) (passed p lo hi) (records_in t f) (λ j from to. records_there p j lo hi to) (head_next_in f)
        (head_there f p lo)

    file_is : f ≡ laid (pages t) (records_in t f) (head_next_in f)
    unfolding laid
    file_is = pages_joined (page (records_in t f) (head_next_in f)) (pages t) 1 f long
        (λ i lt.
        let e : 1 + i - 1 ≡ i = omega arith in
        rw e at (page_is (1 + i) (omega arith) (omega arith)))

    heads_small : (p : ℕ) → 1 ≤ p → head_next_in f p < 16777216
    unfolding three_at
    heads_small p lo = rw (head_there f p lo) (omega (arith, page_small p 13, page_small p 14, page_small p 15))

    pub clean_imaged : Imaged t f (records_in t f) (head_next_in f)
    clean_imaged = record { bytes = file_is; paged = record { standing = standing; room = room }; heads = λ p lo hi. heads_small p lo }

-- an image passes
pub imaged_clean : (t f : List ℕ) (r : ℕ → List ℕ) (h : ℕ → ℕ) → pages t ≤ 128 → Imaged t f r h → scan t f ≡ 0
unfolding scan
imaged_clean t f r h few i = pages_scan t f (pages t) 1 (λ q from to.
    let long : length f ≡ 512 * pages t = rw i.bytes (laid_length (pages t) r h i.paged.room) in
    let e : page_part f q ≡ page r h q = rw i.bytes (laid_page (pages t) r h i.paged.room q from (omega arith)) in
    (omega arith, rw e (page_passes t r h q (i.paged.room q) i.paged.standing (omega arith))))

module _ (t f : List ℕ) (a : Accepted t) (small : (i : ℕ) → get_or f i 0 < 256) (long : length f ≡ 512 * pages t) where
  -- no fault exactly where the file is an image
  pub scan_exactly : (scan t f ≡ 0) ↔ ((r : ℕ → List ℕ) × (h : ℕ → ℕ) × Imaged t f r h)
  scan_exactly = (λ e. (records_in t f, head_next_in f, clean_imaged t f small long e), λ q. imaged_clean t f q.0 q.1 a.page_count.1 q.2)

  -- and then it is sound exactly where that image is audited
  pub sound_scanned : ((l : Ledger) × Sound t f l) ↔ ((scan t f ≡ 0) × Audited t (records_in t f) (head_next_in f))
  sound_scanned = (λ q. there q.0 q.1, λ q. back q.0 q.1)
    where
      audited : scan t f ≡ 0 → ((l : Ledger) × Sound t (laid (pages t) (records_in t f) (head_next_in f)) l) ↔ Audited t (records_in t f) (head_next_in f)
      audited e = let i = clean_imaged t f small long e in image_exactly t (records_in t f) (head_next_in f) a i.paged i.heads

      there : (l : Ledger) → Sound t f l → (scan t f ≡ 0) × Audited t (records_in t f) (head_next_in f)
      there l s =
          let e = imaged_clean t f (record_bytes t l) (head_next t l) a.page_count.1 (sound_imaged t f l a s) in
          let same : f ≡ laid (pages t) (records_in t f) (head_next_in f) = (clean_imaged t f small long e).bytes in
          (e, (audited e).0 (l, record { formed = s.formed; bytes = sym same ∙ s.bytes }))

      back : scan t f ≡ 0 → Audited t (records_in t f) (head_next_in f) → (l : Ledger) × Sound t f l
      back e w = let q = (audited e).1 w in (q.0, record { formed = q.1.formed; bytes = (clean_imaged t f small long e).bytes ∙ q.1.bytes })

-- what an answer that is the scan's means
pub scan_means : (t f : List ℕ) (answer : Option ℕ) → ((i : ℕ) → get_or f i 0 < 256) → answer ≡ or_none (scan t f) → ScanExact t f answer
scan_means t f answer small e a long =
    let s = scan_exactly t f a small long in
    (λ none. s.0 (zero_of_none (scan t f) e none), λ i. rw e (or_none-zero (s.1 i)))
