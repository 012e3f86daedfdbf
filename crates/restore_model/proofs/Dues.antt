-- Recovery's dues write what recovery writes, and the bytes that tell the pages stored say just those pages.
use Prim.Native.Nat.{ℕ, zero, suc, ◌+◌, ◌*◌, ◌-◌, ◌≤◌, ◌<◌}
use mathlib.Core.Path.{◌≡◌, refl, sym, ◌∙◌, ap}
use mathlib.Core.Bool.{Bool, true, false, cond}
use mathlib.Core.List.{List, [], ◌∷◌, ◌++◌, map, map-append, append_assoc}
use native.Mathlib.Omega.{arith}
use lib.ListN.{length, get_or, take, drop, length-drop, take-append-drop}
use lib.Seq.{sets, length-sets, sets-eq, length-take-le, take-append-le, drop-append-le, get_or-take}
use lib.Dec.{eqb}
use borrow.Author.Tests.{ne_eqb}
use Rattle.ledger.specs.Numbers.{elem, keep, run}
use Rattle.ledger.proofs.Lists.Tests.{same_or_not}
use Rattle.ledger.proofs.Lists.Members.{elem_here, elem_there, run_elem}
use Rattle.ledger.proofs.Lists.Sieves.{keep_same, keep_none}
use Rattle.ledger.proofs.Lists.Parts.{part_here}
use Rattle.ledger.specs.Bytes.{page_start, page_in}
use Rattle.ledger.specs.Journal.Writes.{Write, store, clear, Disk, disk, performed}
use Rattle.ledger.specs.Journal.Recovery.{restore, recovery}
use Rattle.ledger.specs.declared.Due.TheVariants.{Back, Empty}
use Rattle.ledger.specs.Journal.Dues.{marked, recovery_dues, write_due}
use Rattle.journal_laws.proofs.Places.{page_is}
use Rattle.journal_laws.proofs.Cuts.{Rises}
use Rattle.journal_laws.proofs.RecoveryWrites.{PutsBack, recovery_written, stored_clear, file_left}
use Rattle.ledger.specs.Journal.Promises.{stored_in, Told}

-- a page is read in a file's front, whatever follows it
page_front : (xs ys zs : List ℕ) (p : ℕ) → 1 ≤ p → 512 * p ≤ length xs → page_in (xs ++ ys) p ≡ page_in (xs ++ zs) p
page_front xs ys zs p low fits = one ys ∙ sym (one zs)
  where
    one : (ys : List ℕ) → page_in (xs ++ ys) p ≡ take 512 (drop (page_start p) xs)
    one ys = page_is (xs ++ ys) p low
        ∙ rw (drop-append-le (page_start p) xs ys (omega arith), take-append-le 512 (drop (page_start p) xs) ys (rw length-drop (omega arith)))

-- a page stored, and a page before it
module _ (f bs : List ℕ) (q : ℕ) (low : 1 ≤ q) (fits : 512 * q ≤ length f) (long : length bs ≡ 512) where
  stored : sets f (page_start q) bs ≡ take (page_start q) f ++ (bs ++ drop (page_start q + length bs) f)
  stored = sets-eq bs f (page_start q) (omega arith) ∙ rw append_assoc

  front : length (take (page_start q) f) ≡ page_start q
  front = length-take-le (page_start q) f (omega arith)

  page_stored : page_in (sets f (page_start q) bs) q ≡ bs
  page_stored = page_is (sets f (page_start q) bs) q low ∙ rw stored (part_here (take (page_start q) f) bs (drop (page_start q + length bs) f) (page_start q) 512 front long)

  page_before : (p : ℕ) → 1 ≤ p → p < q → page_in (sets f (page_start q) bs) p ≡ page_in f p
  page_before p first lt =
      rw stored (page_front (take (page_start q) f) _ (drop (page_start q) f) p first (rw front (omega arith)))
      ∙ ap (λ (g : List ℕ). page_in g p) (take-append-drop (page_start q) f)

-- what stands in the pages after stores that rise: up to q what stood there, and after it what was stored
module _ (n : ℕ) where
  pages_kept : {q last : ℕ} {ws : List Write} → PutsBack n q last ws → (d : Disk) → length d.file ≡ 512 * n → (p : ℕ) → 1 ≤ p → p ≤ q
      → page_in (performed ws d).file p ≡ page_in d.file p
  unfolding performed
  pages_kept PutsBack.end d size p low high = refl
  pages_kept (PutsBack.next {p = r} {bs = bs} lt fits long b) d size p low high =
      pages_kept b (disk (sets d.file (page_start r) bs) d.journal) (length-sets d.file (page_start r) bs ∙ size) p low (omega arith)
      ∙ page_before d.file bs r (omega arith) (omega arith) long p low (omega arith)

  puts_due : {q last : ℕ} {ws : List Write} → PutsBack n q last ws → (d : Disk) → length d.file ≡ 512 * n → (f : List ℕ)
      → map (write_due f (performed ws d).file) (map Back (stored_in ws)) ≡ ws
  unfolding performed stored_in write_due
  puts_due PutsBack.end d size f = refl
  puts_due (PutsBack.next {p = p} {bs = bs} {ws = ws} lt fits long b) d size f =
      let d' : Disk = disk (sets d.file (page_start p) bs) d.journal in
      let size' : length d'.file ≡ 512 * n = length-sets d.file (page_start p) bs ∙ size in
      let page : page_in (performed ws d').file p ≡ bs
      = pages_kept b d' size' p (omega arith) (omega arith) ∙ page_stored d.file bs p (omega arith) (omega arith) long in
      rw page (ap (λ (vs : List Write). store p bs ∷ vs) (puts_due b d' size' f))

  -- the pages stored
  stored_rise : {q last : ℕ} {ws : List Write} → PutsBack n q last ws → Rises n q (stored_in ws)
  unfolding stored_in
  stored_rise PutsBack.end = tt
  stored_rise (PutsBack.next lt fits long b) = (lt, fits, stored_rise b)

  -- and the journal emptied last
  back_due : {q last : ℕ} {ws : List Write} → PutsBack n q last ws → (d : Disk) → length d.file ≡ 512 * n → (f : List ℕ)
      → map (write_due f (performed (ws ++ (clear ∷ [])) d).file) (recovery_dues (stored_in (ws ++ (clear ∷ [])))) ≡ ws ++ (clear ∷ [])
  unfolding recovery_dues
  back_due {ws = ws} b d size f =
      let g = (performed ws d).file in
      let last : write_due f g Empty ≡ clear = unfold write_due in refl in
      rw (file_left ws d, stored_clear ws, map-append (write_due f g) (map Back (stored_in ws)), puts_due b d size f, last)

-- the dues of recovery write just what it writes, where the pages are taken from the file that it leaves
pub recovery_writes_lem : (n : ℕ) (d : Disk) (ws : List Write) (f : List ℕ) → recovery n d ≡ restore ws
    → map (write_due f (performed ws d).file) (recovery_dues (stored_in ws)) ≡ ws
recovery_writes_lem n d ws f e = let w = recovery_written n d ws e in rw w.is (back_due n w.rising d w.size f)

-- pages that rise are those of all pages that are among them
rises_past : (n q : ℕ) (ps : List ℕ) (x : ℕ) → Rises n q ps → x ≤ q → elem x ps ≡ false
unfolding elem
rises_past n q [] x r le = refl
rises_past n q (p ∷ ps) x r le = rw (ne_eqb x p (λ e. omega arith)) (rises_past n p ps x r.2 (omega arith))

keep_rising : (n k q : ℕ) (ps : List ℕ) → Rises n q ps → q + k ≡ n → keep (λ x. elem x ps) (run (suc q) k) ≡ ps
unfolding keep run
keep_rising n k q [] r e = keep_none _ (run (suc q) k) (λ y h. unfold elem in refl)
keep_rising n zero q (p ∷ ps) r e = absurd (omega arith)
keep_rising n (suc k) q (p ∷ ps) r e = same_or_not p (suc q)
    (λ is.
    let here : elem (suc q) (p ∷ ps) ≡ true = rw is (elem_here (suc q) ps) in
    let past : keep (λ x. elem x (p ∷ ps)) (run (suc (suc q)) k) ≡ keep (λ x. elem x ps) (run (suc (suc q)) k)
    = keep_same _ _ (run (suc (suc q)) k) (λ y h. let (low, high) = run_elem y (suc (suc q)) k h in elem_there y p ps (λ z. omega arith)) in
    let ih : keep (λ x. elem x ps) (run (suc (suc q)) k) ≡ ps = keep_rising n k (suc q) ps (rw is at r.2) (omega arith) in
    rw (here, past, ih, is))
    (λ off.
    let out : elem (suc q) (p ∷ ps) ≡ false = rises_past n (suc q) (p ∷ ps) (suc q) (omega arith, r.1, r.2) (omega arith) in
    rw out (keep_rising n k (suc q) (p ∷ ps) (omega arith, r.1, r.2) (omega arith)))

-- a byte that tells a page is 1 where it is stored
told_test : (b : Bool) → eqb (cond b 1 0) 1 ≡ b
told_test true = refl
told_test false = refl

-- the bytes that tell the pages stored say just those, rising
pub told_marked : (n : ℕ) (d : Disk) (ws : List Write) (s s' : List ℕ) → recovery n d ≡ restore ws → n ≤ length s → Told n ws s s'
    → marked (take n s') ≡ stored_in ws
unfolding marked
told_marked n d ws s s' e room told =
    let w = recovery_written n d ws e in
    let size = told.size in
    let all : length (take n s') ≡ n = length-take-le n s' (omega arith) in
    let rises : Rises n 0 (stored_in ws) = rw (w.is, stored_clear w.back) (stored_rise n w.rising) in
    let test : (p : ℕ) → elem p (run 1 n) ≡ true → eqb (get_or (take n s') (p - 1) 0) 1 ≡ elem p (stored_in ws)
    = λ p h.
    let (low, high) = run_elem p 1 n h in
    rw (get_or-take n s' (p - 1) 0 (omega arith), told.each p low (omega arith)) (told_test (elem p (stored_in ws))) in
    rw all (keep_same _ _ (run 1 n) test ∙ keep_rising n n 0 (stored_in ws) rises (omega arith))
