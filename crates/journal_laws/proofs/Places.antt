-- A file that is another but for some pages: stores into those pages keep it so, and the other's pages stored make it the other.
use Prim.Native.Nat.{ℕ, zero, suc, ◌+◌, ◌*◌, ◌-◌, ◌/◌, ◌≤◌, ◌<◌}
use mathlib.Core.Path.{◌≡◌, refl, sym, ◌∙◌}
use mathlib.Core.Logic.{◌≢◌, ◌⊎◌, inl, inr}
use mathlib.Core.Bool.{true, false}
use mathlib.Core.List.{List, [], ◌∷◌}
use native.Mathlib.Omega.{arith}
use native.Mathlib.Nat.{add-zero}
use lib.ListN.{length, get_or, take, drop, set, length-take, length-drop, length-set}
use lib.Seq.{sets, length-sets, get_or-set_same, get_or-set_other, get_or-take, get_or-drop, ext_get_or}
use lib.Dec.{eqb, ltb}
use borrow.Author.Tests.{ltb-true, ltb-false, ne_eqb}
use Rattle.ledger.specs.Numbers.{elem}
use Rattle.ledger.proofs.Lists.Tests.{by_cases, same_or_not, clash}
use Rattle.ledger.proofs.Lists.Members.{elem_there}
use Rattle.ledger.specs.Bytes.{page_start, page_in}

-- what stands in a list after some of its elements were set
sets_outside : (vs f : List ℕ) (i j : ℕ) → (j < i) ⊎ (i + length vs ≤ j) → get_or (sets f i vs) j 0 ≡ get_or f j 0
sets_outside [] f i j h = refl
sets_outside (a ∷ vs) f i j (inl h) = sets_outside vs (set f i a) (suc i) j (inl (omega arith)) ∙ get_or-set_other f i j a 0 (λ e. omega arith)
sets_outside (a ∷ vs) f i j (inr h) = sets_outside vs (set f i a) (suc i) j (inr (omega arith)) ∙ get_or-set_other f i j a 0 (λ e. omega arith)

sets_inside : (vs f : List ℕ) (i j : ℕ) → i + length vs ≤ length f → j < length vs → get_or (sets f i vs) (i + j) 0 ≡ get_or vs j 0
sets_inside [] f i j fits h = absurd (omega arith)
sets_inside (a ∷ vs) f i zero fits h = rw add-zero (sets_outside vs (set f i a) (suc i) i (inl (omega arith)) ∙ get_or-set_same f i a 0 (omega arith))
sets_inside (a ∷ vs) f i (suc j) fits h =
    let e : i + suc j ≡ suc i + j = omega arith in
    rw e (sets_inside vs (set f i a) (suc i) j (rw length-set (omega arith)) (omega arith))

-- a page's bytes
pub page_short : (f : List ℕ) (p : ℕ) → length (page_in f p) ≤ 512
unfolding page_in
page_short f p = by_cases (eqb p 0) (λ e. rw e (omega arith)) (λ e. rw (e, length-take) (omega arith))

pub page_is : (f : List ℕ) (p : ℕ) → 1 ≤ p → page_in f p ≡ take 512 (drop (page_start p) f)
unfolding page_in
page_is f p low = rw (ne_eqb p 0 (λ e. omega arith))

pub page_full : (f : List ℕ) (p : ℕ) → 1 ≤ p → 512 * p ≤ length f → length (page_in f p) ≡ 512
page_full f p low fits = rw (page_is f p low, length-take, length-drop) (omega arith)

pub page_byte : (f : List ℕ) (p i : ℕ) → 1 ≤ p → i < 512 → get_or (page_in f p) i 0 ≡ get_or f (page_start p + i) 0
page_byte f p i low h = rw (page_is f p low, get_or-take, get_or-drop)

-- the page of a byte
abbrev pub page_at : ℕ → ℕ
page_at i = i / 512 + 1

-- g is f but for the pages ps
pub record But (ps g f : List ℕ) : Type 0 where
  pub size : length g ≡ length f
  pub same : (i : ℕ) → i < length f → elem (page_at i) ps ≡ false → get_or g i 0 ≡ get_or f i 0

pub but_none : (ps f : List ℕ) → But ps f f
but_none ps f = record { size = refl; same = λ i lt out. refl }

pub but_turned : {ps g f : List ℕ} → But ps g f → But ps f g
but_turned b = record { size = sym b.size; same = λ i lt out. sym (b.same i (omega (arith, b.size)) out) }

pub but_all : (g f : List ℕ) → But [] g f → g ≡ f
unfolding elem
but_all g f b = ext_get_or 0 g f b.size (λ i lt. b.same i (omega (arith, b.size)) refl)

-- the bytes of other pages stay
other_page : (g bs : List ℕ) (p i : ℕ) → 1 ≤ p → length bs ≤ 512 → page_at i ≢ p → get_or (sets g (page_start p) bs) i 0 ≡ get_or g i 0
other_page g bs p i low short off = by_cases (ltb i (page_start p))
    (λ e. let lt = ltb-true i (page_start p) e in sets_outside bs g (page_start p) i (inl lt))
    (λ e.
    let le = ltb-false i (page_start p) e in
    sets_outside bs g (page_start p) i (inr (same_or_not (i / 512) (p - 1) (λ q. absurd (off (omega arith))) (λ q. omega (arith, page_apart i p low le q)))))
  where
    page_apart : (i p : ℕ) → 1 ≤ p → 512 * (p - 1) ≤ i → i / 512 ≢ p - 1 → 512 * (p - 1) + 512 ≤ i
    page_apart i p low le q = by_cases (ltb i (512 * (p - 1) + 512))
        (λ e. let lt = ltb-true i (512 * (p - 1) + 512) e in absurd (q (omega arith)))
        (λ e. ltb-false i (512 * (p - 1) + 512) e)

-- a store into one of the pages, whole or cut
pub store_within : (ps g f bs : List ℕ) (p : ℕ) → But ps g f → elem p ps ≡ true → 1 ≤ p → length bs ≤ 512 → But ps (sets g (page_start p) bs) f
store_within ps g f bs p b e low short = record {
  size = length-sets g (page_start p) bs ∙ b.size;
  same = λ i lt out. other_page g bs p i low short (λ q. clash _ e (rw q at out)) ∙ b.same i lt out;
}

-- f's page stored: one page less
pub store_back : (ps g f : List ℕ) (p : ℕ) → But (p ∷ ps) g f → 1 ≤ p → 512 * p ≤ length f → But ps (sets g (page_start p) (page_in f p)) f
store_back ps g f p b low fits = record { size = length-sets g (page_start p) (page_in f p) ∙ b.size; same = at }
  where
    at : (i : ℕ) → i < length f → elem (page_at i) ps ≡ false → get_or (sets g (page_start p) (page_in f p)) i 0 ≡ get_or f i 0
    at i lt out = same_or_not (page_at i) p
        (λ q.
        let full = page_full f p low fits in
        let e : i ≡ page_start p + (i - page_start p) = omega arith in
        rw e (sets_inside (page_in f p) g (page_start p) (i - page_start p) (omega (arith, b.size)) (omega arith)
        ∙ page_byte f p (i - page_start p) low (omega arith)))
        (λ q. other_page g (page_in f p) p i low (page_short f p) q ∙ b.same i lt (elem_there (page_at i) p ps q ∙ out))
