-- Sequences of writes: one after another, cut, and the stores of a file's pages.
use Prim.Native.Nat.{ℕ, zero, suc, ◌+◌, ◌*◌, ◌-◌, ◌≤◌, ◌<◌}
use mathlib.Core.Path.{◌≡◌, refl, sym, ◌∙◌, ap}
use mathlib.Core.Logic.{◌⊎◌, inl, inr}
use mathlib.Core.Bool.{Bool, true, false}
use mathlib.Core.List.{List, [], ◌∷◌, ◌++◌}
use native.Mathlib.Omega.{arith}
use lib.ListN.{length, get_or, take, length-take}
use Rattle.ledger.specs.Numbers.{elem, keep, run, same_key}
use Rattle.ledger.proofs.Lists.Tests.{by_cases, clash}
use Rattle.ledger.proofs.Lists.Members.{elem_here, elem_tail, elem_run}
use Rattle.ledger.proofs.Lists.Sieves.{elem_keep}
use Rattle.ledger.proofs.Lists.Keys.{same_eq}
use Rattle.ledger.specs.Bytes.{page_in}
use Rattle.ledger.specs.Journal.Writes.{Write, changed, stores, Disk, disk, perform, performed, cut_at}
use Rattle.journal_laws.proofs.Places.{page_short, page_byte, page_at, But, but_all, store_within, store_back}

pub performed_append : (us ws : List Write) (d : Disk) → performed (us ++ ws) d ≡ performed ws (performed us d)
unfolding performed
performed_append [] ws d = refl
performed_append (u ∷ us) ws d = performed_append us ws (perform u d)

-- a cut of two sequences: in the first, or in the second
pub cut_append : (m k : ℕ) (us ws : List Write) → (cut_at m k (us ++ ws) ≡ cut_at m k us) ⊎ ((i : ℕ) × (cut_at m k (us ++ ws) ≡ us ++ cut_at i k ws))
unfolding cut_at
cut_append m k [] ws = inr (m, refl)
cut_append zero k (u ∷ us) ws = inl refl
cut_append (suc m) k (u ∷ us) ws =
    elim (cut_append m k us ws) [
      | inl e ↦ inl (ap (λ (vs : List Write). u ∷ vs) e)
      | inr e ↦ inr (e.0, ap (λ (vs : List Write). u ∷ vs) e.1)
    ]

-- pages that rise, from past q up to n
abbrev pub Rises : ℕ → ℕ → List ℕ → Type 0
Rises n q [] = Unit {0}
Rises n q (p ∷ ps) = (q < p) × (p ≤ n) × Rises n p ps

keep_rises : (t : ℕ → Bool) (n q k m : ℕ) → q < k → k + m ≤ n + 1 → Rises n q (keep t (run k m))
unfolding keep run
keep_rises t n q k zero lt fits = tt
keep_rises t n q k (suc m) lt fits = by_cases (t k)
    (λ e. rw e (lt, omega arith, keep_rises t n k (suc k) m (omega arith) (omega arith)))
    (λ e. rw e (keep_rises t n q (suc k) m (omega arith) (omega arith)))

-- the pages that differ rise, and the two files are one another but for them
module _ (n : ℕ) (f f' : List ℕ) where
  pub changed_rise : Rises n 0 (changed n f f')
  unfolding changed
  changed_rise = keep_rises _ n 0 1 n (omega arith) (omega arith)

  pub changed_but : length f ≡ 512 * n → length f' ≡ 512 * n → But (changed n f f') f' f
  unfolding changed
  changed_but s s' = record { size = s' ∙ sym s; same = at }
    where
      at : (i : ℕ) → i < length f → elem (page_at i) (changed n f f') ≡ false → get_or f' i 0 ≡ get_or f i 0
      at i lt out =
          let p = page_at i in
          let low : 1 ≤ p = omega arith in
          let in-run : elem p (run 1 n) ≡ true = elem_run p 1 n low (omega arith) in
          by_cases (same_key (page_in f p) (page_in f' p))
          (λ e.
          let o = i - 512 * (p - 1) in
          let w : 512 * (p - 1) + o ≡ i = omega arith in
          let a = page_byte f p o low (omega arith) in
          let b = page_byte f' p o low (omega arith) in
          rw (same_eq (page_in f p) (page_in f' p) e, b, w) at a)
          (λ e. clash _ (elem_keep _ p (run 1 n) in-run (rw e)) out)

-- all pages that two files differ in stored from one of them
pub stores_whole : (n : ℕ) (ps g f j : List ℕ) (q : ℕ) → Rises n q ps → length f ≡ 512 * n → But ps g f → performed (stores f ps) (disk g j) ≡ disk f j
unfolding performed stores
stores_whole n [] g f j q r s b = ap (λ (h : List ℕ). disk h j) (but_all g f b)
stores_whole n (p ∷ ps) g f j q r s b = stores_whole n ps _ f j p r.2 s (store_back ps g f p b (omega arith) (omega arith))

-- stores of any file's pages, cut: of the file that stands but for those pages
pub stores_cut : (n m k : ℕ) (qs ps g h f j : List ℕ) (q : ℕ) → Rises n q qs → ((p : ℕ) → elem p qs ≡ true → elem p ps ≡ true) → But ps g f
    → (g' : List ℕ) × (performed (cut_at m k (stores h qs)) (disk g j) ≡ disk g' j) × But ps g' f
unfolding performed stores cut_at
stores_cut n m k [] ps g h f j q r among b = (g, refl, b)
stores_cut n zero k (p ∷ qs) ps g h f j q r among b =
    (_, refl, store_within ps g f (take k (page_in h p)) p b (among p (elem_here p qs)) (omega arith) (rw length-take (omega (arith, page_short h p))))
stores_cut n (suc m) k (p ∷ qs) ps g h f j q r among b =
    stores_cut n m k qs ps _ h f j p r.2 (λ x e. among x (elem_tail x p qs e))
    (store_within ps g f (page_in h p) p b (among p (elem_here p qs)) (omega arith) (page_short h p))
