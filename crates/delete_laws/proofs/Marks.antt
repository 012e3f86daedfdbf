-- Marks set and counted, and records marked one after another.
use Prim.Native.Nat.{ℕ, ◌+◌, ◌*◌, ◌≤◌, ◌<◌}
use mathlib.Core.Path.{◌≡◌, refl, ◌∙◌, ap}
use mathlib.Core.Logic.{◌≢◌}
use mathlib.Core.Bool.{true, false}
use mathlib.Core.List.{List, [], ◌∷◌}
use native.Mathlib.Omega.{arith}
use native.Mathlib.Nat.{mod-eq_of_lt}
use lib.ListN.{length, set, replicate}
use lib.Seq.{get_or-set_same, get_or-set_other}
use lib.Dec.{eqb}
use borrow.Author.Tests.{ne_eqb}
use Rattle.ledger.specs.Numbers.{elem, keep}
use Rattle.ledger.specs.Table.{pages, Accepted}
use Rattle.ledger.specs.Pages.{codes}
use Rattle.ledger.proofs.Lists.Tests.{by_cases, same_or_not, eqb_same}
use Rattle.ledger.proofs.Lists.Sieves.{length_keep, keep_parted}
use Rattle.ledger.proofs.Lists.Pairs.{once_run, keep_one}
use Rattle.ledger.proofs.Lists.Parts.{get_d_zeros}
use Rattle.ledger.proofs.Lists.Runs.{length_run}
use Rattle.delete_model.specs.Marks.{goes_in, Marked}
use Rattle.delete_laws.proofs.Below.{mark_all}

-- marks: a code marked, and no other changed; none at first
pub mark_here : (k : List ℕ) (c : ℕ) → c < length k → goes_in (set k c 1) c ≡ true
unfolding goes_in
mark_here k c h = rw (get_or-set_same k c 1 0 h)

pub mark_else : (k : List ℕ) (c y : ℕ) → y ≢ c → goes_in (set k c 1) y ≡ goes_in k y
unfolding goes_in
mark_else k c y n = rw (get_or-set_other k c y 1 0 n)

pub mark_none : (n y : ℕ) → goes_in (replicate n 0) y ≡ false
unfolding goes_in
mark_none n y = rw (get_d_zeros n y)

-- records marked one after another: none, and one more
pub mark_end : (rec : ℕ → List ℕ → Marked) (count : ℕ) (k : List ℕ) → mark_all rec count k [] ≡ (count, k)
unfolding mark_all
mark_end rec count k = refl

pub mark_next : (rec : ℕ → List ℕ → Marked) (count : ℕ) (k : List ℕ) (y : ℕ) (ys : List ℕ) → count + (rec y k).0 < 65536
    → mark_all rec count k (y ∷ ys) ≡ mark_all rec (count + (rec y k).0) (rec y k).1 ys
unfolding mark_all
mark_next rec count k y ys few = ap (λ (n : ℕ). mark_all rec n (rec y k).1 ys) (mod-eq_of_lt few)

-- how many codes of the file are marked
unfoldable pub marks : List ℕ → List ℕ → ℕ
marks t k = length (keep (goes_in k) (codes t))

module _ (t : List ℕ) (a : Accepted t) where
  pub marks_few : (k : List ℕ) → marks t k ≤ 8192
  unfolding marks codes
  marks_few k = omega (arith, length_keep (goes_in k) (codes t), length_run 64 (64 * pages t), a.page_count.1)

  -- one more
  pub marks_more : (k : List ℕ) (c : ℕ) → c < length k → elem c (codes t) ≡ true → goes_in k c ≡ false → marks t (set k c 1) ≡ marks t k + 1
  unfolding marks codes
  marks_more k c h e n =
      keep_parted (goes_in (set k c 1)) (goes_in k) (λ y. eqb y c) (codes t)
      (λ y. same_or_not y c
      (λ q. rw (q, eqb_same c, mark_here k c h, n))
      (λ q. rw (ne_eqb y c q, mark_else k c y q) (by_cases (goes_in k y) (λ g. rw g) (λ g. rw g))))
      (λ y g. same_or_not y c (λ q. rw (q, mark_here k c h)) (λ q. rw (mark_else k c y q) g))
      ∙ ap (λ (n : ℕ). marks t k + n) (ap length (keep_one c (codes t) (once_run 64 _) e))
