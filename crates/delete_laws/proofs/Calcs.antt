-- Every CALC ring closed over what goes: each calculated record that stays, and each header, has the CALC NEXT of the ledger after the deletion.
use Prim.Native.Nat.{ℕ, suc, ◌+◌, ◌≤◌, ◌<◌}
use mathlib.Core.Path.{◌≡◌, refl, ◌∙◌}
use mathlib.Core.Logic.{◌≢◌}
use mathlib.Core.Bool.{true, false}
use mathlib.Core.List.{List}
use native.Mathlib.Omega.{arith}
use Rattle.ledger.specs.Numbers.{elem}
use Rattle.ledger.specs.Table.{pages, calculated, Accepted}
use Rattle.ledger.specs.Pages.{Ledger, kind_at, present, home_of, calc_next, head_next, Sound}
use Rattle.ledger.specs.Calls.{goes, deleted}
use Rattle.ledger.proofs.Lists.Tests.{same_or_not, not_true_false}
use Rattle.ledger.proofs.Ledger.Bounds.{home_of_within}
use Rattle.delete_model.specs.Marks.{goes_in}
use Rattle.delete_model.specs.Closing.{calc_closed, calcs_closed}
use Rattle.delete_laws.proofs.Chains.{each_from_lem}
use Rattle.delete_laws.proofs.Homed.{Homed, ring_shut}

module _ (t f : List ℕ) (l : Ledger) (a : Accepted t) (s : Sound t f l) (x : ℕ) (k : List ℕ) (same : (y : ℕ) → goes_in k y ≡ goes t l x y) (nx pr : ℕ → ℕ → ℕ) where
  -- The rings of the pages before p are closed; those from it on are as they were.
  pub record Upto (p : ℕ) (g : List ℕ) : Type 0 where
    pub cn : ℕ → ℕ
    pub hd : ℕ → ℕ
    pub homed : Homed t f l a s x k same nx pr g cn hd
    pub calc_closed_lem : (y : ℕ) → present l y ≡ true → calculated t (kind_at l y) ≡ true → goes t l x y ≡ false → home_of t l y < p
        → cn y ≡ calc_next t (deleted t l x) y
    pub calc_open : (y : ℕ) → present l y ≡ true → calculated t (kind_at l y) ≡ true → p ≤ home_of t l y → cn y ≡ calc_next t l y
    pub head_closed : (q : ℕ) → 1 ≤ q → q ≤ pages t → q < p → hd q ≡ head_next t (deleted t l x) q
    pub head_open : (q : ℕ) → 1 ≤ q → q ≤ pages t → p ≤ q → hd q ≡ head_next t l q

  -- one more page
  page_closed : (p : ℕ) (g : List ℕ) → 1 ≤ p → p ≤ pages t → Upto p g → Upto (suc p) (calc_closed t g k p)
  page_closed p g lo hi b =
      let w = s.formed in
      let u = ring_shut t f l a s x k same nx pr p lo hi b.cn b.hd g b.homed
      (λ y e. let (there, calc, at) = w.calc_own p y e in b.calc_open y there calc (omega arith)) (b.head_open p lo hi (omega arith)) in
      let out : (y : ℕ) → home_of t l y ≢ p → elem y (l.calc p) ≡ false = λ y n. not_true_false _ (λ e. n (w.calc_own p y e).2) in
      record {
        cn = u.cn;
        hd = u.hd;
        homed = u.homed;
        calc_closed_lem = λ y there calc st h. same_or_not (home_of t l y) p
            (λ e. u.calc_in y (rw e at (w.calc_all y there calc)) st)
            (λ n. u.calc_else y (out y n) ∙ b.calc_closed_lem y there calc st (omega arith));
        calc_open = λ y there calc h. u.calc_else y (out y (λ e. omega arith)) ∙ b.calc_open y there calc (omega arith);
        head_closed = λ q low high h. same_or_not q p
            (λ e. rw e u.head_in)
            (λ n. u.head_else q n ∙ b.head_closed q low high (omega arith));
        head_open = λ q low high h. u.head_else q (λ e. omega arith) ∙ b.head_open q low high (omega arith);
      }

  pub calcs_closed_lem : (g : List ℕ) → Homed t f l a s x k same nx pr g (calc_next t l) (head_next t l) → Upto (1 + pages t) (calcs_closed t g k)
  unfolding calcs_closed
  calcs_closed_lem g z =
      each_from_lem Upto (λ h p. calc_closed t h k p) (pages t) 1 g (λ p h lo hi q. page_closed p h lo (omega arith) q)
      (record {
        cn = calc_next t l;
        hd = head_next t l;
        homed = z;
        calc_closed_lem = λ y there calc st h. absurd (omega (arith, (home_of_within t l a s.formed y there).0));
        calc_open = λ y there calc h. refl;
        head_closed = λ q low high h. absurd (omega arith);
        head_open = λ q low high h. refl;
      })
