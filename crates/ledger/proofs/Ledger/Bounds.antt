-- Links are codes of the file, so three bytes hold them; the code of a record is not 0.
use Prim.Native.Nat.{ℕ, ◌+◌, ◌*◌, ◌≤◌, ◌<◌}
use mathlib.Core.Path.{◌≡◌, sym, ◌∙◌}
use mathlib.Core.Bool.{true}
use mathlib.Core.List.{List, reverse}
use native.Mathlib.Omega.{arith}
use mathlib.Core.Logic.{◌≢◌}
use Rattle.ledger.specs.Numbers.{elem}
use Rattle.ledger.specs.Table.{pages, is_master, Accepted}
use Rattle.ledger.specs.Pages.{Ledger, kind_at, present, codes, master_of, next_of, prior_of, home_of, calc_next_of, head_next, WellFormed}
use Rattle.ledger.proofs.Lists.Tests.{by_cases}
use Rattle.ledger.proofs.Lists.Members.{elem_reverse}
use Rattle.ledger.proofs.Lists.Searches.{first_of_small, round_small}
use Rattle.ledger.proofs.Ledger.Rows.{home_within, code_listed, listed_small}

module _ (t : List ℕ) (l : Ledger) (a : Accepted t) (w : WellFormed t l) where
  pub present_small : (x : ℕ) → present l x ≡ true → x < 64 * pages t + 64
  present_small x h = listed_small t x (code_listed t l x a (w.placed x h))

  pub present_bytes : 64 * pages t + 64 ≤ 16777216
  present_bytes = omega (arith, a.page_count.1)

  member_small : (j m x : ℕ) → elem x (l.ring j m) ≡ true → x < 64 * pages t + 64
  member_small j m x h = present_small x (w.ring_own j m x h).3

  master_small : (j x : ℕ) → present l x ≡ true → master_of t l j x < 64 * pages t + 64
  unfolding master_of
  master_small j x h = by_cases (is_master t j (kind_at l x))
      (λ e. rw e (present_small x h))
      (λ e. rw e (first_of_small _ _ (codes t) (omega arith) (listed_small t)))

  pub next_small : (j x : ℕ) → present l x ≡ true → next_of t l j x < 16777216
  unfolding next_of
  next_small j x h =
      let s = round_small (64 * pages t + 64) x (master_of t l j x) (l.ring j (master_of t l j x)) (master_small j x h) (member_small j _) in
      omega (arith, present_bytes)

  pub prior_small : (j x : ℕ) → present l x ≡ true → prior_of t l j x < 16777216
  unfolding prior_of
  prior_small j x h =
      let s = round_small (64 * pages t + 64) x (master_of t l j x) (reverse (l.ring j (master_of t l j x))) (master_small j x h)
      (λ y e. member_small j _ y (sym (elem_reverse y _) ∙ e)) in
      omega (arith, present_bytes)

  pub calc_next_small : (p x : ℕ) → p ≤ pages t → calc_next_of t l p x < 16777216
  unfolding calc_next_of
  calc_next_small p x h =
      let s = round_small (64 * pages t + 64) x (64 * p) (l.calc p) (omega arith) (λ y e. present_small y (w.calc_own p y e).0) in
      omega (arith, present_bytes)

  pub home_of_within : (x : ℕ) → present l x ≡ true → (1 ≤ home_of t l x) × (home_of t l x ≤ pages t)
  unfolding home_of
  home_of_within x h = home_within t (kind_at l x) _ a (w.placed x h).typed

  pub head_next_small : (p : ℕ) → p ≤ pages t → head_next t l p < 16777216
  unfolding head_next
  head_next_small p h = calc_next_small p (64 * p) h

-- a present record's code is not 0
pub present_some : (t : List ℕ) (l : Ledger) (y : ℕ) → WellFormed t l → present l y ≡ true → y ≢ 0
present_some t l y w h e = omega (arith, (w.placed y h).on_a_line)
