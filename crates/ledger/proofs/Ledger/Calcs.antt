-- The CALC lists of a well-formed ledger.
use Prim.Native.Nat.{ℕ, ◌*◌}
use mathlib.Core.Path.{◌≡◌, refl}
use mathlib.Core.Bool.{true, false, ◌&&◌}
use mathlib.Core.List.{List}
use native.Mathlib.Omega.{arith}
use lib.Dec.{leb}
use borrow.Author.Tests.{le-leb}
use Rattle.ledger.specs.Numbers.{elem}
use Rattle.ledger.specs.Table.{pages, Accepted}
use Rattle.ledger.specs.Pages.{Ledger, home_of, calc_next_of, WellFormed}
use Rattle.ledger.specs.Walks.{Agrees}
use Rattle.ledger.proofs.Lists.Tests.{not_true_false}
use Rattle.ledger.proofs.Ledger.Bounds.{home_of_within}

-- CALC NEXT is what its list says, from the header round to it again
pub calc_agrees : (t : List ℕ) (l : Ledger) (p : ℕ) → Agrees (calc_next_of t l p) (64 * p) (l.calc p)
unfolding calc_next_of
calc_agrees t l p x e = refl

pub head_no_member : (t : List ℕ) (l : Ledger) → WellFormed t l → (p : ℕ) → elem (64 * p) (l.calc p) ≡ false
head_no_member t l w p = not_true_false _ (λ g. omega (arith, (w.placed _ (w.calc_own p (64 * p) g).0).on_a_line))

pub calc_within : (t : List ℕ) (l : Ledger) → Accepted t → WellFormed t l → (p x : ℕ) → elem x (l.calc p) ≡ true → (leb 1 p && leb p (pages t)) ≡ true
calc_within t l a w p x g =
    let o = w.calc_own p x g in
    let h = home_of_within t l a w x o.0 in
    rw (← o.2, le-leb 1 (home_of t l x) h.0) (le-leb (home_of t l x) (pages t) h.1)
