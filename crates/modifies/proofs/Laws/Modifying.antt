-- MODIFY.
use Prim.Native.Nat.{ℕ, suc, ◌+◌, ◌-◌, ◌<◌, ◌≤◌}
use mathlib.Core.Path.{◌≡◌, refl, sym}
use mathlib.Core.List.{List}
use native.Mathlib.Omega.{arith}
use borrow.Author.Tests.{eq-eqb, ne_eqb}
use lib.ListN.{length}
use Rattle.std.proofs.Common.{Option, Some, None}
use Rattle.ledger.specs.Numbers.{or_none}
use Rattle.ledger.proofs.Lists.Nones.{zero_of_none, value_of_some, some_not_zero}
use Rattle.model.specs.Reads.{place_in}
use Rattle.model.specs.Moves.{part_put}
use Rattle.change.proofs.Laws.Copies.{part_put_past}
use Rattle.act_model.specs.Modifying.{rejoined_in, rejoined_from, rejoined_all, data_put}

-- move_all
pub rejoin_first : (t f : List ℕ) (n : ℕ) (d : List ℕ) (x : ℕ) → rejoined_from t f n d x 0 16 ≡ rejoined_all t f n d x
unfolding rejoined_all
rejoin_first t f n d x = refl

module _ (t f : List ℕ) (n : ℕ) (d : List ℕ) (x j : ℕ) (y : List ℕ) (inv : rejoined_from t f n d x j (16 - j) ≡ y) where
  pub rejoin_next : (g : List ℕ) → j < 16 → rejoined_in t f n d x j ≡ g → rejoined_from t g n d x (j + 1) (16 - (j + 1)) ≡ y
  unfolding rejoined_from
  rejoin_next g h e = let k : 16 - j ≡ suc (16 - (j + 1)) = omega arith in rw (← e) (rw k at inv)

  pub rejoin_end : 16 ≤ j → y ≡ f
  unfolding rejoined_from
  rejoin_end h = let k : 16 - j ≡ 0 = omega arith in sym (rw k at inv)

-- put_data
module _ (f : List ℕ) (x : ℕ) (d : List ℕ) (r : Option ℕ) (er : r ≡ or_none (place_in f x)) where
  pub data_nowhere : r ≡ None → data_put f x d ≡ f
  unfolding data_put
  data_nowhere e = rw (eq-eqb (place_in f x) 0 (zero_of_none _ er e))

  module _ (at : ℕ) (e : r ≡ Some at) where
    pub data_there : (g : List ℕ) → part_put f (at + 5) d ≡ g → data_put f x d ≡ g
    unfolding data_put
    data_there g p = rw (ne_eqb (place_in f x) 0 (some_not_zero _ er e), ← value_of_some _ er e) p

    pub data_past : length f ≤ at → data_put f x d ≡ f
    data_past h = data_there f (part_put_past f (at + 5) d (omega arith))
