-- A journal walked: the turns of the walk.
use Prim.Native.Nat.{ℕ, ◌+◌, ◌≤◌, ◌<◌}
use mathlib.Core.Path.{◌≡◌, sym, ◌∙◌}
use mathlib.Core.List.{List}
use native.Mathlib.Numerals.{add-one}
use native.Mathlib.Omega.{arith}
use Rattle.ledger.specs.Rules.{between}
use Rattle.ledger.specs.Player.{digit_value}
use lib.ListN.{length, get_or, drop, drop_of_length-le, get_or-eq_default}
use lib.Seq.{drop-cons}
use Rattle.restore_model.specs.declared.Walk.{Walk}
use Rattle.restore_model.specs.Walks.{hex_at, byte_read, walk_from}

-- hex_at
pub hex_past : (j : List ℕ) (i : ℕ) → length j ≤ i → 0 ≡ hex_at j i
unfolding hex_at digit_value between
hex_past j i h = let g : length j ≤ i + 1 = omega arith in rw (get_or-eq_default j 0 h, get_or-eq_default j 0 g)

-- walk
module _ (n : ℕ) (j : List ℕ) (i : ℕ) (w x : Walk) (inv : walk_from n j i (drop i j) w ≡ x) where
  pub walk_end : length j ≤ i → w ≡ x
  unfolding walk_from
  walk_end h = sym (rw (drop_of_length-le j h)) ∙ inv

  pub walk_next : (r : Walk) → i < length j → r ≡ byte_read n j w (i + 1) (get_or j i 0) → walk_from n j (i + 1) (drop (i + 1) j) r ≡ x
  unfolding walk_from
  walk_next r h e = rw e (rw (drop-cons j i 0 h, ← add-one i) at inv)
