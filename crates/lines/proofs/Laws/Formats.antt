-- Words taken out of a frame one by one.
use Prim.Native.Nat.{ℕ, suc, ◌+◌, ◌-◌, ◌≤◌, ◌<◌}
use native.Mathlib.Omega.{arith}
use mathlib.Core.Path.{◌≡◌, sym}
use mathlib.Core.List.{List}
use lib.ListN.{length, set}
use Rattle.line_model.specs.Formats.{fill_from, filled, word_in, words_in}

pub words_first : (frame ws : List ℕ) → fill_from (word_in frame) ws 0 (length ws - 0) ≡ words_in frame ws
unfolding words_in filled
words_first frame ws = let z : length ws - 0 ≡ length ws = omega arith in rw z

module _ (g : ℕ → ℕ) (ws : List ℕ) (i m : ℕ) (x : List ℕ) (inv : fill_from g ws i (m - i) ≡ x) where
  pub fill_end : m ≤ i → x ≡ ws
  unfolding fill_from
  fill_end h = let e : m - i ≡ 0 = omega arith in sym (rw e at inv)

  pub fill_next : (v : ℕ) → i < m → v ≡ g i → fill_from g (set ws i v) (i + 1) (m - (i + 1)) ≡ x
  unfolding fill_from
  fill_next v h ev = let e : m - i ≡ suc (m - (i + 1)) = omega arith in rw ev (rw e at inv)
