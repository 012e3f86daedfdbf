-- Words written by place.
use Rattle.std.proofs.Common.{◌≡◌, refl, ℕ, suc, ◌+◌, ◌/◌, ◌%◌, ◌^◌, ◌≤◌, List, [], ◌∷◌, length, ◌∙◌, arith, length-set}
use lib.Seq.{set_out}
use Rattle.model.specs.Moves.{two_put, part_put}
pub use Rattle.page.proofs.Laws.Writes.{part_put_past}

-- past the end nothing is written
pub two_put_past : (f : List ℕ) (i v : ℕ) → length f ≤ i → two_put f i v ≡ f
unfolding two_put
two_put_past f i v h = set_out _ (i + 1) _ (simp length-set (omega arith)) ∙ set_out f i _ h

-- two bytes put one by one are a part put
pub two_put-part : (f d : List ℕ) (i v : ℕ) → d ≡ v / 256 ^ 1 % 256 ∷ v % 256 ∷ [] → two_put f i v ≡ part_put f i d
unfolding two_put part_put
two_put-part f d i v e =
    let a : v / 256 % 256 ≡ v / 256 ^ 1 % 256 = omega arith in
    let j : i + 1 ≡ suc i = omega arith in
    rw (e, a, j) refl
