-- Tests in the order of their refusals: as the turn of a call, and as the number that is 0 where none refuses.
use Prim.Native.Nat.{ℕ}
use mathlib.Core.Path.{◌≡◌, refl}
use mathlib.Core.Bool.{Bool, true, false, cond}
use lib.Dec.{eqb}
use borrow.Author.Tests.{eq-eqb}
use Rattle.ledger.specs.Calls.{Turn, refuse, unless}
use Rattle.ledger.proofs.Lists.Tests.{clash}

-- one test, then the others: the ledger's and the file's say the same, and the later ones need to do so only where it passes
pub unless_number : (b c : Bool) (n k : ℕ) (r d : Turn) → eqb n 0 ≡ false → b ≡ c → (b ≡ false → r ≡ cond (eqb k 0) d (refuse k))
    → unless b n r ≡ cond (eqb (cond c n k) 0) d (refuse (cond c n k))
unfolding unless
unless_number true c n k r d some e rest = rw (← e, some)
unless_number false c n k r d some e rest = rw (← e) (rest refl)

-- where none refuses, the first does not, and none of the others
pub number_clean : (b : Bool) (n k : ℕ) → eqb n 0 ≡ false → cond b n k ≡ 0 → (b ≡ false) × (k ≡ 0)
number_clean true n k some e = clash _ (eq-eqb n 0 e) some
number_clean false n k some e = (refl, e)
