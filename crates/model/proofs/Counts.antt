-- A page's counts written are the ledger's fields, and sums that wrap are plain where they fit.
use Prim.Native.Nat.{ℕ, ◌+◌, ◌-◌, ◌/◌, ◌%◌, ◌≤◌, ◌<◌}
use mathlib.Core.Path.{◌≡◌, ◌∙◌}
use mathlib.Core.List.{List, [], ◌∷◌, append_assoc}
use native.Mathlib.Omega.{arith}
use native.Mathlib.Nat.{add-mod_right, mod-eq_of_lt}
use lib.ListN.{length}
use lib.Seq.{sets-eq}
use Rattle.ledger.specs.Numbers.{digits}
use Rattle.ledger.specs.Bytes.{fielded}
use Rattle.model.specs.Moves.{two_put, flags_put, counts_put, less_by}

pub less_by_lem : (w a b : ℕ) → b ≤ a → a < w → less_by w a b ≡ a - b
unfolding less_by
less_by_lem w a b h k =
    let e : a + (w - b) ≡ a - b + w = omega arith in
    let small : a - b < w = omega arith in
    rw (e, add-mod_right, mod-eq_of_lt small)

-- two bytes at a time are the same bytes
by_two : (v : ℕ) → v / 65536 ≡ v / 256 / 256
by_two v = omega arith

high_byte : (v : ℕ) → v % 65536 / 256 % 256 ≡ v / 256 % 256
high_byte v = omega arith

low_byte : (v : ℕ) → v % 65536 % 256 ≡ v % 256
low_byte v = omega arith

pub counts_put_lem : (f : List ℕ) (free flags : ℕ) → 13 ≤ length f → counts_put f free flags ≡ fielded f free flags
unfolding counts_put flags_put two_put fielded digits
counts_put_lem f free flags h =
    let bytes : List ℕ = free / 256 % 256 ∷ free % 256
    ∷ flags / 65536 / 65536 / 65536 / 256 % 256 ∷ flags / 65536 / 65536 / 65536 % 256
    ∷ flags / 65536 / 65536 % 65536 / 256 % 256 ∷ flags / 65536 / 65536 % 65536 % 256
    ∷ flags / 65536 % 65536 / 256 % 256 ∷ flags / 65536 % 65536 % 256
    ∷ flags % 65536 / 256 % 256 ∷ flags % 65536 % 256 ∷ [] in
    sets-eq bytes f 3 h ∙ simp (high_byte, low_byte, by_two, append_assoc)
