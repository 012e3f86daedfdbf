-- Tests of the chains in which a type is detail.
use Prim.Native.Nat.{ℕ}
use mathlib.Core.Path.{◌≡◌, refl}
use mathlib.Core.Bool.{Bool, ◌&&◌}
use mathlib.Core.List.{List, [], ◌∷◌}
use Rattle.ledger.specs.Numbers.{keep, any, run}
use Rattle.ledger.specs.Table.{chains, is_detail}
use Rattle.ledger.specs.Calls.{as_detail}
use Rattle.ledger.proofs.Lists.Tests.{by_cases}

any_keep : (q p : ℕ → Bool) (xs : List ℕ) → any (λ j. q j && p j) xs ≡ any p (keep q xs)
unfolding any keep
any_keep q p [] = refl
any_keep q p (x ∷ xs) = by_cases (q x) (λ e. rw (e, any_keep q p xs)) (λ e. rw e (any_keep q p xs))

-- lacks_current and any_twin
pub any_detail : (t : List ℕ) (n c : ℕ) (p : ℕ → Bool) (r : Bool) → c ≡ chains t → r ≡ any (λ j. is_detail t j n && p j) (run 0 c) → r ≡ any p (as_detail t n)
unfolding as_detail
any_detail t n c p r ec er = rw (← any_keep (λ j. is_detail t j n) p (run 0 (chains t)), ← ec) er
