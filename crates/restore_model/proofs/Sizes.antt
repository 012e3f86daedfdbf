-- How many pages a file has.
use Prim.Native.Nat.{ℕ, ◌*◌, ◌/◌, ◌%◌}
use mathlib.Core.Path.{◌≡◌}
use mathlib.Core.Bool.{◌&&◌}
use mathlib.Core.List.{List}
use native.Mathlib.Omega.{arith}
use lib.ListN.{length}
use lib.Dec.{eqb, leb}
use borrow.Author.Tests.{eqb-true, le-leb, leb-true}
use Rattle.std.proofs.Common.{Option, Some, None}
use Rattle.ledger.specs.Rules.{between}
use Rattle.ledger.proofs.Lists.Tests.{by_cases, both}
use Rattle.restore_model.specs.Texts.{pages_in}
use Rattle.ledger.specs.Journal.Promises.{Paged}

pub paged_pages : (n : ℕ) (f : List ℕ) → Paged n f → pages_in (length f) ≡ Some n
unfolding pages_in between
paged_pages n f s =
    let a : 512 * n % 512 ≡ 0 = omega arith in
    let b : 512 * n / 512 ≡ n = omega arith in
    rw (s.size, a, b, le-leb 1 n s.some, le-leb n 128 s.few)

pub pages_paged : (f : List ℕ) (n : ℕ) → pages_in (length f) ≡ Some n → Paged n f
unfolding pages_in between
pages_paged f n h = by_cases (eqb (length f % 512) 0 && (leb 1 (length f / 512) && leb (length f / 512) 128))
    (λ e.
    let (z, range) = both (eqb (length f % 512) 0) (leb 1 (length f / 512) && leb (length f / 512) 128) e in
    let (low, high) = both (leb 1 (length f / 512)) (leb (length f / 512) 128) range in
    let whole = eqb-true (length f % 512) 0 z in
    let some = leb-true 1 (length f / 512) low in
    let few = leb-true (length f / 512) 128 high in
    let found : Some (length f / 512) ≡ Some n = rw e at h in
    let is : length f / 512 ≡ n = cc in
    record { some = omega arith; few = omega arith; size = omega arith })
    (λ e. absurd (let none : ◌≡◌ {A = Option ℕ} None (Some n) = rw e at h in let z : ◌≡◌ {A = ℕ} 0 1 = cc in omega arith))
