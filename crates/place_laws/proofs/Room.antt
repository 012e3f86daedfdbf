-- What is read of a page's room in a file that is an image (`Imaged`): its free bytes, its line flags, its lowest free line.
use Prim.Native.Nat.{ℕ, zero, suc, ◌+◌, ◌*◌, ◌/◌, ◌%◌, ◌^◌, ◌≤◌, ◌<◌}
use mathlib.Core.Path.{◌≡◌, refl}
use mathlib.Core.Logic.{◌≢◌}
use mathlib.Core.Bool.{Bool}
use mathlib.Core.List.{List}
use native.Mathlib.Omega.{arith}
use native.Mathlib.Numerals.{add-one}
use lib.ListN.{length}
use lib.Dec.{eqb}
use borrow.Author.Tests.{eq-eqb, ne_eqb, eqb-true, eqb-false}
use Rattle.ledger.specs.Numbers.{digits, run, first_of}
use Rattle.ledger.specs.Table.{pages, Accepted}
use Rattle.ledger.specs.Pages.{code_of, header, page, used, free, flags}
use Rattle.ledger.specs.Bytes.{two_at, line_at, size_at, start_of, Formed, page_in}
use Rattle.ledger.specs.Image.{Imaged}
use Rattle.ledger.proofs.Lists.Tests.{by_cases}
use Rattle.ledger.proofs.Bytes.Pages.{free_number}
use Rattle.ledger.proofs.Bytes.Places.{start_first, start_next}
use Rattle.ledger.proofs.Bytes.Lookup.{size_there, line_there, line_other}
use Rattle.ledger.proofs.Bytes.Moves.{flags_small}
use Rattle.model.specs.Room.{flags_at, gap_from, first_gap}
use Rattle.model.specs.declared.Gap.{Gap}
use Rattle.place_laws.proofs.Image.{image_page}

-- whether a line of a page has no record
unfoldable pub line_free : (ℕ → List ℕ) → ℕ → ℕ → Bool
line_free r p k = eqb (length (r (code_of p k))) 0

-- a page's free bytes and line flags, read in its bytes
pub free_read : (r : ℕ → List ℕ) (h : ℕ → ℕ) (p : ℕ) → two_at (page r h p) 3 ≡ free r p
unfolding two_at
free_read r h p = free_number r h p

flags_bytes : (v : ℕ) → v < 2 ^ 64
    → (((v / 256 / 256 / 256 / 256 / 256 / 256 / 256 % 256 * 256 + v / 256 / 256 / 256 / 256 / 256 / 256 % 256) * 65536
    + (v / 256 / 256 / 256 / 256 / 256 % 256 * 256 + v / 256 / 256 / 256 / 256 % 256)) * 65536
    + (v / 256 / 256 / 256 % 256 * 256 + v / 256 / 256 % 256)) * 65536
    + (v / 256 % 256 * 256 + v % 256) ≡ v
flags_bytes v small = omega arith

pub flags_read : (r : ℕ → List ℕ) (h : ℕ → ℕ) (p : ℕ) → flags_at (page r h p) ≡ flags r p
unfolding flags_at two_at page header digits
flags_read r h p = flags_bytes (flags r p) (flags_small r p)

-- the walk to the lowest free line
module _ (g : List ℕ) (at k n : ℕ) where
  gap_on : line_at g at ≡ k → gap_from g at k (suc n) ≡ gap_from g (at + size_at g at) (k + 1) n
  unfolding gap_from
  gap_on e = rw (eq-eqb (line_at g at) k e)

  gap_here : line_at g at ≢ k → ◌≡◌ {A = Gap} (gap_from g at k (suc n)) (record { line = k; at = at })
  unfolding gap_from
  gap_here ne = rw (ne_eqb (line_at g at) k ne)

-- A page of formed records.
module _ (r : ℕ → List ℕ) (h : ℕ → ℕ) (p : ℕ) (fits : used r p ≤ 496)
    (formed : (x : ℕ) → 0 < length (r x) → Formed x (r x)) where
  gap_from_lem : (n k : ℕ) → k + n ≡ 64 → 1 ≤ k
      → ((gap_from (page r h p) (start_of r p k) k n).line ≡ first_of (line_free r p) (run k n))
      × (0 < (gap_from (page r h p) (start_of r p k) k n).line
      → (gap_from (page r h p) (start_of r p k) k n).at ≡ start_of r p (gap_from (page r h p) (start_of r p k) k n).line)
  unfolding first_of run
  gap_from_lem zero k e lo = unfold gap_from in (refl, λ some. absurd (omega arith))
  gap_from_lem (suc n) k e lo = by_cases (line_free r p k)
      (λ none.
      let z : length (r (code_of p k)) ≡ 0 = unfold line_free in eqb-true _ _ none in
      rw (gap_here (page r h p) (start_of r p k) k n (line_other r h p fits formed k lo (omega arith) z), none) (refl, λ some. refl))
      (λ some.
      let full : 0 < length (r (code_of p k)) = unfold line_free in omega (arith, eqb-false (length (r (code_of p k))) 0 some) in
      rw (
        gap_on (page r h p) (start_of r p k) k n (line_there r h p fits formed k lo (omega arith) full),
        some,
        size_there r h p fits formed k lo (omega arith) full,
        ← start_next r p k lo,
        add-one k,
      ) (gap_from_lem n (suc k) (omega arith) (omega arith)))

  pub gap_line : (first_gap (page r h p)).line ≡ first_of (line_free r p) (run 1 63)
  unfolding first_gap
  gap_line = rw (start_first r p) at (gap_from_lem 63 1 refl (omega arith)).0

  pub gap_at_lem : 0 < (first_gap (page r h p)).line → (first_gap (page r h p)).at ≡ start_of r p (first_gap (page r h p)).line
  unfolding first_gap
  gap_at_lem = rw (start_first r p) at (gap_from_lem 63 1 refl (omega arith)).1

module _ (t f : List ℕ) (r : ℕ → List ℕ) (h : ℕ → ℕ) (a : Accepted t) (i : Imaged t f r h) (p : ℕ) (lo : 1 ≤ p) (hi : p ≤ pages t) where
  pub image_page_in : page_in f p ≡ page r h p
  unfolding page_in
  image_page_in = rw (ne_eqb p 0 (λ z. omega arith)) (image_page t f r h a i p lo hi)

  -- its free bytes
  pub image_free : two_at (page_in f p) 3 ≡ free r p
  image_free = rw image_page_in (free_read r h p)

  -- its lowest line without a record, 0 where all have one, and where that line's record would start
  pub image_gap : (first_gap (page_in f p)).line ≡ first_of (λ k. eqb (length (r (code_of p k))) 0) (run 1 63)
  unfolding line_free
  image_gap = rw image_page_in (gap_line r h p (i.paged.room p) (λ x some. (i.paged.standing x some).head))

  pub image_gap_at : 0 < (first_gap (page_in f p)).line → (first_gap (page_in f p)).at ≡ start_of r p (first_gap (page_in f p)).line
  image_gap_at = rw image_page_in (gap_at_lem r h p (i.paged.room p) (λ x some. (i.paged.standing x some).head))
