-- What is read in a file that is an image is what the ledger of the image says.
use Prim.Native.Nat.{ℕ, ◌*◌}
use mathlib.Core.Path.{◌≡◌, sym, ◌∙◌}
use mathlib.Core.Logic.{◌≢◌}
use mathlib.Core.Bool.{true}
use mathlib.Core.List.{List}
use native.Mathlib.Omega.{arith}
use Rattle.ledger.specs.Table.{Accepted}
use Rattle.ledger.specs.Pages.{kind_at, bytes_at, present, key_in}
use Rattle.ledger.specs.Image.{ledger_of, Imaged}
use Rattle.ledger.proofs.Image.Paged as paged
use Rattle.model.specs.Reads.{kind_in, data_in, place_in}
use Rattle.model.specs.Keys.{sort_key_in}
use Rattle.place_laws.proofs.Image.{image_kind, image_data, image_there, image_none, by_bytes}

module _ (t f : List ℕ) (r : ℕ → List ℕ) (h : ℕ → ℕ) (a : Accepted t) (i : Imaged t f r h) where
  -- a record's type and data, and its key in a chain
  pub read_kind : (x : ℕ) → kind_in f x ≡ kind_at (ledger_of t r h) x
  read_kind x = image_kind t f r h a i x ∙ sym (paged.image_kind t r h x)

  pub read_data : (x : ℕ) → data_in t f x ≡ bytes_at (ledger_of t r h) x
  read_data x = image_data t f r h a i x ∙ sym (paged.image_bytes t r h x)

  pub read_sort_key : (j x : ℕ) → sort_key_in t f j x ≡ key_in t (ledger_of t r h) j x
  unfolding sort_key_in key_in
  read_sort_key j x = rw (read_kind x, read_data x)

  -- a record has a place exactly where it is present
  pub there_place : (x : ℕ) → present (ledger_of t r h) x ≡ true → place_in f x ≢ 0
  there_place x e z = omega (arith, image_there t f r h a i x (paged.there_some t r h x e))

  pub place_there : (x : ℕ) → place_in f x ≢ 0 → present (ledger_of t r h) x ≡ true
  place_there x n = by_bytes (r x)
      (λ none. absurd (n (image_none t f r h a i x none)))
      (λ some. paged.some_there t r h x some)

  -- no record has line 0
  pub no_head_place : (p : ℕ) → place_in f (64 * p) ≡ 0
  no_head_place p = by_bytes (r (64 * p))
      (λ none. image_none t f r h a i (64 * p) none)
      (λ some. absurd (omega (arith, (i.paged.standing (64 * p) some).on_a_line)))
