-- An image, the bytes of each record and the head of each page: the ledger read off it, and when its records stand as the table says.
use Prim.Native.Nat.{ℕ, ◌+◌, ◌*◌, ◌≤◌, ◌<◌}
use mathlib.Core.Path.{◌≡◌, refl, sym, ◌∙◌}
use mathlib.Core.Bool.{true, false, ◌&&◌}
use mathlib.Core.List.{List, [], ◌∷◌}
use native.Mathlib.Omega.{arith}
use lib.ListN.{length, drop, length-drop}
use lib.Seq.{take-nil, length-take-le}
use lib.Dec.{ltb, leb}
use borrow.Author.Tests.{ltb-true, lt-ltb, le-leb}
use Rattle.ledger.specs.Numbers.{elem}
use Rattle.ledger.specs.Table.{pages, chains, row, data_len, is_master, is_detail, Accepted}
use Rattle.ledger.specs.Pages.{kind_of, bytes_of, is_some, kind_at, bytes_at, present, codes, home_of, Placed}
use Rattle.ledger.specs.Bytes.{two_at}
use Rattle.ledger.specs.Image.{kind_read, data_read, entry_read, detail_read, master_read, ring_read, home_read, calc_read, ledger_of, Paged}
use Rattle.ledger.proofs.Lists.Parts.{part_bytes}
use Rattle.ledger.proofs.Ledger.Rows.{home_within, size_least, code_listed}

-- the entry of bytes
module _ (t : List ℕ) where
  pub entry_kind : (b : List ℕ) → kind_of (entry_read t b) ≡ kind_read b
  unfolding entry_read kind_of two_at
  entry_kind [] = refl
  entry_kind (b ∷ bs) = refl

  pub entry_bytes : (b : List ℕ) → bytes_of (entry_read t b) ≡ data_read t b
  unfolding entry_read bytes_of
  entry_bytes [] = rw take-nil
  entry_bytes (b ∷ bs) = refl

  pub entry_there : (b : List ℕ) → is_some (entry_read t b) ≡ ltb 0 (length b)
  unfolding entry_read is_some
  entry_there [] = refl
  entry_there (b ∷ bs) = sym (lt-ltb 0 (length (b ∷ bs)) (omega arith))

-- what the ledger of an image has at a code
module _ (t : List ℕ) (r : ℕ → List ℕ) (h : ℕ → ℕ) where
  pub image_kind : (x : ℕ) → kind_at (ledger_of t r h) x ≡ kind_read (r x)
  unfolding ledger_of
  image_kind x = entry_kind t (r x)

  pub image_bytes : (x : ℕ) → bytes_at (ledger_of t r h) x ≡ data_read t (r x)
  unfolding ledger_of
  image_bytes x = entry_bytes t (r x)

  pub image_there : (x : ℕ) → present (ledger_of t r h) x ≡ ltb 0 (length (r x))
  unfolding ledger_of
  image_there x = entry_there t (r x)

  pub image_master : (j x : ℕ) → is_master t j (kind_at (ledger_of t r h) x) ≡ master_read t r j x
  unfolding master_read
  image_master j x = rw (image_kind x)

  pub image_detail : (j x : ℕ) → is_detail t j (kind_at (ledger_of t r h) x) ≡ detail_read t r j x
  unfolding detail_read
  image_detail j x = rw (image_kind x)

  pub image_home : (x : ℕ) → home_of t (ledger_of t r h) x ≡ home_read t (r x)
  unfolding home_of home_read
  image_home x = rw (image_kind x, image_bytes x)

  pub there_some : (x : ℕ) → present (ledger_of t r h) x ≡ true → 0 < length (r x)
  there_some x e = ltb-true _ _ (sym (image_there x) ∙ e)

  pub some_there : (x : ℕ) → 0 < length (r x) → present (ledger_of t r h) x ≡ true
  some_there x e = image_there x ∙ lt-ltb _ _ e

  pub image_ring : (j m : ℕ) → j < chains t → (ledger_of t r h).ring j m ≡ ring_read t r j m
  unfolding ledger_of
  image_ring j m lt = rw (lt-ltb j (chains t) lt)

  pub image_ring_out : (j m : ℕ) → ltb j (chains t) ≡ false → (ledger_of t r h).ring j m ≡ []
  unfolding ledger_of
  image_ring_out j m e = rw e

  pub image_calc : (p : ℕ) → 1 ≤ p → p ≤ pages t → (ledger_of t r h).calc p ≡ calc_read t r h p (64 * p)
  unfolding ledger_of
  image_calc p lo hi = rw (le-leb 1 p lo, le-leb p (pages t) hi)

  pub image_calc_out : (p : ℕ) → (leb 1 p && leb p (pages t)) ≡ false → (ledger_of t r h).calc p ≡ []
  unfolding ledger_of
  image_calc_out p e = rw e

  -- records that stand as the table says are placed so
  pub image_placed : Paged t r → (x : ℕ) → present (ledger_of t r h) x ≡ true → Placed t (ledger_of t r h) x
  image_placed g x e =
      let s = g.standing x (there_some x e) in
      let fits = size_least t (kind_read (r x)) in
      let all : 5 + data_len t (row t (kind_read (r x))) ≤ length (r x) = omega (arith, s.whole) in record {
        typed = rw (image_kind x) s.typed;
        low_page = rw (image_kind x) s.low_page;
        high_page = rw (image_kind x) s.high_page;
        on_a_line = s.on_a_line;
        full = rw (image_bytes x, image_kind x) (length-take-le _ (drop 5 (r x)) (rw length-drop (omega arith)));
        bytes = λ i. rw (image_bytes x) (part_bytes (r x) 5 (data_len t (row t (kind_read (r x)))) s.bytes i);
      }

-- its home is a page of the file
pub home_bounds : (t : List ℕ) (r : ℕ → List ℕ) → Accepted t → Paged t r → (x : ℕ) → 0 < length (r x) → (1 ≤ home_read t (r x)) × (home_read t (r x) ≤ pages t)
unfolding home_read
home_bounds t r a g x full = home_within t (kind_read (r x)) _ a (g.standing x full).typed

-- a record's code is one of the file's
pub standing_listed : (t : List ℕ) (r : ℕ → List ℕ) → Accepted t → Paged t r → (x : ℕ) → 0 < length (r x) → elem x (codes t) ≡ true
standing_listed t r a g x full =
    let there = some_there t r (λ p. 0) x full in
    code_listed t (ledger_of t r (λ p. 0)) x a (image_placed t r (λ p. 0) g x there)
