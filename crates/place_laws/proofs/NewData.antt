-- Other data written in a record of a file with any links: it is the file of the ledger with them.
use Prim.Native.Nat.{ℕ, ◌+◌, ◌≤◌}
use mathlib.Core.Path.{◌≡◌, refl, sym, ◌∙◌}
use mathlib.Core.Logic.{◌≢◌}
use mathlib.Core.Bool.{true, cond}
use mathlib.Core.List.{List}
use mathlib.Core.Option.{some}
use native.Mathlib.Omega.{arith}
use lib.ListN.{length}
use lib.Dec.{eqb}
use borrow.Author.Tests.{ne_eqb}
use Rattle.ledger.specs.Numbers.{update}
use Rattle.ledger.specs.Table.{row, data_len, Accepted}
use Rattle.ledger.specs.Pages.{Ledger, kind_at, present, bytes_with, file_with}
use Rattle.ledger.proofs.Lists.Tests.{update_same, update_other}
use Rattle.ledger.proofs.Ledger.Rows.{size_least}
use Rattle.ledger.proofs.Keeps.Changes.{written_there, written_kind, written_bytes}
use Rattle.model.specs.Reads.{place_in}
use Rattle.model.specs.Moves.{part_put}
use Rattle.place_laws.proofs.Links.{image_data_put}
use Rattle.place_laws.proofs.Pieces.{data_bytes}
use Rattle.place_laws.proofs.With.{Held, Small, bytes_length, bytes_some, with_imaged, with_place}
use Rattle.place_laws.proofs.Written.{one_changed}

-- Ledger l' has data d in its record x, and else is l.
module _ (l l' : Ledger) (x : ℕ) (d : List ℕ)
    (at : l'.at ≡ update l.at x (some (record { kind = kind_at l x; bytes = d }))) where
  entry_new : l'.at x ≡ some (record { kind = kind_at l x; bytes = d })
  entry_new = rw at (update_same l.at x (some (record { kind = kind_at l x; bytes = d })))

  entry_old : (y : ℕ) → y ≢ x → l'.at y ≡ l.at y
  entry_old y ne = rw at (update_other l.at x (some (record { kind = kind_at l x; bytes = d })) y ne)

module _ (t : List ℕ) (l : Ledger) (nx pr : ℕ → ℕ → ℕ) (cn hd : ℕ → ℕ) (a : Accepted t) (w : Held t l) (z : Small t l nx pr cn hd)
    (x : ℕ) (d : List ℕ) (l' : Ledger) (there : present l x ≡ true) (size : length d ≡ data_len t (row t (kind_at l x)))
    (at : l'.at ≡ update l.at x (some (record { kind = kind_at l x; bytes = d }))) where
  pub data_put_lem :
      cond (eqb (place_in (file_with t l nx pr cn hd) x) 0) (file_with t l nx pr cn hd)
      (part_put (file_with t l nx pr cn hd) (place_in (file_with t l nx pr cn hd) x + 5) d)
      ≡ file_with t l' nx pr cn hd
  data_put_lem =
      let full = (w.placed x there).full in
      let new_at = entry_new l l' x d at in
      let b = written_bytes t l' x (kind_at l x) d new_at in
      let new = data_bytes t l nx pr cn x there full l' (written_there t l' x (kind_at l x) d new_at) (sym (written_kind t l' x (kind_at l x) d new_at)) (rw b (full ∙ sym size)) in
      let inside : 5 + length d ≤ length (bytes_with t l nx pr cn x) = omega (arith, bytes_length t l nx pr cn a w x there, size_least t (kind_at l x)) in
      rw (ne_eqb _ 0 (with_place t l nx pr cn hd a w z x there))
      (image_data_put t _ _ hd a (with_imaged t l nx pr cn hd a w z) x d (bytes_some t l nx pr cn a w x there) inside
      ∙ one_changed t l nx pr cn hd a w z l' nx pr cn x _ (rw b at new)
      (λ y ne. sym (entry_old l l' x d at y ne)) (λ i y ne. refl) (λ i y ne. refl) (λ y ne. refl))
