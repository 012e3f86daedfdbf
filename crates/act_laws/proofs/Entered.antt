-- STORE's record put into a sound file, its links 0: the file with the records of the ledger that STORE leaves.
use Prim.Native.Nat.{ℕ, ◌%◌, ◌<◌}
use mathlib.Core.Path.{◌≡◌, sym, ◌∙◌}
use mathlib.Core.Logic.{◌≢◌}
use mathlib.Core.Bool.{true}
use mathlib.Core.List.{List}
use native.Mathlib.Omega.{arith}
use lib.ListN.{length, get_or}
use Rattle.ledger.specs.declared.Currency.{Currency}
use Rattle.ledger.specs.Numbers.{update}
use Rattle.ledger.specs.Table.{row, data_len, defined, Accepted}
use Rattle.ledger.specs.Pages.{code_of, page_of, line_of, record_size, Ledger, kind_at, present, next_of, prior_of, calc_next, head_next, file_with, record_bytes, Placed, Sound}
use Rattle.ledger.specs.Image.{Imaged}
use Rattle.ledger.specs.Calls.{free_line, stored}
use Rattle.ledger.proofs.Lists.Tests.{same_or_not, update_same, update_other}
use Rattle.ledger.proofs.Bytes.Writes.{used_same}
use Rattle.ledger.proofs.Ledger.Entries.{placed_as}
use Rattle.ledger.proofs.Ledger.Records.{record_sized}
use Rattle.ledger.proofs.Ledger.Rows.{range_within, Within, size_least, size_small}
use Rattle.ledger.proofs.Keeps.Changes.{written_there, written_kind, written_bytes, written_placed}
use Rattle.ledger.proofs.Keeps.Placing.{Taking}
use Rattle.ledger.proofs.Keeps.Stored.{stored_at, stored_at_else}
use Rattle.ledger.specs.Bytes.{page_in}
use Rattle.model.specs.Room.{first_gap}
use Rattle.model.specs.Moves.{put_in}
use Rattle.ledger.proofs.Image.Images.{sound_imaged}
use Rattle.place_laws.proofs.Made.{record_made, made_length, made_standing, made_with}
use Rattle.place_laws.proofs.Moves.{record_in_image}
use Rattle.place_laws.proofs.With.{Held, Small, own_held, own_small}
use Rattle.place_laws.proofs.Written.{one_changed}
use Rattle.act_laws.proofs.Places.{sound_line}

-- a record of a type, with all its data, has a place: a page of the type's range with the room for it, and its lowest free line
pub record Fitting (t : List ℕ) (l : Ledger) (n : ℕ) (d : List ℕ) (p k : ℕ) : Type 0 where
  pub typed : defined t n ≡ true
  pub full : length d ≡ data_len t (row t n)
  pub small : (i : ℕ) → get_or d i 0 < 256
  pub within : Within t n p
  pub taking : Taking t l n p k
  pub lowest : free_line l p ≡ k

-- links with 0 at a code
unfoldable pub cleared : (ℕ → ℕ → ℕ) → ℕ → ℕ → ℕ → ℕ
cleared g x j = update (g j) x 0

module _ (t f : List ℕ) (l : Ledger) (a : Accepted t) (s : Sound t f l) (cur : Currency) (n : ℕ) (d : List ℕ) (p k : ℕ) (g : Fitting t l n d p k) where
  abbrev x : ℕ
  x = code_of p k

  abbrev after : Ledger
  after = stored t l cur n d x

  -- the ledger's records: the new one, and the others as they were
  pub new_kind : kind_at after x ≡ n
  new_kind = written_kind t after x n d (stored_at t l cur n d x)

  pub new_there : present after x ≡ true
  new_there = written_there t after x n d (stored_at t l cur n d x)

  on_page_lem : page_of x ≡ p
  on_page_lem = let u = g.taking.last_line in omega arith

  was_there : (y : ℕ) → y ≢ x → present after y ≡ true → present l y ≡ true
  was_there y ne e = rw (stored_at_else t l cur n d x y ne) at e

  new_placed : Placed t after x
  new_placed =
      let line = g.taking.first_line in
      let last = g.taking.last_line in
      written_placed t after x n d (stored_at t l cur n d x) g.typed (rw on_page_lem g.within.0) (rw on_page_lem g.within.1) (omega arith)
      g.full g.small

  all_placed : (y : ℕ) → present after y ≡ true → Placed t after y
  all_placed y e = same_or_not y x
      (λ i. rw i new_placed)
      (λ ne. placed_as t l after y (stored_at_else t l cur n d x y ne) (s.formed.placed y (was_there y ne e)))

  -- the new record's bytes, put into its page's gap
  abbrev made : List ℕ
  made = record_made n (record_size t n) k d

  abbrev put : ℕ → List ℕ
  put = update (record_bytes t l) x made

  put_image : Imaged t (put_in f p (first_gap (page_in f p)) n (record_size t n) d) put (head_next t l)
  put_image =
      let (lo, hi) = range_within t n p a g.typed g.within in
      let line : (first_gap (page_in f p)).line ≡ k = sound_line t f l a s p lo hi ∙ g.lowest in
      record_in_image t f _ _ a (sound_imaged t f l a s) p k n d (record_size t n) lo hi g.taking.first_line g.taking.last_line line
      (omega (arith, size_least t n, g.full)) g.taking.room
      (made_standing t p k n d a g.typed g.within.0 g.within.1 g.taking.first_line g.taking.last_line g.full g.small)

  put_length : (y : ℕ) → length (record_bytes t after y) ≡ length (put y)
  put_length y = same_or_not y x
      (λ i.
      let long : length made ≡ record_size t n = made_length n (record_size t n) k d (omega (arith, size_least t n, g.full)) in
      rw (i, update_same (record_bytes t l) x made, long, record_sized t after x (λ e. new_placed.full), new_there, new_kind))
      (λ ne.
      rw (update_other (record_bytes t l) x made y ne, record_sized t after y (λ e. (all_placed y e).full), stored_at_else t l cur n d x y ne)
      (sym (record_sized t l y (λ e. (s.formed.placed y e).full))))

  pub after_held : Held t after
  after_held = record {
    placed = all_placed;
    room = λ q. rw (used_same put (record_bytes t after) q (λ j lo hi. put_length (code_of q j))) (put_image.paged.room q);
  }

  -- its links are 0, the others those of the file before
  zero_small : (h : ℕ → ℕ) → ((y : ℕ) → present l y ≡ true → h y < 16777216) → (y : ℕ) → present after y ≡ true → update h x 0 y < 16777216
  zero_small h old y e = same_or_not y x
      (λ i. rw (i, update_same h x 0) (omega arith))
      (λ ne. rw (update_other h x 0 y ne) (old y (was_there y ne e)))

  pub after_small : Small t after (cleared (next_of t l) x) (cleared (prior_of t l) x) (update (calc_next t l) x 0) (head_next t l)
  unfolding cleared
  after_small =
      let z = own_small t l a s.formed in
      record {
        nexts = λ j. zero_small (next_of t l j) (z.nexts j);
        priors = λ j. zero_small (prior_of t l j) (z.priors j);
        calcs = zero_small (calc_next t l) z.calcs;
        heads = z.heads;
      }

  pub record_entered : put_in f p (first_gap (page_in f p)) n (record_size t n % 65536) d
      ≡ file_with t after (cleared (next_of t l) x) (cleared (prior_of t l) x) (update (calc_next t l) x 0) (head_next t l)
  unfolding record_bytes cleared
  record_entered =
      let size : record_size t n % 65536 ≡ record_size t n = omega (arith, size_small t n a g.typed) in
      let line : line_of x ≡ k = omega (arith, g.taking.last_line) in
      let new = made_with t after (cleared (next_of t l) x) (cleared (prior_of t l) x) (update (calc_next t l) x 0) x
      (λ j. update_same (next_of t l j) x 0) (λ j. update_same (prior_of t l j) x 0) (update_same (calc_next t l) x 0) new_there new_placed.full in
      rw size
      (put_image.bytes
      ∙ one_changed t l (next_of t l) (prior_of t l) (calc_next t l) (head_next t l) a (own_held t l s.formed) (own_small t l a s.formed)
      after (cleared (next_of t l) x) (cleared (prior_of t l) x) (update (calc_next t l) x 0) x made
      (sym (rw (new_kind, written_bytes t after x n d (stored_at t l cur n d x), line) at new))
      (λ y ne. sym (stored_at_else t l cur n d x y ne))
      (λ j y ne. sym (update_other (next_of t l j) x 0 y ne))
      (λ j y ne. sym (update_other (prior_of t l j) x 0 y ne))
      (λ y ne. sym (update_other (calc_next t l) x 0 y ne)))
