-- A file with the records of a ledger and any links, as it is in the middle of a call: it is an image, and what is read in it.
use Prim.Native.Nat.{ℕ, ◌≤◌, ◌<◌}
use mathlib.Core.Path.{◌≡◌, refl, sym, ◌∙◌, ap}
use mathlib.Core.Logic.{◌≢◌}
use mathlib.Core.Bool.{true, not}
use mathlib.Core.List.{List}
use native.Mathlib.Omega.{arith}
use lib.ListN.{length}
use lib.Seq.{take-nil}
use lib.Dec.{eqb}
use borrow.Author.Tests.{ne_eqb}
use Rattle.ledger.specs.Table.{pages, chains, calculated, in_chain, linked_prior, Accepted}
use Rattle.ledger.specs.Pages.{code_of, record_size, Ledger, bytes_of, kind_at, bytes_at, present, home_of, next_of, prior_of, calc_next, head_next, used, bytes_with, file_with, record_bytes, layout, Placed, WellFormed}
use Rattle.ledger.specs.Bytes.{two_at}
use Rattle.ledger.specs.Image.{kind_read, data_read, next_read, prior_read, Paged, Imaged}
use Rattle.ledger.proofs.Lists.Tests.{by_cases, clash}
use Rattle.ledger.proofs.Lists.Digits.{part_two, part_three}
use Rattle.ledger.proofs.Bytes.Writes.{used_same, laid_same}
use Rattle.ledger.proofs.Ledger.Entries.{absent_none, absent_kind}
use Rattle.ledger.proofs.Ledger.Rows.{kind_within, size_least, code_listed, listed_small}
use Rattle.ledger.proofs.Ledger.Bounds.{next_small, prior_small, calc_next_small, head_next_small, home_of_within}
use Rattle.ledger.proofs.Ledger.Records.{absent_with, record_length, kind_part, data_part, calc_part, next_part, prior_part, formed_with, record_sized}
use Rattle.ledger.proofs.Image.Laid.{with_bytes}
use Rattle.model.specs.Reads.{place_in, kind_in, next_in, prior_in, calc_next_in, head_next_in, data_in}
use Rattle.place_laws.proofs.Pieces.{bytes_same}
use Rattle.place_laws.proofs.Image.{none_no_chain, image_there, image_kind, image_data, image_next, image_prior, image_calc_next, image_head}

-- what of WellFormed a file in the middle of a call keeps: its records stand where they may
pub record Held (t : List ℕ) (l : Ledger) : Type 0 where
  pub placed : (x : ℕ) → present l x ≡ true → Placed t l x
  pub room : (p : ℕ) → used (record_bytes t l) p ≤ 496

-- the links fit in three bytes
pub record Small (t : List ℕ) (l : Ledger) (nx pr : ℕ → ℕ → ℕ) (cn hd : ℕ → ℕ) : Type 0 where
  pub nexts : (j x : ℕ) → present l x ≡ true → nx j x < 16777216
  pub priors : (j x : ℕ) → present l x ≡ true → pr j x < 16777216
  pub calcs : (x : ℕ) → present l x ≡ true → cn x < 16777216
  pub heads : (p : ℕ) → 1 ≤ p → p ≤ pages t → hd p < 16777216

-- a well-formed ledger with its own links is such a file
pub layout_with : (t : List ℕ) (l : Ledger) → layout t l ≡ file_with t l (next_of t l) (prior_of t l) (calc_next t l) (head_next t l)
unfolding layout file_with record_bytes
layout_with t l = refl

pub own_held : (t : List ℕ) (l : Ledger) → WellFormed t l → Held t l
own_held t l w = record { placed = w.placed; room = w.room }

pub own_small : (t : List ℕ) (l : Ledger) → Accepted t → WellFormed t l → Small t l (next_of t l) (prior_of t l) (calc_next t l) (head_next t l)
own_small t l a w = record {
  nexts = next_small t l a w;
  priors = prior_small t l a w;
  calcs = λ x e. calc_next_small t l a w (home_of t l x) x (home_of_within t l a w x e).1;
  heads = λ p lo hi. head_next_small t l a w p hi;
}

-- a record in a chain is there
pub with_chain : (t : List ℕ) (l : Ledger) → Accepted t → (j x : ℕ) → j < chains t → in_chain t j (kind_at l x) ≡ true → present l x ≡ true
with_chain t l a j x lt c = by_cases (present l x)
    (λ e. e)
    (λ e. clash _ (rw (absent_kind (l.at x) e) at c) (none_no_chain t j a lt))

-- and three bytes hold its code
pub held_small : (t : List ℕ) (l : Ledger) → Accepted t → Held t l → (x : ℕ) → present l x ≡ true → x < 16777216
held_small t l a w x e = omega (arith, listed_small t x (code_listed t l x a (w.placed x e)), a.page_count.1)

-- A file is told by its records and by the links that they have.
pub with_same : (t : List ℕ) (l l' : Ledger) (nx nx' pr pr' : ℕ → ℕ → ℕ) (cn cn' hd hd' : ℕ → ℕ) → ((x : ℕ) → l.at x ≡ l'.at x)
    → ((j x : ℕ) → j < chains t → present l x ≡ true → in_chain t j (kind_at l x) ≡ true → nx j x ≡ nx' j x)
    → ((j x : ℕ) → j < chains t → present l x ≡ true → in_chain t j (kind_at l x) ≡ true → linked_prior t j ≡ 1 → pr j x ≡ pr' j x)
    → ((x : ℕ) → present l x ≡ true → calculated t (kind_at l x) ≡ true → cn x ≡ cn' x)
    → ((p : ℕ) → 1 ≤ p → p ≤ pages t → hd p ≡ hd' p)
    → file_with t l nx pr cn hd ≡ file_with t l' nx' pr' cn' hd'
unfolding file_with
with_same t l l' nx nx' pr pr' cn cn' hd hd' same next prior calc heads =
    laid_same (pages t) (bytes_with t l nx pr cn) (bytes_with t l' nx' pr' cn') hd hd'
    (λ x. bytes_same t l l' nx nx' pr pr' cn cn' x (same x) (calc x) (λ e j lt c. next j x lt e c) (λ e j lt c p. prior j x lt e c p)) heads

-- The bytes of a held ledger's records.
module _ (t : List ℕ) (l : Ledger) (nx pr : ℕ → ℕ → ℕ) (cn : ℕ → ℕ) (a : Accepted t) (w : Held t l) where
  pub bytes_length : (x : ℕ) → present l x ≡ true → length (bytes_with t l nx pr cn x) ≡ record_size t (kind_at l x)
  bytes_length x e = record_length t l nx pr cn x e (w.placed x e).full

  -- as long as with its own links
  pub with_length : (x : ℕ) → length (bytes_with t l nx pr cn x) ≡ length (record_bytes t l x)
  with_length x =
      by_cases (present l x) (λ e. rw e (bytes_length x e)) (λ e. rw (e, absent_with t l nx pr cn x e)) ∙ sym (record_sized t l x (λ e. (w.placed x e).full))

  pub with_room : (p : ℕ) → used (bytes_with t l nx pr cn) p ≤ 496
  with_room p = rw (used_same (record_bytes t l) (bytes_with t l nx pr cn) p (λ k lo hi. with_length (code_of p k))) (w.room p)

  pub bytes_some : (x : ℕ) → present l x ≡ true → 0 < length (bytes_with t l nx pr cn x)
  bytes_some x e = omega (arith, bytes_length x e, size_least t (kind_at l x))

  pub some_present : (x : ℕ) → 0 < length (bytes_with t l nx pr cn x) → present l x ≡ true
  some_present x some = by_cases (present l x) (λ e. e) (λ e. absurd (omega (arith, ap length (absent_with t l nx pr cn x e))))

  pub kind_read_lem : (x : ℕ) → kind_read (bytes_with t l nx pr cn x) ≡ kind_at l x
  kind_read_lem x = by_cases (present l x)
      (λ e. let p = w.placed x e in
      part_two (bytes_with t l nx pr cn x) 0 _ (kind_part t l nx pr cn x e p.full) (omega (arith, (kind_within t (kind_at l x) a p.typed).1)))
      (λ e. rw (absent_with t l nx pr cn x e, absent_kind (l.at x) e) (unfold two_at in refl))

  pub data_read_lem : (x : ℕ) → data_read t (bytes_with t l nx pr cn x) ≡ bytes_at l x
  data_read_lem x = by_cases (present l x)
      (λ e. rw (kind_read_lem x) (data_part t l nx pr cn x e (w.placed x e).full))
      (λ e. rw (absent_with t l nx pr cn x e, absent_none (l.at x) e, take-nil) (unfold bytes_of in refl))

  pub with_paged : Paged t (bytes_with t l nx pr cn)
  with_paged = record {
    standing = λ x some.
        let e = some_present x some in
        let p = w.placed x e in
        let k = kind_read_lem x in record {
          head = formed_with t l nx pr cn x a p e;
          typed = rw k p.typed;
          whole = rw k (bytes_length x e);
          low_page = rw k p.low_page;
          high_page = rw k p.high_page;
          on_a_line = p.on_a_line;
          bytes = (with_bytes t l nx pr cn x e p).small;
        };
    room = with_room;
  }

-- The file: an image, and what is read in it.
module _ (t : List ℕ) (l : Ledger) (nx pr : ℕ → ℕ → ℕ) (cn hd : ℕ → ℕ) (a : Accepted t) (w : Held t l) (z : Small t l nx pr cn hd) where
  pub with_imaged : Imaged t (file_with t l nx pr cn hd) (bytes_with t l nx pr cn) hd
  unfolding file_with
  with_imaged = record { bytes = refl; paged = with_paged t l nx pr cn a w; heads = z.heads }

  -- a present record has a place
  pub with_place : (x : ℕ) → present l x ≡ true → place_in (file_with t l nx pr cn hd) x ≢ 0
  with_place x e n = omega (arith, image_there t _ _ _ a with_imaged x (bytes_some t l nx pr cn a w x e))

  -- a record's type, 0 where there is none, and its data
  pub with_kind : (x : ℕ) → kind_in (file_with t l nx pr cn hd) x ≡ kind_at l x
  with_kind x = image_kind t _ _ _ a with_imaged x ∙ kind_read_lem t l nx pr cn a w x

  pub with_there : (x : ℕ) → not (eqb (kind_in (file_with t l nx pr cn hd) x) 0) ≡ present l x
  with_there x = by_cases (present l x)
      (λ e. rw (with_kind x, e, ne_eqb (kind_at l x) 0 (λ n. omega (arith, (kind_within t (kind_at l x) a (w.placed x e).typed).0))))
      (λ e. rw (with_kind x, e, absent_kind (l.at x) e))

  pub with_data : (x : ℕ) → data_in t (file_with t l nx pr cn hd) x ≡ bytes_at l x
  with_data x = image_data t _ _ _ a with_imaged x ∙ data_read_lem t l nx pr cn a w x

  -- its links
  pub with_next : (j x : ℕ) → j < chains t → in_chain t j (kind_at l x) ≡ true → next_in t (file_with t l nx pr cn hd) j x ≡ nx j x
  unfolding next_read
  with_next j x lt c =
      let k = kind_read_lem t l nx pr cn a w x in
      let e = with_chain t l a j x lt c in
      image_next t _ _ _ a with_imaged j x lt (rw k c)
      ∙ rw k (part_three _ _ _ (next_part t l nx pr cn x e (w.placed x e).full j lt c) (z.nexts j x e))

  pub with_prior : (j x : ℕ) → j < chains t → in_chain t j (kind_at l x) ≡ true → linked_prior t j ≡ 1 → prior_in t (file_with t l nx pr cn hd) j x ≡ pr j x
  unfolding prior_read
  with_prior j x lt c d =
      let k = kind_read_lem t l nx pr cn a w x in
      let e = with_chain t l a j x lt c in
      image_prior t _ _ _ a with_imaged j x lt (rw k c) d
      ∙ rw k (part_three _ _ _ (prior_part t l nx pr cn x e (w.placed x e).full j lt c d) (z.priors j x e))

  pub with_calc : (x : ℕ) → present l x ≡ true → calculated t (kind_at l x) ≡ true → calc_next_in t (file_with t l nx pr cn hd) x ≡ cn x
  with_calc x e c =
      let k = kind_read_lem t l nx pr cn a w x in
      image_calc_next t _ _ _ a with_imaged x (bytes_some t l nx pr cn a w x e) (rw k c)
      ∙ rw k (part_three _ _ _ (calc_part t l nx pr cn x e (w.placed x e).full c) (z.calcs x e))

  -- a page's CALC NEXT
  pub with_head : (p : ℕ) → 1 ≤ p → p ≤ pages t → head_next_in (file_with t l nx pr cn hd) p ≡ hd p
  with_head p lo hi = image_head t _ _ _ a with_imaged p lo hi
