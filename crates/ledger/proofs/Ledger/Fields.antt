-- What the bytes of a sound file say: the fields of each record at its place, and the head of each page.
use Prim.Native.Nat.{ℕ, ◌+◌, ◌*◌, ◌-◌, ◌≤◌, ◌<◌}
use mathlib.Core.Path.{◌≡◌, ◌∙◌}
use mathlib.Core.Bool.{true}
use mathlib.Core.List.{List}
use native.Mathlib.Omega.{arith}
use native.Mathlib.Nat.{add-zero}
use lib.ListN.{length, take, drop}
use lib.Dec.{eqb}
use borrow.Author.Tests.{eq-eqb}
use lib.Seq.{take-length}
use Rattle.ledger.specs.Numbers.{part}
use Rattle.ledger.specs.Table.{pages, chains, calculated, in_chain, linked_prior, Accepted}
use Rattle.ledger.specs.Pages.{code_of, page_of, line_of, link_bytes, record_size, Ledger, kind_at, present, home_of, record_bytes, head_next, page, layout, WellFormed, Sound, calc_at, link_at, calc_next, next_of, prior_of}
use Rattle.ledger.specs.Bytes.{lookup, start_of, place_of, three_at, Fields}
use Rattle.ledger.proofs.Lists.Tests.{by_cases}
use Rattle.ledger.proofs.Lists.Runs.{sum_of_at}
use Rattle.ledger.proofs.Lists.Parts.{get_d_part, part_inside}
use Rattle.ledger.proofs.Lists.Digits.{part_two, part_three}
use Rattle.ledger.proofs.Bytes.Pages.{laid_length, laid_page, head_part}
use Rattle.ledger.proofs.Bytes.Places.{record_part, record_inside}
use Rattle.ledger.proofs.Bytes.Lookup.{lookup_found}
use Rattle.ledger.proofs.Ledger.Rows.{kind_within, size_least, size_small, placed_within}
use Rattle.ledger.proofs.Ledger.Bounds.{next_small, prior_small, calc_next_small, head_next_small, home_of_within}
use Rattle.ledger.proofs.Ledger.Records.{record_formed, bytes_formed, record_length, kind_part, size_part, line_byte, data_part, calc_part, next_part, prior_part}

-- the links stand inside the record
module _ (t : List ℕ) (n : ℕ) where
  pub calc_inside : calculated t n ≡ true → calc_at t n + 3 ≤ record_size t n
  unfolding record_size link_at
  calc_inside e = rw e (omega arith)

  pub link_inside : (j : ℕ) → j < chains t → link_at t n j + link_bytes t n j ≤ record_size t n
  unfolding record_size link_at
  link_inside j h =
      let z : j - 0 ≡ j = omega arith in
      let s = rw z at (sum_of_at (link_bytes t n) 0 (chains t) j (omega arith) (omega arith)) in
      omega arith

  next_bytes : (j : ℕ) → in_chain t j n ≡ true → 3 ≤ link_bytes t n j
  unfolding link_bytes
  next_bytes j e = by_cases (eqb (linked_prior t j) 1) (λ f. rw (e, f) (omega arith)) (λ f. rw (e, f) (omega arith))

  prior_bytes : (j : ℕ) → in_chain t j n ≡ true → linked_prior t j ≡ 1 → link_bytes t n j ≡ 6
  unfolding link_bytes
  prior_bytes j e f = rw (e, eq-eqb (linked_prior t j) 1 f)

-- Bytes that hold a record of a well-formed ledger say its fields.
module _ (t : List ℕ) (l : Ledger) (a : Accepted t) (w : WellFormed t l) (x : ℕ) (there : present l x ≡ true) where
  pub fields : (f : List ℕ) (s : ℕ) → take (length (record_bytes t l x)) (drop s f) ≡ record_bytes t l x → Fields t l x f s
  unfolding record_bytes
  fields f s e =
      let n = kind_at l x in
      let full = (w.placed x there).full in
      let typed = (w.placed x there).typed in
      let size : length (record_bytes t l x) ≡ record_size t n = record_length t l (next_of t l) (prior_of t l) (calc_next t l) x there full in
      let small = size_small t n a typed in
      let least = size_least t n in
      let inside : (o m : ℕ) → o + m ≤ record_size t n → take m (drop (s + o) f) ≡ take m (drop o (record_bytes t l x)) =
      λ o m h. part_inside f (record_bytes t l x) s (length (record_bytes t l x)) o m e (omega arith) in record {
        kind = part_two f s n (rw (add-zero s) at (inside 0 2 (omega arith) ∙ kind_part t l (next_of t l) (prior_of t l) (calc_next t l) x there full)) (omega (arith, (kind_within t n a typed).1));
        size = part_two f (s + 2) (record_size t n) (inside 2 2 (omega arith) ∙ size_part t l (next_of t l) (prior_of t l) (calc_next t l) x there full) (omega arith);
        line = get_d_part f (record_bytes t l x) s (length (record_bytes t l x)) 4 e (omega arith) ∙ line_byte t l (next_of t l) (prior_of t l) (calc_next t l) x there full;
        data_part = inside 5 _ least ∙ data_part t l (next_of t l) (prior_of t l) (calc_next t l) x there full;
        calc_next = λ c. part_three f (s + calc_at t n) _ (inside (calc_at t n) 3 (calc_inside t n c) ∙ calc_part t l (next_of t l) (prior_of t l) (calc_next t l) x there full c)
            (calc_next_small t l a w (home_of t l x) x (home_of_within t l a w x there).1);
        next = λ j h c. part_three f (s + link_at t n j) _
            (inside (link_at t n j) 3 (omega (arith, link_inside t n j h, next_bytes t n j c)) ∙ next_part t l (next_of t l) (prior_of t l) (calc_next t l) x there full j h c)
            (next_small t l a w j x there);
        prior = λ j h c d. part_three f (s + (link_at t n j + 3)) _
            (inside (link_at t n j + 3) 3 (omega (arith, link_inside t n j h, prior_bytes t n j c d)) ∙ prior_part t l (next_of t l) (prior_of t l) (calc_next t l) x there full j h c d)
            (prior_small t l a w j x there);
      }

-- A sound file.
module _ (t f : List ℕ) (l : Ledger) (a : Accepted t) (s : Sound t f l) where
  pub file_length : length f ≡ 512 * pages t
  unfolding layout
  file_length = rw s.bytes (laid_length (pages t) (record_bytes t l) (head_next t l) s.formed.room)

  pub file_page : (p : ℕ) → 1 ≤ p → p ≤ pages t → take 512 (drop (512 * (p - 1)) f) ≡ page (record_bytes t l) (head_next t l) p
  unfolding layout
  file_page p low high = rw s.bytes (laid_page (pages t) (record_bytes t l) (head_next t l) s.formed.room p low high)

  pub file_record : (x : ℕ) → present l x ≡ true → take (length (record_bytes t l x)) (drop (place_of t l x) f) ≡ record_bytes t l x
  unfolding place_of
  file_record x h =
      let r = record_bytes t l in
      let p = s.formed.placed x h in
      let q = placed_within t l x a p in
      let low : 1 ≤ line_of x = p.on_a_line in
      let e : code_of (page_of x) (line_of x) ≡ x = omega arith in
      let inside = record_inside r (page_of x) (line_of x) low (omega arith) (s.formed.room (page_of x)) in
      part_inside f (page r (head_next t l) (page_of x)) (512 * (page_of x - 1)) 512 (start_of r (page_of x) (line_of x)) (length (r x))
      (file_page (page_of x) q.0 q.1) (rw e at inside)
      ∙ rw e at (record_part r (head_next t l) (page_of x) (line_of x) low (omega arith))

  pub file_fields : (x : ℕ) → present l x ≡ true → Fields t l x f (place_of t l x)
  file_fields x h = fields t l a s.formed x h f (place_of t l x) (file_record x h)

  pub file_head : (p : ℕ) → 1 ≤ p → p ≤ pages t → three_at f (512 * (p - 1) + 13) ≡ head_next t l p
  file_head p low high =
      part_three f (512 * (p - 1) + 13) _
      (part_inside f _ (512 * (p - 1)) 512 13 3 (file_page p low high) (omega arith) ∙ head_part (record_bytes t l) (head_next t l) p)
      (head_next_small t l a s.formed p high)

  -- a record is looked up where it stands, and no record nowhere
  pub file_lookup : (x : ℕ) → present l x ≡ true
      → lookup 508 63 (part (512 * (page_of x - 1)) 512 f) 16 (line_of x) ≡ start_of (record_bytes t l) (page_of x) (line_of x)
  file_lookup x h =
      let p = s.formed.placed x h in
      let q = placed_within t l x a p in
      let e : code_of (page_of x) (line_of x) ≡ x = omega arith in
      let some : 0 < length (record_bytes t l (code_of (page_of x) (line_of x))) = rw e (omega (arith, (record_formed t l a s.formed x h).long)) in
      rw (file_page (page_of x) q.0 q.1)
      (lookup_found (record_bytes t l) (head_next t l) (page_of x) (s.formed.room (page_of x)) (bytes_formed t l a s.formed) 508 (omega arith)
      (line_of x) 63 (omega arith) p.on_a_line (omega arith) some)

-- a record's own bytes say them
pub own_fields : (t : List ℕ) (l : Ledger) → Accepted t → WellFormed t l → (x : ℕ) → present l x ≡ true → Fields t l x (record_bytes t l x) 0
own_fields t l a w x e = fields t l a w x e (record_bytes t l x) 0 (take-length (record_bytes t l x))
