-- What is read in a file that is an image (`Imaged`): each record where it stands, its type, data and links, and each page's CALC NEXT.
use Prim.Native.Nat.{ℕ, ◌+◌, ◌*◌, ◌≤◌, ◌<◌}
use mathlib.Core.Path.{◌≡◌, refl, ◌∙◌}
use mathlib.Core.Bool.{true, false}
use mathlib.Core.List.{List, [], ◌∷◌}
use native.Mathlib.Omega.{arith}
use native.Mathlib.Nat.{add-zero, add_assoc}
use lib.ListN.{length}
use lib.Seq.{take-nil}
use lib.Dec.{eqb, ltb}
use borrow.Author.Tests.{eq-eqb, ne_eqb, eqb-false, le-ltb, ltb-false}
use Rattle.ledger.specs.Numbers.{part}
use Rattle.ledger.specs.Table.{pages, chains, row, data_len, calculated, in_chain, linked_prior, Accepted}
use Rattle.ledger.specs.Pages.{code_of, page_of, line_of, calc_at, link_at, link_bytes, record_size, page}
use Rattle.ledger.specs.Bytes.{two_at, three_at, start_of, Formed, page_start}
use Rattle.ledger.specs.Image.{kind_read, data_read, next_read, prior_read, Imaged}
use Rattle.ledger.proofs.Lists.Tests.{by_cases, clash}
use Rattle.ledger.proofs.Lists.Parts.{get_d_part, part_inside}
use Rattle.ledger.proofs.Bytes.Pages.{laid_length, laid_page, head_number}
use Rattle.ledger.proofs.Bytes.Places.{record_part, record_inside}
use Rattle.ledger.proofs.Bytes.Lookup.{lookup_found, lookup_none}
use Rattle.ledger.proofs.Ledger.Rows.{kind_within, type_row, size_least, none_no_master, none_no_detail}
use Rattle.ledger.proofs.Ledger.Fields.{calc_inside, link_inside}
use Rattle.model.specs.Reads.{line_in, place_in, kind_from, link_from, kind_in, next_in, prior_in, calc_next_in, head_next_in, data_in}

-- where a chain's links end in a record
pub next_inside : (t : List ℕ) (n j : ℕ) → j < chains t → in_chain t j n ≡ true → link_at t n j + 3 ≤ record_size t n
unfolding link_bytes
next_inside t n j h c =
    let w = link_inside t n j h in
    by_cases (eqb (linked_prior t j) 1) (λ e. omega (arith, rw (c, e) at w)) (λ e. omega (arith, rw (c, e) at w))

pub prior_inside : (t : List ℕ) (n j : ℕ) → j < chains t → in_chain t j n ≡ true → linked_prior t j ≡ 1 → link_at t n j + 3 + 3 ≤ record_size t n
unfolding link_bytes
prior_inside t n j h c e = omega (arith, rw (c, eq-eqb (linked_prior t j) 1 e) at (link_inside t n j h))

-- no bytes, or some
pub by_bytes {ℓ} : {A : Type ℓ} (b : List ℕ) → (b ≡ [] → A) → (0 < length b → A) → A
by_bytes [] f g = f refl
by_bytes (x ∷ b) f g = g (omega arith)

-- no record is in a chain but of the chain's types
pub none_no_chain : (t : List ℕ) (j : ℕ) → Accepted t → j < chains t → in_chain t j 0 ≡ false
unfolding in_chain
none_no_chain t j a h = rw (none_no_master t j a h, none_no_detail t j a h)

-- the numbers in a part
module _ (f b : List ℕ) (s n : ℕ) (e : part s n f ≡ b) where
  pub two_shown : (k : ℕ) → k + 2 ≤ n → two_at f (s + k) ≡ two_at b k
  unfolding two_at
  two_shown k h = rw (add_assoc, get_d_part f b s n k e (omega arith), get_d_part f b s n (k + 1) e (omega arith))

  pub three_shown : (k : ℕ) → k + 3 ≤ n → three_at f (s + k) ≡ three_at b k
  unfolding three_at
  three_shown k h =
      rw (add_assoc, add_assoc, get_d_part f b s n k e (omega arith), get_d_part f b s n (k + 1) e (omega arith), get_d_part f b s n (k + 2) e (omega arith))

module _ (t f : List ℕ) (r : ℕ → List ℕ) (h : ℕ → ℕ) (a : Accepted t) (i : Imaged t f r h) where
  pub image_length : length f ≡ 512 * pages t
  image_length = rw i.bytes (laid_length (pages t) r h i.paged.room)

  pub image_page : (p : ℕ) → 1 ≤ p → p ≤ pages t → part (page_start p) 512 f ≡ page r h p
  image_page p lo hi = rw i.bytes (laid_page (pages t) r h i.paged.room p lo hi)

  formed : (x : ℕ) → 0 < length (r x) → Formed x (r x)
  formed x some = (i.paged.standing x some).head

  -- a record's page is a page of the file
  pub image_within : (x : ℕ) → 0 < length (r x) → (1 ≤ page_of x) × (page_of x ≤ pages t)
  image_within x some =
      let s = i.paged.standing x some in
      let w = (type_row t (kind_read (r x)) a s.typed).ranged in
      (omega (arith, s.low_page, w.0), omega (arith, s.high_page, w.2))

  -- where a record starts: where its line starts in its page, and 0 where there is none
  pub image_place : (x : ℕ) → 0 < length (r x) → place_in f x ≡ page_start (page_of x) + start_of r (page_of x) (line_of x)
  unfolding place_in line_in
  image_place x some =
      let (lo, hi) = image_within x some in
      let s = i.paged.standing x some in
      let e : code_of (page_of x) (line_of x) ≡ x = omega arith in
      let some' : 0 < length (r (code_of (page_of x) (line_of x))) = rw e some in
      let found = lookup_found r h (page_of x) (i.paged.room (page_of x)) formed 508 (omega arith) (line_of x) 63 (omega arith) s.on_a_line (omega arith) some' in
      let start : 16 ≤ start_of r (page_of x) (line_of x) = unfold start_of in omega arith in
      rw (
        ne_eqb (page_of x) 0 (λ z. omega arith),
        le-ltb (length f) (page_start (page_of x) + 512) (omega (arith, image_length)),
        image_page (page_of x) lo hi,
        found,
        ne_eqb (start_of r (page_of x) (line_of x)) 0 (λ z. omega arith),
      )

  pub image_none : (x : ℕ) → r x ≡ [] → place_in f x ≡ 0
  unfolding place_in line_in
  image_none x none = by_cases (eqb (page_of x) 0)
      (λ z. rw z)
      (λ z. by_cases (ltb (length f) (page_start (page_of x) + 512))
      (λ s. rw (z, s))
      (λ s.
      let nz : 1 ≤ page_of x = omega (arith, eqb-false (page_of x) 0 z) in
      let e : code_of (page_of x) (line_of x) ≡ x = omega arith in
      let nothing = lookup_none r h (page_of x) (i.paged.room (page_of x)) formed 508 (omega arith) (line_of x) 63 (rw e none) in
      rw (z, s, image_page (page_of x) nz (omega (arith, image_length, ltb-false (length f) (page_start (page_of x) + 512) s)), nothing)))

  pub image_there : (x : ℕ) → 0 < length (r x) → 0 < place_in f x
  image_there x some = rw (image_place x some) (unfold start_of in omega arith)

  pub image_part : (x : ℕ) → 0 < length (r x) → part (place_in f x) (length (r x)) f ≡ r x
  image_part x some =
      let (lo, hi) = image_within x some in
      let s = i.paged.standing x some in
      let e : code_of (page_of x) (line_of x) ≡ x = omega arith in
      let inside = record_inside r (page_of x) (line_of x) s.on_a_line (omega arith) (i.paged.room (page_of x)) in
      rw (image_place x some)
      (part_inside f (page r h (page_of x)) (page_start (page_of x)) 512 (start_of r (page_of x) (line_of x)) (length (r x)) (image_page (page_of x) lo hi) (rw e at inside)
      ∙ rw e at (record_part r h (page_of x) (line_of x) s.on_a_line (omega arith)))

  -- its type, data and links
  pub image_kind : (x : ℕ) → kind_in f x ≡ kind_read (r x)
  unfolding kind_in kind_from
  image_kind x = by_bytes (r x)
      (λ none. rw (image_none x none, none) (unfold two_at in refl))
      (λ some.
      let s = i.paged.standing x some in
      rw (ne_eqb (place_in f x) 0 (λ z. omega (arith, image_there x some)))
      (rw (add-zero (place_in f x)) at (two_shown f (r x) (place_in f x) (length (r x)) (image_part x some) 0 (omega (arith, s.head.long)))))

  pub kind_some : (x : ℕ) → 0 < length (r x) → 0 < kind_read (r x)
  kind_some x some = (kind_within t (kind_read (r x)) a (i.paged.standing x some).typed).0

  pub image_data : (x : ℕ) → data_in t f x ≡ data_read t (r x)
  unfolding data_in
  image_data x = by_bytes (r x)
      (λ none. rw (image_none x none, none, take-nil))
      (λ some.
      let s = i.paged.standing x some in
      rw (ne_eqb (place_in f x) 0 (λ z. omega (arith, image_there x some)), image_kind x)
      (part_inside f (r x) (place_in f x) (length (r x)) 5 (data_len t (row t (kind_read (r x)))) (image_part x some)
      (omega (arith, s.whole, size_least t (kind_read (r x))))))

  link_shown : (x k : ℕ) → 0 < length (r x) → k + 3 ≤ record_size t (kind_read (r x)) → link_from f (place_in f x) k ≡ three_at (r x) k
  unfolding link_from
  link_shown x k some h =
      rw (ne_eqb (place_in f x) 0 (λ z. omega (arith, image_there x some)))
      (three_shown f (r x) (place_in f x) (length (r x)) (image_part x some) k (omega (arith, (i.paged.standing x some).whole)))

  pub chain_some : (j x : ℕ) → j < chains t → in_chain t j (kind_read (r x)) ≡ true → 0 < length (r x)
  chain_some j x lt c = by_bytes (r x)
      (λ none. clash _ c (rw none (unfold two_at in none_no_chain t j a lt)))
      (λ some. some)

  pub image_next : (j x : ℕ) → j < chains t → in_chain t j (kind_read (r x)) ≡ true → next_in t f j x ≡ next_read t r j x
  unfolding next_in next_read
  image_next j x lt c = rw (image_kind x) (link_shown x _ (chain_some j x lt c) (next_inside t _ j lt c))

  pub image_prior : (j x : ℕ) → j < chains t → in_chain t j (kind_read (r x)) ≡ true → linked_prior t j ≡ 1 → prior_in t f j x ≡ prior_read t r j x
  unfolding prior_in prior_read
  image_prior j x lt c e = rw (image_kind x) (link_shown x _ (chain_some j x lt c) (prior_inside t _ j lt c e))

  pub image_calc_next : (x : ℕ) → 0 < length (r x) → calculated t (kind_read (r x)) ≡ true → calc_next_in t f x ≡ three_at (r x) (calc_at t (kind_read (r x)))
  unfolding calc_next_in
  image_calc_next x some c = rw (image_kind x) (link_shown x _ some (calc_inside t _ c))

  -- a page's CALC NEXT
  pub image_head : (p : ℕ) → 1 ≤ p → p ≤ pages t → head_next_in f p ≡ h p
  unfolding head_next_in
  image_head p lo hi =
      rw (ne_eqb p 0 (λ z. omega arith), three_shown f (page r h p) (page_start p) 512 (image_page p lo hi) 13 (omega arith))
      (unfold three_at in head_number r h p (i.heads p lo hi))
