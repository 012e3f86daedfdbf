-- A record put into a file that is an image (`Imaged`), and one taken out: the image that the file is then.
use Prim.Native.Nat.{ℕ, ◌+◌, ◌%◌, ◌^◌, ◌≤◌, ◌<◌}
use mathlib.Core.Path.{◌≡◌, sym, ◌∙◌, ap}
use mathlib.Core.Logic.{◌≢◌}
use mathlib.Core.List.{List, [], append_assoc}
use native.Mathlib.Omega.{arith}
use native.Mathlib.Nat.{mod-eq_of_lt}
use lib.ListN.{length, length-append}
use lib.Seq.{length-take-le}
use lib.Dec.{eqb}
use borrow.Author.Tests.{ne_eqb, le-ltb, eqb-true}
use Rattle.ledger.specs.Numbers.{run, first_of, update}
use Rattle.ledger.specs.Table.{pages, Accepted}
use Rattle.ledger.specs.Pages.{code_of, page_of, line_of, page, laid, used, free, flags}
use Rattle.ledger.specs.Bytes.{start_of, opened, closed, Formed, page_start, page_in}
use Rattle.ledger.specs.Image.{Standing, Paged, Imaged}
use Rattle.ledger.proofs.Lists.Tests.{same_or_not, update_same, update_other}
use Rattle.ledger.proofs.Lists.Searches.{first_of_passes}
use Rattle.ledger.proofs.Bytes.Pages.{page_length}
use Rattle.ledger.proofs.Bytes.Places.{start_least, used_at, record_inside}
use Rattle.ledger.proofs.Bytes.Lookup.{lookup_found, size_there, line_there}
use Rattle.ledger.proofs.Bytes.Writes.{other_page, laid_page_put}
use Rattle.ledger.proofs.Bytes.Moves.{bit, bit_some, flags_moved, flags_in, fits_moved, page_put_in, page_put_out, flags_small}
use Rattle.model.specs.Reads.{line_in}
use Rattle.model.specs.Room.{first_gap}
use Rattle.model.specs.Moves.{closed_byte, record_put, record_taken, line_taken, on_page, put_in, take_out}
use Rattle.model.proofs.Counts.{less_by_lem, counts_put_lem}
use Rattle.model.proofs.Fills.{fill_length, closed_fill, closed_up_lem}
use Rattle.place_laws.proofs.Image.{image_length, image_page, image_within, by_bytes}
use Rattle.place_laws.proofs.Made.{record_made, made_length, gap_at, gap_is, fields_opened}
use Rattle.place_laws.proofs.Room.{free_read, flags_read, image_gap, image_gap_at}

-- a page's bytes reach past its header
opened_long : (f : List ℕ) (s : ℕ) (b : List ℕ) → s ≤ length f → s ≤ length (opened f s b)
unfolding opened
opened_long f s b h = simp (length-append, length-take-le s f h) (omega arith)

-- A page with a record put in at line k, and with that of line k taken out.
module _ (r : ℕ → List ℕ) (h : ℕ → ℕ) (p : ℕ) (fits : used r p ≤ 496) (k : ℕ) (lo : 1 ≤ k) (hi : k ≤ 63) where
  pub page_made_lem : r (code_of p k) ≡ [] → (n size : ℕ) (d : List ℕ) → 5 + length d ≤ size → size ≤ free r p
      → record_put (page r h p) (gap_at (start_of r p k) k) n size d ≡ page (update r (code_of p k) (record_made n size k d)) h p
  unfolding record_put
  page_made_lem nothing n size d room fit =
      let s : ℕ = start_of r p k in
      let inside : s + size ≤ 512 = unfold start_of free in omega (arith, used_at r p k lo hi) in
      let small : free r p < 2 ^ 16 = unfold free in omega arith in
      let b : List ℕ = record_made n size k d in
      let r' : ℕ → List ℕ = update r (code_of p k) b in
      let long : length b ≡ size = made_length n size k d room in
      let there : r' (code_of p k) ≡ b = update_same r (code_of p k) b in
      let whole : length (page r h p) ≡ 512 = page_length r h p fits in
      let header : 13 ≤ length (opened (page r h p) s b) = omega (arith, start_least r p k, opened_long (page r h p) s b (omega arith)) in
      let line : k % 64 ≡ k = omega arith in
      let flag : flags r' p ≡ flags r p + 2 ^ k = flags_in r r' p k lo hi (update_other r (code_of p k) b) nothing (rw (there, long) (omega arith)) in
      let flag-fits : flags r p + 2 ^ k < 2 ^ 64 = omega (arith, flag, flags_small r' p) in
      rw (
        fields_opened (page r h p) s k n size d hi whole inside room,
        counts_put_lem (opened (page r h p) s b) _ _ header,
        free_read r h p,
        flags_read r h p,
        less_by_lem (2 ^ 16) (free r p) size fit small,
        line,
        mod-eq_of_lt flag-fits,
      ) (rw long at (page_put_in r h p k lo hi nothing b (rw long (omega arith)) (rw long fit)))

  pub page_taken : ((x : ℕ) → 0 < length (r x) → Formed x (r x)) → 0 < length (r (code_of p k))
      → line_taken (page r h p) k ≡ page (update r (code_of p k) []) h p
  unfolding line_taken record_taken line_in
  page_taken formed some =
      let n : ℕ = length (r (code_of p k)) in
      let s : ℕ = start_of r p k in
      let start = start_least r p k in
      let small : free r p + n < 2 ^ 16 = unfold free in omega (arith, used_at r p k lo hi) in
      let r' : ℕ → List ℕ = update r (code_of p k) [] in
      let there : r' (code_of p k) ≡ [] = update_same r (code_of p k) [] in
      let whole : length (page r h p) ≡ 512 = page_length r h p fits in
      let inside : s + n ≤ 512 = record_inside r p k lo hi fits in
      let header : 13 ≤ length (closed (page r h p) s n) =
      rw (closed_fill (page r h p) s n whole inside, fill_length (closed_byte (page r h p) s n)) (omega arith) in
      let line : k % 64 ≡ k = omega arith in
      let flag : 2 ^ k ≤ flags r p =
      omega (arith, flags_moved r r' p k lo hi (update_other r (code_of p k) []), ap (bit k) there, bit_some k (r (code_of p k)) some) in
      rw (
        lookup_found r h p fits formed 508 (omega arith) k 63 (omega arith) lo hi some,
        ne_eqb s 0 (λ z. omega arith),
        size_there r h p fits formed k lo hi some,
        line_there r h p fits formed k lo hi some,
        closed_up_lem (page r h p) s n whole inside,
        counts_put_lem (closed (page r h p) s n) _ _ header,
        free_read r h p,
        flags_read r h p,
        line,
        less_by_lem (2 ^ 64) (flags r p) (2 ^ k) flag (flags_small r p),
        mod-eq_of_lt small,
      ) (page_put_out r h p k lo hi fits some)

-- an image with other bytes of one record, where they stand as the table says and have room
pub paged_put : (t : List ℕ) (r : ℕ → List ℕ) → Paged t r → (x : ℕ) (b : List ℕ) → 1 ≤ line_of x → (0 < length b → Standing t x b)
    → length b ≤ free r (page_of x) + length (r x) → Paged t (update r x b)
paged_put t r g x b line new room =
    let there : update r x b x ≡ b = update_same r x b in
    let e : code_of (page_of x) (line_of x) ≡ x = omega arith in
    record {
      standing = λ y some. same_or_not y x
          (λ s. rw (s, there) (new (rw (s, there) at some)))
          (λ ne. rw (update_other r x b y ne) (g.standing y (rw (update_other r x b y ne) at some)));
      room = fits_moved r (update r x b) (page_of x) (line_of x) line (omega arith) (rw e (update_other r x b)) g.room (rw (e, there) room);
    }

module _ (t f : List ℕ) (r : ℕ → List ℕ) (h : ℕ → ℕ) (a : Accepted t) (i : Imaged t f r h) where
  formed : (x : ℕ) → 0 < length (r x) → Formed x (r x)
  formed x some = (i.paged.standing x some).head

  -- one page changed to what it is in another image
  pub image_on_page : (g : List ℕ → List ℕ) (r' : ℕ → List ℕ) (h' : ℕ → ℕ) (p : ℕ) → 1 ≤ p → p ≤ pages t
      → ((q : ℕ) → q ≢ p → page r' h' q ≡ page r h q) → g (page r h p) ≡ page r' h' p → on_page g f p ≡ laid (pages t) r' h'
  unfolding on_page
  image_on_page g r' h' p lo hi same e =
      rw (
        ne_eqb p 0 (λ z. omega arith),
        le-ltb (length f) (page_start p + 512) (omega (arith, image_length t f r h a i)),
        image_page t f r h a i p lo hi,
        e,
        i.bytes,
        ← append_assoc,
      ) (laid_page_put (pages t) r r' h h' i.paged.room p lo hi same)

  -- A record taken out.
  pub record_taken_lem : (x : ℕ) → 0 < length (r x) → take_out f x ≡ laid (pages t) (update r x []) h
  unfolding take_out
  record_taken_lem x some =
      let (lo, hi) = image_within t f r h a i x some in
      let line = (i.paged.standing x some).on_a_line in
      let e : code_of (page_of x) (line_of x) ≡ x = omega arith in
      let some' : 0 < length (r (code_of (page_of x) (line_of x))) = rw e some in
      rw e at
      (image_on_page (λ g. line_taken g (line_of x)) (update r (code_of (page_of x) (line_of x)) []) h (page_of x) lo hi
      (other_page r (update r (code_of (page_of x) (line_of x)) []) h (page_of x) (line_of x) line (omega arith) (update_other r (code_of (page_of x) (line_of x)) []))
      (page_taken r h (page_of x) (i.paged.room (page_of x)) (line_of x) line (omega arith) formed some'))

  pub record_taken_image : (x : ℕ) → 0 < length (r x) → Imaged t (take_out f x) (update r x []) h
  record_taken_image x some = record {
    bytes = record_taken_lem x some;
    paged = paged_put t r i.paged x [] (i.paged.standing x some).on_a_line (λ none. absurd (omega arith)) (omega arith);
    heads = i.heads;
  }

  -- A record put in at its page's lowest free line.
  pub line_empty : (p k : ℕ) → 1 ≤ p → p ≤ pages t → 1 ≤ k → (first_gap (page_in f p)).line ≡ k → r (code_of p k) ≡ []
  line_empty p k lo hi low line =
      let e : first_of (λ j. eqb (length (r (code_of p j))) 0) (run 1 63) ≡ k = sym (image_gap t f r h a i p lo hi) ∙ line in
      let none = (first_of_passes (λ j. eqb (length (r (code_of p j))) 0) (run 1 63) (λ z. omega arith)).1 in
      by_bytes (r (code_of p k)) (λ z. z) (λ some. absurd (omega (arith, eqb-true (length (r (code_of p k))) 0 (rw e at none))))

  module _ (p k n : ℕ) (d : List ℕ) (size : ℕ) (lo : 1 ≤ p) (hi : p ≤ pages t) (low : 1 ≤ k) (high : k ≤ 63)
      (line : (first_gap (page_in f p)).line ≡ k) (room : 5 + length d ≤ size) (fit : size ≤ free r p) where
    pub record_in : put_in f p (first_gap (page_in f p)) n size d ≡ laid (pages t) (update r (code_of p k) (record_made n size k d)) h
    unfolding put_in
    record_in =
        let b : List ℕ = record_made n size k d in
        let at : (first_gap (page_in f p)).at ≡ start_of r p k = image_gap_at t f r h a i p lo hi (omega arith) ∙ ap (start_of r p) line in
        let gap = gap_is (first_gap (page_in f p)) (start_of r p k) k at line in
        rw gap
        (image_on_page (λ g. record_put g (gap_at (start_of r p k) k) n size d) (update r (code_of p k) b) h p lo hi
        (other_page r (update r (code_of p k) b) h p k low high (update_other r (code_of p k) b))
        (page_made_lem r h p (i.paged.room p) k low high (line_empty p k lo hi low line) n size d room fit))

    pub record_in_image : Standing t (code_of p k) (record_made n size k d)
        → Imaged t (put_in f p (first_gap (page_in f p)) n size d) (update r (code_of p k) (record_made n size k d)) h
    record_in_image new =
        let on : page_of (code_of p k) ≡ p = omega arith in
        record {
          bytes = record_in;
          paged = paged_put t r i.paged (code_of p k) (record_made n size k d) new.on_a_line (λ some. new) (rw on (omega (arith, made_length n size k d room)));
          heads = i.heads;
        }
