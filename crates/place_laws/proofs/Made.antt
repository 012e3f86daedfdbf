-- A new record's bytes, its links 0: how they stand in a gap that is opened for them, that they are as the table says, and as a ledger says.
use Prim.Native.Nat.{ℕ, zero, suc, ◌+◌, ◌-◌, ◌%◌, ◌≤◌, ◌<◌}
use mathlib.Core.Path.{◌≡◌, refl, sym, ◌∙◌, ap}
use mathlib.Core.Bool.{true, cond}
use mathlib.Core.List.{List, [], ◌∷◌, ◌++◌, append_assoc}
use native.Mathlib.Omega.{arith}
use native.Mathlib.Nat.{add-zero, zero-add}
use lib.ListN.{length, take, drop, replicate, length-append, length-replicate, get_or, replicate-append-replicate}
use lib.Seq.{sets, sets-eq, length-take-le}
use lib.Dec.{eqb}
use Rattle.ledger.specs.Numbers.{digits, run, concat_of}
use Rattle.ledger.specs.Table.{Accepted, chains, row, low, high, data_len, defined, calculated, in_chain, linked_prior}
use Rattle.ledger.specs.Pages.{code_of, page_of, line_of, record_size, link_at, calc_at, Ledger, kind_at, bytes_at, present, chain_links, links, bytes_with}
use Rattle.ledger.specs.Bytes.{two_at, opened}
use Rattle.ledger.specs.Image.{Standing, kind_read}
use Rattle.ledger.proofs.Lists.Tests.{by_cases}
use Rattle.ledger.proofs.Lists.Parts.{replaced_inside, sets_append, get_d_zeros}
use Rattle.ledger.proofs.Lists.Digits.{length_digits, Bytes, append_bytes, digits_bytes}
use Rattle.ledger.proofs.Ledger.Rows.{kind_within, size_least, size_small}
use Rattle.ledger.proofs.Ledger.Records.{links_length}
use Rattle.model.specs.Moves.{two_put, part_put, opened_up, head_put, fields_put}
use Rattle.model.specs.declared.Gap.{Gap}
use Rattle.model.proofs.Fills.{opened_up_lem}

-- a record's bytes with links 0
unfoldable pub record_made : ℕ → ℕ → ℕ → List ℕ → List ℕ
record_made n size k d = digits 2 n ++ digits 2 size ++ digits 1 k ++ d ++ replicate (size - (5 + length d)) 0

pub made_length : (n size k : ℕ) (d : List ℕ) → 5 + length d ≤ size → length (record_made n size k d) ≡ size
unfolding record_made
made_length n size k d room = simp (length-append, length_digits, length-replicate) (omega arith)

-- the numbers in its head, and its bytes
module _ (n size k : ℕ) (d : List ℕ) where
  made_kind : n < 65536 → kind_read (record_made n size k d) ≡ n
  unfolding record_made digits two_at
  made_kind small = omega arith

  made_size : size < 65536 → two_at (record_made n size k d) 2 ≡ size
  unfolding record_made digits two_at
  made_size small = omega arith

  made_line : k ≤ 63 → get_or (record_made n size k d) 4 0 ≡ k
  unfolding record_made digits
  made_line small = omega arith

  made_bytes : Bytes d → Bytes (record_made n size k d)
  unfolding record_made
  made_bytes small =
      append_bytes (append_bytes (append_bytes (append_bytes (digits_bytes 2 n) (digits_bytes 2 size)) (digits_bytes 1 k)) small)
      (record { small = λ i. rw get_d_zeros (omega arith) })

-- they are a record as the table says
pub made_standing : (t : List ℕ) (p k n : ℕ) (d : List ℕ) → Accepted t → defined t n ≡ true → low t (row t n) ≤ p → p ≤ high t (row t n) → 1 ≤ k → k ≤ 63
    → length d ≡ data_len t (row t n) → ((i : ℕ) → get_or d i 0 < 256) → Standing t (code_of p k) (record_made n (record_size t n) k d)
made_standing t p k n d a typed lo hi low high full small =
    let size : ℕ = record_size t n in
    let room : 5 + length d ≤ size = omega (arith, size_least t n) in
    let long : length (record_made n size k d) ≡ size = made_length n size k d room in
    let kind : kind_read (record_made n size k d) ≡ n = made_kind n size k d (omega (arith, (kind_within t n a typed).1)) in
    let on : page_of (code_of p k) ≡ p = omega arith in
    record {
      head = record {
        long = omega arith;
        size = made_size n size k d (omega (arith, size_small t n a typed)) ∙ sym long;
        line = made_line n size k d high ∙ omega arith;
      };
      typed = rw kind typed;
      whole = rw kind long;
      low_page = rw (kind, on) lo;
      high_page = rw (kind, on) hi;
      on_a_line = omega arith;
      bytes = (made_bytes n size k d (record { small = small })).small;
    }

-- A record of a ledger whose links are all 0.
abbrev Zeros : List ℕ → Type 0
Zeros b = b ≡ replicate (length b) 0

zeros_joined : (a b : List ℕ) → Zeros a → Zeros b → Zeros (a ++ b)
zeros_joined a b e f =
    rw length-append (ap (λ (c : List ℕ). c ++ b) e ∙ ap (λ (c : List ℕ). replicate (length a) 0 ++ c) f ∙ replicate-append-replicate (length a) (length b) 0)

zeros_all : (g : ℕ → List ℕ) (xs : List ℕ) → ((x : ℕ) → Zeros (g x)) → Zeros (concat_of g xs)
unfolding concat_of
zeros_all g [] each = refl
zeros_all g (x ∷ xs) each = zeros_joined (g x) (concat_of g xs) (each x) (zeros_all g xs each)

module _ (t : List ℕ) (l : Ledger) (nx pr : ℕ → ℕ → ℕ) (cn : ℕ → ℕ) (x : ℕ)
    (no-next : (j : ℕ) → nx j x ≡ 0) (no-prior : (j : ℕ) → pr j x ≡ 0) (no-calc : cn x ≡ 0) where
  chain_zeros : (j : ℕ) → Zeros (chain_links t l nx pr x j)
  unfolding chain_links digits
  chain_zeros j = by_cases (in_chain t j (kind_at l x))
      (λ e. by_cases (eqb (linked_prior t j) 1) (λ f. rw (e, f, no-next j, no-prior j)) (λ f. rw (e, f, no-next j)))
      (λ e. rw e)

  calc_zeros : Zeros (cond (calculated t (kind_at l x)) (digits 3 (cn x)) [])
  unfolding digits
  calc_zeros = by_cases (calculated t (kind_at l x)) (λ e. rw (e, no-calc)) (λ e. rw e)

  links_zeros : Zeros (links t l nx pr cn x)
  unfolding links
  links_zeros = zeros_joined _ _ calc_zeros (zeros_all (chain_links t l nx pr x) (run 0 (chains t)) chain_zeros)

  pub made_with : present l x ≡ true → length (bytes_at l x) ≡ data_len t (row t (kind_at l x))
      → bytes_with t l nx pr cn x ≡ record_made (kind_at l x) (record_size t (kind_at l x)) (line_of x) (bytes_at l x)
  unfolding bytes_with record_made
  made_with there full =
      let long : length (links t l nx pr cn x) ≡ record_size t (kind_at l x) - (5 + length (bytes_at l x)) =
      unfold record_size link_at calc_at in omega (arith, links_length t l nx pr cn x) in
      rw (there, ← long, ← links_zeros)

-- zeros left out
drop_zeros : (n m : ℕ) → drop n (replicate m 0) ≡ replicate {A = ℕ} (m - n) 0
drop_zeros zero m = let e : m - 0 ≡ m = omega arith in rw e
drop_zeros (suc n) zero = let e : 0 - suc n ≡ 0 = omega arith in rw e
drop_zeros (suc n) (suc m) = let e : suc m - suc n ≡ m - n = omega arith in rw e (drop_zeros n m)

-- the gap of line k that starts at s
abbrev pub gap_at : ℕ → ℕ → Gap
gap_at s k = record { line = k; at = s }

pub gap_is : (g : Gap) (s k : ℕ) → g.at ≡ s → g.line ≡ k → g ≡ gap_at s k
gap_is g s k at line = ap (gap_at g.at) line ∙ ap (λ (i : ℕ). gap_at i k) at

-- a record's head in a gap
abbrev head : ℕ → ℕ → ℕ → List ℕ
head n size k = digits 2 n ++ digits 2 size ++ digits 1 k

head_bytes : (f : List ℕ) (s k n size : ℕ) → k ≤ 63 → head_put f (gap_at s k) n size ≡ sets f s (head n size k)
unfolding head_put two_put digits
head_bytes f s k n size small =
    let e1 : s + 1 ≡ suc s = omega arith in
    let e2 : s + 2 ≡ suc (suc s) = omega arith in
    let e3 : s + 2 + 1 ≡ suc (suc (suc s)) = omega arith in
    let e4 : s + 4 ≡ suc (suc (suc (suc s))) = omega arith in
    let low : k % 256 ≡ k = omega arith in
    rw (e3, e1, e2, e4, low)

-- its data behind the head
fields_bytes : (f : List ℕ) (s k n size : ℕ) (d : List ℕ) → k ≤ 63 → fields_put f (gap_at s k) n size d ≡ sets f s (head n size k ++ d)
unfolding fields_put part_put
fields_bytes f s k n size d small =
    let five : length (head n size k) ≡ 5 = simp (length-append, length_digits) in
    rw (head_bytes f s k n size small, sets_append f s (head n size k) d, five)

-- a record's bytes in an opened gap
module _ (f : List ℕ) (s k n size : ℕ) (d : List ℕ) (small : k ≤ 63)
    (whole : length f ≡ 512) (fits : s + size ≤ 512) (room : 5 + length d ≤ size) where
  pub fields_opened : fields_put (opened_up f s size) (gap_at s k) n size d ≡ opened f s (record_made n size k d)
  unfolding opened record_made
  fields_opened =
      let zeros : List ℕ = replicate size 0 in
      let rest : List ℕ = take (512 - (s + size)) (drop s f) in
      let front : length (take s f) ≡ s = length-take-le s f (omega arith) in
      let long : length (head n size k ++ d) ≡ 5 + length d = simp (length-append, length_digits) (omega arith) in
      let fits' : s + length (head n size k ++ d) ≤ length (take s f ++ (zeros ++ rest)) = simp (length-append, length-replicate, length_digits, front) (omega arith) in
      let gap : opened_up f s size ≡ take s f ++ (zeros ++ rest) = opened_up_lem f s size whole fits ∙ rw (length-replicate, append_assoc) in
      let written : take s (take s f ++ (zeros ++ rest)) ++ (head n size k ++ d) ++ drop (s + (5 + length d)) (take s f ++ (zeros ++ rest))
      ≡ take s f ++ (head n size k ++ d ++ drop (5 + length d) zeros ++ rest) =
      rw (add-zero s, zero-add (5 + length d)) at (replaced_inside (take s f) zeros rest (head n size k ++ d) s 0 (5 + length d) front (rw length-replicate (omega arith))) in
      let size_same : length (head n size k ++ d ++ replicate (size - (5 + length d)) 0) ≡ size = simp (length-append, length_digits, length-replicate) (omega arith) in
      rw (gap, fields_bytes _ s k n size d small, sets-eq (head n size k ++ d) (take s f ++ (zeros ++ rest)) s fits', long)
      (written ∙ rw (drop_zeros (5 + length d) size, size_same) (simp append_assoc))
