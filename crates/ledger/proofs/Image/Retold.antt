-- Bytes of a record's length that say its fields are its bytes.
use Prim.Native.Nat.{ℕ, ◌+◌, ◌≤◌, ◌<◌}
use mathlib.Core.Path.{◌≡◌, sym, ◌∙◌}
use mathlib.Core.Bool.{true, cond}
use mathlib.Core.List.{List, [], ◌++◌, append_assoc, append-nil}
use native.Mathlib.Omega.{arith}
use native.Mathlib.Nat.{zero-add}
use lib.ListN.{length, get_or, take, drop}
use lib.Seq.{take_all}
use lib.Dec.{eqb}
use borrow.Author.Tests.{eqb-true}
use Rattle.ledger.specs.Numbers.{digits, run, sum_of, concat_of}
use Rattle.ledger.specs.Table.{chains, row, data_len, calculated, in_chain, linked_prior}
use Rattle.ledger.specs.Pages.{line_of, link_bytes, record_size, Ledger, kind_at, bytes_at, present, next_of, prior_of, home_of, calc_next_of, chain_links, links, record_bytes, calc_at, link_at, bytes_with, calc_next}
use Rattle.ledger.specs.Bytes.{Fields}
use Rattle.ledger.proofs.Lists.Tests.{by_cases}
use Rattle.ledger.proofs.Lists.Runs.{pieces_part}
use Rattle.ledger.proofs.Lists.Parts.{part_join}
use Rattle.ledger.proofs.Lists.Digits.{digit_part, two_part, three_part}
use Rattle.ledger.proofs.Ledger.Rows.{size_least}
use Rattle.ledger.proofs.Ledger.Fields.{calc_inside, link_inside}

module _ (t : List ℕ) (l : Ledger) (x : ℕ) (b : List ℕ) (there : present l x ≡ true) (whole : length b ≡ record_size t (kind_at l x))
    (small : (i : ℕ) → get_or b i 0 < 256) (f : Fields t l x b 0) where
  long : 5 + data_len t (row t (kind_at l x)) ≤ length b
  long = omega (arith, size_least t (kind_at l x))

  front : take 5 b ≡ digits 2 (kind_at l x) ++ digits 2 (record_size t (kind_at l x)) ++ digits 1 (line_of x)
  front =
      let kind : take 2 b ≡ digits 2 (kind_at l x) = two_part b small 0 (kind_at l x) (omega (arith, long)) f.kind in
      let size = two_part b small 2 (record_size t (kind_at l x)) (omega (arith, long)) f.size in
      let line = digit_part b small 4 (line_of x) (omega (arith, long)) f.line in
      part_join b 0 4 1 _ (digits 1 (line_of x)) (part_join b 0 2 2 (digits 2 (kind_at l x)) (digits 2 (record_size t (kind_at l x))) kind size) line

  calc_piece : take (cond (calculated t (kind_at l x)) 3 0) (drop (calc_at t (kind_at l x)) b)
      ≡ cond (calculated t (kind_at l x)) (digits 3 (calc_next_of t l (home_of t l x) x)) []
  calc_piece = by_cases (calculated t (kind_at l x))
      (λ e. rw e (three_part b small (calc_at t (kind_at l x)) _ (omega (arith, whole, calc_inside t (kind_at l x) e)) (rw zero-add at (f.calc_next e))))
      (λ e. rw e)

  chain_piece : (j : ℕ) → j < chains t → take (link_bytes t (kind_at l x) j) (drop (link_at t (kind_at l x) j) b) ≡ chain_links t l (next_of t l) (prior_of t l) x j
  unfolding link_bytes chain_links
  chain_piece j h = by_cases (in_chain t j (kind_at l x))
      (λ e.
      let next = rw zero-add at (f.next j h e) in
      by_cases (eqb (linked_prior t j) 1)
      (λ i.
      let room : link_at t (kind_at l x) j + 6 ≤ record_size t (kind_at l x) = rw (e, i) at (link_inside t (kind_at l x) j h) in
      let prior = rw zero-add at (f.prior j h e (eqb-true _ _ i)) in
      rw (e, i) (part_join b (link_at t (kind_at l x) j) 3 3 (digits 3 (next_of t l j x)) (digits 3 (prior_of t l j x))
      (three_part b small (link_at t (kind_at l x) j) (next_of t l j x) (omega arith) next)
      (three_part b small (link_at t (kind_at l x) j + 3) (prior_of t l j x) (omega arith) prior)))
      (λ i.
      let room : link_at t (kind_at l x) j + 3 ≤ record_size t (kind_at l x) = rw (e, i) at (link_inside t (kind_at l x) j h) in
      rw (e, i, append-nil) (three_part b small (link_at t (kind_at l x) j) (next_of t l j x) (omega arith) next)))
      (λ e. rw e)

  body : take (record_size t (kind_at l x)) b
      ≡ digits 2 (kind_at l x) ++ digits 2 (record_size t (kind_at l x)) ++ digits 1 (line_of x) ++ bytes_at l x ++ links t l (next_of t l) (prior_of t l) (calc_next t l) x
  unfolding record_size link_at calc_at links
  body =
      let n = kind_at l x in
      let head = digits 2 n ++ digits 2 (record_size t n) ++ digits 1 (line_of x) in
      let linked = concat_of (chain_links t l (next_of t l) (prior_of t l) x) (run 0 (chains t)) in
      let calced = cond (calculated t n) (digits 3 (calc_next_of t l (home_of t l x) x)) [] in
      part_join b 0 (calc_at t n + cond (calculated t n) 3 0) (sum_of (link_bytes t n) (run 0 (chains t))) (head ++ bytes_at l x ++ calced) linked
      (part_join b 0 (calc_at t n) (cond (calculated t n) 3 0) (head ++ bytes_at l x) calced
      (part_join b 0 5 (data_len t (row t n)) head (bytes_at l x) front f.data_part)
      (rw zero-add calc_piece))
      (rw zero-add (pieces_part (chain_links t l (next_of t l) (prior_of t l) x) (link_bytes t n) b _ (chains t) chain_piece))
      ∙ append_assoc (head ++ bytes_at l x) calced linked

  pub fields_bytes : record_bytes t l x ≡ b
  unfolding record_bytes bytes_with
  fields_bytes = rw there (sym body ∙ take_all (record_size t (kind_at l x)) b (omega arith))
