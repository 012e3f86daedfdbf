-- A record's bytes: how long they are, their head, and where each field of them stands, whatever the links.
use Prim.Native.Nat.{ℕ, suc, ◌+◌, ◌-◌, ◌<◌}
use mathlib.Core.Path.{◌≡◌, refl, sym, ◌∙◌, ap}
use mathlib.Core.Bool.{true, false, cond}
use mathlib.Core.List.{List, [], ◌++◌, append_assoc}
use native.Mathlib.Omega.{arith}
use lib.ListN.{length, get_or, take, drop, length-append}
use lib.Dec.{eqb}
use borrow.Author.Tests.{eq-eqb}
use Rattle.ledger.specs.Numbers.{digits, run, sum_of, concat_of}
use Rattle.ledger.specs.Table.{chains, row, data_len, calculated, in_chain, linked_prior, Accepted}
use Rattle.ledger.specs.Pages.{line_of, link_bytes, calc_at, link_at, record_size, Ledger, kind_at, bytes_at, present, next_of, prior_of, calc_next, chain_links, links, bytes_with, record_bytes, Placed, WellFormed}
use Rattle.ledger.specs.Bytes.{Formed}
use Rattle.ledger.proofs.Lists.Tests.{by_cases}
use Rattle.ledger.proofs.Lists.Runs.{length_concat_of, concat_of_at, sum_of_same}
use Rattle.ledger.proofs.Lists.Parts.{part_here}
use Rattle.ledger.proofs.Lists.Digits.{length_digits, part_two}
use Rattle.ledger.proofs.Ledger.Rows.{size_least, size_small}

-- with any links
module _ (t : List ℕ) (l : Ledger) (nx pr : ℕ → ℕ → ℕ) (cn : ℕ → ℕ) (x : ℕ) where
  pub chain_links_length : (j : ℕ) → length (chain_links t l nx pr x j) ≡ link_bytes t (kind_at l x) j
  unfolding chain_links link_bytes digits
  chain_links_length j = by_cases (in_chain t j (kind_at l x))
      (λ e. by_cases (eqb (linked_prior t j) 1) (λ f. rw (e, f)) (λ f. rw (e, f)))
      (λ e. rw e)

  pub chain_links_sum : (j : ℕ) → length (concat_of (chain_links t l nx pr x) (run 0 j)) ≡ sum_of (link_bytes t (kind_at l x)) (run 0 j)
  chain_links_sum j = length_concat_of (chain_links t l nx pr x) (run 0 j) ∙ sum_of_same (link_bytes t (kind_at l x)) _ 0 j (λ i lo hi. chain_links_length i)

  -- the CALC NEXT of a calculated record, and nothing of another
  abbrev calc_link : List ℕ
  calc_link = cond (calculated t (kind_at l x)) (digits 3 (cn x)) []

  calc_link_length : length calc_link ≡ cond (calculated t (kind_at l x)) 3 0
  unfolding digits
  calc_link_length = by_cases (calculated t (kind_at l x)) (λ e. rw e) (λ e. rw e)

  pub links_length : length (links t l nx pr cn x) ≡ cond (calculated t (kind_at l x)) 3 0 + sum_of (link_bytes t (kind_at l x)) (run 0 (chains t))
  unfolding links
  links_length = rw (length-append, calc_link_length, chain_links_sum)

  -- the five bytes before the data
  abbrev pub head : List ℕ
  head = digits 2 (kind_at l x) ++ digits 2 (record_size t (kind_at l x)) ++ digits 1 (line_of x)

  pub head_length : length head ≡ 5
  unfolding digits
  head_length = refl

  pub absent_with : present l x ≡ false → bytes_with t l nx pr cn x ≡ []
  unfolding bytes_with
  absent_with e = rw e

  pub record_is : present l x ≡ true → bytes_with t l nx pr cn x ≡ head ++ bytes_at l x ++ links t l nx pr cn x
  unfolding bytes_with
  record_is there = rw there

  -- the bytes up to chain j's links, and those behind them
  abbrev pub up_to : ℕ → List ℕ
  up_to j = head ++ bytes_at l x ++ calc_link ++ concat_of (chain_links t l nx pr x) (run 0 j)

  abbrev pub beyond : ℕ → List ℕ
  beyond j = concat_of (chain_links t l nx pr x) (run (suc j) (chains t - suc j))

  pub record_at : present l x ≡ true → (j : ℕ) → j < chains t → bytes_with t l nx pr cn x ≡ up_to j ++ (chain_links t l nx pr x j ++ beyond j)
  unfolding links
  record_at there j inside =
      let e : j - 0 ≡ j = omega arith in
      let f : 0 + chains t - suc j ≡ chains t - suc j = omega arith in
      rw (record_is there, concat_of_at (chain_links t l nx pr x) 0 (chains t) j (omega arith) (omega arith), e, f) (simp append_assoc)

  pub up_to_length : length (bytes_at l x) ≡ data_len t (row t (kind_at l x)) → (j : ℕ) → length (up_to j) ≡ link_at t (kind_at l x) j
  unfolding link_at calc_at
  up_to_length full j = rw (length-append, length-append, length-append, head_length, full, calc_link_length, chain_links_sum)

  module _ (there : present l x ≡ true) (full : length (bytes_at l x) ≡ data_len t (row t (kind_at l x))) where
    pub record_length : length (bytes_with t l nx pr cn x) ≡ record_size t (kind_at l x)
    unfolding record_size link_at calc_at
    record_length = rw (record_is there, length-append, length-append, head_length, links_length, full) (omega arith)

    pub kind_part : take 2 (bytes_with t l nx pr cn x) ≡ digits 2 (kind_at l x)
    unfolding digits
    kind_part = rw (record_is there)

    pub size_part : take 2 (drop 2 (bytes_with t l nx pr cn x)) ≡ digits 2 (record_size t (kind_at l x))
    unfolding digits
    size_part = rw (record_is there)

    pub line_byte : get_or (bytes_with t l nx pr cn x) 4 0 ≡ line_of x
    unfolding digits
    line_byte = rw (record_is there) (omega arith)

    pub data_part : take (data_len t (row t (kind_at l x))) (drop 5 (bytes_with t l nx pr cn x)) ≡ bytes_at l x
    data_part = rw (record_is there, append_assoc head) (part_here head (bytes_at l x) (links t l nx pr cn x) 5 _ head_length full)

    front_length : length (head ++ bytes_at l x) ≡ calc_at t (kind_at l x)
    unfolding calc_at
    front_length = rw (length-append, head_length, full)

    pub calc_part : calculated t (kind_at l x) ≡ true
        → take 3 (drop (calc_at t (kind_at l x)) (bytes_with t l nx pr cn x)) ≡ digits 3 (cn x)
    unfolding links
    calc_part e = rw (record_is there, e) (part_here (head ++ bytes_at l x) _ _ _ 3 front_length (length_digits 3 _))

    module _ (j : ℕ) (inside : j < chains t) (linked : in_chain t j (kind_at l x) ≡ true) where
      pub next_part : take 3 (drop (link_at t (kind_at l x) j) (bytes_with t l nx pr cn x)) ≡ digits 3 (nx j x)
      unfolding chain_links
      next_part = rw (record_at there j inside, linked, append_assoc (digits 3 (nx j x))) (part_here (up_to j) _ _ _ 3 (up_to_length full j) (length_digits 3 _))

      past_next_length : length (up_to j ++ digits 3 (nx j x)) ≡ link_at t (kind_at l x) j + 3
      past_next_length = rw (length-append (up_to j), up_to_length full j, length_digits 3)

      pub prior_part : linked_prior t j ≡ 1 → take 3 (drop (link_at t (kind_at l x) j + 3) (bytes_with t l nx pr cn x)) ≡ digits 3 (pr j x)
      unfolding chain_links
      prior_part e =
          rw (record_at there j inside, linked, eq-eqb (linked_prior t j) 1 e, append_assoc (digits 3 (nx j x)), ← append_assoc (up_to j))
          (part_here (up_to j ++ digits 3 (nx j x)) _ _ _ 3 past_next_length (length_digits 3 _))

  -- the head of a present record's bytes
  pub formed_with : Accepted t → Placed t l x → present l x ≡ true → Formed x (bytes_with t l nx pr cn x)
  formed_with a p h =
      let e = record_length h p.full in
      let s = size_small t (kind_at l x) a p.typed in record {
        long = omega (arith, size_least t (kind_at l x));
        size = part_two (bytes_with t l nx pr cn x) 2 _ (size_part h p.full) (omega arith) ∙ sym e;
        line = line_byte h p.full;
      }

-- with the ledger's own links
module _ (t : List ℕ) (l : Ledger) (x : ℕ) where
  pub absent_bytes : present l x ≡ false → record_bytes t l x ≡ []
  unfolding record_bytes
  absent_bytes = absent_with t l (next_of t l) (prior_of t l) (calc_next t l) x

  pub own_length : present l x ≡ true → length (bytes_at l x) ≡ data_len t (row t (kind_at l x)) → length (record_bytes t l x) ≡ record_size t (kind_at l x)
  unfolding record_bytes
  own_length = record_length t l (next_of t l) (prior_of t l) (calc_next t l) x

  -- a record's size tells its bytes' length, and no record has no bytes
  pub record_sized : (present l x ≡ true → length (bytes_at l x) ≡ data_len t (row t (kind_at l x)))
      → length (record_bytes t l x) ≡ cond (present l x) (record_size t (kind_at l x)) 0
  record_sized full = by_cases (present l x) (λ e. rw e (own_length e (full e))) (λ e. rw (e, absent_bytes e))

pub record_formed : (t : List ℕ) (l : Ledger) → Accepted t → WellFormed t l → (x : ℕ) → present l x ≡ true → Formed x (record_bytes t l x)
unfolding record_bytes
record_formed t l a w x e = formed_with t l (next_of t l) (prior_of t l) (calc_next t l) x a (w.placed x e) e

-- the bytes of a code are a record's or none
pub bytes_formed : (t : List ℕ) (l : Ledger) → Accepted t → WellFormed t l → (x : ℕ) → 0 < length (record_bytes t l x) → Formed x (record_bytes t l x)
bytes_formed t l a w x some = by_cases (present l x)
    (record_formed t l a w x)
    (λ e. absurd (omega (arith, ap length (absent_bytes t l x e))))
