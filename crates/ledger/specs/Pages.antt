-- Document 01, "Pages and records": reference codes, a record's size, randomizing, the ledger, its one layout, and when a file is sound.
-- `p` is a page and `k` a line; `x`, `y` are codes of records and `m` of a master; `d` is a record's data.
use Rattle.std.specs.Prelude.{ℕ, ◌+◌, ◌*◌, ◌-◌, ◌/◌, ◌%◌, ◌^◌, ◌≤◌, ◌<◌, ◌≡◌, Bool, true, false, cond, not, List, [], ◌∷◌, ◌++◌, reverse, length, get_or, replicate, eqb, ltb}
use Rattle.std.proofs.Math.Option.{Option, none, some}
use Rattle.ledger.specs.Numbers.{digits, elem, run, first_of, sum_of, concat_of, pairs, once, follower, less_key, same_key}
use Rattle.ledger.specs.Table.{pages, chains, low, high, row, data_len, defined, calculated, is_master, is_detail, in_chain, linked_prior, order, duplicates, calc_key, sort_key}

-- Reference codes: 64 x page + line.
abbrev pub code_of : ℕ → ℕ → ℕ
code_of p k = 64 * p + k

abbrev pub page_of : ℕ → ℕ
page_of x = x / 64

abbrev pub line_of : ℕ → ℕ
line_of x = x % 64

-- every code that a file of the table's pages can have, in rising order
unfoldable pub codes : List ℕ → List ℕ
codes t = run 64 (64 * pages t)

-- A record: 5 bytes, its data, then links of 3 bytes: CALC NEXT if calculated, then those of each chain of its type in chain number order.
unfoldable pub link_bytes : List ℕ → ℕ → ℕ → ℕ
link_bytes t n j = cond (in_chain t j n) (cond (eqb (linked_prior t j) 1) 6 3) 0

-- where CALC NEXT stands in a record of type n
unfoldable pub calc_at : List ℕ → ℕ → ℕ
calc_at t n = 5 + data_len t (row t n)

-- where chain j's NEXT stands; its PRIOR stands 3 further
unfoldable pub link_at : List ℕ → ℕ → ℕ → ℕ
link_at t n j = calc_at t n + cond (calculated t n) 3 0 + sum_of (link_bytes t n) (run 0 j)

-- the record ends where one more chain would stand
unfoldable pub record_size : List ℕ → ℕ → ℕ
record_size t n = link_at t n (chains t)

-- Randomizing: h becomes (2h + byte) mod 65536 for each key byte; the home page is low + h mod (high - low + 1).
unfoldable pub hash_from : ℕ → List ℕ → ℕ
hash_from h [] = h
hash_from h (b ∷ bs) = hash_from ((2 * h + b) % 65536) bs

unfoldable pub home : List ℕ → ℕ → List ℕ → ℕ
home t n key = low t (row t n) + hash_from 0 key % (high t (row t n) - low t (row t n) + 1)

-- The ledger: each record's type and data by its code, each master's list of details in each chain, each page's CALC list.
pub record Entry : Type 0 where
  pub kind : ℕ
  pub bytes : List ℕ

pub record Ledger : Type 0 where
  pub at : ℕ → Option Entry
  pub ring : ℕ → ℕ → List ℕ
  pub calc : ℕ → List ℕ

abbrev pub empty : Ledger
empty = record { at = λ x. none; ring = λ j m. []; calc = λ p. [] }

-- the type and the data of a record: 0 and none where there is no record
unfoldable pub kind_of : Option Entry → ℕ
kind_of none = 0
kind_of (some e) = e.kind

unfoldable pub bytes_of : Option Entry → List ℕ
bytes_of none = []
bytes_of (some e) = e.bytes

unfoldable pub is_some : Option Entry → Bool
is_some none = false
is_some (some e) = true

abbrev pub kind_at : Ledger → ℕ → ℕ
kind_at l x = kind_of (l.at x)

abbrev pub bytes_at : Ledger → ℕ → List ℕ
bytes_at l x = bytes_of (l.at x)

abbrev pub present : Ledger → ℕ → Bool
present l x = is_some (l.at x)

-- a record's key in a chain, and the page whose CALC ring holds a calculated record
unfoldable pub key_in : List ℕ → Ledger → ℕ → ℕ → List ℕ
key_in t l j x = sort_key t j (kind_at l x) (bytes_at l x)

unfoldable pub home_of : List ℕ → Ledger → ℕ → ℕ
home_of t l x = home t (kind_at l x) (calc_key t (kind_at l x) (bytes_at l x))

-- Links are read off the lists. The master of a record in a chain is itself where it is of the master type.
unfoldable pub master_of : List ℕ → Ledger → ℕ → ℕ → ℕ
master_of t l j x = cond (is_master t j (kind_at l x)) x (first_of (λ m. elem x (l.ring j m)) (codes t))

-- once round a ring, from its master and home again
unfoldable pub round : ℕ → List ℕ → List ℕ
round m xs = m ∷ (xs ++ (m ∷ []))

unfoldable pub next_of : List ℕ → Ledger → ℕ → ℕ → ℕ
next_of t l j x = follower x (round (master_of t l j x) (l.ring j (master_of t l j x)))

unfoldable pub prior_of : List ℕ → Ledger → ℕ → ℕ → ℕ
prior_of t l j x = follower x (round (master_of t l j x) (reverse (l.ring j (master_of t l j x))))

-- CALC NEXT in page p's ring, of a record and of the header
unfoldable pub calc_next_of : List ℕ → Ledger → ℕ → ℕ → ℕ
calc_next_of t l p x = follower x (round (64 * p) (l.calc p))

abbrev pub calc_next : List ℕ → Ledger → ℕ → ℕ
calc_next t l x = calc_next_of t l (home_of t l x) x

unfoldable pub head_next : List ℕ → Ledger → ℕ → ℕ
head_next t l p = calc_next_of t l p (64 * p)

-- A page packs what each record's bytes are (`r`, none where there is no record) after its header; `h` is each header's CALC NEXT.
unfoldable pub used : (ℕ → List ℕ) → ℕ → ℕ
used r p = sum_of (λ k. length (r (code_of p k))) (run 1 63)

unfoldable pub free : (ℕ → List ℕ) → ℕ → ℕ
free r p = 496 - used r p

unfoldable pub flags : (ℕ → List ℕ) → ℕ → ℕ
flags r p = 1 + sum_of (λ k. cond (ltb 0 (length (r (code_of p k)))) (2 ^ k) 0) (run 1 63)

unfoldable pub header : (ℕ → List ℕ) → (ℕ → ℕ) → ℕ → List ℕ
header r h p = digits 3 (64 * p) ++ digits 2 (free r p) ++ digits 8 (flags r p) ++ digits 3 (h p)

unfoldable pub packed : (ℕ → List ℕ) → ℕ → List ℕ
packed r p = concat_of (λ k. r (code_of p k)) (run 1 63)

unfoldable pub page : (ℕ → List ℕ) → (ℕ → ℕ) → ℕ → List ℕ
page r h p = header r h p ++ packed r p ++ replicate (free r p) 0

unfoldable pub laid : ℕ → (ℕ → List ℕ) → (ℕ → ℕ) → List ℕ
laid n r h = concat_of (page r h) (run 1 n)

-- A file in the middle of a call has other links than its ledger, so bytes are made with any links: NEXT and PRIOR of a chain and a code
-- (`nx`, `pr`), CALC NEXT of a code (`cn`), and the headers' CALC NEXT (`hd`).
unfoldable pub chain_links : List ℕ → Ledger → (ℕ → ℕ → ℕ) → (ℕ → ℕ → ℕ) → ℕ → ℕ → List ℕ
chain_links t l nx pr x j =
    cond (in_chain t j (kind_at l x)) (digits 3 (nx j x) ++ cond (eqb (linked_prior t j) 1) (digits 3 (pr j x)) []) []

unfoldable pub links : List ℕ → Ledger → (ℕ → ℕ → ℕ) → (ℕ → ℕ → ℕ) → (ℕ → ℕ) → ℕ → List ℕ
links t l nx pr cn x = cond (calculated t (kind_at l x)) (digits 3 (cn x)) [] ++ concat_of (chain_links t l nx pr x) (run 0 (chains t))

unfoldable pub bytes_with : List ℕ → Ledger → (ℕ → ℕ → ℕ) → (ℕ → ℕ → ℕ) → (ℕ → ℕ) → ℕ → List ℕ
bytes_with t l nx pr cn x =
    cond (present l x)
    (digits 2 (kind_at l x) ++ digits 2 (record_size t (kind_at l x)) ++ digits 1 (line_of x) ++ bytes_at l x ++ links t l nx pr cn x)
    []

unfoldable pub file_with : List ℕ → Ledger → (ℕ → ℕ → ℕ) → (ℕ → ℕ → ℕ) → (ℕ → ℕ) → (ℕ → ℕ) → List ℕ
file_with t l nx pr cn hd = laid (pages t) (bytes_with t l nx pr cn) hd

-- The one layout of a ledger: with its own links.
unfoldable pub record_bytes : List ℕ → Ledger → ℕ → List ℕ
record_bytes t l = bytes_with t l (next_of t l) (prior_of t l) (calc_next t l)

unfoldable pub layout : List ℕ → Ledger → List ℕ
layout t l = laid (pages t) (record_bytes t l) (head_next t l)

-- Sound: whether a may stand before b in a chain's order
unfoldable pub may_precede : List ℕ → Ledger → ℕ → ℕ → ℕ → Bool
may_precede t l j a b =
    cond (eqb (order t j) 2) (not (less_key (key_in t l j b) (key_in t l j a)))
    (cond (eqb (order t j) 3) (not (less_key (key_in t l j a) (key_in t l j b))) true)

-- a record lies in its type's page range, on a line, with all its data
pub record Placed (t : List ℕ) (l : Ledger) (x : ℕ) : Type 0 where
  pub typed : defined t (kind_at l x) ≡ true
  pub low_page : low t (row t (kind_at l x)) ≤ page_of x
  pub high_page : page_of x ≤ high t (row t (kind_at l x))
  pub on_a_line : 1 ≤ line_of x
  pub full : length (bytes_at l x) ≡ data_len t (row t (kind_at l x))
  pub bytes : (i : ℕ) → get_or (bytes_at l x) i 0 < 256

pub record WellFormed (t : List ℕ) (l : Ledger) : Type 0 where
  pub placed : (x : ℕ) → present l x ≡ true → Placed t l x
  pub room : (p : ℕ) → used (record_bytes t l) p ≤ 496
  -- each header's CALC ring holds exactly the calculated records whose home it is
  pub calc_once : (p : ℕ) → once (l.calc p) ≡ true
  pub calc_own : (p x : ℕ) → elem x (l.calc p) ≡ true → (present l x ≡ true) × (calculated t (kind_at l x) ≡ true) × (home_of t l x ≡ p)
  pub calc_all : (x : ℕ) → present l x ≡ true → calculated t (kind_at l x) ≡ true → elem x (l.calc (home_of t l x)) ≡ true
  -- each chain's rings hold every record of the detail type exactly once with one master in each
  pub ring_once : (j m : ℕ) → once (l.ring j m) ≡ true
  pub ring_own : (j m x : ℕ) → elem x (l.ring j m) ≡ true
      → (j < chains t) × (present l m ≡ true) × (is_master t j (kind_at l m) ≡ true) × (present l x ≡ true) × (is_detail t j (kind_at l x) ≡ true)
  pub ring_all : (j x : ℕ) → j < chains t → present l x ≡ true → is_detail t j (kind_at l x) ≡ true → (m : ℕ) × (elem x (l.ring j m) ≡ true)
  pub ring_one : (j m n x : ℕ) → elem x (l.ring j m) ≡ true → elem x (l.ring j n) ≡ true → m ≡ n
  -- sorted rings are in order, and no forbidden duplicate stands
  pub in_order : (j m : ℕ) → pairs (may_precede t l j) (l.ring j m) ≡ true
  pub no_twins : (j m : ℕ) → 2 ≤ order t j → duplicates t j ≡ 2 → pairs (λ a b. not (same_key (key_in t l j a) (key_in t l j b))) (l.ring j m) ≡ true
  pub no_calc_twins : (x y : ℕ) → present l x ≡ true → present l y ≡ true → calculated t (kind_at l x) ≡ true → kind_at l x ≡ kind_at l y
      → same_key (calc_key t (kind_at l x) (bytes_at l x)) (calc_key t (kind_at l y) (bytes_at l y)) ≡ true → x ≡ y

-- a file is sound for a ledger: the ledger is well formed, and every byte is its layout's
pub record Sound (t f : List ℕ) (l : Ledger) : Type 0 where
  pub formed : WellFormed t l
  pub bytes : f ≡ layout t l
