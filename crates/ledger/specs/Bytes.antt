-- What stands where in a file's bytes `f`: records, their fields and links; a record looked up; a page with a record put in or taken out.
use Rattle.std.specs.Prelude.{ℕ, zero, suc, ◌+◌, ◌*◌, ◌-◌, ◌≤◌, ◌<◌, ◌≡◌, true, cond, ◌||◌, List, [], ◌++◌, length, get_or, take, drop, replicate, eqb, leb}
use Rattle.ledger.specs.Numbers.{digits, run, concat_of, part}
use Rattle.ledger.specs.Table.{chains, row, data_len, calculated, in_chain, linked_prior}
use Rattle.ledger.specs.Pages.{code_of, page_of, line_of, calc_at, link_at, record_size, Ledger, kind_at, bytes_at, next_of, prior_of, home_of, calc_next_of, record_bytes}

-- the records of a page before a line, and after it
unfoldable pub before : (ℕ → List ℕ) → ℕ → ℕ → List ℕ
before r p k = concat_of (λ j. r (code_of p j)) (run 1 (k - 1))

unfoldable pub after : (ℕ → List ℕ) → ℕ → ℕ → List ℕ
after r p k = concat_of (λ j. r (code_of p j)) (run (suc k) (64 - suc k))

-- where a line's record starts in its page
unfoldable pub start_of : (ℕ → List ℕ) → ℕ → ℕ → ℕ
start_of r p k = 16 + length (before r p k)

-- where a record starts in the file
unfoldable pub place_of : List ℕ → Ledger → ℕ → ℕ
place_of t l x = 512 * (page_of x - 1) + start_of (record_bytes t l) (page_of x) (line_of x)

-- the number of two bytes, and of three
unfoldable pub two_at : List ℕ → ℕ → ℕ
two_at f i = get_or f i 0 * 256 + get_or f (i + 1) 0

unfoldable pub three_at : List ℕ → ℕ → ℕ
three_at f i = (get_or f i 0 * 256 + get_or f (i + 1) 0) * 256 + get_or f (i + 2) 0

-- where page p, from 1 on, starts in a file
abbrev pub page_start : ℕ → ℕ
page_start p = 512 * (p - 1)

-- page p, as far as the file has it; no bytes for page 0
unfoldable pub page_in : List ℕ → ℕ → List ℕ
page_in f p = cond (eqb p 0) [] (part (page_start p) 512 f)

-- the size and the line in the head of a record that starts there
unfoldable pub size_at : List ℕ → ℕ → ℕ
size_at f at = two_at f (at + 2)

unfoldable pub line_at : List ℕ → ℕ → ℕ
line_at f at = get_or f (at + 4) 0

-- the head of a record's bytes: its size and its line
pub record Formed (x : ℕ) (b : List ℕ) : Type 0 where
  pub long : 5 ≤ length b
  pub size : two_at b 2 ≡ length b
  pub line : get_or b 4 0 ≡ line_of x

-- where the record of a line starts in a page, or 0: record by record from `at` on; `end` is where no record's head has room any more
unfoldable pub lookup : ℕ → ℕ → List ℕ → ℕ → ℕ → ℕ
lookup end zero f at line = 0
lookup end (suc fuel) f at line =
    let rest = lookup end fuel f (at + size_at f at) line in
    cond (eqb (size_at f at) 0 || leb end at) 0 (cond (eqb (line_at f at) line) at rest)

-- what the bytes of f from s on say of record x of a ledger
pub record Fields (t : List ℕ) (l : Ledger) (x : ℕ) (f : List ℕ) (s : ℕ) : Type 0 where
  pub kind : two_at f s ≡ kind_at l x
  pub size : two_at f (s + 2) ≡ record_size t (kind_at l x)
  pub line : get_or f (s + 4) 0 ≡ line_of x
  pub data_part : part (s + 5) (data_len t (row t (kind_at l x))) f ≡ bytes_at l x
  pub calc_next : calculated t (kind_at l x) ≡ true → three_at f (s + calc_at t (kind_at l x)) ≡ calc_next_of t l (home_of t l x) x
  pub next : (j : ℕ) → j < chains t → in_chain t j (kind_at l x) ≡ true → three_at f (s + link_at t (kind_at l x) j) ≡ next_of t l j x
  pub prior : (j : ℕ) → j < chains t → in_chain t j (kind_at l x) ≡ true → linked_prior t j ≡ 1
      → three_at f (s + (link_at t (kind_at l x) j + 3)) ≡ prior_of t l j x

-- a page's bytes with b put in at s, the last bytes dropped
unfoldable pub opened : List ℕ → ℕ → List ℕ → List ℕ
opened f s b = take s f ++ b ++ take (512 - (s + length b)) (drop s f)

-- a page's bytes with n bytes at s taken out, zeros at the end
unfoldable pub closed : List ℕ → ℕ → ℕ → List ℕ
closed f s n = take s f ++ drop (s + n) f ++ replicate n 0

-- a page's bytes with other FREE and FLAGS
unfoldable pub fielded : List ℕ → ℕ → ℕ → List ℕ
fielded f room bits = take 3 f ++ digits 2 room ++ digits 8 bits ++ drop 13 f
