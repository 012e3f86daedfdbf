-- What is written in any bytes `f`: nothing where there is no place for it.
use Rattle.std.specs.Prelude.{ℕ, ◌+◌, ◌/◌, ◌%◌, cond, List, set, eqb}
use Rattle.ledger.specs.Table.{linked_prior}
use Rattle.ledger.specs.Pages.{page_of, line_of, calc_at, link_at}
use Rattle.model.specs.Reads.{place_in, kind_in}
use Rattle.ledger.specs.Bytes.{page_start}

-- v in the three bytes from i on
unfoldable pub three_put : List ℕ → ℕ → ℕ → List ℕ
three_put f i v = set (set (set f i (v / 256 / 256 % 256)) (i + 1) (v / 256 % 256)) (i + 2) (v % 256)

-- v as the link that stands k bytes into the record that starts at `at`; nothing where `at` is 0
unfoldable pub link_put : List ℕ → ℕ → ℕ → ℕ → List ℕ
link_put f at k v = cond (eqb at 0) f (three_put f (at + k) v)

-- v as the NEXT of record c in chain j, and as its PRIOR, where the chain has PRIORs
unfoldable pub next_put : List ℕ → List ℕ → ℕ → ℕ → ℕ → List ℕ
next_put t f j c v = link_put f (place_in f c) (link_at t (kind_in f c) j) v

unfoldable pub prior_put : List ℕ → List ℕ → ℕ → ℕ → ℕ → List ℕ
prior_put t f j c v = cond (eqb (linked_prior t j) 1) (link_put f (place_in f c) (link_at t (kind_in f c) j + 3) v) f

-- v as its CALC NEXT, and as that of page p's header
unfoldable pub calc_next_put : List ℕ → List ℕ → ℕ → ℕ → List ℕ
calc_next_put t f c v = link_put f (place_in f c) (calc_at t (kind_in f c)) v

unfoldable pub head_put : List ℕ → ℕ → ℕ → List ℕ
head_put f p v = cond (eqb p 0) f (three_put f (page_start p + 13) v)

-- v after code c in a CALC ring, be that a record or a header
unfoldable pub calc_put : List ℕ → List ℕ → ℕ → ℕ → List ℕ
calc_put t f c v = cond (eqb (line_of c) 0) (head_put f (page_of c) v) (calc_next_put t f c v)

-- `a` directly after `b` in a ring of chain j
unfoldable pub joined_in : List ℕ → List ℕ → ℕ → ℕ → ℕ → List ℕ
joined_in t f j b a = prior_put t (next_put t f j b a) j a b

-- x between `b` and `a`
unfoldable pub linked_in : List ℕ → List ℕ → ℕ → ℕ → ℕ → ℕ → List ℕ
linked_in t f j x b a = joined_in t (joined_in t f j x a) j b x
