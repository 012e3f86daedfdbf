-- What is written in a page or a file `f` where a record is put in or taken out, and where pages are made fresh.
use Rattle.std.specs.Prelude.{ℕ, zero, suc, ◌+◌, ◌*◌, ◌-◌, ◌/◌, ◌%◌, ◌^◌, cond, List, ◌++◌, length, get_or, set, take, drop, replicate, eqb, ltb}
use Rattle.std.proofs.lemmas.List.Edits.{sets}
use Rattle.ledger.specs.Numbers.{part}
use Rattle.ledger.specs.Pages.{page_of, line_of}
use Rattle.ledger.specs.Bytes.{two_at, size_at, line_at, page_start}
use Rattle.model.specs.declared.Gap.{Gap}
use Rattle.model.specs.Reads.{line_in}
use Rattle.model.specs.Room.{flags_at}
use Rattle.model.specs.Writes.{three_put}

-- v in the two bytes from i on
unfoldable pub two_put : List ℕ → ℕ → ℕ → List ℕ
two_put f i v = set (set f i (v / 256 % 256)) (i + 1) (v % 256)

-- the elements d, bytes or words, from `at` on, as far as there is room
unfoldable pub part_put : {A : Type 0} → List A → ℕ → List A → List A
part_put f at d = sets f at d

-- what stands at i of a page once n bytes are opened at `at`: zeros there, and the rest moved up
unfoldable pub opened_byte : List ℕ → ℕ → ℕ → ℕ → ℕ
opened_byte f at n i = cond (ltb i at) (get_or f i 0) (cond (ltb (i - at) n) 0 (get_or f (i - n) 0))

-- what stands there once n bytes at `at` are closed up: the rest moved down
unfoldable pub closed_byte : List ℕ → ℕ → ℕ → ℕ → ℕ
closed_byte f at n i = cond (ltb i at) (get_or f i 0) (get_or f (i + n) 0)

-- a page of the bytes that g says, written one by one from i on; n are left
unfoldable pub fill_from : (ℕ → ℕ) → List ℕ → ℕ → ℕ → List ℕ
fill_from g f i zero = f
fill_from g f i (suc n) = fill_from g (set f i (g i)) (i + 1) n

unfoldable pub fill : (ℕ → ℕ) → List ℕ
fill g = fill_from g (replicate 512 0) 0 512

-- a page with n bytes opened at `at`, and closed up over them
unfoldable pub opened_up : List ℕ → ℕ → ℕ → List ℕ
opened_up f at n = part_put f 0 (fill (opened_byte f at n))

unfoldable pub closed_up : List ℕ → ℕ → ℕ → List ℕ
closed_up f at n = part_put f 0 (fill (closed_byte f at n))

-- a page's free bytes and line flags
unfoldable pub flags_put : List ℕ → ℕ → List ℕ
flags_put f v =
    two_put (two_put (two_put (two_put f 5 (v / 65536 / 65536 / 65536)) 7 (v / 65536 / 65536 % 65536)) 9 (v / 65536 % 65536)) 11 (v % 65536)

unfoldable pub counts_put : List ℕ → ℕ → ℕ → List ℕ
counts_put f free flags = flags_put (two_put f 3 free) flags

-- a - b, where numbers wrap at w
unfoldable pub less_by : ℕ → ℕ → ℕ → ℕ
less_by w a b = (a + (w - b)) % w

-- in a gap a record's head, then its data d
unfoldable pub head_put : List ℕ → Gap → ℕ → ℕ → List ℕ
head_put f gap kind size = set (two_put (two_put f gap.at kind) (gap.at + 2) size) (gap.at + 4) gap.line

unfoldable pub fields_put : List ℕ → Gap → ℕ → ℕ → List ℕ → List ℕ
fields_put f gap kind size d = part_put (head_put f gap kind size) (gap.at + 5) d

-- a page with a record in a gap, its links 0
unfoldable pub record_put : List ℕ → Gap → ℕ → ℕ → List ℕ → List ℕ
record_put f gap kind size d =
    counts_put (fields_put (opened_up f gap.at size) gap kind size d)
    (less_by (2 ^ 16) (two_at f 3) size) ((flags_at f + 2 ^ (gap.line % 64)) % 2 ^ 64)

-- a page without the record that starts at `at`, and without that of a line
unfoldable pub record_taken : List ℕ → ℕ → List ℕ
record_taken f at =
    counts_put (closed_up f at (size_at f at))
    ((two_at f 3 + size_at f at) % 2 ^ 16) (less_by (2 ^ 64) (flags_at f) (2 ^ (line_at f at % 64)))

unfoldable pub line_taken : List ℕ → ℕ → List ℕ
line_taken f line = cond (eqb (line_in f line) 0) f (record_taken f (line_in f line))

-- an empty page p
unfoldable pub page_made : List ℕ → ℕ → List ℕ
page_made f p = three_put (counts_put (three_put (part_put f 0 (replicate 512 0)) 0 (64 * p)) 496 1) 13 (64 * p)

-- a file with its page p changed by g, where it has the page
unfoldable pub on_page : (List ℕ → List ℕ) → List ℕ → ℕ → List ℕ
on_page g f p =
    let page : List ℕ = part (page_start p) 512 f in
    cond (eqb p 0) f
    (cond (ltb (length f) (page_start p + 512)) f
    (take (page_start p) f ++ (g page ++ drop (page_start p + 512) f)))

unfoldable pub put_in : List ℕ → ℕ → Gap → ℕ → ℕ → List ℕ → List ℕ
put_in f p gap kind size d = on_page (λ page. record_put page gap kind size d) f p

unfoldable pub take_out : List ℕ → ℕ → List ℕ
take_out f c = on_page (λ page. line_taken page (line_of c)) f (page_of c)

-- a file of empty pages, from p on; n more may follow
unfoldable pub made_from : List ℕ → ℕ → ℕ → List ℕ
made_from f p zero = f
made_from f p (suc n) =
    cond (ltb (length f) (page_start p + 512)) f (made_from (on_page (λ page. page_made page p) f p) (p + 1) n)

unfoldable pub file_made : List ℕ → List ℕ
file_made f = made_from f 1 128
