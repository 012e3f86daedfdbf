-- Pages made fresh: a file of them is the layout of the empty ledger.
use Prim.Native.Nat.{ℕ, zero, suc, ◌+◌, ◌*◌, ◌≤◌, ◌<◌}
use mathlib.Core.Path.{◌≡◌, refl, sym, ◌∙◌}
use mathlib.Core.List.{List, [], ◌∷◌, ◌++◌, append_assoc}
use native.Mathlib.Omega.{arith}
use native.Mathlib.Numerals.{add-one}
use lib.ListN.{length, take, drop, replicate, length-append, length-replicate, length-drop, replicate-append-replicate}
use lib.Seq.{take_at, drop_at, drop-drop, length-take-le}
use borrow.Author.Tests.{ne_eqb, lt-ltb, le-ltb}
use Rattle.ledger.specs.Numbers.{digits, run, sum_of, concat_of, head_or}
use Rattle.ledger.specs.Table.{pages, Accepted}
use Rattle.ledger.specs.Pages.{code_of, empty, is_some, calc_next_of, head_next, header, page, packed, used, free, flags, laid, bytes_with, record_bytes, layout}
use Rattle.ledger.proofs.Lists.Runs.{concat_of_same}
use Rattle.ledger.proofs.Lists.Followers.{follower_first}
use Rattle.ledger.proofs.Bytes.Pages.{page_length}
use Rattle.ledger.proofs.Bytes.Writes.{page_same}
use Rattle.ledger.specs.Bytes.{page_start}
use Rattle.model.specs.Writes.{three_put}
use Rattle.model.specs.Moves.{two_put, flags_put, counts_put, page_made, on_page, made_from, file_made}
use Rattle.model.proofs.Fills.{put_whole}

-- an empty page p: no records, and its header alone in its CALC ring
abbrev pub blank : ℕ → List ℕ
blank p = page (λ x. []) (λ q. 64 * q) p

-- its header written over zeros
header_made : (v : ℕ) (z : List ℕ)
    → three_put (counts_put (three_put (replicate 16 0 ++ z) 0 v) 496 1) 13 v ≡ digits 3 v ++ digits 2 496 ++ digits 8 1 ++ digits 3 v ++ z
unfolding three_put counts_put flags_put two_put digits
header_made v z = refl

blank_bytes : (p : ℕ) → blank p ≡ digits 3 (64 * p) ++ digits 2 496 ++ digits 8 1 ++ digits 3 (64 * p) ++ replicate 496 0
unfolding page header packed used free flags run sum_of concat_of digits
blank_bytes p = refl

-- 512 bytes made a fresh page
pub page_fresh : (g : List ℕ) (p : ℕ) → length g ≡ 512 → page_made g p ≡ blank p
unfolding page_made
page_fresh g p whole =
    let zeros : replicate {A = ℕ} 512 0 ≡ replicate 16 0 ++ replicate 496 0 = sym (replicate-append-replicate {A = ℕ} 16 496 0) in
    rw (put_whole g (replicate 512 0) (length-replicate {A = ℕ} 512 0 ∙ sym whole), zeros, blank_bytes p) (header_made (64 * p) (replicate 496 0))

-- one page of a file made fresh: what stands before it, and what stands behind
page_made_in : (before rest : List ℕ) (p : ℕ) → 1 ≤ p → length before ≡ page_start p → 512 ≤ length rest
    → on_page (λ g. page_made g p) (before ++ rest) p ≡ before ++ blank p ++ drop 512 rest
unfolding on_page
page_made_in before rest p lo at long =
    let inside : page_start p + 512 ≤ length (before ++ rest) = rw length-append (omega arith) in
    rw (
      ne_eqb p 0 (λ z. omega arith),
      le-ltb (length (before ++ rest)) (page_start p + 512) inside,
      take_at before rest (page_start p) at,
      ← drop-drop 512 (page_start p) (before ++ rest),
      drop_at before rest (page_start p) at,
      page_fresh (take 512 rest) p (length-take-le 512 rest long),
      append_assoc,
    )

-- the m pages that a file has from page p on
made_from_lem : (n m p : ℕ) (before rest : List ℕ) → m ≤ n → 1 ≤ p → length before ≡ page_start p → length rest ≡ 512 * m
    → made_from (before ++ rest) p n ≡ before ++ concat_of blank (run p m)
unfolding made_from concat_of run
made_from_lem zero zero p before [] enough lo at long = refl
made_from_lem zero zero p before (x ∷ rest) enough lo at long = absurd (omega arith)
made_from_lem zero (suc m) p before rest enough lo at long = absurd (omega arith)
made_from_lem (suc n) zero p before [] enough lo at long =
    let short : length (before ++ []) < page_start p + 512 = rw length-append (omega arith) in
    rw (lt-ltb (length (before ++ [])) (page_start p + 512) short)
made_from_lem (suc n) zero p before (x ∷ rest) enough lo at long = absurd (omega arith)
made_from_lem (suc n) (suc m) p before rest enough lo at long =
    let inside : page_start p + 512 ≤ length (before ++ rest) = rw length-append (omega arith) in
    let size : length (blank p) ≡ 512 = page_length (λ x. []) (λ q. 64 * q) p (unfold used sum_of run in omega arith) in
    rw (le-ltb (length (before ++ rest)) (page_start p + 512) inside, page_made_in before rest p lo at (omega arith), add-one p)
    (made_from_lem n m (suc p) (before ++ blank p) (drop 512 rest) (omega arith) (omega arith) (rw (length-append, size) (omega arith)) (rw length-drop (omega arith))
    ∙ append_assoc before (blank p) (concat_of blank (run (suc p) m)))

-- a fresh file
pub file_blank : (t f : List ℕ) → Accepted t → length f ≡ 512 * pages t → file_made f ≡ laid (pages t) (λ x. []) (λ q. 64 * q)
unfolding file_made laid
file_blank t f a long = made_from_lem 128 (pages t) 1 [] f a.page_count.1 (omega arith) refl long

-- the empty ledger's layout
head_alone : (t : List ℕ) (p : ℕ) → head_next t empty p ≡ 64 * p
unfolding head_next calc_next_of head_or
head_alone t p = follower_first (64 * p) []

no_bytes : (t : List ℕ) (x : ℕ) → record_bytes t empty x ≡ []
unfolding record_bytes bytes_with is_some
no_bytes t x = refl

pub layout_blank : (t : List ℕ) → layout t empty ≡ laid (pages t) (λ x. []) (λ q. 64 * q)
unfolding layout laid
layout_blank t =
    concat_of_same blank (page (record_bytes t empty) (head_next t empty)) 1 (pages t) (λ p lo hi.
    page_same (λ x. []) (record_bytes t empty) (λ q. 64 * q) (head_next t empty) p (head_alone t p) (λ k low high. no_bytes t (code_of p k)))

pub file_made_lem : (t f : List ℕ) → Accepted t → length f ≡ 512 * pages t → file_made f ≡ layout t empty
file_made_lem t f a long = file_blank t f a long ∙ sym (layout_blank t)
