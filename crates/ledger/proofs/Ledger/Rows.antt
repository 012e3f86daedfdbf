-- The rows of an accepted table: numbers, ranges, homes, sizes, chains; and the codes of records that are placed by them.
use Prim.Native.Nat.{ℕ, zero, suc, ◌+◌, ◌*◌, ◌-◌, ◌%◌, ◌≤◌, ◌<◌}
use mathlib.Core.Path.{◌≡◌, ◌∙◌}
use mathlib.Core.Bool.{true, false, ◌&&◌}
use mathlib.Core.List.{List}
use native.Mathlib.Omega.{arith}
use native.Mathlib.Nat.{mod-lt, add-zero}
use lib.Dec.{eqb, ltb}
use borrow.Author.Tests.{eqb-true, ne_eqb, ltb-true, ltb-false, lt-ltb}
use Rattle.ledger.specs.Numbers.{elem, run}
use Rattle.ledger.specs.Table.{pages, chains, types, number, data_len, low, high, row_from, row, defined, calculated, master_type, detail_type, linked_prior, is_master, is_detail, in_chain, Accepted, TypeRow, ChainRow}
use Rattle.ledger.specs.Pages.{page_of, hash_from, home, link_bytes, calc_at, link_at, record_size, Ledger, kind_at, codes, Placed}
use Rattle.ledger.specs.Calls.{as_detail}
use Rattle.ledger.proofs.Lists.Tests.{by_cases, clash, not_true_false}
use Rattle.ledger.proofs.Lists.Members.{elem_run, run_elem}
use Rattle.ledger.proofs.Lists.Sieves.{elem_keep_is}
use Rattle.ledger.proofs.Lists.Runs.{sum_of_most}

-- the row of a defined type has its number
row_from_lem : (t : List ℕ) (n i k : ℕ) → row_from t n i k < i + k → number t (row_from t n i k) ≡ n
unfolding row_from
row_from_lem t n i zero h = absurd (omega arith)
row_from_lem t n i (suc k) h = by_cases (eqb (number t i) n)
    (λ e. rw e (eqb-true (number t i) n e))
    (λ e. let g : row_from t n (suc i) k < i + suc k = rw e at h in rw e (row_from_lem t n (suc i) k (omega arith)))

pub row_number : (t : List ℕ) (n : ℕ) → defined t n ≡ true → number t (row t n) ≡ n
unfolding defined
row_number t n h = let b = ltb-true (row t n) (types t) h in row_from_lem t n 0 (types t) (omega arith)

pub row_inside : (t : List ℕ) (n : ℕ) → defined t n ≡ true → row t n < types t
unfolding defined
row_inside t n d = ltb-true _ _ d

pub type_row : (t : List ℕ) (n : ℕ) → Accepted t → defined t n ≡ true → TypeRow t (row t n)
type_row t n a d = a.type_rows (row t n) (row_inside t n d)

pub kind_within : (t : List ℕ) (n : ℕ) → Accepted t → defined t n ≡ true → (1 ≤ n) × (n ≤ 999)
kind_within t n a d =
    let r = (type_row t n a d).numbered in
    let e = row_number t n d in
    (omega (arith, r.0), omega (arith, r.1))

-- rows rise with their numbers
pub numbers_rise : (t : List ℕ) → Accepted t → (i d : ℕ) → i + d < types t → number t i ≤ number t (i + d)
numbers_rise t a i zero h = rw (add-zero i) (omega arith)
numbers_rise t a i (suc d) h =
    let ih = numbers_rise t a i d (omega arith) in
    let r = (a.type_rows (i + suc d) h).rising (omega arith) in
    let e : i + suc d - 1 ≡ i + d = omega arith in
    let s : number t (i + d) < number t (i + suc d) = rw e at r in
    omega arith

pub rows_rise : (t : List ℕ) (n m : ℕ) → Accepted t → defined t n ≡ true → defined t m ≡ true → n < m → row t n < row t m
unfolding defined
rows_rise t n m a d e h =
    let p = row_number t n d in
    let q = row_number t m e in
    let u = ltb-true (row t n) (types t) d in
    by_cases (ltb (row t n) (row t m))
    (λ g. ltb-true _ _ g)
    (λ g.
    let b = ltb-false (row t n) (row t m) g in
    let k : row t m + (row t n - row t m) ≡ row t n = omega arith in
    let r : number t (row t m) ≤ number t (row t n) = rw k at (numbers_rise t a (row t m) (row t n - row t m) (omega arith)) in
    absurd (omega arith))

-- no type is 0: where there is no record there is no master and no detail
pub none_no_master : (t : List ℕ) (j : ℕ) → Accepted t → j < chains t → is_master t j 0 ≡ false
unfolding is_master
none_no_master t j a h =
    let k = (kind_within t (master_type t j) a (a.chain_rows j h).both_defined.0).0 in
    ne_eqb (master_type t j) 0 (omega arith)

pub none_no_detail : (t : List ℕ) (j : ℕ) → Accepted t → j < chains t → is_detail t j 0 ≡ false
unfolding is_detail
none_no_detail t j a h =
    let k = (kind_within t (detail_type t j) a (a.chain_rows j h).both_defined.1).0 in
    ne_eqb (detail_type t j) 0 (omega arith)

-- a detail of a chain is no master in it
pub detail_no_master : (t : List ℕ) (j n : ℕ) → ChainRow t j → is_detail t j n ≡ true → is_master t j n ≡ false
unfolding is_master is_detail
detail_no_master t j n c h =
    let down = c.downward in
    let e : detail_type t j ≡ n = eqb-true _ _ h in
    ne_eqb (master_type t j) n (omega arith)

-- a page of a type's range
abbrev pub Within : List ℕ → ℕ → ℕ → Type 0
Within t n p = (low t (row t n) ≤ p) × (p ≤ high t (row t n))

pub home_in_range : (t : List ℕ) (n : ℕ) (key : List ℕ) → Accepted t → defined t n ≡ true → Within t n (home t n key)
unfolding home
home_in_range t n key a d =
    let up = (type_row t n a d).ranged.1 in
    let m : hash_from 0 key % (high t (row t n) - low t (row t n) + 1) < high t (row t n) - low t (row t n) + 1 = mod-lt _ (omega arith) in
    (omega arith, omega arith)

-- so it is a page of the file
pub range_within : (t : List ℕ) (n p : ℕ) → Accepted t → defined t n ≡ true → Within t n p → (1 ≤ p) × (p ≤ pages t)
range_within t n p a d w = let r = (type_row t n a d).ranged in (omega (arith, r.0, w.0), omega (arith, r.2, w.1))

pub home_within : (t : List ℕ) (n : ℕ) (key : List ℕ) → Accepted t → defined t n ≡ true → (1 ≤ home t n key) × (home t n key ≤ pages t)
home_within t n key a d = range_within t n _ a d (home_in_range t n key a d)

-- a record's size is two bytes
pub links_small : (t : List ℕ) (n j : ℕ) → link_bytes t n j ≤ 6
unfolding link_bytes
links_small t n j = by_cases (in_chain t j n)
    (λ e. by_cases (eqb (linked_prior t j) 1) (λ f. rw (e, f) (omega arith)) (λ f. rw (e, f) (omega arith)))
    (λ e. rw e (omega arith))

pub size_small : (t : List ℕ) (n : ℕ) → Accepted t → defined t n ≡ true → record_size t n ≤ 304
unfolding record_size link_at calc_at
size_small t n a d =
    let data_within = (type_row t n a d).data_within in
    let few = a.chain_count in
    let sum = sum_of_most (link_bytes t n) 6 0 (chains t) (links_small t n) in
    by_cases (calculated t n) (λ e. rw e (omega arith)) (λ e. rw e (omega arith))

pub size_least : (t : List ℕ) (n : ℕ) → 5 + data_len t (row t n) ≤ record_size t n
unfolding record_size link_at calc_at
size_least t n = omega arith

-- a present record's page is a page of the file, and its code one of its codes
pub placed_within : (t : List ℕ) (l : Ledger) (x : ℕ) → Accepted t → Placed t l x → (1 ≤ page_of x) × (page_of x ≤ pages t)
placed_within t l x a p = range_within t (kind_at l x) _ a p.typed (p.low_page, p.high_page)

pub code_listed : (t : List ℕ) (l : Ledger) (x : ℕ) → Accepted t → Placed t l x → elem x (codes t) ≡ true
unfolding codes
code_listed t l x a p =
    let w = placed_within t l x a p in
    elem_run x 64 (64 * pages t) (omega (arith, w.0)) (omega (arith, w.1))

pub listed_small : (t : List ℕ) (x : ℕ) → elem x (codes t) ≡ true → x < 64 * pages t + 64
unfolding codes
listed_small t x e = omega (arith, (run_elem x 64 (64 * pages t) e).1)

-- the chains of which a type is the detail
pub detail_chain : (t : List ℕ) (n j : ℕ) → elem j (as_detail t n) ≡ (ltb j (chains t) && is_detail t j n)
unfolding as_detail
detail_chain t n j = elem_keep_is (λ j. is_detail t j n) j (run 0 (chains t)) ∙ by_cases (ltb j (chains t))
    (λ y. let lt = ltb-true j (chains t) y in rw (y, elem_run j 0 (chains t) (omega arith) (omega arith)))
    (λ y. rw (y, not_true_false (elem j (run 0 (chains t))) (λ e. clash _ (lt-ltb j (chains t) (omega (arith, (run_elem j 0 (chains t) e).1))) y)))

pub as_detail_lem : (t : List ℕ) (n j : ℕ) → j < chains t → is_detail t j n ≡ true → elem j (as_detail t n) ≡ true
as_detail_lem t n j h g = detail_chain t n j ∙ rw (lt-ltb j (chains t) h, g)
