-- Lists whose members pass a test two by two, and lists with no number twice: by head and tail, joined, put into and taken from.
use Prim.Native.Nat.{ℕ, zero, suc, ◌≤◌, ◌<◌}
use mathlib.Core.Path.{◌≡◌, refl, sym, ◌∙◌}
use mathlib.Core.Logic.{◌≢◌}
use mathlib.Core.Bool.{Bool, true, false, not, ◌&&◌, and-false, and-true}
use mathlib.Core.List.{List, [], ◌∷◌, ◌++◌}
use native.Mathlib.Omega.{arith}
use lib.ListN.{length}
use lib.Dec.{eqb}
use borrow.Author.Tests.{eqb-false, ne_eqb, not-true}
use Rattle.ledger.specs.Numbers.{elem, keep, all, pairs, once, run, without}
use Rattle.ledger.proofs.Lists.Tests.{by_cases, clash, not_true_false, neither, both, not_or, eqb_same}
use Rattle.ledger.proofs.Lists.Members.{elem_here, elem_there, elem_tail, elem_put, elem_past, elem_out, run_elem, all_each, each_all, split_at_member}
use Rattle.ledger.proofs.Lists.Sieves.{keep_append, keep_all, elem_keep, keep_elem, keep_fewer, elem_keep_is, keep_none}

pub pairs_cons : (r : ℕ → ℕ → Bool) (x : ℕ) (xs : List ℕ) → ((y : ℕ) → elem y xs ≡ true → r x y ≡ true) → pairs r xs ≡ true → pairs r (x ∷ xs) ≡ true
unfolding pairs
pairs_cons r x xs f o = rw (each_all (r x) xs f) o

pub pairs_head : (r : ℕ → ℕ → Bool) (x : ℕ) (xs : List ℕ) → pairs r (x ∷ xs) ≡ true → (y : ℕ) → elem y xs ≡ true → r x y ≡ true
unfolding pairs
pairs_head r x xs o = all_each (r x) xs (both (all (r x) xs) (pairs r xs) o).0

pub pairs_tail : (r : ℕ → ℕ → Bool) (x : ℕ) (xs : List ℕ) → pairs r (x ∷ xs) ≡ true → pairs r xs ≡ true
unfolding pairs
pairs_tail r x xs o = (both (all (r x) xs) (pairs r xs) o).1

pub pairs_keep : (r : ℕ → ℕ → Bool) (p : ℕ → Bool) (xs : List ℕ) → pairs r xs ≡ true → pairs r (keep p xs) ≡ true
unfolding keep
pairs_keep r p [] o = o
pairs_keep r p (x ∷ xs) o =
    let rest = pairs_keep r p xs (pairs_tail r x xs o) in
    by_cases (p x)
    (λ a. rw a (pairs_cons r x _ (λ y e. pairs_head r x xs o y (keep_elem p y xs e).0) rest))
    (λ b. rw b rest)

-- another test that holds where the first does, of members
pub pairs_among : (r r' : ℕ → ℕ → Bool) (xs : List ℕ) → ((a b : ℕ) → elem a xs ≡ true → elem b xs ≡ true → r a b ≡ true → r' a b ≡ true)
    → pairs r xs ≡ true → pairs r' xs ≡ true
unfolding pairs
pairs_among r r' [] h o = refl
pairs_among r r' (x ∷ xs) h o =
    pairs_cons r' x xs (λ y e. h x y (elem_here x xs) (elem_tail y x xs e) (pairs_head r x xs o y e))
    (pairs_among r r' xs (λ a b e g. h a b (elem_tail a x xs e) (elem_tail b x xs g)) (pairs_tail r x xs o))

-- no number twice, by head and tail
all_not : (x : ℕ) (xs : List ℕ) → all (λ y. not (eqb x y)) xs ≡ not (elem x xs)
unfolding all elem
all_not x [] = refl
all_not x (y ∷ ys) = rw (all_not x ys, not_or)

pub once_nil : once [] ≡ true
unfolding once pairs
once_nil = refl

pub once_cons : (x : ℕ) (xs : List ℕ) → elem x xs ≡ false → once xs ≡ true → once (x ∷ xs) ≡ true
unfolding once pairs
once_cons x xs f o = rw (all_not x xs, f) o

pub once_head : (x : ℕ) (xs : List ℕ) → once (x ∷ xs) ≡ true → elem x xs ≡ false
unfolding once pairs
once_head x xs o = not-true (elem x xs) (sym (all_not x xs) ∙ (both (all (λ y. not (eqb x y)) xs) _ o).0)

pub once_tail : (x : ℕ) (xs : List ℕ) → once (x ∷ xs) ≡ true → once xs ≡ true
unfolding once
once_tail x xs o = pairs_tail _ x xs o

pub once_keep : (p : ℕ → Bool) (xs : List ℕ) → once xs ≡ true → once (keep p xs) ≡ true
unfolding once
once_keep p xs o = pairs_keep _ p xs o

pub once_run : (k n : ℕ) → once (run k n) ≡ true
unfolding run
once_run k zero = once_nil
once_run k (suc n) =
    once_cons k _ (not_true_false _ (λ t. omega (arith, (run_elem k (suc k) n t).0))) (once_run (suc k) n)

-- a member of such a list stands on neither side of itself
pub once_left : (x : ℕ) (ys zs : List ℕ) → once (ys ++ x ∷ zs) ≡ true → elem x ys ≡ false
unfolding elem
once_left x [] zs o = refl
once_left x (y ∷ ys) zs o =
    let n : x ≢ y = λ e. clash (elem x (ys ++ x ∷ zs)) (elem_put x ys zs) (rw (← e) at (once_head y _ o)) in
    elem_there x y ys n ∙ once_left x ys zs (once_tail y _ o)

pub once_right : (x : ℕ) (ys zs : List ℕ) → once (ys ++ x ∷ zs) ≡ true → elem x zs ≡ false
once_right x [] zs o = once_head x zs o
once_right x (y ∷ ys) zs o = once_right x ys zs (once_tail y _ o)

pub once_put : (x : ℕ) (ys zs : List ℕ) → elem x (ys ++ zs) ≡ false → once (ys ++ zs) ≡ true → once (ys ++ x ∷ zs) ≡ true
unfolding elem
once_put x [] zs f o = once_cons x zs f o
once_put x (y ∷ ys) zs f o =
    let (a, b) = neither (eqb x y) (elem x (ys ++ zs)) f in
    once_cons y _ (elem_past y x ys zs (λ e. eqb-false x y a (sym e)) ∙ once_head y _ o) (once_put x ys zs b (once_tail y _ o))

pub once_out : (x : ℕ) (ys zs : List ℕ) → once (ys ++ x ∷ zs) ≡ true → once (ys ++ zs) ≡ true
once_out x [] zs o = once_tail x zs o
once_out x (y ∷ ys) zs o = once_cons y _ (elem_out y x ys zs (once_head y _ o)) (once_out x ys zs (once_tail y _ o))

-- a member taken out
pub without_none : (x : ℕ) (xs : List ℕ) → elem x xs ≡ false → without x xs ≡ xs
unfolding without keep elem
without_none x [] h = refl
without_none x (y ∷ xs) h =
    let (a, b) = neither (eqb x y) (elem x xs) h in
    rw (ne_eqb y x λ e. eqb-false x y a (sym e), without_none x xs b)

pub without_in : (x : ℕ) (ys zs : List ℕ) → elem x ys ≡ false → elem x zs ≡ false → without x (ys ++ x ∷ zs) ≡ ys ++ zs
unfolding without keep
without_in x ys zs h g = rw (keep_append _ ys (x ∷ zs), eqb_same x, without_none x ys h, without_none x zs g)

pub without_once : (x : ℕ) (ys zs : List ℕ) → once (ys ++ x ∷ zs) ≡ true → without x (ys ++ x ∷ zs) ≡ ys ++ zs
without_once x ys zs o = without_in x ys zs (once_left x ys zs o) (once_right x ys zs o)

pub elem_without : (y x : ℕ) (xs : List ℕ) → elem y (without x xs) ≡ (elem y xs && not (eqb y x))
unfolding without
elem_without y x xs = elem_keep_is (λ z. not (eqb z x)) y xs

pub without_gone : (x : ℕ) (xs : List ℕ) → elem x (without x xs) ≡ false
without_gone x xs = elem_without x x xs ∙ rw (eqb_same x) (and-false (elem x xs))

pub without_else : (x : ℕ) (xs : List ℕ) (y : ℕ) → y ≢ x → elem y (without x xs) ≡ elem y xs
without_else x xs y n = elem_without y x xs ∙ rw (ne_eqb y x n) (and-true (elem y xs))

pub without_pairs : (r : ℕ → ℕ → Bool) (x : ℕ) (xs : List ℕ) → pairs r xs ≡ true → pairs r (without x xs) ≡ true
unfolding without
without_pairs r x xs o = pairs_keep r _ xs o

pub without_ones : (x : ℕ) (xs : List ℕ) → once xs ≡ true → once (without x xs) ≡ true
unfolding without
without_ones x xs o = once_keep _ xs o

-- a list with no number twice, all of whose members another has, is no longer than that
pub pigeons : (xs ys : List ℕ) → once xs ≡ true → ((y : ℕ) → elem y xs ≡ true → elem y ys ≡ true) → length xs ≤ length ys
pigeons [] ys d sub = omega arith
pigeons (x ∷ xs) ys d sub =
    let other : ℕ → Bool = λ y. not (eqb y x) in
    let less : length (keep other ys) < length ys =
    rw keep_all at (keep_fewer other (λ y. true) x ys (λ y e. refl) (rw (eqb_same x)) refl (sub x (elem_here x xs))) in
    let ih : length xs ≤ length (keep other ys) =
    pigeons xs (keep other ys) (once_tail x xs d) (λ y e.
    elem_keep other y ys (sub y (elem_tail y x xs e)) (rw (ne_eqb y x (λ q. clash (elem y xs) e (rw q (once_head x xs d)))))) in
    omega arith

-- of a list with no number twice, the one that is a number
pub keep_one : (x : ℕ) (xs : List ℕ) → once xs ≡ true → elem x xs ≡ true → keep (λ y. eqb y x) xs ≡ x ∷ []
unfolding keep
keep_one x xs o e =
    let (ys, zs, s, n) = split_at_member x xs e in
    let u : once (ys ++ x ∷ zs) ≡ true = rw s at o in
    let none : (vs : List ℕ) → elem x vs ≡ false → keep (λ y. eqb y x) vs ≡ [] =
    λ vs f. keep_none _ vs (λ y i. ne_eqb y x (λ q. clash _ i (rw q f))) in
    rw (s, keep_append (λ y. eqb y x) ys (x ∷ zs), eqb_same x, none ys n, none zs (once_right x ys zs u))
