-- Merging and sorting: what comes out is what went in, in order.
use Prim.Native.Nat.{ℕ, zero, suc, ◌+◌, ◌-◌, ◌/◌, ◌^◌, ◌≤◌}
use mathlib.Core.Path.{◌≡◌, refl, ap, sym, ◌∙◌}
use mathlib.Core.Logic.{inl, inr}
use mathlib.Core.Bool.{Bool, true, false, not, ◌&&◌, or_assoc, or_comm, and_assoc, and_comm, and-false}
use mathlib.Core.List.{List, [], ◌∷◌, ◌++◌}
use native.Mathlib.Omega.{arith}
use native.Mathlib.Nat.{pow-suc}
use lib.ListN.{length, take, drop, length-append, length-drop, take-append-drop}
use lib.Seq.{take_at, drop_at, length-take-le}
use lib.Dec.{eqb, ltb}
use borrow.Author.Tests.{le-ltb, not-true}
use Rattle.ledger.specs.Numbers.{elem, all, pairs}
use Rattle.ledger.proofs.Lists.Tests.{by_cases, either}
use Rattle.ledger.proofs.Lists.Members.{elem_nil, elem_append, elem_cases}
use Rattle.ledger.proofs.Lists.Pairs.{pairs_cons, pairs_head, pairs_tail}
use Rattle.audit_model.specs.Sorting.{second_first, merged, half, halves_merged, sorted}

-- the same numbers, each as often, in whatever order
pub data Shuffled : List ℕ → List ℕ → Type 0 where
  none : Shuffled [] []
  next : (x : ℕ) {xs ys : List ℕ} → Shuffled xs ys → Shuffled (x ∷ xs) (x ∷ ys)
  swap : (x y : ℕ) (xs : List ℕ) → Shuffled (x ∷ y ∷ xs) (y ∷ x ∷ xs)
  onto : {xs ys zs : List ℕ} → Shuffled xs ys → Shuffled ys zs → Shuffled xs zs

pub shuffled_self : (xs : List ℕ) → Shuffled xs xs
shuffled_self [] = none
shuffled_self (x ∷ xs) = next x (shuffled_self xs)

pub shuffled_front : (xs : List ℕ) {ys zs : List ℕ} → Shuffled ys zs → Shuffled (xs ++ ys) (xs ++ zs)
shuffled_front [] s = s
shuffled_front (x ∷ xs) s = next x (shuffled_front xs s)

pub shuffled_both : {ws xs : List ℕ} {ys zs : List ℕ} → Shuffled ws xs → Shuffled ys zs → Shuffled (ws ++ ys) (xs ++ zs)
shuffled_both none s = s
shuffled_both (next x r) s = next x (shuffled_both r s)
shuffled_both {zs = zs} (swap x y xs) s = onto (shuffled_front (x ∷ y ∷ xs) s) (swap x y (xs ++ zs))
shuffled_both {ys = ys} (onto r q) s = onto (shuffled_both r (shuffled_self ys)) (shuffled_both q s)

-- the first of a list moved past others
pub shuffled_past : (y : ℕ) (xs ys : List ℕ) → Shuffled (y ∷ xs ++ ys) (xs ++ y ∷ ys)
shuffled_past y [] ys = shuffled_self (y ∷ ys)
shuffled_past y (x ∷ xs) ys = onto (swap y x (xs ++ ys)) (next x (shuffled_past y xs ys))

-- what is the same of shuffled lists
pub shuffled_length : {xs ys : List ℕ} → Shuffled xs ys → length xs ≡ length ys
shuffled_length none = refl
shuffled_length (next x s) = ap suc (shuffled_length s)
shuffled_length (swap x y xs) = refl
shuffled_length (onto r s) = shuffled_length r ∙ shuffled_length s

pub shuffled_elem : (z : ℕ) {xs ys : List ℕ} → Shuffled xs ys → elem z xs ≡ elem z ys
unfolding elem
shuffled_elem z none = refl
shuffled_elem z (next x s) = rw (shuffled_elem z s)
shuffled_elem z (swap x y xs) = sym (or_assoc (eqb z x) (eqb z y) (elem z xs)) ∙ rw (or_comm (eqb z x) (eqb z y)) (or_assoc (eqb z y) (eqb z x) (elem z xs))
shuffled_elem z (onto r s) = shuffled_elem z r ∙ shuffled_elem z s

shuffled_all : (p : ℕ → Bool) {xs ys : List ℕ} → Shuffled xs ys → all p xs ≡ all p ys
unfolding all
shuffled_all p none = refl
shuffled_all p (next x s) = rw (shuffled_all p s)
shuffled_all p (swap x y xs) = sym (and_assoc (p x) (p y) (all p xs)) ∙ rw (and_comm (p x) (p y)) (and_assoc (p y) (p x) (all p xs))
shuffled_all p (onto r s) = shuffled_all p r ∙ shuffled_all p s

exchange : (a b c d : Bool) → (a && b && (c && d)) ≡ (a && c && (b && d))
exchange true true c d = refl
exchange true false c d = sym (and-false c)
exchange false b c d = refl

pub shuffled_pairs : (r : ℕ → ℕ → Bool) → ((a b : ℕ) → r a b ≡ r b a) → {xs ys : List ℕ} → Shuffled xs ys → pairs r xs ≡ pairs r ys
unfolding pairs all
shuffled_pairs r sy none = refl
shuffled_pairs r sy (next x s) = rw (shuffled_all (r x) s, shuffled_pairs r sy s)
shuffled_pairs r sy (swap x y xs) = rw (sy x y) (exchange (r y x) (all (r x) xs) (all (r y) xs) (pairs r xs))
shuffled_pairs r sy (onto q s) = shuffled_pairs r sy q ∙ shuffled_pairs r sy s

-- merging
module _ (less : ℕ → ℕ → Bool) where
  pub length_merged : (n : ℕ) (xs ys : List ℕ) → length (merged less n xs ys) ≡ n
  unfolding merged
  length_merged zero xs ys = refl
  length_merged (suc n) xs ys = by_cases (second_first less xs ys)
      (λ e. rw (e, length_merged n xs (drop 1 ys)))
      (λ e. rw (e, length_merged n (drop 1 xs) ys))

  pub merged_shuffled : (n : ℕ) (xs ys : List ℕ) → length xs + length ys ≡ n → Shuffled (merged less n xs ys) (xs ++ ys)
  unfolding merged second_first
  merged_shuffled zero [] [] e = none
  merged_shuffled zero [] (y ∷ ys) e = absurd (omega arith)
  merged_shuffled zero (x ∷ xs) ys e = absurd (omega arith)
  merged_shuffled (suc n) [] [] e = absurd (omega arith)
  merged_shuffled (suc n) (x ∷ xs) [] e = next x (merged_shuffled n xs [] (omega arith))
  merged_shuffled (suc n) [] (y ∷ ys) e = next y (merged_shuffled n [] ys (omega arith))
  merged_shuffled (suc n) (x ∷ xs) (y ∷ ys) e = by_cases (less y x)
      (λ t. rw t (onto (next y (merged_shuffled n (x ∷ xs) ys (omega arith))) (shuffled_past y (x ∷ xs) ys)))
      (λ t. rw t (next x (merged_shuffled n xs (y ∷ ys) (omega arith))))

  -- sorting
  both_halves : (h : ℕ) (l : List ℕ) → length (take h l) + length (drop h l) ≡ length l
  both_halves h l = rw (← length-append, take-append-drop)

  halves_shuffled : (room : ℕ) (l : List ℕ) → Shuffled (halves_merged less room l) l
  unfolding halves_merged
  halves_shuffled room l = by_cases (ltb room (length l))
      (λ t. rw t (shuffled_self l))
      (λ t. rw t (rw take-append-drop at (merged_shuffled (length l) (take (half l) l) (drop (half l) l) (both_halves (half l) l))))

  pub sorted_shuffled : (room level : ℕ) (l : List ℕ) → Shuffled (sorted less room level l) l
  unfolding sorted
  sorted_shuffled room zero l = shuffled_self l
  sorted_shuffled room (suc level) l =
      onto (halves_shuffled room _) (rw take-append-drop at (shuffled_both (sorted_shuffled room level (take (half l) l)) (sorted_shuffled room level (drop (half l) l))))

  pub length_sorted : (room level : ℕ) (l : List ℕ) → length (sorted less room level l) ≡ length l
  length_sorted room level l = shuffled_length (sorted_shuffled room level l)

-- an order: of two numbers one at most goes before the other, and numbers that do not go before one another stay so in a row
pub record Order (less : ℕ → ℕ → Bool) : Type 0 where
  pub turned : (a b : ℕ) → less a b ≡ true → less b a ≡ false
  pub rising : (a b c : ℕ) → less b a ≡ false → less c b ≡ false → less c a ≡ false

-- none goes before an earlier one
abbrev pub in_order_of : (ℕ → ℕ → Bool) → ℕ → ℕ → Bool
in_order_of less a b = not (less b a)

module _ (less : ℕ → ℕ → Bool) (o : Order less) where
  before_all : (z : ℕ) (ws us vs : List ℕ) → Shuffled ws (us ++ vs) → ((a : ℕ) → elem a us ≡ true → in_order_of less z a ≡ true)
      → ((a : ℕ) → elem a vs ≡ true → in_order_of less z a ≡ true) → pairs (in_order_of less) ws ≡ true → pairs (in_order_of less) (z ∷ ws) ≡ true
  before_all z ws us vs s f g p = pairs_cons (in_order_of less) z ws
      (λ a e. elim (either (elem a us) (elem a vs) (sym (elem_append a us vs) ∙ sym (shuffled_elem a s) ∙ e)) [ inl q ↦ f a q | inr q ↦ g a q ])
      p

  -- what comes after x in order comes after what x comes after
  after : (z x : ℕ) (xs : List ℕ) → less x z ≡ false → pairs (in_order_of less) (x ∷ xs) ≡ true → (a : ℕ) → elem a (x ∷ xs) ≡ true → in_order_of less z a ≡ true
  after z x xs h p a e = elim (elem_cases a x xs e) [
    | inl q ↦ rw (q, h)
    | inr q ↦ rw (o.rising z x a h (not-true _ (pairs_head (in_order_of less) x xs p a q)))
  ]

  pub merged_order : (n : ℕ) (xs ys : List ℕ) → length xs + length ys ≡ n → pairs (in_order_of less) xs ≡ true → pairs (in_order_of less) ys ≡ true
      → pairs (in_order_of less) (merged less n xs ys) ≡ true
  unfolding merged second_first
  merged_order zero xs ys e p q = unfold pairs in refl
  merged_order (suc n) [] [] e p q = absurd (omega arith)
  merged_order (suc n) (x ∷ xs) [] e p q =
      let k : length xs + 0 ≡ n = omega arith in
      before_all x _ xs [] (merged_shuffled less n xs [] k) (pairs_head (in_order_of less) x xs p) (λ a e. elem_nil a e) (merged_order n xs [] k (pairs_tail (in_order_of less) x xs p) q)
  merged_order (suc n) [] (y ∷ ys) e p q =
      let k : 0 + length ys ≡ n = omega arith in
      before_all y _ [] ys (merged_shuffled less n [] ys k) (λ a e. elem_nil a e) (pairs_head (in_order_of less) y ys q) (merged_order n [] ys k p (pairs_tail (in_order_of less) y ys q))
  merged_order (suc n) (x ∷ xs) (y ∷ ys) e p q = by_cases (less y x)
      (λ t. let k : length (x ∷ xs) + length ys ≡ n = omega arith in
      rw t (before_all y _ (x ∷ xs) ys (merged_shuffled less n (x ∷ xs) ys k) (after y x xs (o.turned y x t) p) (pairs_head (in_order_of less) y ys q)
      (merged_order n (x ∷ xs) ys k p (pairs_tail (in_order_of less) y ys q))))
      (λ t. let k : length xs + length (y ∷ ys) ≡ n = omega arith in
      rw t (before_all x _ xs (y ∷ ys) (merged_shuffled less n xs (y ∷ ys) k) (pairs_head (in_order_of less) x xs p) (after x y ys t q)
      (merged_order n xs (y ∷ ys) k (pairs_tail (in_order_of less) x xs p) q)))

  halves_apart : (room : ℕ) (a b : List ℕ) → length a ≡ (length a + length b) / 2 → length a + length b ≤ room
      → halves_merged less room (a ++ b) ≡ merged less (length a + length b) a b
  unfolding halves_merged half
  halves_apart room a b e h = rw (length-append, le-ltb room (length a + length b) h, take_at a b _ e, drop_at a b _ e)

  pub sorted_order : (room level : ℕ) (l : List ℕ) → length l ≤ room → length l ≤ 2 ^ level → pairs (in_order_of less) (sorted less room level l) ≡ true
  unfolding sorted half
  sorted_order room zero [] h k = unfold pairs in refl
  sorted_order room zero (x ∷ []) h k = unfold pairs all in refl
  sorted_order room zero (x ∷ y ∷ l) h k = absurd (omega (arith, k))
  sorted_order room (suc level) l h k =
      let m = length l / 2 in
      let a = sorted less room level (take m l) in
      let b = sorted less room level (drop m l) in
      let la : length a ≡ m = length_sorted less room level (take m l) ∙ length-take-le m l (omega arith) in
      let lb : length b ≡ length l - m = length_sorted less room level (drop m l) ∙ length-drop m l in
      let twice = rw pow-suc at k in
      let pa = sorted_order room level (take m l) (rw (length-take-le m l (omega arith)) (omega arith)) (rw (length-take-le m l (omega arith)) (omega arith)) in
      let pb = sorted_order room level (drop m l) (rw length-drop (omega arith)) (rw length-drop (omega arith)) in
      rw (halves_apart room a b (omega arith) (omega arith)) (merged_order (length a + length b) a b refl pa pb)
