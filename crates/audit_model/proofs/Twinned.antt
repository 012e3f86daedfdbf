-- Twins stand side by side in a sorted list, so that a look at neighbours finds them.
use Prim.Native.Nat.{ℕ, zero, suc, ◌+◌, ◌-◌, ◌≤◌, ◌<◌}
use mathlib.Core.Path.{◌≡◌, refl, sym, ◌∙◌, ap}
use mathlib.Core.Logic.{◌≢◌, inl, inr, ◌⊎◌}
use mathlib.Core.Bool.{Bool, true, false, not, ◌&&◌, false≢true}
use mathlib.Core.List.{List, [], ◌∷◌}
use native.Mathlib.Omega.{arith}
use lib.ListN.{length}
use lib.Dec.{eqb, ltb}
use borrow.Author.Tests.{lt-ltb, le-ltb, ltb-true, ltb-false, eq-eqb, eqb-true, eqb-false, not-true}
use Rattle.ledger.specs.Numbers.{elem, pairs, less_key, once}
use Rattle.ledger.specs.Bytes.{two_at}
use Rattle.ledger.proofs.Lists.Tests.{by_cases, clash, same_tests, both}
use Rattle.ledger.proofs.Lists.Members.{elem_cases, elem_here, elem_nil}
use Rattle.ledger.proofs.Lists.Pairs.{pairs_cons, pairs_head, pairs_tail, pairs_among}
use Rattle.ledger.proofs.Lists.Keys.{same_eq, same_self, less_self, less_total, less_turned, at_most_trans}
use Rattle.audit_model.specs.Sorting.{key_from, goes_before}
use Rattle.audit_model.specs.Twins.{are_twins, calculated_at, gather_from, gathered, code_from, lower, lower_twin, lowest_from, twin_among, twin_fault}
use Rattle.audit_model.proofs.Sorts.{Order, in_order_of, sorted_order, sorted_shuffled, shuffled_pairs}

-- neighbours in a list, two by two
unfoldable pub neighbours : (ℕ → ℕ → Bool) → List ℕ → Bool
neighbours r [] = true
neighbours r (x ∷ []) = true
neighbours r (x ∷ y ∷ l) = r x y && neighbours r (y ∷ l)

module _ (r : ℕ → ℕ → Bool) where
  pub pairs_neighbours : (l : List ℕ) → pairs r l ≡ true → neighbours r l ≡ true
  unfolding neighbours
  pairs_neighbours [] p = refl
  pairs_neighbours (x ∷ []) p = refl
  pairs_neighbours (x ∷ y ∷ l) p = rw (pairs_head r x (y ∷ l) p y (elem_here y l)) (pairs_neighbours (y ∷ l) (pairs_tail r x (y ∷ l) p))

  pub neighbours_pairs : ((a b c : ℕ) → r a b ≡ true → r b c ≡ true → r a c ≡ true) → (l : List ℕ) → neighbours r l ≡ true → pairs r l ≡ true
  unfolding neighbours
  neighbours_pairs tr [] n = unfold pairs in refl
  neighbours_pairs tr (x ∷ []) n = pairs_cons r x [] (λ z e. elem_nil z e) (unfold pairs in refl)
  neighbours_pairs tr (x ∷ y ∷ l) n =
      let (h, k) = both (r x y) (neighbours r (y ∷ l)) n in
      let p = neighbours_pairs tr (y ∷ l) k in
      pairs_cons r x (y ∷ l) (λ z e. elim (elem_cases z y l e) [ inl q ↦ rw (q, h) | inr q ↦ tr x y z h (pairs_head r y l p z q) ]) p

-- of a symmetric test on pairs: what it says of two different members, and from that of all
module _ (r : ℕ → ℕ → Bool) (sy : (a b : ℕ) → r a b ≡ r b a) where
  pub pairs_members : (l : List ℕ) → pairs r l ≡ true → (a b : ℕ) → elem a l ≡ true → elem b l ≡ true → a ≢ b → r a b ≡ true
  pairs_members [] p a b e g n = elem_nil a e
  pairs_members (x ∷ l) p a b e g n = elim (elem_cases a x l e) [
    | inl i ↦ elim (elem_cases b x l g) [
      | inl j ↦ absurd (n (i ∙ sym j))
      | inr j ↦ rw i (pairs_head r x l p b j)
    ]
    | inr i ↦ elim (elem_cases b x l g) [
      | inl j ↦ sy a b ∙ rw j (pairs_head r x l p a i)
      | inr j ↦ pairs_members l (pairs_tail r x l p) a b i j n
    ]
  ]

pub members_pairs : (r : ℕ → ℕ → Bool) (l : List ℕ) → once l ≡ true
    → ((a b : ℕ) → elem a l ≡ true → elem b l ≡ true → a ≢ b → r a b ≡ true) → pairs r l ≡ true
unfolding once
members_pairs r l o f = pairs_among _ r l (λ a b e g n. f a b e g (eqb-false a b (not-true _ n))) o

module _ (t f : List ℕ) where
  -- the three ways that two records stand to each other
  compared {ℓ} : {A : Type ℓ} (x y : ℕ) → (x < y → A) → (y < x → A) → (x ≡ y → A) → A
  compared x y l g e = by_cases (ltb x y) (λ b. l (ltb-true x y b)) (λ b. by_cases (ltb y x) (λ c. g (ltb-true y x c)) (λ c. e (omega (arith, ltb-false x y b, ltb-false y x c))))

  lower_before : (a b : ℕ) → two_at f a < two_at f b → goes_before t f a b ≡ true
  unfolding goes_before
  lower_before a b h = rw (lt-ltb (two_at f a) (two_at f b) h)

  higher_before : (a b : ℕ) → two_at f b < two_at f a → goes_before t f a b ≡ false
  unfolding goes_before
  higher_before a b h = rw (le-ltb (two_at f a) (two_at f b) (omega arith), lt-ltb (two_at f b) (two_at f a) h)

  same_before : (a b : ℕ) → two_at f a ≡ two_at f b → goes_before t f a b ≡ less_key (key_from t f a) (key_from t f b)
  unfolding goes_before
  same_before a b e = rw (le-ltb (two_at f a) (two_at f b) (omega arith), le-ltb (two_at f b) (two_at f a) (omega arith))

  before_turned : (a b : ℕ) → goes_before t f a b ≡ true → goes_before t f b a ≡ false
  before_turned a b h = compared (two_at f a) (two_at f b)
      (λ l. higher_before b a l)
      (λ g. clash _ h (higher_before a b g))
      (λ e. same_before b a (sym e) ∙ less_turned _ _ (sym (same_before a b e) ∙ h))

  -- of two records of which b does not go before a: a's type is lower, or the same with no lower key in b
  not_before : (a b : ℕ) → goes_before t f b a ≡ false → (two_at f a < two_at f b) ⊎ ((two_at f a ≡ two_at f b) × (less_key (key_from t f b) (key_from t f a) ≡ false))
  not_before a b h = compared (two_at f a) (two_at f b)
      (λ l. inl l)
      (λ g. clash _ (lower_before b a g) h)
      (λ e. inr (e, sym (same_before b a (sym e)) ∙ h))

  before_rising : (a b c : ℕ) → goes_before t f b a ≡ false → goes_before t f c b ≡ false → goes_before t f c a ≡ false
  before_rising a b c h g = go (not_before a b h) (not_before b c g)
    where
      go : (two_at f a < two_at f b) ⊎ ((two_at f a ≡ two_at f b) × (less_key (key_from t f b) (key_from t f a) ≡ false))
          → (two_at f b < two_at f c) ⊎ ((two_at f b ≡ two_at f c) × (less_key (key_from t f c) (key_from t f b) ≡ false)) → goes_before t f c a ≡ false
      go (inl p) (inl q) = higher_before c a (omega arith)
      go (inl p) (inr q) = higher_before c a (omega (arith, q.0))
      go (inr p) (inl q) = higher_before c a (omega (arith, p.0))
      go (inr p) (inr q) = same_before c a (sym q.0 ∙ sym p.0) ∙ at_most_trans _ _ _ p.1 q.1

  pub before_order : Order (goes_before t f)
  before_order = record { turned = before_turned; rising = before_rising }

  before_trans : (a b c : ℕ) → goes_before t f a b ≡ true → goes_before t f b c ≡ true → goes_before t f a c ≡ true
  before_trans a b c h g = by_cases (goes_before t f a c) (λ e. e) (λ e. clash _ h (before_rising b c a (before_turned b c g) e))

  -- twins: the same type and the same key
  pub twins_are : (a b : ℕ) → are_twins t f a b ≡ true → (two_at f a ≡ two_at f b) × (key_from t f a ≡ key_from t f b)
  unfolding are_twins
  twins_are a b h = by_cases (eqb (two_at f a) (two_at f b))
      (λ e. (eqb-true (two_at f a) (two_at f b) e, same_eq _ _ (rw e at h)))
      (λ e. absurd (false≢true (rw e at h)))

  pub are_twins_lem : (a b : ℕ) → two_at f a ≡ two_at f b → key_from t f a ≡ key_from t f b → are_twins t f a b ≡ true
  unfolding are_twins
  are_twins_lem a b e k = rw (eq-eqb (two_at f a) (two_at f b) e, k) (same_self (key_from t f b))

  twins_turned : (a b : ℕ) → are_twins t f a b ≡ true → are_twins t f b a ≡ true
  twins_turned a b h = let (e, k) = twins_are a b h in are_twins_lem b a (sym e) (sym k)

  -- no twins
  abbrev pub apart : ℕ → ℕ → Bool
  apart a b = not (are_twins t f a b)

  apart_turned : (a b : ℕ) → apart a b ≡ apart b a
  apart_turned a b = ap not (same_tests (are_twins t f a b) (are_twins t f b a) (twins_turned a b) (twins_turned b a))

  before_apart : (a b : ℕ) → goes_before t f a b ≡ true → apart a b ≡ true
  before_apart a b h = by_cases (are_twins t f a b)
      (λ w. let (e, k) = twins_are a b w in clash _ (sym (same_before a b e) ∙ h) (rw k (less_self (key_from t f b))))
      (λ w. rw w)

  apart_before : (a b : ℕ) → apart a b ≡ true → in_order_of (goes_before t f) a b ≡ true → goes_before t f a b ≡ true
  apart_before a b w h = compared (two_at f a) (two_at f b)
      (λ l. lower_before a b l)
      (λ g. clash _ (lower_before b a g) (not-true _ h))
      (λ e. by_cases (goes_before t f a b) (λ q. q) (λ q.
      clash _ (are_twins_lem a b e (less_total _ _ (sym (same_before a b e) ∙ q) (sym (same_before b a (sym e)) ∙ not-true _ h))) (not-true _ w)))

  -- in a sorted list, if no neighbours are twins then none are
  neighbours_before : (l : List ℕ) → neighbours apart l ≡ true → pairs (in_order_of (goes_before t f)) l ≡ true → neighbours (goes_before t f) l ≡ true
  unfolding neighbours
  neighbours_before [] n p = refl
  neighbours_before (x ∷ []) n p = refl
  neighbours_before (x ∷ y ∷ l) n p =
      let (h, k) = both (apart x y) (neighbours apart (y ∷ l)) n in
      rw (apart_before x y h (pairs_head _ x (y ∷ l) p y (elem_here y l))) (neighbours_before (y ∷ l) k (pairs_tail _ x (y ∷ l) p))

  pub neighbours_apart : (l : List ℕ) → pairs (in_order_of (goes_before t f)) l ≡ true → neighbours apart l ≡ true → pairs apart l ≡ true
  neighbours_apart l p n =
      pairs_among (goes_before t f) apart l (λ a b _ _ h. before_apart a b h) (neighbours_pairs (goes_before t f) before_trans l (neighbours_before l n p))

  -- lowest_twin
  code_some : (s : ℕ) → 0 < code_from f s
  unfolding code_from
  code_some s = omega arith

  lower_some : (a b : ℕ) → 0 < b → lower a b ≢ 0
  unfolding lower
  lower_some a b h z = by_cases (eqb a 0)
      (λ e. omega (arith, rw e at z))
      (λ e. by_cases (ltb b a) (λ k. omega (arith, rw (e, k) at z)) (λ k. eqb-false a 0 e (rw (e, k) at z)))

  pub looked_none : (w : ℕ) (l : List ℕ) → lowest_from t f w l ≡ 0 → (w ≡ 0) × (neighbours apart l ≡ true)
  unfolding lowest_from lower_twin neighbours
  looked_none w [] z = (z, refl)
  looked_none w (a ∷ []) z = (z, refl)
  looked_none w (a ∷ b ∷ l) z =
      let (e, n) = looked_none (lower_twin t f w a b) (b ∷ l) z in
      by_cases (are_twins t f a b)
      (λ h. absurd (lower_some (lower w (code_from f a)) (code_from f b) (code_some b) (rw h at e)))
      (λ h. (rw h at e, rw h n))

  pub none_looked : (l : List ℕ) → neighbours apart l ≡ true → lowest_from t f 0 l ≡ 0
  unfolding lowest_from lower_twin neighbours
  none_looked [] n = refl
  none_looked (a ∷ []) n = refl
  none_looked (a ∷ b ∷ l) n =
      let (h, k) = both (apart a b) (neighbours apart (b ∷ l)) n in
      rw (not-true (are_twins t f a b) h) (none_looked (b ∷ l) k)

  -- gather
  pub length_gathered : (room c n : ℕ) → length (gather_from t f room c n) ≤ room
  unfolding gather_from
  length_gathered room c zero = omega arith
  length_gathered room c (suc n) = by_cases (eqb (calculated_at t f c) 0)
      (λ e. rw e (length_gathered room (c + 1) n))
      (λ e. by_cases (eqb room 0)
      (λ z. rw (e, z) (length_gathered room (c + 1) n))
      (λ z. rw (e, z) (let nz = eqb-false room 0 z in omega (arith, length_gathered (room - 1) (c + 1) n))))

  -- twin_among finds none where no two of the gathered records are twins
  module _ (room more : ℕ) (fits : room ≤ more) (few : room ≤ 8192) where
    gathered_fits : length (gathered t f room) ≤ room
    unfolding gathered
    gathered_fits = length_gathered room 64 _

    pub among_none : twin_among t f room more ≡ 0 → pairs apart (gathered t f room) ≡ true
    unfolding twin_among
    among_none z =
        let g = gathered t f room in
        let o = sorted_order (goes_before t f) before_order more 13 g (omega (arith, gathered_fits)) (omega (arith, gathered_fits)) in
        sym (shuffled_pairs apart apart_turned (sorted_shuffled (goes_before t f) more 13 g)) ∙ neighbours_apart _ o (looked_none 0 _ z).1

    pub none_among : pairs apart (gathered t f room) ≡ true → twin_among t f room more ≡ 0
    unfolding twin_among
    none_among p =
        let g = gathered t f room in
        none_looked _ (pairs_neighbours apart _ (shuffled_pairs apart apart_turned (sorted_shuffled (goes_before t f) more 13 g) ∙ p))

  -- twin_fault: 0 exactly where no two different gathered records have the same type and the same key
  pub fault_none : twin_fault t f ≡ 0 → (a b : ℕ) → elem a (gathered t f 8064) ≡ true → elem b (gathered t f 8064) ≡ true → a ≢ b
      → two_at f a ≡ two_at f b → key_from t f a ≡ key_from t f b → ⊥
  unfolding twin_fault
  fault_none z a b e g n s k =
      clash _ (are_twins_lem a b s k) (not-true _ (pairs_members apart apart_turned _ (among_none 8064 8064 (omega arith) (omega arith) z) a b e g n))

  pub none_fault : once (gathered t f 8064) ≡ true
      → ((a b : ℕ) → elem a (gathered t f 8064) ≡ true → elem b (gathered t f 8064) ≡ true → a ≢ b → two_at f a ≡ two_at f b → key_from t f a ≡ key_from t f b → ⊥)
      → twin_fault t f ≡ 0
  unfolding twin_fault
  none_fault o h = none_among 8064 8064 (omega arith) (omega arith) (members_pairs apart _ o λ a b e g n.
      by_cases (are_twins t f a b) (λ w. let (s, k) = twins_are a b w in absurd (h a b e g n s k)) (λ w. rw w))
