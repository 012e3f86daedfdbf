-- The rings of a ledger that differs from a well-formed one in one record alone, by the rules.
use Prim.Native.Nat.{ℕ, ◌≤◌, ◌<◌}
use mathlib.Core.Path.{◌≡◌, refl, sym, ◌∙◌, ap}
use mathlib.Core.Logic.{◌≢◌, inl, inr}
use mathlib.Core.Bool.{true, false}
use mathlib.Core.List.{List}
use Rattle.ledger.specs.Numbers.{elem, once, pairs, same_key, without}
use Rattle.ledger.specs.Table.{chains, is_master, is_detail, order, duplicates, Accepted}
use Rattle.ledger.specs.Pages.{Ledger, kind_at, present, key_in, may_precede, WellFormed}
use Rattle.ledger.specs.Calls.{joined}
use Rattle.ledger.proofs.Lists.Tests.{same_or_not, clash}
use Rattle.ledger.proofs.Lists.Pairs.{without_gone, without_else, without_pairs, without_ones}
use Rattle.ledger.proofs.Lists.Puts.{put_new, put_else, put_once}
use Rattle.ledger.proofs.Ledger.Order.{apart, in_order_still, apart_still, joined_in_order, joined_apart}
use Rattle.ledger.proofs.Keeps.Changes.{Stays, Joins, Changed, still, was, key_else}

module _ (t : List ℕ) (l l' : Ledger) (x : ℕ) (a : Accepted t) (w : WellFormed t l) (c : Changed t l l' x) where
  abbrev Owns : Ledger → ℕ → ℕ → ℕ → Type 0
  Owns b j m y = (j < chains t) × (present b m ≡ true) × (is_master t j (kind_at b m) ≡ true) × (present b y ≡ true) × (is_detail t j (kind_at b y) ≡ true)

  own_still : (j m y : ℕ) → elem y (l.ring j m) ≡ true → Owns l' j m y
  own_still j m y h =
      let o = w.ring_own j m y h in
      let (p, e) = still t l l' x a w c m o.1 in
      let (q, f) = still t l l' x a w c y o.3 in
      (o.0, p, ap (is_master t j) e ∙ o.2, q, ap (is_detail t j) f ∙ o.4)

  all_still : (j y : ℕ) → j < chains t → present l y ≡ true → is_detail t j (kind_at l' y) ≡ true → (m : ℕ) × (elem y (l.ring j m) ≡ true)
  all_still j y h p g = w.ring_all j y h p (sym (ap (is_detail t j) (still t l l' x a w c y p).1) ∙ g)

  -- a chain whose rings stay
  module _ (j : ℕ) (s : Stays t l l' x j) where
    stays_keys : (m y : ℕ) → elem y (l.ring j m) ≡ true → key_in t l' j y ≡ key_in t l j y
    stays_keys m y e = same_or_not y x
        (λ i. rw i (s.same_key_lem m (rw i at e)))
        (key_else t l l' x a w c j y)

    stays_all : (y : ℕ) → j < chains t → present l' y ≡ true → is_detail t j (kind_at l' y) ≡ true → (m : ℕ) × (elem y (l'.ring j m) ≡ true)
    stays_all y h p g =
        let old : present l y ≡ true = same_or_not y x (λ i. rw i (s.old h (rw i at g))) (λ n. was t l l' x a w c y n p) in
        let (m, e) = all_still j y h old g in
        (m, ap (elem y) (s.rings m) ∙ e)

  -- a chain that x joins
  module _ (j m : ℕ) (s : Joins t l l' x j m) where
    member_else : (k y : ℕ) → y ≢ x → elem y (l'.ring j k) ≡ elem y (l.ring j k)
    unfolding joined
    member_else k y n = same_or_not k m
        (λ e. rw (e, s.enters, put_else _ x (without x (l.ring j m)) y n) (without_else x (l.ring j m) y n))
        (λ e. rw (s.leaves k e) (without_else x (l.ring j k) y n))

    only_there : (k : ℕ) → elem x (l'.ring j k) ≡ true → k ≡ m
    only_there k h = same_or_not k m (λ e. e) (λ n. clash _ h (rw (s.leaves k n) (without_gone x (l.ring j k))))

    member_new : elem x (l'.ring j m) ≡ true
    unfolding joined
    member_new = rw s.enters (put_new _ x _)

    joins_once : (k : ℕ) → once (l'.ring j k) ≡ true
    unfolding joined
    joins_once k = same_or_not k m
        (λ e. rw (e, s.enters) (put_once _ x _ (without_gone x (l.ring j m)) (without_ones x (l.ring j m) (w.ring_once j m))))
        (λ n. rw (s.leaves k n) (without_ones x (l.ring j k) (w.ring_once j k)))

    joins_own : (k y : ℕ) → elem y (l'.ring j k) ≡ true → Owns l' j k y
    joins_own k y h = same_or_not y x
        (λ i.
        let (p, e) = still t l l' x a w c m s.there in
        rw (i, only_there k (rw i at h)) (s.inside, p, ap (is_master t j) e ∙ s.above, c.there, s.below))
        (λ n. own_still j k y (sym (member_else k y n) ∙ h))

    joins_all : (y : ℕ) → present l' y ≡ true → is_detail t j (kind_at l' y) ≡ true → (k : ℕ) × (elem y (l'.ring j k) ≡ true)
    joins_all y p g = same_or_not y x
        (λ i. (m, rw i member_new))
        (λ n. let (k, e) = all_still j y s.inside (was t l l' x a w c y n p) g in (k, member_else k y n ∙ e))

    joins_one : (k n y : ℕ) → elem y (l'.ring j k) ≡ true → elem y (l'.ring j n) ≡ true → k ≡ n
    joins_one k n y h g = same_or_not y x
        (λ i. only_there k (rw i at h) ∙ sym (only_there n (rw i at g)))
        (λ i. w.ring_one j k n y (sym (member_else k y i) ∙ h) (sym (member_else n y i) ∙ g))

    -- the others of a ring, and their keys
    rest_else : (k y : ℕ) → elem y (without x (l.ring j k)) ≡ true → y ≢ x
    rest_else k y h e = clash _ h (rw e (without_gone x (l.ring j k)))

    rest_keys : (k y : ℕ) → elem y (without x (l.ring j k)) ≡ true → key_in t l' j y ≡ key_in t l j y
    rest_keys k y h = key_else t l l' x a w c j y (rest_else k y h)

    joins_in_order : (k : ℕ) → pairs (may_precede t l' j) (l'.ring j k) ≡ true
    joins_in_order k =
        let rest : (k : ℕ) → pairs (may_precede t l j) (without x (l.ring j k)) ≡ true = λ k. without_pairs _ x (l.ring j k) (w.in_order j k) in
        same_or_not k m
        (λ e. rw (e, s.enters) (joined_in_order t l l' j _ (rest_keys m) (key_in t l' j x) x refl (rest m)))
        (λ n. rw (s.leaves k n) (in_order_still t l l' j _ (rest_keys k) (rest k)))

    joins_apart : 2 ≤ order t j → duplicates t j ≡ 2 → (k : ℕ) → pairs (apart t l' j) (l'.ring j k) ≡ true
    unfolding apart
    joins_apart o d k =
        let rest : (k : ℕ) → pairs (apart t l j) (without x (l.ring j k)) ≡ true = λ k. without_pairs _ x (l.ring j k) (w.no_twins j k o d) in
        let none : (y : ℕ) → elem y (without x (l.ring j m)) ≡ true → same_key (key_in t l j y) (key_in t l' j x) ≡ false =
        λ y h. s.alone o d y (sym (without_else x (l.ring j m) y (rest_else m y h)) ∙ h) (rest_else m y h) in
        same_or_not k m
        (λ e. rw (e, s.enters) (joined_apart t l l' j _ (rest_keys m) (key_in t l' j x) x refl none (rest m)))
        (λ n. rw (s.leaves k n) (apart_still t l l' j _ (rest_keys k) (rest k)))

  -- every chain
  pub kept_once : (j k : ℕ) → once (l'.ring j k) ≡ true
  kept_once j k = elim (c.turns j) [
    | inl s ↦ rw (s.rings k) (w.ring_once j k)
    | inr s ↦ joins_once j s.0 s.1 k
  ]

  pub kept_own : (j k y : ℕ) → elem y (l'.ring j k) ≡ true → Owns l' j k y
  kept_own j k y h = elim (c.turns j) [
    | inl s ↦ own_still j k y (sym (ap (elem y) (s.rings k)) ∙ h)
    | inr s ↦ joins_own j s.0 s.1 k y h
  ]

  pub kept_all : (j y : ℕ) → j < chains t → present l' y ≡ true → is_detail t j (kind_at l' y) ≡ true → (m : ℕ) × (elem y (l'.ring j m) ≡ true)
  kept_all j y h p g = elim (c.turns j) [
    | inl s ↦ stays_all j s y h p g
    | inr s ↦ joins_all j s.0 s.1 y p g
  ]

  pub kept_one : (j m n y : ℕ) → elem y (l'.ring j m) ≡ true → elem y (l'.ring j n) ≡ true → m ≡ n
  kept_one j m n y h g = elim (c.turns j) [
    | inl s ↦ w.ring_one j m n y (sym (ap (elem y) (s.rings m)) ∙ h) (sym (ap (elem y) (s.rings n)) ∙ g)
    | inr s ↦ joins_one j s.0 s.1 m n y h g
  ]

  pub kept_in_order : (j k : ℕ) → pairs (may_precede t l' j) (l'.ring j k) ≡ true
  kept_in_order j k = elim (c.turns j) [
    | inl s ↦ rw (s.rings k) (in_order_still t l l' j _ (stays_keys j s k) (w.in_order j k))
    | inr s ↦ joins_in_order j s.0 s.1 k
  ]

  pub kept_apart : (j k : ℕ) → 2 ≤ order t j → duplicates t j ≡ 2 → pairs (apart t l' j) (l'.ring j k) ≡ true
  unfolding apart
  kept_apart j k o d = elim (c.turns j) [
    | inl s ↦ rw (s.rings k) (apart_still t l l' j _ (stays_keys j s k) (w.no_twins j k o d))
    | inr s ↦ joins_apart j s.0 s.1 o d k
  ]
