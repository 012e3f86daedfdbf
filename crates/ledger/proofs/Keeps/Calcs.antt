-- The CALC lists of a ledger that differs from a well-formed one in one record alone, by the rules; and it is well formed.
use Prim.Native.Nat.{ℕ}
use mathlib.Core.Path.{◌≡◌, sym, ◌∙◌, ap}
use mathlib.Core.Logic.{◌≢◌, inl, inr}
use mathlib.Core.Bool.{true, false}
use mathlib.Core.List.{List}
use borrow.Author.Tests.{ne_eqb, eq-eqb}
use Rattle.ledger.specs.Numbers.{elem, once, same_key, without}
use Rattle.ledger.specs.Table.{calculated, calc_key, Accepted}
use Rattle.ledger.specs.Pages.{home, Ledger, kind_at, bytes_at, present, home_of, WellFormed}
use Rattle.ledger.specs.Calls.{calc_twin}
use Rattle.ledger.proofs.Lists.Tests.{same_or_not, clash}
use Rattle.ledger.proofs.Lists.Members.{elem_here, elem_there, none_any}
use Rattle.ledger.proofs.Lists.Pairs.{once_cons, without_gone, without_else, without_ones}
use Rattle.ledger.proofs.Lists.Keys.{same_eq, same_back}
use Rattle.ledger.proofs.Ledger.Order.{apart}
use Rattle.ledger.proofs.Keeps.Changes.{CalcStays, CalcJoins, Changed, was, home_else, all_placed, all_room}
use Rattle.ledger.proofs.Keeps.Rings.{kept_once, kept_own, kept_all, kept_one, kept_in_order, kept_apart}

-- a test for a twin that fails: no other record of the type has the key
pub no_calc_twin : (t : List ℕ) (l : Ledger) (n : ℕ) (d : List ℕ) (x : ℕ) → WellFormed t l → calc_twin t l n d x ≡ false → calculated t n ≡ true
    → (y : ℕ) → present l y ≡ true → y ≢ x → kind_at l y ≡ n → same_key (calc_key t n (bytes_at l y)) (calc_key t n d) ≡ true → ⊥
unfolding calc_twin home_of
no_calc_twin t l n d x w h g y p m k s =
    let listed : elem y (l.calc (home t n (calc_key t n d))) ≡ true = rw (k, same_eq _ _ s) at (w.calc_all y p (rw k g)) in
    let none = none_any _ _ (rw g at h) y listed in
    clash _ s (rw (ne_eqb y x m, eq-eqb (kind_at l y) n k) at none)

module _ (t : List ℕ) (l l' : Ledger) (x : ℕ) (a : Accepted t) (w : WellFormed t l) (c : Changed t l l' x) where
  abbrev Homed : Ledger → ℕ → ℕ → Type 0
  Homed b p y = (present b y ≡ true) × (calculated t (kind_at b y) ≡ true) × (home_of t b y ≡ p)

  homed_else : (p y : ℕ) → y ≢ x → elem y (l.calc p) ≡ true → Homed l' p y
  homed_else p y n h = let o = w.calc_own p y h in rw (c.others y n, home_else t l l' x a w c y n) o

  listed_else : (y : ℕ) → y ≢ x → present l' y ≡ true → calculated t (kind_at l' y) ≡ true → elem y (l.calc (home_of t l' y)) ≡ true
  listed_else y n p g = rw (home_else t l l' x a w c y n) (w.calc_all y (was t l l' x a w c y n p) (rw (c.others y n) at g))

  -- the lists stay
  module _ (s : CalcStays t l l' x) where
    stays_own : (p y : ℕ) → elem y (l.calc p) ≡ true → Homed l' p y
    stays_own p y h = same_or_not y x
        (λ i.
        let o = w.calc_own p x (rw i at h) in
        let g : calculated t (kind_at l' x) ≡ true = rw (c.kept o.0) o.1 in
        rw i (c.there, g, (s.old g).1 ∙ o.2))
        (λ n. homed_else p y n h)

    stays_all : (y : ℕ) → present l' y ≡ true → calculated t (kind_at l' y) ≡ true → elem y (l.calc (home_of t l' y)) ≡ true
    stays_all y p g = same_or_not y x
        (λ i.
        let g' : calculated t (kind_at l' x) ≡ true = rw i at g in
        let (q, e) = s.old g' in
        rw (i, e) (w.calc_all x q (rw (c.kept q) at g')))
        (λ n. listed_else y n p g)

  -- x joins the list of its home
  module _ (s : CalcJoins t l l' x) where
    member_else : (p y : ℕ) → y ≢ x → elem y (l'.calc p) ≡ elem y (l.calc p)
    member_else p y n = same_or_not p (home_of t l' x)
        (λ e. rw (e, s.enters, elem_there y x (without x (l.calc (home_of t l' x))) n) (without_else x _ y n))
        (λ e. rw (s.leaves p e) (without_else x (l.calc p) y n))

    only_home : (p : ℕ) → elem x (l'.calc p) ≡ true → home_of t l' x ≡ p
    only_home p h = same_or_not p (home_of t l' x) (λ e. sym e) (λ n. clash _ h (rw (s.leaves p n) (without_gone x (l.calc p))))

    joins_once : (p : ℕ) → once (l'.calc p) ≡ true
    joins_once p = same_or_not p (home_of t l' x)
        (λ e. rw (e, s.enters) (once_cons x _ (without_gone x (l.calc (home_of t l' x))) (without_ones x _ (w.calc_once (home_of t l' x)))))
        (λ n. rw (s.leaves p n) (without_ones x (l.calc p) (w.calc_once p)))

    joins_own : (p y : ℕ) → elem y (l'.calc p) ≡ true → Homed l' p y
    joins_own p y h = same_or_not y x
        (λ i. rw i (c.there, s.keyed, only_home p (rw i at h)))
        (λ n. homed_else p y n (sym (member_else p y n) ∙ h))

    joins_all : (y : ℕ) → present l' y ≡ true → calculated t (kind_at l' y) ≡ true → elem y (l'.calc (home_of t l' y)) ≡ true
    joins_all y p g = same_or_not y x
        (λ i. rw (i, s.enters) (elem_here x _))
        (λ n. member_else (home_of t l' y) y n ∙ listed_else y n p g)

  calc_once : (p : ℕ) → once (l'.calc p) ≡ true
  calc_once p = elim c.calcs [ inl s ↦ rw (s.lists p) (w.calc_once p) | inr s ↦ joins_once s p ]

  calc_own : (p y : ℕ) → elem y (l'.calc p) ≡ true → Homed l' p y
  calc_own p y h = elim c.calcs [ inl s ↦ stays_own s p y (sym (ap (elem y) (s.lists p)) ∙ h) | inr s ↦ joins_own s p y h ]

  calc_all : (y : ℕ) → present l' y ≡ true → calculated t (kind_at l' y) ≡ true → elem y (l'.calc (home_of t l' y)) ≡ true
  calc_all y p g = elim c.calcs [ inl s ↦ ap (elem y) (s.lists (home_of t l' y)) ∙ stays_all s y p g | inr s ↦ joins_all s y p g ]

  abbrev Same : Ledger → ℕ → ℕ → Type 0
  Same b y z = same_key (calc_key t (kind_at b y) (bytes_at b y)) (calc_key t (kind_at b z) (bytes_at b z)) ≡ true

  -- no record is a twin of x in its list
  no_twin_of_x : (y : ℕ) → y ≢ x → present l' y ≡ true → calculated t (kind_at l' x) ≡ true → kind_at l' y ≡ kind_at l' x → Same l' y x → ⊥
  no_twin_of_x y n p g k s = c.lone y (was t l l' x a w c y n p) n g (rw (c.others y n) at k) (rw (k, c.others y n) at s)

  no_calc_twins : (y z : ℕ) → present l' y ≡ true → present l' z ≡ true → calculated t (kind_at l' y) ≡ true → kind_at l' y ≡ kind_at l' z
      → Same l' y z → y ≡ z
  no_calc_twins y z p q g k s = same_or_not y x
      (λ i. same_or_not z x (λ e. i ∙ sym e) (λ n. absurd (no_twin_of_x z n q (rw i at g) (sym (rw i at k)) (same_back _ _ (rw i at s)))))
      (λ m. same_or_not z x
      (λ e. absurd (no_twin_of_x y m p (rw (k, e) at g) (rw e at k) (rw e at s)))
      (λ n. w.no_calc_twins y z (was t l l' x a w c y m p) (was t l l' x a w c z n q) (rw (c.others y m) at g) (rw (c.others y m, c.others z n) at k) (rw (c.others y m, c.others z n) at s)))

  pub well_formed : WellFormed t l'
  unfolding apart
  well_formed = record {
    placed = all_placed t l l' x a w c;
    room = all_room t l l' x a w c;
    calc_once = calc_once;
    calc_own = calc_own;
    calc_all = calc_all;
    ring_once = kept_once t l l' x a w c;
    ring_own = kept_own t l l' x a w c;
    ring_all = kept_all t l l' x a w c;
    ring_one = kept_one t l l' x a w c;
    in_order = kept_in_order t l l' x a w c;
    no_twins = kept_apart t l l' x a w c;
    no_calc_twins = no_calc_twins;
  }
