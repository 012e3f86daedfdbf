-- Calculated records gathered, and twins among them.
use Prim.Native.Nat.{ℕ, zero, suc, ◌+◌, ◌-◌, ◌*◌, ◌/◌, ◌%◌, ◌<◌, ◌≤◌}
use mathlib.Core.Path.{◌≡◌, refl, sym, ap}
use mathlib.Core.Bool.{Bool, true, false}
use mathlib.Core.List.{List, [], ◌∷◌, ◌++◌}
use native.Mathlib.Omega.{arith}
use native.Mathlib.Numerals.{add-one, sub-one}
use native.Mathlib.Nat.{add-zero, zero-add, sub-zero}
use borrow.Author.Tests.{eq-eqb, ne_eqb, eqb-false, ltb-true, ltb-false}
use lib.Dec.{eqb, ltb, eqb-suc-zero}
use Rattle.std.specs.Prelude.{Option, Some, None, min, unwrap_or}
use Rattle.std.specs.Bool.{then_some}
use Rattle.ledger.proofs.Lists.Tests.{by_cases}
use lib.ListN.{length, take, drop, get_or, set, length-set, take-append-drop, length-append}
use lib.Seq.{take_at, drop-set-lt, take-suc-set, append_snoc}
use Rattle.ledger.specs.Numbers.{or_none, same_key}
use Rattle.ledger.proofs.Lists.Nones.{none_is, some_is, some_above, zero_of_none, value_of_some, some_not_zero}
use Rattle.ledger.specs.Table.{pages, calculated}
use Rattle.ledger.specs.Bytes.{two_at, line_at}
use Rattle.model.specs.Reads.{place_in}
use Rattle.audit_model.specs.Sorting.{key_from, goes_before, sorted}
use Rattle.audit_model.specs.Twins.{are_twins, calculated_at, gather_from, gathered, gather_on, code_from, lower, lower_twin, lowest_from, twin_among}
use Rattle.audit_model.proofs.Gathered.{place_wraps}

-- are_twins
module _ (t f : List ℕ) (a b x y : ℕ) (ex : x ≡ two_at f a) (ey : y ≡ two_at f b) where
  pub twins_other : (x ≡ y → ⊥) → eqb x y ≡ are_twins t f a b
  unfolding are_twins
  twins_other n = rw (← ex, ← ey, ne_eqb x y n)

  pub twins_key : (c d : List ℕ) (r : Bool) → x ≡ y → c ≡ key_from t f a → d ≡ key_from t f b → r ≡ same_key c d → r ≡ are_twins t f a b
  unfolding are_twins
  twins_key c d r e ec ed er = rw (← ex, ← ey, eq-eqb x y e, ← ec, ← ed) er

-- calculated_at; o is what `find` gives
module _ (t f : List ℕ) (c : ℕ) (o : Option ℕ) (eo : o ≡ or_none (place_in f c)) where
  pub calculated_none : o ≡ None → None ≡ or_none (calculated_at t f c)
  unfolding calculated_at
  calculated_none e = rw (eq-eqb (place_in f c) 0 (zero_of_none _ eo e)) (none_is refl)

  pub calculated_here : (s k : ℕ) (b : Bool) (r : Option ℕ) → o ≡ Some s → k ≡ two_at f s → b ≡ calculated t k → r ≡ then_some b (s % 65536) → r ≡ or_none (calculated_at t f c)
  unfolding calculated_at
  calculated_here s k b r es ek eb er =
      let ne = some_not_zero _ eo es in
      let h = value_of_some _ eo es in
      rw (ne_eqb (place_in f c) 0 ne, ← h, ← ek, ← eb, er) (by_cases b
      (λ e. rw e (some_is refl (rw h (place_wraps f c ne))))
      (λ e. rw e (none_is refl)))

-- gather: n places are at the list's front, and those of the codes from c to before e are to be
unfoldable pub gathering : List ℕ → List ℕ → List ℕ → ℕ → ℕ → ℕ → ℕ × List ℕ
gathering t f l n c e = let g = gather_from t f (length l - n) c (e - c) in (n + length g, take n l ++ (g ++ drop (n + length g) l))

module _ (t f l : List ℕ) where
  pub gather_start : (w : ℕ) → w ≡ pages t → gathering t f l 0 64 (64 * (w + 1)) ≡ gather_on t f l
  unfolding gathering gather_on gathered
  gather_start w e = let k : 64 * (w + 1) - 64 ≡ 64 * w = omega arith in rw (k, e, sub-zero, zero-add)

  module _ (n c e : ℕ) (z : ℕ × List ℕ) (o : Option ℕ) (eo : o ≡ or_none (calculated_at t f c)) (h : c < e) where
    left : e - c ≡ suc (e - (c + 1))
    left = omega arith

    pub gather_none : gathering t f l n c e ≡ z → o ≡ None → gathering t f l n (c + 1) e ≡ z
    unfolding gathering gather_from
    gather_none inv en = let k = zero_of_none _ eo en in (simp (left, k) at inv)

    pub gather_full : (s : ℕ) → gathering t f l n c e ≡ z → o ≡ Some s → length l ≤ n → gathering t f l n (c + 1) e ≡ z
    unfolding gathering gather_from
    gather_full s inv es le =
        let r : length l - n ≡ 0 = omega arith in
        let k = ne_eqb (calculated_at t f c) 0 (some_not_zero _ eo es) in
        rw r (simp (r, left, k) at inv)

    gather_here : (s r m : ℕ) → o ≡ Some s → gather_from t f (suc r) c (suc m) ≡ s ∷ gather_from t f r (c + 1) m
    unfolding gather_from
    gather_here s r m es = rw (ne_eqb (calculated_at t f c) 0 (some_not_zero _ eo es), eqb-suc-zero, sub-one, ← value_of_some _ eo es)

    pub gather_put : (s : ℕ) → gathering t f l n c e ≡ z → o ≡ Some s → n < length l → gathering t f (set l n s) (n + 1) (c + 1) e ≡ z
    unfolding gathering
    gather_put s inv es lt =
        let r : length l - n ≡ suc (length l - (n + 1)) = omega arith in
        let g = gather_from t f (length l - (n + 1)) (c + 1) (e - (c + 1)) in
        let m : n + suc (length g) ≡ n + 1 + length g = omega arith in
        let front : take (n + 1) (set l n s) ≡ take n l ++ (s ∷ []) = rw add-one (take-suc-set l n s lt) in
        let back = drop-set-lt (n + 1 + length g) l n s (omega arith) in
        rw (length-set, back, front, append_snoc) (rw (r, left, gather_here s (length l - (n + 1)) (e - (c + 1)) es, m) at inv)

  pub gather_end : (n c e : ℕ) (z : ℕ × List ℕ) → gathering t f l n c e ≡ z → e ≤ c → z ≡ (n, l)
  unfolding gathering gather_from
  gather_end n c e z inv h = let k : e - c ≡ 0 = omega arith in sym (rw (k, add-zero, take-append-drop) at inv)

-- code_from
pub code_is : (f : List ℕ) (s b : ℕ) → b ≡ line_at f s → 64 * (s / 512 + 1) + b % 64 ≡ code_from f s
unfolding code_from
code_is f s b e = rw e

code_above : (f : List ℕ) (s : ℕ) → 0 < code_from f s
unfolding code_from
code_above f s = omega arith

-- lower
pub lower_of : (o : Option ℕ) (n b : ℕ) → o ≡ or_none n → min (unwrap_or o b) b ≡ lower n b
unfolding lower or_none
lower_of o zero b e = rw e (omega arith)
lower_of o (suc n) b e = rw (e, eqb-suc-zero) (by_cases (ltb b (suc n))
    (λ g. rw g (omega (arith, ltb-true b (suc n) g)))
    (λ g. rw g (omega (arith, ltb-false b (suc n) g))))

module _ (a b : ℕ) where
  lower_above : 0 < b → 0 < lower a b
  unfolding lower
  lower_above h = by_cases (eqb a 0)
      (λ e. rw e h)
      (λ e. rw e (by_cases (ltb b a) (λ g. rw g h) (λ g. rw g (omega (arith, eqb-false a 0 e)))))

-- lower_twin
module _ (t f : List ℕ) (lowest a b : ℕ) (w : Bool) (ew : w ≡ are_twins t f a b) where
  pub twin_some : (x y v r : ℕ) → w ≡ true → x ≡ code_from f a → v ≡ lower lowest x → y ≡ code_from f b → (Some v ≡ or_none v → r ≡ lower v y)
      → Some r ≡ or_none (lower_twin t f lowest a b)
  unfolding lower_twin
  twin_some x y v r e ex ev ey er =
      let k = er (some_above refl (rw ev (lower_above lowest x (rw ex (code_above f a))))) in
      rw (← ew, e, ← ex, ← ev, ← ey) (some_above k (lower_above v y (rw ey (code_above f b))))

  pub twin_none : w ≡ false → or_none lowest ≡ or_none (lower_twin t f lowest a b)
  unfolding lower_twin
  twin_none e = rw (← ew, e)

-- lowest_twin: of what is left of the list, the first two are looked at
module _ (t f : List ℕ) where
  looking_two : (l : List ℕ) (n x : ℕ) → 2 ≤ length l → lowest_from t f n l ≡ x → lowest_from t f (lower_twin t f n (get_or (take 2 l) 0 0) (get_or (take 2 l) 1 0)) (drop 1 l) ≡ x
  unfolding lowest_from
  looking_two [] n x h inv = absurd (omega arith)
  looking_two (a ∷ []) n x h inv = absurd (omega arith)
  looking_two (a ∷ b ∷ m) n x h inv = inv

  looking_one : (l : List ℕ) (n x : ℕ) → length l < 2 → lowest_from t f n l ≡ x → n ≡ x
  unfolding lowest_from
  looking_one [] n x h inv = inv
  looking_one (a ∷ []) n x h inv = inv
  looking_one (a ∷ b ∷ m) n x h inv = absurd (omega arith)

  -- the lowest so far leads to x over what is left
  abbrev pub Looking : List ℕ → Option ℕ → ℕ → Type 0
  Looking l o x = (n : ℕ) × (o ≡ or_none n) × (lowest_from t f n l ≡ x)

  pub looking_next : (l k w : List ℕ) (o v : Option ℕ) (x : ℕ) → Looking l o x → 2 ≤ length l → w ≡ take 2 l → k ≡ drop 1 l
      → ((n : ℕ) → o ≡ or_none n → v ≡ or_none (lower_twin t f n (get_or w 0 0) (get_or w 1 0))) → Looking k v x
  looking_next l k w o v x (n, e, inv) h ew ek ev =
      (lower_twin t f n (get_or w 0 0) (get_or w 1 0), ev n e, rw (ew, ek) (looking_two l n x h inv))

  pub looking_end : (l : List ℕ) (o : Option ℕ) (x : ℕ) → Looking l o x → length l < 2 → o ≡ or_none x
  looking_end l o x (n, e, inv) h = rw (← looking_one l n x h inv) e

-- twin_among: n places stand at the front of `l`; `p` is what they are sorted to
module _ (t f l0 s : List ℕ) (n : ℕ) (l : List ℕ) (eg : gather_on t f l0 ≡ (n, l)) where
  gathered_is : (length (gathered t f (length l0)) ≡ n) × (gathered t f (length l0) ++ drop (length (gathered t f (length l0))) l0 ≡ l)
  unfolding gather_on
  gathered_is = (ap (λ (q : ℕ × List ℕ). q.0) eg, ap (λ (q : ℕ × List ℕ). q.1) eg)

  gathered_front : take n l ≡ gathered t f (length l0)
  gathered_front = rw (← gathered_is.1) (take_at (gathered t f (length l0)) _ n gathered_is.0)

  pub gathered_count : n ≤ length l
  gathered_count = rw (← gathered_is.1, length-append, gathered_is.0) (omega arith)

  pub among_is : (p : List ℕ) (r : Option ℕ) → sorted (goes_before t f) (length s) 13 (take n l) ≡ p → r ≡ or_none (lowest_from t f 0 p)
      → r ≡ or_none (twin_among t f (length l0) (length s))
  unfolding twin_among
  among_is p r ep er = rw (er, ← ep, gathered_front)
