-- What is marked from a record on is the ledger's set that goes with it, each counted once.
use Prim.Native.Nat.{ℕ, zero, suc, ◌+◌, ◌≤◌, ◌<◌}
use mathlib.Core.Path.{◌≡◌, refl, ◌∙◌}
use mathlib.Core.Logic.{◌⊎◌, inl, inr}
use mathlib.Core.Bool.{true, false}
use mathlib.Core.List.{List, [], ◌∷◌}
use native.Mathlib.Omega.{arith}
use lib.ListN.{length, set, replicate, length-set, length-replicate}
use Rattle.ledger.specs.Numbers.{elem, keep}
use Rattle.ledger.specs.Table.{types, Accepted}
use Rattle.ledger.specs.Pages.{Ledger, present, codes, Sound}
use Rattle.ledger.specs.Calls.{goes}
use Rattle.ledger.proofs.Lists.Tests.{by_cases, same_or_not, same_tests, clash}
use Rattle.ledger.proofs.Lists.Members.{elem_nil, elem_here, elem_tail, elem_cases, no_members}
use Rattle.ledger.proofs.Lists.Sieves.{keep_same, keep_none}
use Rattle.ledger.proofs.Ledger.Rows.{code_listed}
use Rattle.ledger.proofs.Ledger.Bounds.{present_small}
use Rattle.ledger.proofs.Delete.Doomed.{rank, rank_within, rank_rises, goes_self, goes_down, goes_least}
use Rattle.delete_model.specs.Marks.{goes_in, Marked, marked_on}
use Rattle.delete_laws.proofs.Marks.{marks, marks_few, marks_more, mark_here, mark_else, mark_none, mark_end, mark_next}
use Rattle.delete_laws.proofs.Below.{details, mark_all, below_all, detail_listed, detail_ring}

module _ (t f : List ℕ) (l : Ledger) (a : Accepted t) (s : Sound t f l) where
  -- all details of y are marked
  abbrev Full : List ℕ → ℕ → Type 0
  Full k y = (j z : ℕ) → elem z (l.ring j y) ≡ true → goes_in k z ≡ true

  -- From marks k, with `count` before, to `w`: what is newly marked goes with c, and all its details are marked.
  record Spread (c count : ℕ) (k : List ℕ) (w : Marked) : Type 0 where
    sized : length w.1 ≡ 8256
    grows : (y : ℕ) → goes_in k y ≡ true → goes_in w.1 y ≡ true
    new : (y : ℕ) → goes_in w.1 y ≡ true → (goes_in k y ≡ true) ⊎ ((goes t l c y ≡ true) × Full w.1 y)
    counts : marks t w.1 + count ≡ marks t k + w.0

  -- a way to mark a record
  abbrev Marks : (ℕ → List ℕ → Marked) → ℕ → Type 0
  Marks rec c = (k : List ℕ) → length k ≡ 8256 → Spread c 0 k (rec c k) × (goes_in (rec c k).1 c ≡ true)

  -- what goes with a record that goes
  goes_on : (c d y : ℕ) → goes t l c d ≡ true → goes t l d y ≡ true → goes t l c y ≡ true
  goes_on c d y g h = goes_least t l d a s.formed (goes t l c) g (goes_down t l c a s.formed) y h

  -- a record that goes with c, then others
  spread_then : (c d count : ℕ) (k : List ℕ) (u w : Marked) → goes t l c d ≡ true → Spread d 0 k u → Spread c (count + u.0) u.1 w → Spread c count k w
  spread_then c d count k u w g p q = record {
    sized = q.sized;
    grows = λ y h. q.grows y (p.grows y h);
    new = λ y h. elim (q.new y h) [
      | inl o ↦ elim (p.new y o) [ inl r ↦ inl r | inr (r, full) ↦ inr (goes_on c d y g r, λ j z i. q.grows z (full j z i)) ]
      | inr o ↦ inr o
    ];
    counts = omega (arith, p.counts, q.counts);
  }

  -- records that go with c, one after another
  spread_all : (rec : ℕ → List ℕ → Marked) (c : ℕ) (ds : List ℕ) → ((d : ℕ) → elem d ds ≡ true → (goes t l c d ≡ true) × Marks rec d)
      → (count : ℕ) (k : List ℕ) → length k ≡ 8256 → count ≤ marks t k
      → Spread c count k (mark_all rec count k ds) × ((d : ℕ) → elem d ds ≡ true → goes_in (mark_all rec count k ds).1 d ≡ true)
  spread_all rec c [] by count k e h =
      rw (mark_end rec count k) (record { sized = e; grows = λ y g. g; new = λ y g. inl g; counts = refl }, λ d i. elem_nil d i)
  spread_all rec c (d ∷ ds) by count k e h =
      let (g, m) = by d (elem_here d ds) in
      let (p, here) = m k e in
      let n : count + (rec d k).0 ≤ marks t (rec d k).1 = omega (arith, p.counts) in
      let few : count + (rec d k).0 < 65536 = omega (arith, marks_few t a (rec d k).1) in
      let (q, all) = spread_all rec c ds (λ y i. by y (elem_tail y d ds i)) (count + (rec d k).0) (rec d k).1 p.sized n in
      rw (mark_next rec count k d ds few) (
        spread_then c d count k (rec d k) _ g p q,
        λ y i. elim (elem_cases y d ds i) [ inl r ↦ rw r (q.grows d here) | inr r ↦ all y r ],
      )

  -- a record that is there, by a way to mark each of its details
  spread_below : (rec : ℕ → List ℕ → Marked) (c : ℕ) → present l c ≡ true → ((d : ℕ) → elem d (details t l c) ≡ true → Marks rec d)
      → (k : List ℕ) → length k ≡ 8256 → goes_in k c ≡ false
      → Spread c 0 k (mark_all rec 1 (set k c 1) (details t l c)) × (goes_in (mark_all rec 1 (set k c 1) (details t l c)).1 c ≡ true)
  spread_below rec c p by k e n =
      let u = set k c 1 in
      let w = mark_all rec 1 u (details t l c) in
      let small : c < length k = omega (arith, present_small t l a s.formed c p, a.page_count.1) in
      let self = goes_self t l c a s.formed p in
      let more : marks t u ≡ marks t k + 1 = marks_more t a k c small (code_listed t l c a (s.formed.placed c p)) n in
      let down : (d : ℕ) → elem d (details t l c) ≡ true → goes t l c d ≡ true =
      λ d i. let (j, r) = detail_ring t f l a s c d i in goes_down t l c a s.formed j c d self r in
      let (q, all) = spread_all rec c (details t l c) (λ d i. (down d i, by d i)) 1 u (length-set k c 1 ∙ e) (omega arith) in
      let here : goes_in w.1 c ≡ true = q.grows c (mark_here k c small) in (
        record {
          sized = q.sized;
          grows = λ y g. same_or_not y c (λ r. rw r here) (λ r. q.grows y (rw (mark_else k c y r) g));
          new = λ y g. elim (q.new y g) [
            | inl o ↦ same_or_not y c
                (λ r. inr (rw r (self, λ j z i. all z (detail_listed t f l a s c j z i))))
                (λ r. inl (rw (mark_else k c y r) at o))
            | inr o ↦ inr o
          ];
          counts = omega (arith, q.counts);
        },
        here,
      )

  -- a record that is marked is left
  spread_none : (c : ℕ) (k : List ℕ) → length k ≡ 8256 → goes_in k c ≡ true → Spread c 0 k (0, k) × (goes_in k c ≡ true)
  spread_none c k e g = (record { sized = e; grows = λ y h. h; new = λ y h. inl h; counts = refl }, g)

  -- details stand lower than their master, and are there
  detail_lower : (c d : ℕ) → elem d (details t l c) ≡ true → (present l d ≡ true) × (rank t l c < rank t l d)
  detail_lower c d i =
      let (j, r) = detail_ring t f l a s c d i in
      ((s.formed.ring_own j c d r).3, rank_rises t l a s.formed j c d r)

  -- as many levels as there are types below are enough
  marked_spread : (level c : ℕ) → present l c ≡ true → types t ≤ rank t l c + suc level → Marks (marked_on t f level) c
  unfolding marked_on
  marked_spread zero c p h k e = by_cases (goes_in k c)
      (λ g. rw g (spread_none c k e g))
      (λ g.
      let none : details t l c ≡ [] =
      no_members _ (λ d i. let (q, lower) = detail_lower c d i in omega (arith, rank_within t l a s.formed d q)) in
      let rec : ℕ → List ℕ → Marked = λ d k. (0, k) in
      rw g (rw (none, mark_end rec 1 (set k c 1)) at (spread_below rec c p (λ d i. elem_nil d (rw none at i)) k e g)))
  marked_spread (suc level) c p h k e = by_cases (goes_in k c)
      (λ g. rw g (spread_none c k e g))
      (λ g.
      rw (g, below_all t f l a s c (marked_on t f level) (set k c 1))
      (spread_below (marked_on t f level) c p (λ d i. let (q, lower) = detail_lower c d i in marked_spread level d q (omega arith)) k e g))

  -- from no marks on: the set that goes, and how many
  module _ (x : ℕ) (p : present l x ≡ true) where
    abbrev went : Marked
    went = marked_on t f 16 x (replicate 8256 0)

    top : Spread x 0 (replicate 8256 0) went × (goes_in went.1 x ≡ true)
    top = marked_spread 16 x p (omega (arith, a.type_count.1)) (replicate 8256 0) (length-replicate {A = ℕ} 8256 0)

    marked_new : (y : ℕ) → goes_in went.1 y ≡ true → (goes t l x y ≡ true) × Full went.1 y
    marked_new y g = elim (top.0.new y g) [ inl o ↦ clash _ o (mark_none 8256 y) | inr o ↦ o ]

    each_goes : (y : ℕ) → goes_in went.1 y ≡ goes t l x y
    each_goes y = same_tests _ _ (λ g. (marked_new y g).0)
        (goes_least t l x a s.formed (goes_in went.1) top.1 (λ j m z g. (marked_new m g).1 j z) y)

    counted : went.0 ≡ length (keep (goes t l x) (codes t))
    unfolding marks
    counted =
        let none : keep (goes_in (replicate 8256 0)) (codes t) ≡ [] = keep_none _ (codes t) (λ y e. mark_none 8256 y) in
        let same : keep (goes_in went.1) (codes t) ≡ keep (goes t l x) (codes t) = keep_same _ _ (codes t) (λ y e. each_goes y) in
        let q = rw (none, same) at top.0.counts in
        omega (arith, q)

  pub marked_goes : (x : ℕ) → present l x ≡ true
      → let w = marked_on t f 16 x (replicate 8256 0) in ((y : ℕ) → goes_in w.1 y ≡ goes t l x y) × (w.0 ≡ length (keep (goes t l x) (codes t)))
  marked_goes x p = (each_goes x p, counted x p)
