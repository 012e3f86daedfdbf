-- The order of sorted rings in an image: no fault is found exactly where each ring is in order.
use Prim.Native.Nat.{ℕ, zero, suc, ◌*◌, ◌≤◌, ◌<◌}
use mathlib.Core.Path.{◌≡◌, refl, sym, ◌∙◌, fun_ext}
use mathlib.Core.Logic.{◌≢◌, ◌↔◌}
use mathlib.Core.Bool.{Bool, true, false, not, or-true}
use mathlib.Core.List.{List, [], ◌∷◌}
use native.Mathlib.Omega.{arith}
use lib.ListN.{length}
use lib.Dec.{eqb, ltb}
use borrow.Author.Tests.{eq-eqb, ne_eqb, ltb-true, ltb-false, not-false}
use Rattle.ledger.specs.Numbers.{elem, pairs, run, same_key}
use Rattle.ledger.specs.Table.{pages, chains, order, duplicates, is_master, in_chain, Accepted}
use Rattle.ledger.specs.Pages.{key_in, may_precede, codes}
use Rattle.ledger.specs.Image.{kind_read, detail_read, master_read, next_read, ring_read, ledger_of, Imaged}
use Rattle.ledger.specs.Audit.{Ringed}
use Rattle.ledger.proofs.Lists.Tests.{by_cases, clash, not_true_false}
use Rattle.ledger.proofs.Lists.Members.{elem_run, run_elem}
use Rattle.ledger.proofs.Audit.Walks.{Home, walked_out, ring_home, ring_short}
use Rattle.ledger.proofs.Image.ChainRings.{codes_few, detail_some, master_some, apart}
use Rattle.ledger.proofs.Image.Paged.{image_ring, image_ring_out, standing_listed}
use Rattle.place_laws.proofs.Image.{image_kind, image_next, kind_some}
use Rattle.audit_laws.proofs.Firsts.{none_first, no_fault}
use Rattle.audit_laws.proofs.Shown.{read_sort_key}
use Rattle.audit_laws.proofs.Along.{along, keyed, Sorted, sorted_nil, unsorted, along_sorted}
use Rattle.model.specs.Reads.{kind_in, next_in}
use Rattle.audit_model.specs.Orders.{in_order_in, ordered_from, ring_ordered_in, disordered_in, disorder_in, order_fault_in}

-- A walk home, followed by the audit: each may stand directly before the next.
module _ (t f : List ℕ) (j m : ℕ) (det : ℕ → Bool) (off : det m ≡ false) where
  not_home : (y : ℕ) → det y ≡ true → y ≢ m
  not_home y d e = clash (det y) d (rw e off)

  ordered_home : (fuel x : ℕ) (xs : List ℕ) → Home (next_in t f j) det m x xs → length xs < fuel → ordered_from fuel t f j m x ≡ along (in_order_in t f j) xs
  unfolding ordered_from along
  ordered_home zero x xs h lt = absurd (omega arith)
  ordered_home (suc fuel) x [] h lt = rw (eq-eqb x m h)
  ordered_home (suc fuel) x (y ∷ []) h lt = rw (h.0, ne_eqb y m (not_home y h.1), eq-eqb (next_in t f j y) m h.2)
  ordered_home (suc fuel) x (y ∷ z ∷ zs) h lt =
      let (e, d, way) = h in
      let (next, g, rest) = way in
      let ih = ordered_home fuel z (z ∷ zs) (refl, g, rest) (omega arith) in
      rw (e, ne_eqb y m (not_home y d), next, ne_eqb z m (not_home z g), ih)
      (by_cases (in_order_in t f j y z) (λ b. rw b) (λ b. rw b))

-- The same way home by links that are the same at details.
home_same : (nx ny : ℕ → ℕ) (det : ℕ → Bool) → ((y : ℕ) → det y ≡ true → nx y ≡ ny y) → (m x : ℕ) (xs : List ℕ) → Home nx det m x xs → Home ny det m x xs
home_same nx ny det same m x [] h = h
home_same nx ny det same m x (y ∷ ys) h = (h.0, h.1, rw (same y h.1) at (home_same nx ny det same m (nx y) ys h.2))

module _ (t f : List ℕ) (r : ℕ → List ℕ) (h : ℕ → ℕ) (a : Accepted t) (i : Imaged t f r h) where
  -- the audit's test of two records is the test of their keys in the ledger
  read_keyed : in_order_in t f ≡ keyed t (ledger_of t r h)
  unfolding in_order_in keyed
  read_keyed = fun_ext (λ j. fun_ext (λ x. fun_ext (λ y. rw (read_sort_key t f r h a i j x, read_sort_key t f r h a i j y))))

  -- the rings of a chain: the walk of each in the file, with fuel for all of it
  module _ (j : ℕ) (within : j < chains t) (s : Ringed t r j) where
    off : (m : ℕ) → master_read t r j m ≡ true → detail_read t r j m ≡ false
    off = apart t r a i.paged j within

    next_of_master : (m : ℕ) → master_read t r j m ≡ true → next_read t r j m ≡ next_in t f j m
    unfolding master_read in_chain
    next_of_master m top = sym (image_next t f r h a i j m within (rw top))

    next_of_detail : (x : ℕ) → detail_read t r j x ≡ true → next_read t r j x ≡ next_in t f j x
    unfolding detail_read in_chain
    next_of_detail x d = sym (image_next t f r h a i j x within (rw d (or-true (is_master t j _))))

    ring_walk : (m : ℕ) → master_read t r j m ≡ true → Home (next_in t f j) (detail_read t r j) m (next_in t f j m) (ring_read t r j m)
    ring_walk m top =
        rw (← next_of_master m top)
        (home_same _ _ _ next_of_detail m (next_read t r j m) (ring_read t r j m) (ring_home _ _ _ off (ring_read t r j) s.rings s.nexts m top))

    ring_few : (m : ℕ) → length (ring_read t r j m) < 8256
    ring_few m =
        let short = ring_short (next_read t r j) _ _ off (ring_read t r j) s.rings s.nexts (codes t)
        (λ x d. standing_listed t r a i.paged x (detail_some t r a i.paged j within x d)) m in
        omega (arith, codes_few t, a.page_count.1)

    master_listed : (m : ℕ) → master_read t r j m ≡ true → elem m (run 64 (64 * pages t)) ≡ true
    unfolding codes
    master_listed m top = standing_listed t r a i.paged m (master_some t r a i.paged j within m top)

    -- a master's ring is found in disorder where one may not stand directly before the next
    ring_ordered : (m : ℕ) → master_read t r j m ≡ true → ring_ordered_in t f j m ≡ along (keyed t (ledger_of t r h) j) (ring_read t r j m)
    unfolding ring_ordered_in
    ring_ordered m top =
        rw read_keyed at (ordered_home t f j m (detail_read t r j) (off m top) 8256 (next_in t f j m) (ring_read t r j m) (ring_walk m top) (ring_few m))

    disordered_master : (m : ℕ) → master_read t r j m ≡ true → disordered_in t f j m ≡ not (along (keyed t (ledger_of t r h) j) (ring_read t r j m))
    unfolding disordered_in master_read
    disordered_master m top =
        let some = kind_some t f r h a i m (master_some t r a i.paged j within m top) in
        rw (image_kind t f r h a i m, ne_eqb (kind_read (r m)) 0 (λ z. omega arith), top, ring_ordered m top)

    disordered_other : (m : ℕ) → master_read t r j m ≡ false → disordered_in t f j m ≡ false
    unfolding disordered_in master_read
    disordered_other m n = by_cases (eqb (kind_in f m) 0) (λ e. rw e) (λ e. rw (e, image_kind t f r h a i m, n))

    -- no fault of the chain exactly where its rings are in order
    chain_sorted : (disorder_in t f j ≡ 0) ↔ ((m : ℕ) → Sorted t (ledger_of t r h) j (ring_read t r j m))
    unfolding disorder_in
    chain_sorted = by_cases (ltb (order t j) 2)
        (λ e. (λ z m. unsorted t _ j (ltb-true _ _ e) _, λ all. rw e))
        (λ e.
        let no_zero : elem 0 (run 64 (64 * pages t)) ≡ false = not_true_false _ (λ k. omega (arith, (run_elem 0 64 (64 * pages t) k).0)) in
        let exact = along_sorted t (ledger_of t r h) j (ltb-false _ _ e) (a.chain_rows j within).ordered in (
          λ z m. by_cases (master_read t r j m)
              (λ top. (exact (ring_read t r j m)).0 (not-false _ (sym (disordered_master m top) ∙ (none_first _ (run 64 (64 * pages t)) no_zero).0 (rw e at z) m (master_listed m top))))
              (λ n. let none : ring_read t r j m ≡ [] = walked_out (next_read t r j) _ _ off _ m n in rw none (sorted_nil t _ j)),
          λ all. rw e ((none_first _ _ no_zero).1 (λ m listed. by_cases (master_read t r j m)
              (λ top. disordered_master m top ∙ rw ((exact (ring_read t r j m)).1 (all m)))
              (disordered_other m))),
        ))

  -- no fault of order exactly where all rings of the ledger are in order, with no twins where duplicates are refused
  pub order_fault_exactly : ((j : ℕ) → j < chains t → Ringed t r j) → (order_fault_in t f ≡ 0)
      ↔ (((j m : ℕ) → pairs (may_precede t (ledger_of t r h) j) ((ledger_of t r h).ring j m) ≡ true)
      × ((j m : ℕ) → 2 ≤ order t j → duplicates t j ≡ 2
      → pairs (λ x y. not (same_key (key_in t (ledger_of t r h) j x) (key_in t (ledger_of t r h) j y))) ((ledger_of t r h).ring j m) ≡ true))
  unfolding order_fault_in
  order_fault_exactly s = (
    λ z.
        let sorted : (j m : ℕ) → Sorted t (ledger_of t r h) j ((ledger_of t r h).ring j m) = λ j m. by_cases (ltb j (chains t))
        (λ e.
        let w = ltb-true _ _ e in
        rw (image_ring t r h j m w) ((chain_sorted j w (s j w)).0 ((no_fault _ _).0 z j (elem_run j 0 (chains t) (omega arith) (omega arith))) m))
        (λ e. rw (image_ring_out t r h j m e) (sorted_nil t _ j)) in
        (λ j m. (sorted j m).0, λ j m. (sorted j m).1),
    λ p. (no_fault _ _).1 (λ j e.
        let w : j < chains t = omega (arith, (run_elem j 0 (chains t) e).1) in
        (chain_sorted j w (s j w)).1 (λ m. rw (← image_ring t r h j m w) (p.0 j m, p.1 j m))),
  )
