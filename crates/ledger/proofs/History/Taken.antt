-- What DELETE makes of a ledger is what its event tells: what it took, told from the history, is what goes.
use Prim.Native.Nat.{ℕ, zero, suc, ◌<◌}
use mathlib.Core.Path.{◌≡◌, sym, ◌∙◌, ap}
use mathlib.Core.Logic.{inl, inr}
use mathlib.Core.Bool.{true, not, and-false, and-true, or-true}
use mathlib.Core.List.{List, ◌∷◌}
use native.Mathlib.Omega.{arith}
use borrow.Author.Tests.{eqb-true, not-true}
use Rattle.ledger.specs.Numbers.{elem, keep, run, same_key}
use Rattle.ledger.specs.Table.{types, chains, Accepted}
use Rattle.ledger.specs.Pages.{Ledger, kind_of, bytes_of, present, master_of, WellFormed}
use Rattle.ledger.specs.Calls.{doomed, goes, deleted}
use Rattle.ledger.specs.History.{Event, passes, took_down, took, under, data_told, newest, has_key}
use Rattle.ledger.proofs.Lists.Tests.{by_cases, both, either, same_tests}
use Rattle.ledger.proofs.Lists.Members.{elem_run, some_any, any_some}
use Rattle.ledger.proofs.Lists.Sieves.{keep_elem, keep_same, keep_comm, elem_keep_is}
use Rattle.ledger.proofs.Ledger.Rings.{held}
use Rattle.ledger.proofs.Delete.Doomed.{doomed_cases, goes_self, goes_down}
use Rattle.ledger.proofs.Delete.Deleted.{stays, deleted_gone, deleted_at, deleted_rings, key_left}
use Rattle.ledger.proofs.History.Equals.{by_order, keep_by_order, side}
use Rattle.ledger.proofs.History.Told.{Tells, passes_some, is_under, under_is}

module _ (t : List ℕ) (l : Ledger) (es : List Event) (a : Accepted t) (w : WellFormed t l) (h : Tells t l es) (x : ℕ) (there : present l x ≡ true) where
  -- each that is told as taken goes: it is x, or a detail of one that goes
  took_goes : (n y : ℕ) → took_down t (under t es) n x y ≡ true → goes t l x y ≡ true
  unfolding took_down
  took_goes zero y e = rw (eqb-true y x e) (goes_self t l x a w there)
  took_goes (suc n) y e =
      elim (either (took_down t (under t es) n x y) _ e) [
        | inl f ↦ took_goes n y f
        | inr f ↦ (
            let (j, g, p) = any_some (λ j. passes (took_down t (under t es) n x) (under t es j y)) (run 0 (chains t)) f in
            let (m, o, q) = passes_some (took_down t (under t es) n x) (under t es j y) p in
            goes_down t l x a w j m y (took_goes n m q) (h.members j m y ∙ is_under (under t es j y) m o))
      ]

  -- and each that goes is told: a detail is under its master
  doomed_took : (n y : ℕ) → present l y ≡ true → doomed t l n x y ≡ true → took_down t (under t es) n x y ≡ true
  unfolding took_down doomed passes
  doomed_took zero y p e = e
  doomed_took (suc n) y p e =
      elim (doomed_cases t l x n y e) [
        | inl f ↦ rw (doomed_took n y p f)
        | inr (j, lt, d, f) ↦ (
            let m = master_of t l j y in
            let g = held t l w a j y lt p d in
            let u = under_is (under t es j y) m (sym (h.members j m y) ∙ g) in
            let q = doomed_took n m (w.ring_own j m y g).1 f in
            rw (some_any (λ j. passes (took_down t (under t es) n x) (under t es j y)) j (run 0 (chains t)) (elem_run j 0 (chains t) (omega arith) (omega arith)) (rw u q))
            (or-true (took_down t (under t es) n x y)))
      ]

  took_is : (y : ℕ) → took t (under t es) x y ≡ goes t l x y
  unfolding took goes
  took_is y = same_tests _ _ (took_goes (types t) y) (λ g. let (p, d) = both (present l y) _ g in doomed_took (types t) y p d)

  survivors : (j m : ℕ) (k : List ℕ) → j < chains t
      → keep (has_key t (deleted t l x) j k) (keep (stays t l x) (l.ring j m))
      ≡ by_order (side t j) (keep (has_key t (deleted t l x) j k) (keep (λ y. not (took t (under t es) x y)) (newest t es j m)))
  survivors j m k lt =
      let q = has_key t l j k in
      let stay = stays t l x in
      let old : (xs : List ℕ) → keep (has_key t (deleted t l x) j k) (keep stay xs) ≡ keep stay (keep q xs) =
      λ xs. keep_same _ q (keep stay xs) (λ y e. ap (λ (v : List ℕ). same_key v k) (key_left t l x j y (not-true _ (keep_elem stay y xs e).1))) ∙ keep_comm q stay xs in
      rw (keep_same _ stay (newest t es j m) (λ y e. ap not (took_is y)), old (l.ring j m), old (newest t es j m), h.equals j m k lt)
      (keep_by_order (side t j) stay (keep q (newest t es j m)))

  pub tells_deleted : Tells t (deleted t l x) (Event.taken x ∷ es)
  unfolding under data_told newest passes kind_of bytes_of
  tells_deleted = record {
    kinds = λ y. rw (took_is y) (by_cases (goes t l x y)
        (λ g. rw (g, deleted_gone t l x y g))
        (λ g. rw (g, deleted_at t l x y g) (h.kinds y)));
    contents = λ y. rw (took_is y) (by_cases (goes t l x y)
        (λ g. rw (g, deleted_gone t l x y g))
        (λ g. rw (g, deleted_at t l x y g) (h.contents y)));
    members = λ j m y. rw (took_is y, deleted_rings t l x a w j m, elem_keep_is (stays t l x) y (l.ring j m))
        (by_cases (goes t l x y)
        (λ e. rw e (and-false (elem y (l.ring j m))))
        (λ e. rw e (and-true (elem y (l.ring j m)) ∙ h.members j m y)));
    equals = λ j m k lt. rw (deleted_rings t l x a w j m) (survivors j m k lt);
  }
