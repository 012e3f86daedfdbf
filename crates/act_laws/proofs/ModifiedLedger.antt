-- The ledger that MODIFY leaves: its records, and in each chain whether the modified record joins afresh.
use Prim.Native.Nat.{ℕ, ◌<◌}
use mathlib.Core.Path.{◌≡◌, ◌∙◌}
use mathlib.Core.Logic.{◌≢◌}
use mathlib.Core.Bool.{Bool, true, false, not, ◌&&◌}
use mathlib.Core.List.{List, ◌∷◌}
use mathlib.Core.Option.{some}
use lib.Dec.{ltb}
use borrow.Author.Tests.{lt-ltb, ltb-true, ne_eqb, not-true, not-false}
use Rattle.ledger.specs.Numbers.{elem, same_key, without}
use Rattle.ledger.specs.Table.{chains, calculated, is_detail, sort_key, calc_key, Accepted}
use Rattle.ledger.specs.Pages.{home, Ledger, kind_at, bytes_at, present, master_of, next_of, prior_of, key_in, home_of, calc_next_of, calc_next, head_next, WellFormed}
use Rattle.ledger.specs.Calls.{joined, modified}
use Rattle.ledger.proofs.Lists.Tests.{by_cases, same_or_not, not_true_false, both, eqb_same, update_same, update_other}
use Rattle.ledger.proofs.Lists.Pairs.{without_none}
use Rattle.ledger.proofs.Lists.Keys.{same_eq}
use Rattle.ledger.proofs.Ledger.Entries.{home_as}
use Rattle.ledger.proofs.Ledger.Rings.{held, next_same, prior_same}
use Rattle.ledger.proofs.Keeps.Changes.{written_there, written_kind, written_home}

module _ (t : List ℕ) (l : Ledger) (x : ℕ) (d : List ℕ) where
  -- the new record, and the others
  pub modified_new : (modified t l x d).at x ≡ some (record { kind = kind_at l x; bytes = d })
  unfolding modified
  modified_new = update_same l.at x _

  pub modified_else : (y : ℕ) → y ≢ x → (modified t l x d).at y ≡ l.at y
  unfolding modified
  modified_else y n = update_other l.at x _ y n

  pub modified_kind : (y : ℕ) → kind_at (modified t l x d) y ≡ kind_at l y
  modified_kind y = same_or_not y x
      (λ e. rw e (written_kind t (modified t l x d) x (kind_at l x) d modified_new))
      (λ n. rw (modified_else y n))

  pub modified_there : present l x ≡ true → (y : ℕ) → present (modified t l x d) y ≡ present l y
  modified_there there y = same_or_not y x
      (λ e. rw (e, there) (written_there t (modified t l x d) x (kind_at l x) d modified_new))
      (λ n. rw (modified_else y n))

  -- the pages whose CALC rings hold them
  pub modified_home : home_of t (modified t l x d) x ≡ home t (kind_at l x) (calc_key t (kind_at l x) d)
  modified_home = written_home t (modified t l x d) x (kind_at l x) d modified_new

  pub modified_home_else : (y : ℕ) → y ≢ x → home_of t (modified t l x d) y ≡ home_of t l y
  modified_home_else y n = home_as t l (modified t l x d) y (modified_else y n)

-- whether chain j, in which x is detail, has other key bytes in the new data, and whether the CALC key has
unfoldable pub rejoins : List ℕ → Ledger → ℕ → List ℕ → ℕ → Bool
rejoins t l x d j = ltb j (chains t) && is_detail t j (kind_at l x) && not (same_key (key_in t l j x) (sort_key t j (kind_at l x) d))

unfoldable pub calc_rejoins : List ℕ → Ledger → ℕ → List ℕ → Bool
calc_rejoins t l x d = calculated t (kind_at l x) && not (same_key (calc_key t (kind_at l x) (bytes_at l x)) (calc_key t (kind_at l x) d))

module _ (t : List ℕ) (l : Ledger) (x : ℕ) (d : List ℕ) (a : Accepted t) (w : WellFormed t l) (there : present l x ≡ true) (j : ℕ) where
  -- x joins its ring afresh
  module _ (e : rejoins t l x d j ≡ true) where
    pub rejoins_inside : (j < chains t) × (is_detail t j (kind_at l x) ≡ true)
    unfolding rejoins
    rejoins_inside =
        let (p, q) = both (ltb j (chains t)) (is_detail t j (kind_at l x)) (both (ltb j (chains t) && is_detail t j (kind_at l x)) _ e).0 in
        (ltb-true _ _ p, q)

    other_key : same_key (key_in t l j x) (sort_key t j (kind_at l x) d) ≡ false
    unfolding rejoins
    other_key = not-true _ (both (ltb j (chains t) && is_detail t j (kind_at l x)) _ e).1

    in_ring : elem x (l.ring j (master_of t l j x)) ≡ true
    in_ring = held t l w a j x rejoins_inside.0 there rejoins_inside.1

    pub rejoins_enters : (modified t l x d).ring j (master_of t l j x) ≡ joined t l j (sort_key t j (kind_at l x) d) x (without x (l.ring j (master_of t l j x)))
    unfolding modified
    rejoins_enters = rw (in_ring, other_key)

    pub rejoins_leaves : (k : ℕ) → k ≢ master_of t l j x → (modified t l x d).ring j k ≡ without x (l.ring j k)
    unfolding modified
    rejoins_leaves k n =
        let out : elem x (l.ring j k) ≡ false = not_true_false _ λ h. n (w.ring_one j k (master_of t l j x) x h in_ring) in
        rw (out, without_none x (l.ring j k) out)

  -- the chain's rings stay, and its links
  module _ (e : rejoins t l x d j ≡ false) where
    stays_ring : (m : ℕ) → (modified t l x d).ring j m ≡ l.ring j m
    unfolding modified rejoins
    stays_ring m = by_cases (elem x (l.ring j m))
        (λ h. let o = w.ring_own j m x h in rw (h, rw (lt-ltb j (chains t) o.0, o.4) at e))
        (λ h. rw h)

    pub stays_next : (y : ℕ) → next_of t (modified t l x d) j y ≡ next_of t l j y
    stays_next y = next_same t l (modified t l x d) j stays_ring y (rw (modified_kind t l x d y))

    pub stays_prior : (y : ℕ) → prior_of t (modified t l x d) j y ≡ prior_of t l j y
    stays_prior y = prior_same t l (modified t l x d) j stays_ring y (rw (modified_kind t l x d y))

-- x goes first into the CALC ring of its new home, or the CALC rings stay
module _ (t : List ℕ) (l : Ledger) (x : ℕ) (d : List ℕ) where
  module _ (e : calc_rejoins t l x d ≡ true) where
    pub calc_enters : let q = home t (kind_at l x) (calc_key t (kind_at l x) d) in (modified t l x d).calc q ≡ x ∷ without x (l.calc q)
    unfolding modified calc_rejoins
    calc_enters = rw (e, eqb_same (home t (kind_at l x) (calc_key t (kind_at l x) d)))

    pub calc_leaves : (p : ℕ) → p ≢ home t (kind_at l x) (calc_key t (kind_at l x) d) → (modified t l x d).calc p ≡ without x (l.calc p)
    unfolding modified calc_rejoins
    calc_leaves p n = rw (e, ne_eqb p (home t (kind_at l x) (calc_key t (kind_at l x) d)) n)

  module _ (e : calc_rejoins t l x d ≡ false) where
    calc_stays : (p : ℕ) → (modified t l x d).calc p ≡ l.calc p
    unfolding modified calc_rejoins
    calc_stays p = rw e

    home_stays : (y : ℕ) → calculated t (kind_at l y) ≡ true → home_of t (modified t l x d) y ≡ home_of t l y
    unfolding calc_rejoins home_of
    home_stays y c = same_or_not y x
        (λ i.
        let same = same_eq (calc_key t (kind_at l x) (bytes_at l x)) (calc_key t (kind_at l x) d) (not-false _ (rw (rw i at c) at e)) in
        rw i (modified_home t l x d ∙ rw same))
        (modified_home_else t l x d y)

    pub stays_calc : (y : ℕ) → calculated t (kind_at l y) ≡ true → calc_next t (modified t l x d) y ≡ calc_next t l y
    unfolding calc_next_of
    stays_calc y c = rw (home_stays y c, calc_stays (home_of t l y))

    pub stays_head : (p : ℕ) → head_next t (modified t l x d) p ≡ head_next t l p
    unfolding head_next calc_next_of
    stays_head p = rw (calc_stays p)
