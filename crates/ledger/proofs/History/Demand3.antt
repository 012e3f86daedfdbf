-- Demand 3: after any calls on a fresh file, the rings hold what the history says, walks come home, and the pages' counts are right.
use Prim.Native.Nat.{ℕ, ◌+◌, ◌*◌, ◌-◌, ◌≤◌, ◌<◌}
use mathlib.Core.Path.{◌≡◌, sym, ◌∙◌, ap}
use mathlib.Core.Bool.{Bool, true}
use mathlib.Core.List.{List, [], ◌∷◌, append-nil}
use native.Mathlib.Omega.{arith}
use lib.ListN.{length}
use borrow.Author.Tests.{ne_eqb}
use Rattle.ledger.specs.declared.Currency.{Currency}
use Rattle.ledger.specs.Numbers.{elem, keep, same_key}
use Rattle.ledger.specs.Table.{pages, chains, order, sort_key, Accepted}
use Rattle.ledger.specs.Pages.{Ledger, next_of, key_in, used, free, record_bytes, head_next, empty, WellFormed, Sound}
use Rattle.ledger.specs.Bytes.{two_at}
use Rattle.ledger.specs.Currency.{unset}
use Rattle.ledger.specs.History.{Event, under, newest, Step, events_told, Runs, Undamaged, steps, has_key, Demand3}
use Rattle.ledger.proofs.Lists.Sieves.{keep_all, keep_same}
use Rattle.ledger.proofs.Lists.Parts.{part_inside}
use Rattle.ledger.proofs.Lists.Digits.{part_two}
use Rattle.ledger.proofs.Bytes.Pages.{free_part}
use Rattle.ledger.proofs.Ledger.Fields.{file_page}
use Rattle.ledger.proofs.Ledger.Rings.{chained, ring_agrees, master_in_lem, master_off}
use Rattle.ledger.proofs.Audit.Walks.{Home, agrees_home, home_from}
use Rattle.ledger.proofs.History.Play.{start_fit}
use Rattle.ledger.proofs.History.Equals.{by_order, side}
use Rattle.ledger.proofs.History.Told.{Tells, is_under, under_is, tells_none}
use Rattle.ledger.proofs.History.Running.{Running, runs}

home_steps : (nx : ℕ → ℕ) (det : ℕ → Bool) (m x : ℕ) (xs : List ℕ) → Home nx det m x xs → steps (length xs) nx x ≡ m
unfolding steps
home_steps nx det m x [] h = h
home_steps nx det m x (y ∷ ys) h = rw h.0 (home_steps nx det m (nx y) ys h.2)

module _ (t : List ℕ) (l : Ledger) (a : Accepted t) (w : WellFormed t l) where
  walk_home_lem : (j m x : ℕ) → elem x (l.ring j m) ≡ true → (k : ℕ) × (k ≤ length (l.ring j m)) × (steps k (next_of t l j) x ≡ m)
  walk_home_lem j m x e =
      let det : ℕ → Bool = λ y. elem y (l.ring j m) in
      let top = (w.ring_own j m x e).2 in
      let off = master_off t l j m (chained t l a w j) top in
      let way = agrees_home (next_of t l j) det m (l.ring j m) off (w.ring_once j m) (λ y f. f) (ring_agrees t l a w j m top) in
      let r = home_from (next_of t l j) det m (next_of t l j m) (l.ring j m) way x e in
      (length r.0, r.2, home_steps (next_of t l j) det m x r.0 r.1)

  -- where no key is compared, all are equals
  unsorted : (es : List Event) → Tells t l es → (j m : ℕ) → j < chains t → order t j < 2 → l.ring j m ≡ by_order (side t j) (newest t es j m)
  unfolding key_in sort_key same_key
  unsorted es h j m lt ord =
      let none : (xs : List ℕ) → keep (has_key t l j []) xs ≡ xs = λ xs. keep_same _ _ xs (λ y e. rw ((a.chain_rows j lt).unsorted ord).2) ∙ keep_all xs in
      sym (none (l.ring j m)) ∙ h.equals j m [] lt ∙ ap (by_order (side t j)) (none (newest t es j m))

counted : (t f : List ℕ) (l : Ledger) → Accepted t → Sound t f l → (p : ℕ) → 1 ≤ p → p ≤ pages t → two_at f (512 * (p - 1) + 3) + used (record_bytes t l) p ≡ 496
unfolding free
counted t f l a s p low high =
    let r = record_bytes t l in
    let at = part_inside f _ (512 * (p - 1)) 512 3 2 (file_page t f l a s p low high) (omega arith) in
    let two = part_two f (512 * (p - 1) + 3) (free r p) (at ∙ free_part r (head_next t l) p) (omega arith) in
    rw two (omega (arith, s.formed.room p))

-- what a run has come to
pub demanded : (t f : List ℕ) (cur : Currency) (es : List Event) → Accepted t → Running t f cur es → Demand3 t f es
unfolding by_order side
demanded t f cur es a s =
    let l = s.ledger in
    let w = s.sound.formed in
    let h = s.tells in
    record {
      ledger = l;
      sound = s.sound;
      kinds = h.kinds;
      contents = h.contents;
      holds_exactly = λ j m x. (λ e. under_is (under t es j x) m (sym (h.members j m x) ∙ e), λ e. h.members j m x ∙ is_under (under t es j x) m e);
      once_each = w.ring_once;
      newest_first = λ j m lt e. unsorted t l a w es h j m lt (omega arith) ∙ rw e;
      oldest_first = λ j m lt e. unsorted t l a w es h j m lt (omega arith) ∙ rw e;
      by_key = w.in_order;
      first_among_equals = λ j m k lt ord e. h.equals j m k lt ∙ rw (ne_eqb (order t j) 0 (λ i. omega arith), ne_eqb (order t j) 1 (λ i. omega arith), e);
      last_among_equals = λ j m k lt ord e. h.equals j m k lt ∙ rw (ne_eqb (order t j) 0 (λ i. omega arith), ne_eqb (order t j) 1 (λ i. omega arith), e);
      no_equals = w.no_twins;
      a_master = w.ring_all;
      one_master = w.ring_one;
      master_is = λ j m x e. master_in_lem t l j m x (chained t l a w j) (h.members j m x ∙ is_under (under t es j x) m e);
      comes_home = walk_home_lem t l a w;
      free_count = counted t f l a s.sound;
    }

-- "Take a fresh file under one accepted definition table, kept throughout, and make calls in any order, refused ones too, each given what the one before it left":
-- f₀ is what FORMAT leaves, and each call keeps no more than its public promise.
pub demand_three : (t : List ℕ) → Accepted t → (ss : List Step) (f₀ f : List ℕ) (cur : Currency) → Sound t f₀ empty → Runs t f₀ unset ss f cur
    → Demand3 t f (events_told unset ss) × Undamaged ss
demand_three t a ss f₀ f cur sound r =
    let first : Running t f₀ unset [] = record { ledger = empty; sound = sound; in_force = (start_fit t).in_force; tells = tells_none t } in
    let (last, clean) = runs t a ss f₀ f unset cur [] first r in
    (demanded t f cur _ a (rw (append-nil (events_told unset ss)) at last), clean)
