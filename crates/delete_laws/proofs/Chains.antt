-- Every ring of every chain closed over what goes: each record that stays has the links of the ledger after the deletion.
use Prim.Native.Nat.{ℕ, zero, suc, ◌+◌, ◌*◌, ◌≤◌, ◌<◌}
use mathlib.Core.Path.{◌≡◌, refl, ◌∙◌}
use mathlib.Core.Logic.{◌≢◌, inl, inr}
use mathlib.Core.Bool.{true, false}
use mathlib.Core.List.{List, ◌∷◌}
use native.Mathlib.Omega.{arith}
use native.Mathlib.Nat.{add-zero, zero-add, add-suc}
use native.Mathlib.Numerals.{add-one}
use lib.Dec.{eqb, ltb}
use borrow.Author.Tests.{ne_eqb, ltb-true, ltb-false}
use Rattle.ledger.specs.Numbers.{elem}
use Rattle.ledger.specs.Table.{pages, chains, is_master, in_chain, Accepted}
use Rattle.ledger.specs.Pages.{Ledger, kind_at, master_of, next_of, prior_of, calc_next, head_next, Sound}
use Rattle.ledger.specs.Calls.{goes, deleted}
use Rattle.ledger.proofs.Lists.Tests.{by_cases, same_or_not, clash, not_true_false}
use Rattle.ledger.proofs.Lists.Members.{elem_cases}
use Rattle.ledger.proofs.Ledger.Rows.{none_no_master, placed_within}
use Rattle.ledger.proofs.Ledger.Bounds.{present_small}
use Rattle.ledger.proofs.Ledger.Rings.{chained, master_self, master_in_lem}
use Rattle.ledger.proofs.Delete.Doomed.{goes_down}
use Rattle.model.specs.Reads.{kind_in}
use Rattle.place_laws.proofs.With.{with_chain, layout_with, own_held, own_small, with_kind}
use Rattle.ring_laws.proofs.Rounds.{master_type_lem, round_master, master_chain, all_in_chain}
use Rattle.delete_model.specs.Marks.{goes_in}
use Rattle.delete_model.specs.Closing.{each_from, ring_closed, code_closed, chain_closed, chains_closed}
use Rattle.delete_laws.proofs.Chained.{Linked, ring_shut}

-- what each turn of `each_from` carries on
pub each_from_lem : (P : ℕ → List ℕ → Type 0) (h : List ℕ → ℕ → List ℕ) (n i : ℕ) (g : List ℕ)
    → ((j : ℕ) (f : List ℕ) → i ≤ j → j < i + n → P j f → P (suc j) (h f j)) → P i g → P (i + n) (each_from h g i n)
unfolding each_from
each_from_lem P h zero i g turn p = rw (add-zero i) p
each_from_lem P h (suc n) i g turn p =
    let e : suc i + n ≡ i + suc n = omega arith in
    rw (add-one i) (rw e at (each_from_lem P h n (suc i) (h g i) (λ j f lo hi q. turn j f (omega arith) (omega arith) q) (turn i g (omega arith) (omega arith) p)))

module _ (t f : List ℕ) (l : Ledger) (a : Accepted t) (s : Sound t f l) (x : ℕ) (k : List ℕ) (same : (y : ℕ) → goes_in k y ≡ goes t l x y) where
  -- The rings before the n-th, counted by chain and then by master, are closed; those from it on are as they were.
  pub record Before (n : ℕ) (g : List ℕ) : Type 0 where
    pub nx : ℕ → ℕ → ℕ
    pub pr : ℕ → ℕ → ℕ
    pub linked : Linked t f l a s x k same (calc_next t l) (head_next t l) g nx pr
    pub next_closed : (i y : ℕ) → i < chains t → in_chain t i (kind_at l y) ≡ true → goes t l x y ≡ false → 8256 * i + master_of t l i y < n
        → nx i y ≡ next_of t (deleted t l x) i y
    pub prior_closed : (i y : ℕ) → i < chains t → in_chain t i (kind_at l y) ≡ true → goes t l x y ≡ false → 8256 * i + master_of t l i y < n
        → pr i y ≡ prior_of t (deleted t l x) i y
    pub next_open : (i y : ℕ) → i < chains t → in_chain t i (kind_at l y) ≡ true → n ≤ 8256 * i + master_of t l i y → nx i y ≡ next_of t l i y

  -- a master's code lies in the file
  pub master_within : (i y : ℕ) → i < chains t → in_chain t i (kind_at l y) ≡ true
      → (64 ≤ master_of t l i y) × (master_of t l i y < 64 * pages t + 64) × (64 * pages t + 64 ≤ 8256)
  master_within i y lt c =
      let m = master_of t l i y in
      let e = with_chain t l a i m lt (master_chain t i _ (master_type_lem t l a s.formed i y lt c)) in
      (omega (arith, (placed_within t l m a (s.formed.placed m e)).0), present_small t l a s.formed m e, omega (arith, a.page_count.1))

  -- a ring that has nothing to close
  skip : (n n' : ℕ) (g : List ℕ) → n ≤ n'
      → ((i y : ℕ) → i < chains t → in_chain t i (kind_at l y) ≡ true → goes t l x y ≡ false → n ≤ 8256 * i + master_of t l i y → 8256 * i + master_of t l i y < n' → ⊥)
      → Before n g → Before n' g
  skip n n' g up none b = record {
    nx = b.nx;
    pr = b.pr;
    linked = b.linked;
    next_closed = λ i y lt c st h. b.next_closed i y lt c st (below i y lt c st h);
    prior_closed = λ i y lt c st h. b.prior_closed i y lt c st (below i y lt c st h);
    next_open = λ i y lt c h. b.next_open i y lt c (omega arith);
  }
    where
      below : (i y : ℕ) → i < chains t → in_chain t i (kind_at l y) ≡ true → goes t l x y ≡ false → 8256 * i + master_of t l i y < n'
          → 8256 * i + master_of t l i y < n
      below i y lt c st h = by_cases (ltb (8256 * i + master_of t l i y) n)
          (λ q. ltb-true _ _ q)
          (λ q. absurd (none i y lt c st (ltb-false _ _ q) h))

  -- The ring of code c in chain j.
  module _ (j c : ℕ) (lt : j < chains t) (few : c < 8256) where
    its_own : is_master t j (kind_at l c) ≡ true → (y : ℕ) → elem y (c ∷ l.ring j c) ≡ true → master_of t l j y ≡ c
    its_own top y h = elim (elem_cases y c (l.ring j c) h) [
      | inl q ↦ rw q (master_self t l j c top)
      | inr q ↦ master_in_lem t l j c y (chained t l a s.formed j) q
    ]

    -- a record whose ring has this number is round it
    round_here : (i y : ℕ) → i < chains t → in_chain t i (kind_at l y) ≡ true → 8256 * i + master_of t l i y ≡ 8256 * j + c
        → (i ≡ j) × (master_of t l i y ≡ c) × (elem y (c ∷ l.ring j c) ≡ true)
    round_here i y li ci e =
        let (lo, hi, max) = master_within i y li ci in
        let q : i ≡ j = omega arith in
        let r : master_of t l i y ≡ c = omega arith in
        (q, r, rw (← q, ← r) (round_master t l a s.formed i y li ci))

    round_else : is_master t j (kind_at l c) ≡ true → (i y : ℕ) → 8256 * i + master_of t l i y ≢ 8256 * j + c → i ≡ j → elem y (c ∷ l.ring j c) ≡ false
    round_else top i y n q = not_true_false _ (λ h. n (rw (q, its_own top y h)))

    -- closed, where c is a master that stays
    close_ring : (g : List ℕ) → is_master t j (kind_at l c) ≡ true → goes t l x c ≡ false → Before (8256 * j + c) g
        → Before (suc (8256 * j + c)) (ring_closed t g k j c)
    close_ring g top stay b =
        let own : (y : ℕ) → elem y (c ∷ l.ring j c) ≡ true → b.nx j y ≡ next_of t l j y =
        λ y h. b.next_open j y lt (all_in_chain t l a s.formed j c top y h) (rw (its_own top y h) (omega arith)) in
        let u = ring_shut t f l a s x k same (calc_next t l) (head_next t l) j c lt top stay b.nx b.pr g b.linked own in
        record {
          nx = u.nx;
          pr = u.pr;
          linked = u.linked;
          next_closed = λ i y li ci st h. same_or_not (8256 * i + master_of t l i y) (8256 * j + c)
              (λ e. let (q, r, o) = round_here i y li ci e in rw q (u.next_in_lem y o st))
              (λ n. u.next_else i y (round_else top i y n) ∙ b.next_closed i y li ci st (omega arith));
          prior_closed = λ i y li ci st h. same_or_not (8256 * i + master_of t l i y) (8256 * j + c)
              (λ e. let (q, r, o) = round_here i y li ci e in rw q (u.prior_in_lem y o st))
              (λ n. u.prior_else i y (round_else top i y n) ∙ b.prior_closed i y li ci st (omega arith));
          next_open = λ i y li ci h. u.next_else i y (round_else top i y (λ e. omega arith)) ∙ b.next_open i y li ci (omega arith);
        }

    -- left, where it is no master, or goes: then so do its details
    skip_ring : (g : List ℕ) → (is_master t j (kind_at l c) ≡ true → goes t l x c ≡ true) → Before (8256 * j + c) g → Before (suc (8256 * j + c)) g
    skip_ring g why b = skip (8256 * j + c) (suc (8256 * j + c)) g (omega arith)
        (λ i y li ci st lo hi.
        let (q, r, o) = round_here i y li ci (omega arith) in
        let gone : goes t l x c ≡ true = why (rw (r, q) at (master_type_lem t l a s.formed i y li ci)) in
        elim (elem_cases y c (l.ring j c) o) [
          | inl e ↦ clash _ (rw e gone) st
          | inr e ↦ clash _ (goes_down t l x a s.formed j c y gone e) st
        ]) b

    code_closed_lem : (g : List ℕ) → Before (8256 * j + c) g → Before (suc (8256 * j + c)) (code_closed t g k j c)
    unfolding code_closed
    code_closed_lem g b =
        let kind : kind_in g c ≡ kind_at l c =
        rw b.linked.file (with_kind t l b.nx b.pr (calc_next t l) (head_next t l) a (own_held t l s.formed) b.linked.small c) in
        by_cases (goes t l x c)
        (λ st. rw (same c, st) (skip_ring g (λ top. st) b))
        (λ st. by_cases (is_master t j (kind_at l c))
        (λ top.
        let some : kind_at l c ≢ 0 = λ z. clash _ (rw z at top) (none_no_master t j a lt) in
        rw (same c, st, kind, ne_eqb (kind_at l c) 0 some, top) (close_ring g top st b))
        (λ top. by_cases (eqb (kind_at l c) 0)
        (λ z. rw (same c, st, kind, z) (skip_ring g (λ h. clash _ h top) b))
        (λ z. rw (same c, st, kind, z, top) (skip_ring g (λ h. clash _ h top) b))))

  -- every ring of a chain, and of every chain
  chain_closed_lem : (j : ℕ) (g : List ℕ) → j < chains t → Before (8256 * j + 64) g → Before (8256 * suc j + 64) (chain_closed t g k j)
  unfolding chain_closed
  chain_closed_lem j g lt b =
      skip (8256 * j + (64 + 64 * pages t)) (8256 * suc j + 64) _ (omega (arith, a.page_count.1))
      (λ i y li ci st lo hi. let (low, high, max) = master_within i y li ci in omega arith)
      (each_from_lem (λ c h. Before (8256 * j + c) h) (λ h c. code_closed t h k j c) (64 * pages t) 64 g
      (λ c h lo hi q. rw (add-suc (8256 * j) c) (code_closed_lem j c lt (omega (arith, a.page_count.1)) h q)) b)

  -- no ring is closed at first
  none_closed : Before 64 f
  none_closed = record {
    nx = next_of t l;
    pr = prior_of t l;
    linked = record { file = s.bytes ∙ layout_with t l; small = own_small t l a s.formed };
    next_closed = λ i y li ci st h. let (low, high, max) = master_within i y li ci in omega arith;
    prior_closed = λ i y li ci st h. let (low, high, max) = master_within i y li ci in omega arith;
    next_open = λ i y li ci h. refl;
  }

  pub chains_closed_lem : Before (8256 * chains t + 64) (chains_closed t f k)
  unfolding chains_closed
  chains_closed_lem =
      rw (zero-add (chains t)) at
      (each_from_lem (λ j h. Before (8256 * j + 64) h) (λ h j. chain_closed t h k j) (chains t) 0 f
      (λ j h lo hi q. chain_closed_lem j h (omega arith) q) none_closed)
