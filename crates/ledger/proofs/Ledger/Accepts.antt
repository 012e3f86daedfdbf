-- The table's computed test passes exactly where the table is accepted: group by group, as a test stands for a fact.
use Prim.Native.Nat.{ℕ, zero, suc, ◌+◌, ◌*◌, ◌-◌, ◌≤◌, ◌<◌}
use mathlib.Core.Path.{◌≡◌, refl}
use mathlib.Core.Logic.{◌↔◌}
use mathlib.Core.Bool.{Bool, true, false, cond, ◌&&◌, ◌||◌, false≢true}
use mathlib.Core.List.{List}
use native.Mathlib.Omega.{arith}
use lib.ListN.{length}
use lib.Dec.{eqb, ltb, leb, eqb-suc-zero}
use borrow.Author.Tests.{eqb-true, eq-eqb, leb-true, le-leb, ltb-true, lt-ltb}
use Rattle.ledger.specs.Numbers.{all, run}
use Rattle.ledger.specs.Table.{pages, types, chains, number, data_len, class, low, high, via, key_at, key_len, master_type, detail_type, order, linked_prior, duplicates, sort_at, sort_len, row, defined, is_detail, TypeRow, ChainRow, Accepted}
use Rattle.ledger.specs.Rules.{between, counted, lies_in, numbered, ranged, via_right, keyed, type_right, paired, sorted, chain_right, accepts}
use Rattle.ledger.proofs.Lists.Members.{all_each, each_all, elem_run, run_elem}

-- a test says a fact
abbrev Says : Bool → Type 0 → Type 0
Says b A = (b ≡ true) ↔ A

itself : (b : Bool) → Says b (b ≡ true)
itself b = (λ h. h, λ h. h)

at_most : (a b : ℕ) → Says (leb a b) (a ≤ b)
at_most a b = (leb-true a b, le-leb a b)

below : (a b : ℕ) → Says (ltb a b) (a < b)
below a b = (ltb-true a b, lt-ltb a b)

same : (a b : ℕ) → Says (eqb a b) (a ≡ b)
same a b = (eqb-true a b, eq-eqb a b)

-- two tests, two tests to choose from, a test of each row
and_says : {A B : Type 0} {a b : Bool} → Says a A → Says b B → Says (a && b) (A × B)
and_says {a = true} f g = (λ h. (f.0 refl, g.0 h), λ h. g.1 h.1)
and_says {a = false} f g = (λ h. absurd (false≢true h), λ h. f.1 h.0)

three_say : {A B C : Type 0} {a b c : Bool} → Says a A → Says b B → Says c C → Says (a && b && c) (A × B × C)
three_say f g h =
    let s = and_says (and_says f g) h in
    (λ e. let ((x, y), z) = s.0 e in (x, y, z), λ p. s.1 ((p.0, p.1), p.2))

cond_says : {A B C : Type 0} {a b c : Bool} → Says c C → Says a A → Says b B → Says (cond c a b) ((C → A) × ((C → ⊥) → B))
cond_says {c = true} f g h = (λ e. (λ x. g.0 e, λ n. absurd (n (f.0 refl))), λ k. g.1 (k.0 (f.0 refl)))
cond_says {c = false} f g h = (λ e. (λ x. absurd (false≢true (f.1 x)), λ n. h.0 e), λ k. h.1 (k.1 (λ x. false≢true (f.1 x))))

each_says : {P : ℕ → Type 0} (p : ℕ → Bool) (n : ℕ) → ((i : ℕ) → Says (p i) (P i)) → Says (all p (run 0 n)) ((i : ℕ) → i < n → P i)
each_says p n f = (
  λ h i l. (f i).0 (all_each p (run 0 n) h i (elem_run i 0 n (omega arith) (omega arith))),
  λ g. each_all p (run 0 n) (λ i e. (f i).1 (g i (omega (arith, (run_elem i 0 n e).1)))),
)

between_says : (n a b : ℕ) → Says (between n a b) ((a ≤ n) × (n ≤ b))
unfolding between
between_says n a b = and_says (at_most a n) (at_most n b)

-- the counts
counted_says : (t : List ℕ) → Says (counted t)
    ((((1 ≤ pages t) × (pages t ≤ 128)) × ((1 ≤ types t) × (types t ≤ 16)) × (chains t ≤ 16)) × (length t ≡ 3 + 8 * types t + 7 * chains t))
unfolding counted
counted_says t = and_says
    (three_say (between_says (pages t) 1 128) (between_says (types t) 1 16) (at_most (chains t) 16))
    (same (length t) (3 + 8 * types t + 7 * chains t))

-- a key within the data
lies_says : (at n d : ℕ) → Says (lies_in at n d) ((1 ≤ n) × (at + n ≤ d))
unfolding lies_in
lies_says at n d = and_says (at_most 1 n) (at_most (at + n) d)

-- a type's row
rising_says : (i a b : ℕ) → Says (eqb i 0 || ltb a b) (0 < i → a < b)
rising_says zero a b = (λ h l. absurd (omega arith), λ f. refl)
rising_says (suc i) a b =
    (λ h l. (below a b).0 (rw (eqb-suc-zero i) at h), λ f. rw (eqb-suc-zero i) ((below a b).1 (f (omega arith))))

module _ (t : List ℕ) (i : ℕ) where
  numbered_says : Says (numbered t i) (((1 ≤ number t i) × (number t i ≤ 999)) × (0 < i → number t (i - 1) < number t i))
  unfolding numbered
  numbered_says = and_says (between_says (number t i) 1 999) (rising_says i (number t (i - 1)) (number t i))

  ranged_says : Says (ranged t i) ((1 ≤ low t i) × (low t i ≤ high t i) × (high t i ≤ pages t))
  unfolding ranged
  ranged_says = three_say (at_most 1 (low t i)) (at_most (low t i) (high t i)) (at_most (high t i) (pages t))

  via_says : Says (via_right t i) ((class t i ≡ 1 → (via t i < chains t) × (detail_type t (via t i) ≡ number t i)) × ((class t i ≡ 1 → ⊥) → via t i ≡ 65535))
  unfolding via_right is_detail
  via_says = cond_says (same (class t i) 1)
      (and_says (below (via t i) (chains t)) (same (detail_type t (via t i)) (number t i)))
      (same (via t i) 65535)

  keyed_says : Says (keyed t i)
      ((class t i ≡ 2 → (1 ≤ key_len t i) × (key_at t i + key_len t i ≤ data_len t i)) × ((class t i ≡ 2 → ⊥) → (key_at t i ≡ 0) × (key_len t i ≡ 0)))
  unfolding keyed
  keyed_says = cond_says (same (class t i) 2)
      (lies_says (key_at t i) (key_len t i) (data_len t i))
      (and_says (same (key_at t i) 0) (same (key_len t i) 0))

  type_says : Says (type_right t i) (TypeRow t i)
  unfolding type_right
  type_says =
      let s = three_say (and_says (three_say numbered_says (at_most (data_len t i) 200) (at_most (class t i) 2)) ranged_says) via_says keyed_says in (
        λ h. let (((n, d, c), r), v, k) = s.0 h in record {
          numbered = n.0;
          rising = n.1;
          data_within = d;
          classed = c;
          ranged = r;
          secondary = v.0;
          no_via = v.1;
          keyed = k.0;
          no_key = k.1;
        },
        λ w. s.1 ((((w.numbered, w.rising), w.data_within, w.classed), w.ranged), (w.secondary, w.no_via), (w.keyed, w.no_key)),
      )

-- a chain's row
module _ (t : List ℕ) (j : ℕ) where
  paired_says : Says (paired t j) (((defined t (master_type t j) ≡ true) × (defined t (detail_type t j) ≡ true)) × (master_type t j < detail_type t j))
  unfolding paired
  paired_says = and_says (and_says (itself (defined t (master_type t j))) (itself (defined t (detail_type t j)))) (below (master_type t j) (detail_type t j))

  sorted_says : Says (sorted t j)
      ((order t j < 2 → (duplicates t j ≡ 0) × (sort_at t j ≡ 0) × (sort_len t j ≡ 0))
      × ((order t j < 2 → ⊥) → (duplicates t j ≤ 2) × ((1 ≤ sort_len t j) × (sort_at t j + sort_len t j ≤ data_len t (row t (detail_type t j))))))
  unfolding sorted
  sorted_says = cond_says (below (order t j) 2)
      (three_say (same (duplicates t j) 0) (same (sort_at t j) 0) (same (sort_len t j) 0))
      (and_says (at_most (duplicates t j) 2) (lies_says (sort_at t j) (sort_len t j) (data_len t (row t (detail_type t j)))))

  chain_says : Says (chain_right t j) (ChainRow t j)
  unfolding chain_right
  chain_says =
      let s = three_say (and_says paired_says (at_most (order t j) 3)) (at_most (linked_prior t j) 1) sorted_says in (
        λ h. let ((p, o), l, k) = s.0 h in record {
          both_defined = p.0;
          downward = p.1;
          ordered = o;
          linked = l;
          sorted = λ u. let (d, (z, e)) = k.1 (λ v. omega arith) in (d, z, e);
          unsorted = k.0;
        },
        λ w. s.1 (((w.both_defined, w.downward), w.ordered), w.linked, (w.unsorted, λ n. let (d, z, e) = w.sorted (omega arith) in (d, (z, e)))),
      )

-- the table
pub accepts_exactly : (t : List ℕ) → (accepts t ≡ true) ↔ Accepted t
unfolding accepts
accepts_exactly t =
    let s = three_say (counted_says t) (each_says (type_right t) (types t) (type_says t)) (each_says (chain_right t) (chains t) (chain_says t)) in (
      λ h. let (((p, n, c), w), r, k) = s.0 h in record {
        page_count = p;
        type_count = n;
        chain_count = c;
        words = w;
        type_rows = r;
        chain_rows = k;
      },
      λ a. s.1 (((a.page_count, a.type_count, a.chain_count), a.words), a.type_rows, a.chain_rows),
    )
