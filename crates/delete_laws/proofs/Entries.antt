-- The currency once what is marked went: each entry goes back as the ledger says.
use Prim.Native.Nat.{ℕ, zero, suc, ◌≤◌, ◌<◌}
use mathlib.Core.Path.{◌≡◌, refl, sym}
use mathlib.Core.Logic.{◌⊎◌, inl, inr}
use mathlib.Core.Bool.{true, false, cond}
use mathlib.Core.List.{List, [], ◌∷◌, ◌++◌, append_assoc}
use native.Mathlib.Omega.{arith}
use native.Mathlib.Nat.{zero-add}
use lib.ListN.{length}
use borrow.Author.Tests.{ne_eqb}
use Rattle.ledger.specs.declared.Currency.{Currency}
use Rattle.ledger.specs.Numbers.{elem, head_or}
use Rattle.ledger.specs.Table.{chains, is_master, in_chain, Accepted}
use Rattle.ledger.specs.Pages.{Ledger, kind_at, master_of, Sound}
use Rattle.ledger.specs.Currency.{InForce}
use Rattle.ledger.specs.Calls.{goes, last_before, backed}
use Rattle.ledger.proofs.Lists.Tests.{by_cases, same_or_not, clash, eqb_same}
use Rattle.ledger.proofs.Lists.Members.{elem_nil, elem_there}
use Rattle.ledger.proofs.Lists.Parts.{by_index_same}
use Rattle.ledger.proofs.Ledger.Rings.{master_self, held}
use Rattle.ledger.proofs.Delete.Backed.{currency_after as backed_currency}
use Rattle.model.specs.Reads.{next_in}
use Rattle.place_laws.proofs.With.{with_chain}
use Rattle.ring_laws.proofs.Rounds.{ring_few}
use Rattle.ring_laws.proofs.Masters.{sound_master}
use Rattle.delete_model.specs.Marks.{goes_in}
use Rattle.delete_model.specs.Entries.{stay_from, stay_in, backed_in, dropped_in, currency_after}
use Rattle.delete_laws.proofs.Below.{next_first, next_member}

module _ (t f : List ℕ) (l : Ledger) (a : Accepted t) (s : Sound t f l)
    (x : ℕ) (k : List ℕ) (same : (y : ℕ) → goes_in k y ≡ goes t l x y) where
  -- along a ring to c: the last before it that stays
  stay_along : (j m c : ℕ) (ys zs : List ℕ) (best left : ℕ) → l.ring j m ≡ ys ++ zs → elem c zs ≡ true → length zs ≤ left
      → stay_from (next_in t f j) (goes_in k) c best (head_or m zs) left ≡ last_before (goes t l x) c best zs
  unfolding stay_from last_before head_or
  stay_along j m c ys [] best left e i h = elem_nil c i
  stay_along j m c ys (z ∷ zs) best zero e i h = absurd (omega arith)
  stay_along j m c ys (z ∷ zs) best (suc left) e i h = same_or_not z c
      (λ q. rw (q, eqb_same c))
      (λ n.
      let g : l.ring j m ≡ (ys ++ (z ∷ [])) ++ zs = rw append_assoc e in
      let i : elem c zs ≡ true = rw (elem_there c z zs (λ q. n (sym q))) at i in
      rw (ne_eqb z c n, next_member t f l a s m j z ys zs e, same z) (stay_along j m c (ys ++ (z ∷ [])) zs _ left g i (omega arith)))

  stay_in_lem : (j m c : ℕ) → elem c (l.ring j m) ≡ true → stay_in t f k j m c ≡ last_before (goes t l x) c m (l.ring j m)
  unfolding stay_in
  stay_in_lem j m c i =
      let o = s.formed.ring_own j m c i in
      rw (next_first t f l a s m j o.0 o.2)
      (stay_along j m c [] (l.ring j m) m 8256 refl i (omega (arith, ring_few t l a s.formed j m)))

  -- a record that goes where its master stays is a detail of it
  goes_alone : (j y : ℕ) → j < chains t → in_chain t j (kind_at l y) ≡ true → goes t l x y ≡ true → goes t l x (master_of t l j y) ≡ false
      → elem y (l.ring j (master_of t l j y)) ≡ true
  unfolding in_chain
  goes_alone j y lt i g h = by_cases (is_master t j (kind_at l y))
      (λ q. clash _ g (rw (master_self t l j y q) at h))
      (λ q. held t l s.formed a j y lt (with_chain t l a j y lt i) (rw q at i))

  -- where a chain's entry goes back to
  entry_backed : (j y : ℕ) → (y ≡ 0) ⊎ ((j < chains t) × (in_chain t j (kind_at l y) ≡ true)) → backed_in t f k j y ≡ backed t l x j y
  unfolding backed_in backed
  entry_backed j y fits = same_or_not y 0
      (λ e. rw e)
      (λ n. elim fits [
        | inl e ↦ absurd (n e)
        | inr (lt, i) ↦ by_cases (goes t l x y)
            (λ g. by_cases (goes t l x (master_of t l j y))
            (λ h. rw (ne_eqb y 0 n, same y, g, sound_master t f l a s j y lt i, same (master_of t l j y), h))
            (λ h. rw (ne_eqb y 0 n, same y, g, sound_master t f l a s j y lt i, same (master_of t l j y), h) (stay_in_lem j (master_of t l j y) y (goes_alone j y lt i g h))))
            (λ g. rw (ne_eqb y 0 n, same y, g))
      ])

  type_dropped : (y : ℕ) → dropped_in k y ≡ cond (goes t l x y) 0 y
  unfolding dropped_in
  type_dropped y = rw (same y)

-- the currency after DELETE
pub entries_backed : (t f : List ℕ) (l : Ledger) → Accepted t → Sound t f l
    → (cur : Currency) → InForce t l cur → (k : List ℕ) → ((y : ℕ) → goes_in k y ≡ goes t l cur.run y) → currency_after t f k cur ≡ backed_currency t l cur
unfolding currency_after
entries_backed t f l a s cur c k same =
    let types = by_index_same (λ i y. dropped_in k y) (λ i y. cond (goes t l cur.run y) 0 y) 0 cur.types (λ i. type_dropped t f l a s cur.run k same _) in
    let chains = by_index_same (λ j y. backed_in t f k j y) (λ j y. backed t l cur.run j y) 0 cur.chains
    (λ j. rw (zero-add j) (entry_backed t f l a s cur.run k same j _ (c.chain_right j))) in
    cc
