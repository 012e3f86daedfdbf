-- Refusal 4, exactly: the model's test of the currency says `InForce` of the sound file's ledger.
use Prim.Native.Nat.{ℕ, zero, suc, ◌+◌, ◌≤◌, ◌<◌}
use mathlib.Core.Path.{◌≡◌, refl, sym, ◌∙◌}
use mathlib.Core.Logic.{◌⊎◌, inl, inr, ◌↔◌}
use mathlib.Core.Bool.{Bool, true, not, ◌&&◌, or-true}
use mathlib.Core.List.{List}
use native.Mathlib.Omega.{arith}
use lib.ListN.{length, get_or, get_or-eq_default}
use lib.Dec.{eqb, ltb, leb}
use borrow.Author.Tests.{eq-eqb, eqb-true, lt-ltb, ltb-true, leb-true, leb-false}
use Rattle.ledger.specs.declared.Currency.{Currency}
use Rattle.ledger.specs.Table.{types, chains, number, in_chain, Accepted}
use Rattle.ledger.specs.Pages.{Ledger, kind_at, present, Sound}
use Rattle.ledger.specs.Currency.{Points, InForce}
use Rattle.ledger.proofs.Lists.Tests.{by_cases, both, either, same_or_not}
use Rattle.model.specs.Reads.{kind_in}
use Rattle.look_model.specs.Currencies.{points_in, right_in, type_right_in, chain_right_in, right_from, all_right, in_force_on}
use Rattle.place_laws.proofs.Sound.{sound_kind, sound_there}

-- entries, each right by its index
pub from_right : (right : ℕ → ℕ → Bool) (es : List ℕ) (m i : ℕ) → right_from right es i m ≡ true → (k : ℕ) → i ≤ k → k < i + m → right k (get_or es k 0) ≡ true
unfolding right_from
from_right right es zero i e k lo hi = absurd (omega arith)
from_right right es (suc m) i e k lo hi =
    let (here, rest) = both (right i (get_or es i 0)) (right_from right es (i + 1) m) e in
    same_or_not k i (λ s. rw s here) (λ s. from_right right es m (i + 1) rest k (omega arith) (omega arith))

pub right_from_lem : (right : ℕ → ℕ → Bool) (es : List ℕ) (m i : ℕ) → ((k : ℕ) → i ≤ k → k < i + m → right k (get_or es k 0) ≡ true) → right_from right es i m ≡ true
unfolding right_from
right_from_lem right es zero i all = refl
right_from_lem right es (suc m) i all =
    rw (all i (omega arith) (omega arith), right_from_lem right es m (i + 1) (λ k lo hi. all k (omega arith) (omega arith)))

module _ (t f : List ℕ) (l : Ledger) (a : Accepted t) (s : Sound t f l) where
  points_exactly : (x : ℕ) → (points_in f x ≡ true) ↔ Points l x
  unfolding points_in
  points_exactly x = (
    λ e. elim (either (eqb x 0) (not (eqb (kind_in f x) 0)) e) [ inl z ↦ inl (eqb-true x 0 z) | inr p ↦ inr (sym (sound_there t f l a s x) ∙ p) ],
    λ p. elim p [ inl z ↦ rw (eq-eqb x 0 z) | inr e ↦ rw (sound_there t f l a s x, e) (or-true (eqb x 0)) ],
  )

  -- an entry is right: 0, or a record in an entry that is used and that its type suits
  abbrev Right : ℕ → (ℕ → ℕ → Bool) → ℕ → ℕ → Type 0
  Right count suits i x = (x ≡ 0) ⊎ ((i < count) × (present l x ≡ true) × (suits i (kind_at l x) ≡ true))

  right_exactly : (count : ℕ) (suits : ℕ → ℕ → Bool) (i x : ℕ) → (right_in f count suits i x ≡ true) ↔ Right count suits i x
  unfolding right_in
  right_exactly count suits i x = (
    λ e. elim (either (eqb x 0) _ e) [
      | inl z ↦ inl (eqb-true x 0 z)
      | inr p ↦ (let (q, suit) = both (ltb i count && not (eqb (kind_in f x) 0)) (suits i (kind_in f x)) p in
          let (lt, there) = both (ltb i count) (not (eqb (kind_in f x) 0)) q in
          inr (ltb-true i count lt, sym (sound_there t f l a s x) ∙ there, rw (sound_kind t f l a s x) at suit))
    ],
    λ p. elim p [
      | inl z ↦ rw (eq-eqb x 0 z)
      | inr q ↦ rw (lt-ltb i count q.0, sound_there t f l a s x, q.1, sound_kind t f l a s x, q.2) (or-true (eqb x 0))
    ],
  )

  -- all sixteen, and the rest are 0
  all_exactly : (count : ℕ) (suits : ℕ → ℕ → Bool) (es : List ℕ) → length es ≡ 16
      → (all_right (right_in f count suits) es ≡ true) ↔ ((i : ℕ) → Right count suits i (get_or es i 0))
  unfolding all_right
  all_exactly count suits es sixteen = (
    λ e i. by_cases (leb 16 i)
        (λ past. inl (get_or-eq_default es 0 (omega (arith, leb-true 16 i past))))
        (λ in-it. (right_exactly count suits i _).0 (from_right _ es 16 0 e i (omega arith) (omega (arith, leb-false 16 i in-it)))),
    λ r. right_from_lem _ es 16 0 (λ k lo hi. (right_exactly count suits k _).1 (r k)),
  )

  pub in_force_exactly : (cur : Currency) → length cur.types ≡ 16 → length cur.chains ≡ 16 → (in_force_on t f cur ≡ true) ↔ InForce t l cur
  unfolding in_force_on type_right_in chain_right_in
  in_force_exactly cur ty ch = (there, back)
    where
      there : in_force_on t f cur ≡ true → InForce t l cur
      there e =
          let (p, q) = both (points_in f cur.run && all_right (type_right_in t f) cur.types) (all_right (chain_right_in t f) cur.chains) e in
          let (run, ts) = both (points_in f cur.run) (all_right (type_right_in t f) cur.types) p in
          let typed = (all_exactly (types t) (λ i n. eqb n (number t i)) cur.types ty).0 ts in
          let chained = (all_exactly (chains t) (in_chain t) cur.chains ch).0 q in record {
            run_there = (points_exactly cur.run).0 run;
            type_there = λ i. elim (typed i) [ inl z ↦ inl z | inr r ↦ inr r.1 ];
            type_right = λ i. elim (typed i) [ inl z ↦ inl z | inr r ↦ inr (r.0, eqb-true _ _ r.2) ];
            chain_there = λ j. elim (chained j) [ inl z ↦ inl z | inr r ↦ inr r.1 ];
            chain_right = λ j. elim (chained j) [ inl z ↦ inl z | inr r ↦ inr (r.0, r.2) ];
          }

      back : InForce t l cur → in_force_on t f cur ≡ true
      back i = rw (
        (points_exactly cur.run).1 i.run_there,
        (all_exactly (types t) (λ i n. eqb n (number t i)) cur.types ty).1 (λ k. elim (i.type_right k) [
          | inl z ↦ inl z
          | inr r ↦ elim (i.type_there k) [ inl z ↦ inl z | inr p ↦ inr (r.0, p, eq-eqb _ _ r.1) ]
        ]),
        (all_exactly (chains t) (in_chain t) cur.chains ch).1 (λ k. elim (i.chain_right k) [
          | inl z ↦ inl z
          | inr r ↦ elim (i.chain_there k) [ inl z ↦ inl z | inr p ↦ inr (r.0, p, r.1) ]
        ]),
      )
