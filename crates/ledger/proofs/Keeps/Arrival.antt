-- Arrival keeps the currency in force; calls that only arrive keep the ledger well formed and the currency in force.
use Prim.Native.Nat.{ℕ, ◌<◌}
use mathlib.Core.Path.{◌≡◌, refl, sym}
use mathlib.Core.Logic.{◌⊎◌, inl, inr}
use mathlib.Core.Bool.{Bool, true, false, ◌&&◌}
use mathlib.Core.List.{List}
use native.Mathlib.Omega.{arith}
use lib.ListN.{get_or}
use native.Mathlib.Nat.{zero-add}
use lib.Dec.{ltb}
use borrow.Author.Tests.{ltb-true}
use Rattle.ledger.specs.declared.Answer.{Answer}
use Rattle.ledger.specs.declared.Currency.{Currency}
use Rattle.ledger.specs.Table.{types, chains, number, row, in_chain, Accepted}
use Rattle.ledger.specs.Pages.{Ledger, kind_at, present, WellFormed}
use Rattle.ledger.specs.Currency.{arrived, Points, InForce}
use Rattle.ledger.specs.Calls.{Turn, done, unless, arrive}
use Rattle.ledger.proofs.Lists.Tests.{by_cases, both}
use Rattle.ledger.proofs.Lists.Parts.{set_keeps, index_keeps}
use Rattle.ledger.proofs.Ledger.Rows.{row_number, row_inside}
use Rattle.ledger.proofs.Keeps.Changes.{Changed, still}
use Rattle.ledger.proofs.Keeps.Calcs.{well_formed}

-- a currency stays in force where what was there is there, of its type
module _ (t : List ℕ) (l l' : Ledger) (cur : Currency) (still : (y : ℕ) → present l y ≡ true → (present l' y ≡ true) × (kind_at l' y ≡ kind_at l y)) where
  points_still : (y : ℕ) → Points l y → Points l' y
  points_still y p = elim p [ inl e ↦ inl e | inr h ↦ inr (still y h).0 ]

  right_still : (A : ℕ → Type 0) (y : ℕ) → Points l y → (y ≡ 0) ⊎ A (kind_at l y) → (y ≡ 0) ⊎ A (kind_at l' y)
  right_still A y (inl e) q = inl e
  right_still A y (inr h) (inl e) = inl e
  right_still A y (inr h) (inr q) = inr (rw (still y h).1 q)

  pub in_force_still : InForce t l cur → InForce t l' cur
  in_force_still f = record {
    run_there = points_still _ f.run_there;
    type_there = λ i. points_still _ (f.type_there i);
    type_right = λ i. right_still (λ k. (i < types t) × (k ≡ number t i)) _ (f.type_there i) (f.type_right i);
    chain_there = λ j. points_still _ (f.chain_there j);
    chain_right = λ j. right_still (λ k. (j < chains t) × (in_chain t j k ≡ true)) _ (f.chain_there j) (f.chain_right j);
  }

-- what a call that is done leaves
abbrev pub Kept : List ℕ → Turn → Type 0
Kept t r = (a : Answer) (l' : Ledger) (c : Currency) → r ≡ done a l' c → WellFormed t l' × InForce t l' c

pub unless_kept : (t : List ℕ) (b : Bool) (n : ℕ) (r : Turn) → (b ≡ false → Kept t r) → Kept t (unless b n r)
unfolding unless
unless_kept t true n r k a l' c e = let z : ◌≡◌ {A = ℕ} 0 1 = cc in absurd (omega arith)
unless_kept t false n r k a l' c e = k refl a l' c e

pub done_kept : (t : List ℕ) (a : Answer) (l : Ledger) (c : Currency) → WellFormed t l → InForce t l c → Kept t (done a l c)
done_kept t a l c w f a' l' c' e =
    let p : l ≡ l' = cc in
    let q : c ≡ c' = cc in
    rw (← p, ← q) (w, f)

module _ (t : List ℕ) (l : Ledger) (cur : Currency) (w : WellFormed t l) (f : InForce t l cur) (x : ℕ) (h : present l x ≡ true) where
  type_entry : (A : ℕ → Type 0) (i : ℕ) → A (get_or cur.types i 0) → (i ≡ row t (kind_at l x) → A x) → A (get_or (arrived t l cur x).types i 0)
  unfolding arrived
  type_entry A i old new = set_keeps A cur.types (row t (kind_at l x)) x i old new

  chain_entry : (A : ℕ → Type 0) (j : ℕ) → A 0 → A (get_or cur.chains j 0) → (j < chains t → in_chain t j (kind_at l x) ≡ true → A x)
      → A (get_or (arrived t l cur x).chains j 0)
  unfolding arrived
  chain_entry A j none old new = index_keeps A _ 0 cur.chains j none (rw (zero-add j) (by_cases (ltb j (chains t) && in_chain t j (kind_at l x))
      (λ e. let (p, q) = both (ltb j (chains t)) _ e in rw e (new (ltb-true _ _ p) q))
      (λ e. rw e old)))

  pub arrived_in_force : InForce t l (arrived t l cur x)
  unfolding arrived
  arrived_in_force = record {
    run_there = inr h;
    type_there = λ i. type_entry (Points l) i (f.type_there i) (λ e. inr h);
    type_right = λ i. type_entry (λ y. (y ≡ 0) ⊎ ((i < types t) × (kind_at l y ≡ number t i))) i (f.type_right i)
        (λ e. inr (rw e (row_inside t (kind_at l x) (w.placed x h).typed), rw e (sym (row_number t (kind_at l x) (w.placed x h).typed))));
    chain_there = λ j. chain_entry (Points l) j (inl refl) (f.chain_there j) (λ p q. inr h);
    chain_right = λ j. chain_entry (λ y. (y ≡ 0) ⊎ ((j < chains t) × (in_chain t j (kind_at l y) ≡ true))) j (inl refl) (f.chain_right j)
        (λ p q. inr (p, q));
  }

  pub arrive_kept : (count : ℕ) → Kept t (arrive t l cur x count)
  unfolding arrive
  arrive_kept count = done_kept t _ l _ w arrived_in_force

-- a call that changes one record by the rules, and arrives at it
pub changed_kept : (t : List ℕ) (l l' : Ledger) (cur : Currency) (x : ℕ) → Accepted t → WellFormed t l → InForce t l cur → Changed t l l' x
    → (count : ℕ) → Kept t (arrive t l' cur x count)
changed_kept t l l' cur x a w f c count =
    arrive_kept t l' cur (well_formed t l l' x a w c) (in_force_still t l l' cur (still t l l' x a w c) f) x c.there count
