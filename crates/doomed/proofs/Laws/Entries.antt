-- The currency once what is marked went.
use Rattle.std.proofs.Common.{◌≡◌, ℕ, suc, ◌-◌, ◌<◌, Bool, true, false, cond, eqb, List, arith, eq-eqb, ne_eqb}
use Rattle.ring_model.specs.Rings.{master_in}
use Rattle.delete_model.specs.Marks.{goes_in}
use Rattle.delete_model.specs.Entries.{stay_from, stay_in, backed_in}

-- stay_before
module _ (next : ℕ → ℕ) (gone : ℕ → Bool) (c best at left x : ℕ) (inv : stay_from next gone c best at left ≡ x) where
  pub stay_out : left ≡ 0 → best ≡ x
  unfolding stay_from
  stay_out e = rw e at inv

  module _ (more : 0 < left) where
    stay_turn : cond (eqb at c) best (stay_from next gone c (cond (gone at) best at) (next at) (left - 1)) ≡ x
    unfolding stay_from
    stay_turn = let e : left ≡ suc (left - 1) = omega arith in rw e at inv

    pub stay_here : at ≡ c → best ≡ x
    stay_here h = rw (eq-eqb at c h) at stay_turn

    pub stay_next : (new to rest : ℕ) → (at ≡ c → ⊥) → new ≡ cond (gone at) best at → to ≡ next at → rest ≡ left - 1 → stay_from next gone c new to rest ≡ x
    stay_next new to rest h en et er = rw (en, et, er) (rw (ne_eqb at c h) at stay_turn)

-- backed
module _ (t f k : List ℕ) (j c : ℕ) where
  pub backed_none : c ≡ 0 → c ≡ backed_in t f k j c
  unfolding backed_in
  backed_none h = rw (eq-eqb c 0 h) h

  module _ (g : Bool) (some : c ≡ 0 → ⊥) (eg : g ≡ goes_in k c) where
    pub backed_stays : g ≡ false → c ≡ backed_in t f k j c
    unfolding backed_in
    backed_stays h = rw (ne_eqb c 0 some, ← eg, h)

    module _ (m : ℕ) (gm : Bool) (went : g ≡ true) (em : m ≡ master_in t f j c) (eg2 : gm ≡ goes_in k m) where
      pub backed_lost : gm ≡ true → 0 ≡ backed_in t f k j c
      unfolding backed_in
      backed_lost h = rw (ne_eqb c 0 some, ← eg, went, ← em, ← eg2, h)

      pub backed_walked : (r : ℕ) → gm ≡ false → r ≡ stay_in t f k j m c → r ≡ backed_in t f k j c
      unfolding backed_in
      backed_walked r h e = rw (ne_eqb c 0 some, ← eg, went, ← em, ← eg2, h) e
