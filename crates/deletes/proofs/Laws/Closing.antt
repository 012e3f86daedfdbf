-- Rings closed over what is marked, and the marked records taken out.
use Rattle.std.proofs.Common.{◌≡◌, ℕ, suc, ◌+◌, ◌-◌, ◌<◌, Bool, true, false, List, sym, arith, eq-eqb, ne_eqb}
use Rattle.ledger.specs.Table.{is_master}
use Rattle.model.specs.Reads.{kind_in}
use Rattle.model.specs.Moves.{take_out}
use Rattle.delete_model.specs.Marks.{goes_in}
use Rattle.delete_model.specs.Closing.{step_on, close_from, ring_closed, code_closed, mark_taken, each_from}

-- close
module _ (next : List ℕ → ℕ → ℕ) (join : List ℕ → ℕ → ℕ → List ℕ) (k : List ℕ) (home : ℕ) (f : List ℕ) (last at left : ℕ) (x : List ℕ)
    (inv : close_from next join k home f last at left ≡ x) where
  pub close_out : left ≡ 0 → x ≡ f
  unfolding close_from
  close_out e = sym (rw e at inv)

  module _ (more : 0 < left) where
    pub close_home : (g : List ℕ) → at ≡ home → join f last home ≡ g → x ≡ g
    unfolding close_from
    close_home g h eg = let e : left ≡ suc (left - 1) = omega arith in sym (rw (eq-eqb at home h, eg) at (rw e at inv))

    module _ (to rest : ℕ) (other : at ≡ home → ⊥) (et : to ≡ next f at) (er : rest ≡ left - 1) where
      pub close_goes : goes_in k at ≡ true → close_from next join k home f last to rest ≡ x
      unfolding close_from step_on
      close_goes h = let e : left ≡ suc (left - 1) = omega arith in rw (et, er) (rw (ne_eqb at home other, h) at (rw e at inv))

      pub close_stays : (g : List ℕ) → goes_in k at ≡ false → join f last at ≡ g → close_from next join k home g at to rest ≡ x
      unfolding close_from step_on
      close_stays g h eg = let e : left ≡ suc (left - 1) = omega arith in rw (et, er) (rw (ne_eqb at home other, h, eg) at (rw e at inv))

-- close_at
module _ (t f k : List ℕ) (j c n : ℕ) (en : n ≡ kind_in f c) (g : Bool) (eg : g ≡ goes_in k c) where
  pub code_goes : g ≡ true → code_closed t f k j c ≡ f
  unfolding code_closed
  code_goes h = rw (← eg, h)

  module _ (stays : g ≡ false) where
    pub code_none : n ≡ 0 → code_closed t f k j c ≡ f
    unfolding code_closed
    code_none h = rw (← eg, stays, ← en, eq-eqb n 0 h)

    module _ (some : n ≡ 0 → ⊥) (is : Bool) (ei : is ≡ is_master t j n) where
      pub code_master : (f1 : List ℕ) → is ≡ true → ring_closed t f k j c ≡ f1 → code_closed t f k j c ≡ f1
      unfolding code_closed
      code_master f1 h e = rw (← eg, stays, ← en, ne_eqb n 0 some, ← ei, h) e

      pub code_other : is ≡ false → code_closed t f k j c ≡ f
      unfolding code_closed
      code_other h = rw (← eg, stays, ← en, ne_eqb n 0 some, ← ei, h)

-- take_marked
module _ (f k : List ℕ) (c : ℕ) (g : Bool) (eg : g ≡ goes_in k c) where
  pub taken_marked : (f1 : List ℕ) → g ≡ true → take_out f c ≡ f1 → mark_taken f k c ≡ f1
  unfolding mark_taken
  taken_marked f1 h e = rw (← eg, h) e

  pub taken_not : g ≡ false → mark_taken f k c ≡ f
  unfolding mark_taken
  taken_not h = rw (← eg, h)

-- a loop over codes, chains or pages
module _ (g : List ℕ → ℕ → List ℕ) (f : List ℕ) (i left : ℕ) (x : List ℕ) (inv : each_from g f i left ≡ x) where
  pub each_out : left ≡ 0 → x ≡ f
  unfolding each_from
  each_out e = sym (rw e at inv)

  pub each_next : (f1 : List ℕ) (rest : ℕ) → 0 < left → g f i ≡ f1 → rest ≡ left - 1 → each_from g f1 (i + 1) rest ≡ x
  unfolding each_from
  each_next f1 rest h eg er = let e : left ≡ suc (left - 1) = omega arith in rw (← eg, er) (rw e at inv)
