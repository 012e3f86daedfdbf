-- The set that goes.
use Rattle.std.proofs.Common.{◌≡◌, ℕ, zero, suc, ◌+◌, ◌-◌, ◌%◌, ◌^◌, ◌<◌, ◌≤◌, Bool, true, false, List, Option, Some, None, set, sym, refl, sub-one, arith, eq-eqb, ne_eqb, le-leb}
use borrow.Author.Tests.{lt-leb}
use Rattle.ledger.specs.Table.{chains, is_master}
use Rattle.model.specs.declared.Below.{Below}
use Rattle.model.specs.Reads.{kind_in, next_in}
use Rattle.delete_model.specs.Marks.{goes_in, first_in, below_or, first_from, first_below_in, next_below_in, Marked, mark_from, below_on, marked_on}

-- first_in
module _ (t f : List ℕ) (c n j : ℕ) (is : Bool) (ei : is ≡ is_master t j n) where
  pub first_no_master : is ≡ false → None ≡ first_in t f c n j
  unfolding first_in
  first_no_master h = rw (← ei, h)

  module _ (next : ℕ) (h : is ≡ true) (en : next ≡ next_in t f j c) where
    pub first_home : next ≡ c → None ≡ first_in t f c n j
    unfolding first_in
    first_home e = rw (← ei, h, ← en, eq-eqb next c e)

    pub first_null : (next ≡ c → ⊥) → next ≡ 0 → None ≡ first_in t f c n j
    unfolding first_in
    first_null e z = rw (← ei, h, ← en, ne_eqb next c e, eq-eqb next 0 z)

    pub first_some : (next ≡ c → ⊥) → (next ≡ 0 → ⊥) → Some next ≡ first_in t f c n j
    unfolding first_in
    first_some e z = rw (← ei, h, ← en, ne_eqb next c e, ne_eqb next 0 z)

-- first_below
pub below_end : (t f : List ℕ) (c n j left : ℕ) (b : Option Below) → first_from t f c n j left ≡ b → (0 < left → chains t ≤ j) → None ≡ b
unfolding first_from
below_end t f c n j zero b e past = e
below_end t f c n j (suc left) b e past = rw (le-leb (chains t) j (past (omega arith))) at e

module _ (t f : List ℕ) (c n j left : ℕ) (b : Option Below) (inv : first_from t f c n j left ≡ b) where
  module _ (first : Option ℕ) (more : 0 < left) (within : j < chains t) (ef : first ≡ first_in t f c n j) where
    below_turn : below_or j first (first_from t f c n (j + 1) (left - 1)) ≡ b
    unfolding first_from
    below_turn = let e : left ≡ suc (left - 1) = omega arith in rw (lt-leb (chains t) j within, ← ef) at (rw e at inv)

    pub below_here : (x : ℕ) → first ≡ Some x → ◌≡◌ {A = Option Below} (Some (record { chain = j; code = x })) b
    below_here x h = rw h at below_turn

    pub below_next : (rest : ℕ) → first ≡ None → rest ≡ left - 1 → first_from t f c n (j + 1) rest ≡ b
    below_next rest h er = rw er (rw h at below_turn)

-- next_below
module _ (t f : List ℕ) (c n : ℕ) (b : Below) (next : ℕ) (en : next ≡ next_in t f b.chain b.code) where
  module _ (home : next ≡ c) where
    pub next_past : 16 ≤ b.chain → None ≡ next_below_in t f c n b
    unfolding next_below_in
    next_past h = rw (← en, eq-eqb next c home, le-leb 16 b.chain h)

    pub next_chain : (r : Option Below) → b.chain < 16 → r ≡ first_below_in t f c n (b.chain + 1) → r ≡ next_below_in t f c n b
    unfolding next_below_in
    next_chain r h e = rw (← en, eq-eqb next c home, lt-leb 16 b.chain h) e

  module _ (other : next ≡ c → ⊥) where
    pub next_null : next ≡ 0 → None ≡ next_below_in t f c n b
    unfolding next_below_in
    next_null h = rw (← en, ne_eqb next c other, eq-eqb next 0 h)

    pub next_in_ring : (next ≡ 0 → ⊥) → ◌≡◌ {A = Option Below} (Some (record { chain = b.chain; code = next })) (next_below_in t f c n b)
    unfolding next_below_in
    next_in_ring h = rw (← en, ne_eqb next c other, ne_eqb next 0 h)

-- mark_below
pub mark_first : (rec : ℕ → List ℕ → Marked) (t f : List ℕ) (c n : ℕ) (b : Option Below) (k : List ℕ) → n ≡ kind_in f c → b ≡ first_below_in t f c n 0
    → mark_from rec t f c n 1 b k 200000 ≡ below_on rec t f c k
unfolding below_on
mark_first rec t f c n b k en eb = rw (eb, en)

mark_none : (rec : ℕ → List ℕ → Marked) (t f : List ℕ) (c n count : ℕ) (k : List ℕ) (left : ℕ) → mark_from rec t f c n count None k left ≡ (count, k)
unfolding mark_from
mark_none rec t f c n count k zero = refl
mark_none rec t f c n count k (suc left) = refl

mark_some : (rec : ℕ → List ℕ → Marked) (t f : List ℕ) (c n count : ℕ) (b : Below) (k : List ℕ) (left : ℕ)
    → mark_from rec t f c n count (Some b) k (suc left) ≡ mark_from rec t f c n ((count + (rec b.code k).0) % 2 ^ 16) (next_below_in t f c n b) (rec b.code k).1 left
unfolding mark_from
mark_some rec t f c n count b k left = refl

module _ (rec : ℕ → List ℕ → Marked) (t f : List ℕ) (c n count : ℕ) (at : Option Below) (k : List ℕ) (left : ℕ) (x : Marked)
    (inv : mark_from rec t f c n count at k left ≡ x) where
  mark_end : at ≡ None → x ≡ (count, k)
  mark_end e = sym (rw (e, mark_none) at inv)

  mark_out : left ≡ 0 → x ≡ (count, k)
  unfolding mark_from
  mark_out e = sym (rw e at inv)

  pub mark_next : (b : Below) (r : ℕ) (g : List ℕ) (sum : ℕ) (to : Option Below) (rest : ℕ) → 0 < left → at ≡ Some b → rec b.code k ≡ (r, g)
      → sum ≡ (count + r) % 2 ^ 16 → to ≡ next_below_in t f c n b → rest ≡ left - 1 → mark_from rec t f c n sum to g rest ≡ x
  mark_next b r g sum to rest more ea er es et el =
      let e : left ≡ suc (left - 1) = omega arith in rw (es, et, el) (rw (mark_some, er) at (rw (ea, e) at inv))

module _ (t f : List ℕ) (c : ℕ) (k : List ℕ) (g : Bool) (eg : g ≡ goes_in k c) where
  pub marked_already : (level : ℕ) → g ≡ true → marked_on t f level c k ≡ (0, k)
  unfolding marked_on
  marked_already zero h = rw (← eg, h)
  marked_already (suc level) h = rw (← eg, h)

  module _ (k1 : List ℕ) (h : g ≡ false) (ek : set k c 1 ≡ k1) where
    pub marked_alone : (level : ℕ) → level ≡ 0 → marked_on t f level c k ≡ (1, k1)
    unfolding marked_on
    marked_alone zero z = rw (← eg, h, ek)
    marked_alone (suc level) z = absurd (omega arith)

    marked_all : (level : ℕ) (x : Marked) → (level ≡ 0 → ⊥) → below_on (marked_on t f (level - 1)) t f c k1 ≡ x → marked_on t f level c k ≡ x
    unfolding marked_on
    marked_all zero x nz e = absurd (nz refl)
    marked_all (suc level) x nz e = rw (← eg, h, ek) (rw sub-one at e)

-- its ways out of the loop
module _ (t f : List ℕ) (level c n count : ℕ) (at : Option Below) (k2 : List ℕ) (left : ℕ) (k1 : List ℕ)
    (inv : mark_from (marked_on t f (level - 1)) t f c n count at k2 left ≡ below_on (marked_on t f (level - 1)) t f c k1)
    (k : List ℕ) (g : Bool) (nz : level ≡ 0 → ⊥) (eg : g ≡ goes_in k c) (h : g ≡ false) (ek : set k c 1 ≡ k1) where
  pub marked_end : at ≡ None → marked_on t f level c k ≡ (count, k2)
  marked_end z = marked_all t f c k g eg k1 h ek level _ nz (mark_end _ t f c n count at k2 left _ inv z)

  pub marked_out : left ≡ 0 → marked_on t f level c k ≡ (count, k2)
  marked_out z = marked_all t f c k g eg k1 h ek level _ nz (mark_out _ t f c n count at k2 left _ inv z)
