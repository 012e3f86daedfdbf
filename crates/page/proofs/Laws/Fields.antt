-- A record's fields.
use Rattle.std.proofs.Common.{◌≡◌, refl, sym, ℕ, ◌+◌, Option, Some, None, List, [], eq-eqb, ne_eqb}
use Rattle.ledger.specs.Numbers.{part, or_none}
use Rattle.ledger.specs.Bytes.{two_at, three_at}
use Rattle.ledger.proofs.Lists.Nones.{zero_of_none, value_of_some, some_not_zero}
use Rattle.ledger.specs.Table.{row, data_len}
use Rattle.model.specs.Reads.{place_in, kind_from, link_from, kind_in, data_in}

-- A record looked up; o is what `find` gives
module _ (f : List ℕ) (c : ℕ) (o : Option ℕ) (eo : o ≡ or_none (place_in f c)) where
  pub kind_none : o ≡ None → 0 ≡ kind_in f c
  unfolding kind_in kind_from
  kind_none h = rw (eq-eqb (place_in f c) 0 (zero_of_none _ eo h)) refl

  pub link_none : (k : ℕ) → o ≡ None → 0 ≡ link_from f (place_in f c) k
  unfolding link_from
  link_none k h = rw (eq-eqb (place_in f c) 0 (zero_of_none _ eo h)) refl

  pub data_none : (t : List ℕ) → o ≡ None → [] ≡ data_in t f c
  unfolding data_in
  data_none t h = rw (eq-eqb (place_in f c) 0 (zero_of_none _ eo h)) refl

  module _ (at : ℕ) (h : o ≡ Some at) where
    some : place_in f c ≡ 0 → ⊥
    some = some_not_zero _ eo h

    here : place_in f c ≡ at
    here = sym (value_of_some _ eo h)

    pub kind_some : two_at f at ≡ kind_in f c
    unfolding kind_in kind_from
    kind_some = rw (ne_eqb (place_in f c) 0 some, here) refl

    pub link_some : (k : ℕ) → three_at f (at + k) ≡ link_from f (place_in f c) k
    unfolding link_from
    link_some k = rw (ne_eqb (place_in f c) 0 some, here) refl

    pub data_some : (t : List ℕ) (kind : ℕ) → kind ≡ two_at f at → part (at + 5) (data_len t (row t kind)) f ≡ data_in t f c
    unfolding data_in
    data_some t kind ek = rw (ne_eqb (place_in f c) 0 some, ← kind_some, here, ek) refl
