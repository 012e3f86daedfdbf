-- Links written.
use Prim.Native.Nat.{ℕ, ◌+◌}
use Rattle.std.proofs.Common.{◌≡◌, sym, Option, Some, None, List, eq-eqb, ne_eqb}
use Rattle.ledger.specs.Numbers.{or_none}
use Rattle.ledger.specs.Table.{linked_prior}
use Rattle.ledger.specs.Pages.{link_at}
use Rattle.ledger.proofs.Lists.Nones.{zero_of_none, value_of_some, some_not_zero}
use Rattle.model.specs.Reads.{place_in, kind_in}
use Rattle.model.specs.Writes.{three_put, link_put, prior_put}

-- put_link; o is what `find` gives
module _ (f : List ℕ) (c k v : ℕ) (o : Option ℕ) (eo : o ≡ or_none (place_in f c)) where
  pub link_off : o ≡ None → link_put f (place_in f c) k v ≡ f
  unfolding link_put
  link_off h = rw (eq-eqb (place_in f c) 0 (zero_of_none _ eo h))

  pub link_on : (at : ℕ) → o ≡ Some at → link_put f (place_in f c) k v ≡ three_put f (at + k) v
  unfolding link_put
  link_on at h = let e : place_in f c ≡ at = sym (value_of_some _ eo h) in rw (ne_eqb (place_in f c) 0 (some_not_zero _ eo h), e)

module _ (t f : List ℕ) (j c v w : ℕ) (ew : w ≡ linked_prior t j) where
  pub prior_off : (w ≡ 1 → ⊥) → prior_put t f j c v ≡ f
  unfolding prior_put
  prior_off n = rw (← ew, ne_eqb w 1 n)

  pub prior_on : w ≡ 1 → prior_put t f j c v ≡ link_put f (place_in f c) (link_at t (kind_in f c) j + 3) v
  unfolding prior_put
  prior_on one = rw (← ew, eq-eqb w 1 one)
