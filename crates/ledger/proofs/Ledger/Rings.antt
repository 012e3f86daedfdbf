-- NEXT, PRIOR and the master of a record, from a ledger's lists.
use Prim.Native.Nat.{ℕ, ◌<◌}
use mathlib.Core.Path.{◌≡◌, ◌∙◌, ap, refl}
use mathlib.Core.Logic.{◌≢◌, inl, inr}
use mathlib.Core.Bool.{true, false}
use mathlib.Core.List.{List, ◌∷◌, ◌++◌, reverse}
use Rattle.ledger.specs.Numbers.{elem, once, head_or, last_or, follower}
use Rattle.ledger.specs.Table.{is_master, Accepted, chains, is_detail, in_chain}
use Rattle.ledger.specs.Pages.{Ledger, kind_at, codes, master_of, next_of, prior_of, round, present, WellFormed}
use Rattle.ledger.specs.Walks.{Agrees}
use Rattle.ledger.proofs.Lists.Tests.{clash, not_true_false, by_cases}
use Rattle.ledger.proofs.Lists.Members.{elem_cases, elem_put, elem_here, elem_tail}
use Rattle.ledger.proofs.Lists.Pairs.{once_left, once_right}
use Rattle.ledger.proofs.Lists.Followers.{follower_first, follower_in, before_in_lem, before_first, follower_seam, before_seam, head_member, last_member}
use Rattle.ledger.proofs.Lists.Searches.{first_of_only, first_of_same}
use Rattle.ledger.proofs.Ledger.Rows.{detail_no_master, code_listed}

-- what the rings of one chain keep
pub record Chained (t : List ℕ) (l : Ledger) (j : ℕ) : Type 0 where
  pub ones : (m : ℕ) → once (l.ring j m) ≡ true
  pub listed : (m x : ℕ) → elem x (l.ring j m) ≡ true → elem m (codes t) ≡ true
  pub above : (m x : ℕ) → elem x (l.ring j m) ≡ true → is_master t j (kind_at l m) ≡ true
  pub below : (m x : ℕ) → elem x (l.ring j m) ≡ true → is_master t j (kind_at l x) ≡ false
  pub one : (m n x : ℕ) → elem x (l.ring j m) ≡ true → elem x (l.ring j n) ≡ true → m ≡ n

pub chained : (t : List ℕ) (l : Ledger) → Accepted t → WellFormed t l → (j : ℕ) → Chained t l j
chained t l a w j = record {
  ones = w.ring_once j;
  listed = λ m x h. code_listed t l m a (w.placed m (w.ring_own j m x h).1);
  above = λ m x h. (w.ring_own j m x h).2;
  below = λ m x h. let o = w.ring_own j m x h in detail_no_master t j _ (a.chain_rows j o.0) o.4;
  one = w.ring_one j;
}

module _ (t : List ℕ) (l : Ledger) (j : ℕ) where
  -- a master is its own master
  pub master_self : (m : ℕ) → is_master t j (kind_at l m) ≡ true → master_of t l j m ≡ m
  unfolding master_of
  master_self m h = rw h

  pub master_in_lem : (m x : ℕ) → Chained t l j → elem x (l.ring j m) ≡ true → master_of t l j x ≡ m
  unfolding master_of
  master_in_lem m x c h =
      rw (c.below m x h) (first_of_only (λ n. elem x (l.ring j n)) m (codes t) (c.listed m x h) h (λ n g. c.one n m x g h))

  pub master_not_member : (m x : ℕ) → Chained t l j → elem x (l.ring j m) ≡ true → x ≢ m
  master_not_member m x c h e = clash _ (c.above m x h) (rw e at (c.below m x h))

  pub next_master : (m : ℕ) → is_master t j (kind_at l m) ≡ true → next_of t l j m ≡ head_or m (l.ring j m)
  unfolding next_of
  next_master m h = rw (master_self m h) (follower_first m (l.ring j m))

  pub prior_master : (m : ℕ) → is_master t j (kind_at l m) ≡ true → prior_of t l j m ≡ last_or m (l.ring j m)
  unfolding prior_of
  prior_master m h = rw (master_self m h) (before_first m (l.ring j m))

  module _ (m x : ℕ) (ys zs : List ℕ) (c : Chained t l j) (e : l.ring j m ≡ ys ++ x ∷ zs) where
    member : elem x (l.ring j m) ≡ true
    member = rw e (elem_put x ys zs)

    apart : once (ys ++ x ∷ zs) ≡ true
    apart = rw e at (c.ones m)

    pub next_in_lem : next_of t l j x ≡ head_or m zs
    unfolding next_of
    next_in_lem = rw (master_in_lem m x c member, e) (follower_in m x ys zs (master_not_member m x c member) (once_left x ys zs apart))

    pub prior_in_lem : prior_of t l j x ≡ last_or m ys
    unfolding prior_of
    prior_in_lem = rw (master_in_lem m x c member, e) (before_in_lem m x ys zs (master_not_member m x c member) (once_right x ys zs apart))

-- a ring of a ledger, round it
module _ (t : List ℕ) (l : Ledger) (j : ℕ) (c : Chained t l j) (m : ℕ) (top : is_master t j (kind_at l m) ≡ true) (x : ℕ) (e : elem x (m ∷ l.ring j m) ≡ true) where
  pub next_round : next_of t l j x ≡ follower x (round m (l.ring j m))
  unfolding next_of
  next_round = elim (elem_cases x m (l.ring j m) e) [
    | inl i ↦ rw (i, master_self t l j m top)
    | inr i ↦ rw (master_in_lem t l j m x c i)
  ]

  pub prior_round : prior_of t l j x ≡ follower x (round m (reverse (l.ring j m)))
  unfolding prior_of
  prior_round = elim (elem_cases x m (l.ring j m) e) [
    | inl i ↦ rw (i, master_self t l j m top)
    | inr i ↦ rw (master_in_lem t l j m x c i)
  ]

-- between two parts of a ring: after the last of the first comes the head of the second, and back
module _ (t : List ℕ) (l : Ledger) (j m : ℕ) (c : Chained t l j) (h : is_master t j (kind_at l m) ≡ true) where
  pub master_off : elem m (l.ring j m) ≡ false
  master_off = not_true_false _ λ e. master_not_member t l j m m c e refl

  pub next_seam : (ys zs : List ℕ) → l.ring j m ≡ ys ++ zs → next_of t l j (last_or m ys) ≡ head_or m zs
  next_seam ys zs e =
      next_round t l j c m h (last_or m ys) (rw e (last_member m ys zs)) ∙ follower_seam m (l.ring j m) (c.ones m) master_off ys zs e

  pub prior_seam : (ys zs : List ℕ) → l.ring j m ≡ ys ++ zs → prior_of t l j (head_or m zs) ≡ last_or m ys
  prior_seam ys zs e =
      prior_round t l j c m h (head_or m zs) (rw e (head_member m ys zs)) ∙ before_seam m (l.ring j m) (c.ones m) master_off ys zs e

-- NEXT in a ring is what its list says
pub ring_agrees : (t : List ℕ) (l : Ledger) → Accepted t → WellFormed t l → (j m : ℕ) → is_master t j (kind_at l m) ≡ true → Agrees (next_of t l j) m (l.ring j m)
ring_agrees t l a w j m h = next_round t l j (chained t l a w j) m h

-- a chain whose rings are the same
module _ (t : List ℕ) (l l' : Ledger) (j : ℕ) (same : (m : ℕ) → l'.ring j m ≡ l.ring j m) (x : ℕ) (kind : is_master t j (kind_at l' x) ≡ is_master t j (kind_at l x)) where
  pub master_same : master_of t l' j x ≡ master_of t l j x
  unfolding master_of
  master_same = rw (kind, first_of_same _ _ (codes t) (λ m e. ap (elem x) (same m)))

  pub next_same : next_of t l' j x ≡ next_of t l j x
  unfolding next_of
  next_same = rw (master_same, same (master_of t l j x))

  pub prior_same : prior_of t l' j x ≡ prior_of t l j x
  unfolding prior_of
  prior_same = rw (master_same, same (master_of t l j x))

-- in a well-formed ledger
module _ (t : List ℕ) (l : Ledger) (w : WellFormed t l) where
  pub absent_no_ring : (x : ℕ) → present l x ≡ false → (j m : ℕ) → elem x (l.ring j m) ≡ false
  absent_no_ring x f j m = not_true_false _ λ h. clash _ (w.ring_own j m x h).3 f

  -- a detail is in the ring of its master
  pub held : Accepted t → (j y : ℕ) → j < chains t → present l y ≡ true → is_detail t j (kind_at l y) ≡ true → elem y (l.ring j (master_of t l j y)) ≡ true
  held a j y h p d = let (m, g) = w.ring_all j y h p d in rw (master_in_lem t l j m y (chained t l a w j) g) g

  -- a record of a chain is a master in it, or in the ring of its master, which is there
  pub in_its_ring : Accepted t → (j y : ℕ) → j < chains t → present l y ≡ true → in_chain t j (kind_at l y) ≡ true
      → elem y (master_of t l j y ∷ l.ring j (master_of t l j y)) ≡ true
  unfolding in_chain
  in_its_ring a j y h p i = by_cases (is_master t j (kind_at l y))
      (λ e. rw (master_self t l j y e) (elem_here y _))
      (λ e. elem_tail y _ _ (held a j y h p (rw e at i)))

  pub master_there : Accepted t → (j y : ℕ) → j < chains t → present l y ≡ true → in_chain t j (kind_at l y) ≡ true
      → (present l (master_of t l j y) ≡ true) × (is_master t j (kind_at l (master_of t l j y)) ≡ true)
  unfolding in_chain
  master_there a j y h p i = by_cases (is_master t j (kind_at l y))
      (λ e. rw (master_self t l j y e) (p, e))
      (λ e. let o = w.ring_own j _ y (held a j y h p (rw e at i)) in (o.1, o.2))
