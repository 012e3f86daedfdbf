-- PRIOR is what a ring's list says exactly where it undoes NEXT.
use Prim.Native.Nat.{ℕ, ◌<◌}
use mathlib.Core.Path.{◌≡◌, refl, sym, ◌∙◌, ap}
use mathlib.Core.Logic.{◌↔◌, inl, inr}
use mathlib.Core.Bool.{true, false, or-true}
use mathlib.Core.List.{List, [], ◌∷◌, ◌++◌, append_assoc, append-nil, reverse}
use Rattle.ledger.specs.Numbers.{elem, once, head_or, last_or, follower}
use Rattle.ledger.specs.Table.{chains, is_master, in_chain, Accepted}
use Rattle.ledger.specs.Pages.{round}
use Rattle.ledger.specs.Walks.{Agrees}
use Rattle.ledger.specs.Image.{kind_read, detail_read, master_read, next_read, prior_read, ring_read, Paged}
use Rattle.ledger.specs.Audit.{Ringed, Priors}
use Rattle.ledger.proofs.Lists.Tests.{clash, not_true_false}
use Rattle.ledger.proofs.Lists.Members.{elem_cases, split_at_member, elem_turned}
use Rattle.ledger.proofs.Lists.Followers.{last_or_append, follower_seam, before_seam, head_member, last_member}
use Rattle.ledger.proofs.Image.ChainRings.{apart, in_a_ring}

-- One ring: its master and its list.
module _ (m : ℕ) (xs : List ℕ) (ones : once xs ≡ true) (off : elem m xs ≡ false) where
  -- each member is the last of a first part, and the head of a second
  as_last : (x : ℕ) → elem x (m ∷ xs) ≡ true → (ys : List ℕ) × (zs : List ℕ) × (xs ≡ ys ++ zs) × (x ≡ last_or m ys)
  unfolding last_or
  as_last x e = elim (elem_cases x m xs e) [
    | inl i ↦ ([], xs, refl, i)
    | inr i ↦ (
        let q = split_at_member x xs i in
        (q.0 ++ (x ∷ []), q.1, q.2 ∙ sym (append_assoc q.0 (x ∷ []) q.1), sym (last_or_append m x q.0)))
  ]

  as_head : (x : ℕ) → elem x (m ∷ xs) ≡ true → (ys : List ℕ) × (zs : List ℕ) × (xs ≡ ys ++ zs) × (x ≡ head_or m zs)
  unfolding head_or
  as_head x e = elim (elem_cases x m xs e) [
    | inl i ↦ (xs, [], sym (append-nil xs), i)
    | inr i ↦ (let q = split_at_member x xs i in (q.0, x ∷ q.1, q.2, refl))
  ]

  pub undone_exactly : (nx pr : ℕ → ℕ) → Agrees nx m xs
      → Agrees pr m (reverse xs) ↔ ((x : ℕ) → elem x (m ∷ xs) ≡ true → pr (nx x) ≡ x)
  undone_exactly nx pr a = (
    λ b x e.
        let (ys, zs, whole, i) = as_last x e in
        let next : nx x ≡ head_or m zs = a x e ∙ ap (λ (z : ℕ). follower z (round m xs)) i ∙ follower_seam m xs ones off ys zs whole in
        ap pr next ∙ b (head_or m zs) (elem_turned (head_or m zs) m xs ∙ ap (λ (v : List ℕ). elem (head_or m zs) (m ∷ v)) whole ∙ head_member m ys zs) ∙ before_seam m xs ones off ys zs whole ∙ sym i,
    λ b x e.
        let (ys, zs, whole, i) = as_head x (sym (elem_turned x m xs) ∙ e) in
        let y = last_or m ys in
        let there : elem y (m ∷ xs) ≡ true = ap (λ (v : List ℕ). elem y (m ∷ v)) whole ∙ last_member m ys zs in
        let next : nx y ≡ x = a y there ∙ follower_seam m xs ones off ys zs whole ∙ sym i in
        ap pr (sym next) ∙ b y there ∙ sym (before_seam m xs ones off ys zs whole) ∙ ap (λ (z : ℕ). follower z (round m (reverse xs))) (sym i),
  )

-- A chain of an image whose rings NEXT tells.
module _ (t : List ℕ) (r : ℕ → List ℕ) (a : Accepted t) (g : Paged t r) (j : ℕ) (within : j < chains t) (s : Ringed t r j) where
  not_own : (m : ℕ) → elem m (ring_read t r j m) ≡ false
  not_own m = not_true_false _ (λ e. let o = s.rings.own m m e in clash _ o.1 (apart t r a g j within m o.0))

  chain_member : (m : ℕ) → master_read t r j m ≡ true → (x : ℕ) → elem x (m ∷ ring_read t r j m) ≡ true → in_chain t j (kind_read (r x)) ≡ true
  unfolding in_chain master_read detail_read
  chain_member m top x e = elim (elem_cases x m (ring_read t r j m) e) [
    | inl i ↦ rw (i, top)
    | inr i ↦ rw (s.rings.own m x i).1 (or-true (is_master t j (kind_read (r x))))
  ]

  pub priors_exactly : Priors t r j ↔ ((x : ℕ) → in_chain t j (kind_read (r x)) ≡ true → prior_read t r j (next_read t r j x) ≡ x)
  priors_exactly = (
    λ b x c.
        let (m, top, e) = in_a_ring t r a g j within (λ p. 0) s x c in
        (undone_exactly m (ring_read t r j m) (s.rings.ones m) (not_own m) (next_read t r j) (prior_read t r j) (s.nexts m top)).0 (b m top) x e,
    λ b m top.
        (undone_exactly m (ring_read t r j m) (s.rings.ones m) (not_own m) (next_read t r j) (prior_read t r j) (s.nexts m top)).1
        (λ x e. b x (chain_member m top x e)),
  )
