-- Following NEXT from a master home: what such a walk has met, and that rings are the walks of their masters.
use Prim.Native.Nat.{ℕ, zero, suc, ◌≤◌, ◌<◌}
use mathlib.Core.Path.{◌≡◌, refl, sym, ◌∙◌, ap}
use mathlib.Core.Logic.{◌≢◌, inl, inr}
use mathlib.Core.Bool.{Bool, true, false, not}
use mathlib.Core.List.{List, [], ◌∷◌, ◌++◌}
use mathlib.Core.Option.{some, none-ne-some, some-injective, map-eq-some_iff}
use native.Mathlib.Omega.{arith}
use lib.Dec.{eqb}
use lib.ListN.{length}
use borrow.Author.Tests.{eqb-true, eqb-false, eq-eqb, ne_eqb}
use Rattle.ledger.specs.Numbers.{elem, once, head_or, follower}
use Rattle.ledger.specs.Pages.{round}
use Rattle.ledger.specs.Walks.{Agrees, Rings, walk, walked}
use Rattle.ledger.proofs.Lists.Tests.{by_cases, clash, not_true_false, eqb_same}
use Rattle.ledger.proofs.Lists.Members.{others, elem_nil, elem_here, elem_tail, elem_cases}
use Rattle.ledger.proofs.Lists.Pairs.{once_nil, once_cons, once_head, once_tail, pigeons}

-- from x along details xs to m
abbrev pub Home : (ℕ → ℕ) → (ℕ → Bool) → ℕ → ℕ → List ℕ → Type 0
Home nx det m x [] = x ≡ m
Home nx det m x (y ∷ ys) = (x ≡ y) × (det y ≡ true) × Home nx det m (nx y) ys

module _ (nx : ℕ → ℕ) (det : ℕ → Bool) where
  pub walk_home_lem : (fuel m x : ℕ) (xs : List ℕ) → walk fuel nx det m x ≡ some xs → Home nx det m x xs
  unfolding walk
  walk_home_lem zero m x xs h = absurd (none-ne-some _ h)
  walk_home_lem (suc fuel) m x xs h =
      by_cases (eqb x m)
      (λ e. rw (← some-injective _ _ (rw e at h)) (eqb-true x m e))
      (λ e. by_cases (det x)
      (λ d.
      let r = (map-eq-some_iff (λ (ys : List ℕ). x ∷ ys) (walk fuel nx det m (nx x))).0 (rw (e, d) at h) in
      rw (← r.2) (refl, d, walk_home_lem fuel m (nx x) r.0 r.1))
      (λ d. absurd (none-ne-some _ (rw (e, d) at h))))

  pub home_walk : (fuel m x : ℕ) (xs : List ℕ) → det m ≡ false → Home nx det m x xs → length xs < fuel → walk fuel nx det m x ≡ some xs
  unfolding walk
  home_walk zero m x xs off h lt = absurd (omega arith)
  home_walk (suc fuel) m x [] off h lt = rw (eq-eqb x m h)
  home_walk (suc fuel) m x (y ∷ ys) off h lt =
      let ne : x ≢ m = λ e. clash (det y) h.1 (rw (← h.0, e) off) in
      rw (ne_eqb x m ne, h.0, h.1, home_walk fuel m (nx y) ys off h.2 (omega arith))

  -- what a walk that comes home has met
  pub home_detail : (m x : ℕ) (xs : List ℕ) → Home nx det m x xs → (y : ℕ) → elem y xs ≡ true → det y ≡ true
  home_detail m x [] h y e = elem_nil y e
  home_detail m x (z ∷ zs) h y e =
      elim (elem_cases y z zs e) [ inl q ↦ rw q h.1 | inr q ↦ home_detail m (nx z) zs h.2 y q ]

  -- from a member on
  pub home_from : (m x : ℕ) (xs : List ℕ) → Home nx det m x xs → (y : ℕ) → elem y xs ≡ true
      → (ys : List ℕ) × Home nx det m y ys × (length ys ≤ length xs)
  home_from m x [] h y e = elem_nil y e
  home_from m x (z ∷ zs) h y e =
      elim (elem_cases y z zs e) [
        | inl q ↦ (z ∷ zs, (q, h.1, h.2), omega arith)
        | inr q ↦ (let r = home_from m (nx z) zs h.2 y q in (r.0, r.1, omega (arith, r.2)))
      ]

  -- two ways home from one code are one
  pub home_one : (m n x : ℕ) (xs ys : List ℕ) → det m ≡ false → det n ≡ false → Home nx det m x xs → Home nx det n x ys → (m ≡ n) × (xs ≡ ys)
  home_one m n x [] [] p q h k = (sym h ∙ k, refl)
  home_one m n x [] (y ∷ ys) p q h k = clash (det y) k.1 (rw (← k.0, h) p)
  home_one m n x (y ∷ ys) [] p q h k = clash (det y) h.1 (rw (← h.0, k) q)
  home_one m n x (y ∷ ys) (z ∷ zs) p q h k =
      let e : y ≡ z = sym h.0 ∙ k.0 in
      let r = home_one m n (nx y) ys zs p q h.2 (rw e k.2) in
      (r.0, cc (e, r.1))

  pub home_once : (m x : ℕ) (xs : List ℕ) → det m ≡ false → Home nx det m x xs → once xs ≡ true
  home_once m x [] p h = once_nil
  home_once m x (y ∷ ys) p h =
      once_cons y ys
      (not_true_false (elem y ys) (λ t.
      let r = home_from m (nx y) ys h.2 y t in
      let s = home_one m m y (y ∷ ys) r.0 p p (refl, h.1, h.2) r.1 in
      omega (arith, r.2, ap length s.1)))
      (home_once m (nx y) ys p h.2)

  home_head : (m x : ℕ) (xs : List ℕ) → Home nx det m x xs → head_or 0 (xs ++ (m ∷ [])) ≡ x
  unfolding head_or
  home_head m x [] h = sym h
  home_head m x (y ∷ ys) h = sym h.0

  home_follower : (m x : ℕ) (xs : List ℕ) → Home nx det m x xs → (y : ℕ) → elem y xs ≡ true → follower y (xs ++ (m ∷ [])) ≡ nx y
  unfolding follower
  home_follower m x [] h y e = elem_nil y e
  home_follower m x (z ∷ zs) h y e =
      by_cases (eqb y z)
      (λ t. rw (t, home_head m (nx z) zs h.2, eqb-true y z t))
      (λ f. rw f (home_follower m (nx z) zs h.2 y (elim (elem_cases y z zs e) [ inl q ↦ absurd (eqb-false y z f q) | inr q ↦ q ])))

  pub home_agrees : (m : ℕ) (xs : List ℕ) → det m ≡ false → Home nx det m (nx m) xs → Agrees nx m xs
  unfolding follower round
  home_agrees m xs p h x e =
      by_cases (eqb x m)
      (λ t. rw (t, home_head m (nx m) xs h, eqb-true x m t))
      (λ f. rw (f, home_follower m (nx m) xs h x (elim (elem_cases x m xs e) [ inl q ↦ absurd (eqb-false x m f q) | inr q ↦ q ])))

  -- the converse: a list of details with no number twice, with which NEXT agrees, is walked
  follows_home : (m : ℕ) (xs : List ℕ) → once xs ≡ true → ((y : ℕ) → elem y xs ≡ true → det y ≡ true)
      → ((y : ℕ) → elem y xs ≡ true → nx y ≡ follower y (xs ++ (m ∷ []))) → Home nx det m (head_or 0 (xs ++ (m ∷ []))) xs
  unfolding head_or follower
  follows_home m [] d own f = refl
  follows_home m (z ∷ zs) d own f =
      let at : nx z ≡ head_or 0 (zs ++ (m ∷ [])) = rw (eq-eqb z z refl) at (f z (elem_here z zs)) in
      let past : (y : ℕ) → elem y zs ≡ true → eqb y z ≡ false = λ y e. ne_eqb y z (λ q. clash (elem y zs) e (rw q (once_head z zs d))) in
      (refl, own z (elem_here z zs), rw at (follows_home m zs (once_tail z zs d) (λ y e. own y (elem_tail y z zs e)) (λ y e. rw (past y e) at (f y (elem_tail y z zs e)))))

  pub agrees_home : (m : ℕ) (xs : List ℕ) → det m ≡ false → once xs ≡ true → ((y : ℕ) → elem y xs ≡ true → det y ≡ true) → Agrees nx m xs
      → Home nx det m (nx m) xs
  unfolding follower round
  agrees_home m xs p d own a =
      let at : nx m ≡ head_or 0 (xs ++ (m ∷ [])) = rw (eq-eqb m m refl) at (a m (elem_here m xs)) in
      let past : (y : ℕ) → elem y xs ≡ true → eqb y m ≡ false = λ y e. ne_eqb y m (λ q. clash (det y) (own y e) (rw q p)) in
      rw at (follows_home m xs d own (λ y e. rw (past y e) at (a y (elem_tail y m xs e))))

  -- the walks of two masters share no member
  pub homes_apart : (m n x : ℕ) (xs ys : List ℕ) → det m ≡ false → det n ≡ false → Home nx det m (nx m) xs → Home nx det n (nx n) ys
      → elem x xs ≡ true → elem x ys ≡ true → m ≡ n
  homes_apart m n x xs ys p q h k e f =
      let r = home_from m (nx m) xs h x e in
      let s = home_from n (nx n) ys k x f in
      (home_one m n x r.0 s.0 p q r.1 s.1).0

-- NEXT tells its list
pub agrees_one : (nx : ℕ → ℕ) (m : ℕ) (xs ys : List ℕ) → once xs ≡ true → once ys ≡ true → elem m xs ≡ false → elem m ys ≡ false
    → Agrees nx m xs → Agrees nx m ys → xs ≡ ys
agrees_one nx m xs ys o q f g a b =
    let det : ℕ → Bool = λ y. not (eqb y m) in
    let off : det m ≡ false = rw (eqb_same m) in
    (home_one nx det m m (nx m) xs ys off off (agrees_home nx det m xs off o (others m xs f) a) (agrees_home nx det m ys off q (others m ys g) b)).1

module _ (nx : ℕ → ℕ) (det mas : ℕ → Bool) (apart : (x : ℕ) → mas x ≡ true → det x ≡ false) where
  pub walked_is : (fuel m : ℕ) (xs : List ℕ) → mas m ≡ true → walk fuel nx det m (nx m) ≡ some xs → walked fuel nx det mas m ≡ xs
  unfolding walked
  walked_is fuel m xs t w = rw (t, w)

  pub walked_master : (fuel m x : ℕ) → elem x (walked fuel nx det mas m) ≡ true → mas m ≡ true
  unfolding walked
  walked_master fuel m x e = by_cases (mas m) (λ t. t) (λ f. elem_nil x (rw f at e))

  pub walked_out : (fuel m : ℕ) → mas m ≡ false → walked fuel nx det mas m ≡ []
  unfolding walked
  walked_out fuel m f = rw f

  module _ (fuel : ℕ) (comes : (m : ℕ) → mas m ≡ true → (xs : List ℕ) × (walk fuel nx det m (nx m) ≡ some xs)) where
    walked_home : (m : ℕ) → mas m ≡ true → Home nx det m (nx m) (walked fuel nx det mas m)
    walked_home m t = let r = comes m t in rw (walked_is fuel m r.0 t r.1) (walk_home_lem nx det fuel m (nx m) r.0 r.1)

    pub walked_agrees : (m : ℕ) → mas m ≡ true → Agrees nx m (walked fuel nx det mas m)
    walked_agrees m t = home_agrees nx det m _ (apart m t) (walked_home m t)

    pub walked_rings : ((x : ℕ) → det x ≡ true → (m : ℕ) × (elem x (walked fuel nx det mas m) ≡ true)) → Rings det mas (walked fuel nx det mas)
    walked_rings seen =
        let ring = walked fuel nx det mas in
        record {
          ones = λ m. by_cases (mas m) (λ t. home_once nx det m (nx m) (ring m) (apart m t) (walked_home m t)) (λ f. rw (walked_out fuel m f) once_nil);
          own = λ m x e. let t = walked_master fuel m x e in (t, home_detail nx det m (nx m) (ring m) (walked_home m t) x e);
          every = seen;
          one = λ m n x e f.
              let t = walked_master fuel m x e in
              let u = walked_master fuel n x f in
              homes_apart nx det m n x (ring m) (ring n) (apart m t) (apart n u) (walked_home m t) (walked_home n u) e f;
        }

  -- completeness: rings with which NEXT agrees are what the walks give
  module _ (ring : ℕ → List ℕ) (formed : Rings det mas ring) (agrees : (m : ℕ) → mas m ≡ true → Agrees nx m (ring m)) where
    pub ring_home : (m : ℕ) → mas m ≡ true → Home nx det m (nx m) (ring m)
    ring_home m t =
        agrees_home nx det m (ring m) (apart m t) (formed.ones m) (λ y e. (formed.own m y e).1) (agrees m t)

    pub ring_short : (cs : List ℕ) → ((x : ℕ) → det x ≡ true → elem x cs ≡ true) → (m : ℕ) → length (ring m) ≤ length cs
    ring_short cs inside m = pigeons (ring m) cs (formed.ones m) (λ y e. inside y (formed.own m y e).1)

    pub ring_walk : (cs : List ℕ) → ((x : ℕ) → det x ≡ true → elem x cs ≡ true) → (fuel : ℕ) → length cs < fuel
        → (m : ℕ) → mas m ≡ true → walk fuel nx det m (nx m) ≡ some (ring m)
    ring_walk cs inside fuel lt m t =
        home_walk nx det fuel m (nx m) (ring m) (apart m t) (ring_home m t) (omega (arith, ring_short cs inside m))
