-- The audit of one chain passes exactly where there are rings that NEXT tells, and these are its walks.
use Prim.Native.Nat.{ℕ, suc, ◌+◌, ◌*◌, ◌≤◌, ◌<◌}
use mathlib.Core.Path.{◌≡◌, refl, sym, ◌∙◌}
use mathlib.Core.Logic.{◌↔◌, ◌⊎◌, inl, inr}
use mathlib.Core.Bool.{Bool, true, false, not, ◌&&◌, ◌||◌, false≢true, or-true}
use mathlib.Core.List.{List, [], ◌∷◌}
use mathlib.Core.Option.{some}
use native.Mathlib.Omega.{arith}
use lib.ListN.{length}
use borrow.Author.Tests.{not-true, not-false}
use Rattle.ledger.specs.Numbers.{elem, keep, once, run}
use Rattle.ledger.specs.Walks.{Agrees, Rings, walk, walked, Marking, spent, failed, marked, mark_walk, unmarked, onward, sweep, passes, audit}
use Rattle.ledger.proofs.Lists.Tests.{by_cases, clash, not_true_false}
use Rattle.ledger.proofs.Lists.Members.{elem_nil, elem_here, elem_tail, elem_cases, no_members, any_none, none_any, elem_run}
use Rattle.ledger.proofs.Lists.Sieves.{elem_keep, keep_elem}
use Rattle.ledger.proofs.Lists.Pairs.{once_head, once_tail, once_keep, once_run, pigeons}
use Rattle.ledger.proofs.Lists.Runs.{length_run}
use Rattle.ledger.proofs.Audit.Walks.{Home, home_walk, home_detail, home_once, home_one, homes_apart, walked_is, walked_out, walked_rings, walked_agrees, ring_home, ring_walk}
use Rattle.ledger.proofs.Audit.Marks.{marked_spent, marked_failed, marked_inj, unmarked_most, marked_home, home_marked}

-- a member of the walk of one of these masters
abbrev pub Met : (ℕ → ℕ) → (ℕ → Bool) → List ℕ → ℕ → Type 0
Met nx det ms x = (m : ℕ) × (xs : List ℕ) × (elem m ms ≡ true) × Home nx det m (nx m) xs × (elem x xs ≡ true)

pub record Swept (nx : ℕ → ℕ) (det : ℕ → Bool) (ms : List ℕ) (g h : ℕ → Bool) : Type 0 where
  pub comes : (m : ℕ) → elem m ms ≡ true → (xs : List ℕ) × Home nx det m (nx m) xs
  pub only : (x : ℕ) → h x ≡ true → (g x ≡ true) ⊎ Met nx det ms x
  pub kept : (x : ℕ) → g x ≡ true → h x ≡ true
  pub every : (x : ℕ) → Met nx det ms x → h x ≡ true

module _ (nx : ℕ → ℕ) (det : ℕ → Bool) where
  swept_more : (m : ℕ) (ms xs : List ℕ) (g k h : ℕ → Bool) → det m ≡ false → Home nx det m (nx m) xs → ((y : ℕ) → k y ≡ (g y || elem y xs))
      → Swept nx det ms k h → Swept nx det (m ∷ ms) g h
  swept_more m ms xs g k h off way marks s =
      record {
        comes = λ n e. elim (elem_cases n m ms e) [ inl q ↦ (xs, rw q way) | inr q ↦ s.comes n q ];
        only = λ x e. elim (s.only x e) [
          | inl q ↦ by_cases (g x) (λ t. inl t) (λ f. inr (m, xs, elem_here m ms, way, rw f at (sym (marks x) ∙ q)))
          | inr q ↦ inr (q.0, q.1, elem_tail q.0 m ms q.2, q.3, q.4)
        ];
        kept = λ x e. s.kept x (rw (marks x, e));
        every = λ x e. elim (elem_cases e.0 m ms e.2) [
          | inl q ↦ s.kept x (marks x ∙ rw ((home_one nx det m m (nx m) xs e.1 off off way (rw q at e.3)).1, e.4) (or-true (g x)))
          | inr q ↦ s.every x (e.0, e.1, q, e.3, e.4)
        ];
      }

  pub sweep_swept : (fuel : ℕ) (ms : List ℕ) (g h : ℕ → Bool) → ((m : ℕ) → elem m ms ≡ true → det m ≡ false)
      → sweep fuel nx det ms g ≡ marked h → Swept nx det ms g h
  unfolding sweep onward
  sweep_swept fuel [] g h off e =
      rw (← marked_inj e) (record { comes = λ m q. elem_nil m q; only = λ x q. inl q; kept = λ x q. q; every = λ x q. elem_nil q.0 q.2 })
  sweep_swept fuel (m ∷ ms) g h off e = go (mark_walk fuel nx det m (nx m) g) refl (λ k q. sweep_swept fuel ms k h (λ n r. off n (elem_tail n m ms r)) q)
    where
      go : (r : Marking) → mark_walk fuel nx det m (nx m) g ≡ r → ((k : ℕ → Bool) → sweep fuel nx det ms k ≡ marked h → Swept nx det ms k h) → Swept nx det (m ∷ ms) g h
      go spent q ih = absurd (marked_spent (sym (rw q at e)))
      go failed q ih = absurd (marked_failed (sym (rw q at e)))
      go (marked k) q ih =
          let r = marked_home nx det fuel m (nx m) g k q in
          swept_more m ms r.0 g k h (off m (elem_here m ms)) r.1 r.2 (ih k (rw q at e))

  pub home_sweep : (cs : List ℕ) → ((x : ℕ) → det x ≡ true → elem x cs ≡ true) → (fuel : ℕ) → length cs < fuel → (ms : List ℕ) (g : ℕ → Bool)
      → ((m : ℕ) → elem m ms ≡ true → det m ≡ false) → once ms ≡ true → ((m : ℕ) → elem m ms ≡ true → (xs : List ℕ) × Home nx det m (nx m) xs)
      → ((x : ℕ) → Met nx det ms x → g x ≡ false) → (h : ℕ → Bool) × (sweep fuel nx det ms g ≡ marked h)
  unfolding sweep onward
  home_sweep cs inside fuel lt [] g off d comes clear = (g, refl)
  home_sweep cs inside fuel lt (m ∷ ms) g off d comes clear =
      let here = elem_here m ms in
      let c = comes m here in
      let few : unmarked cs g < fuel = omega (arith, unmarked_most cs g) in
      let r = home_marked nx det cs inside fuel m (nx m) g c.0 few (off m here) c.1 (λ y e. clear y (m, c.0, here, c.1, e)) in
      let later : (x : ℕ) → Met nx det ms x → r.0 x ≡ false = λ x q.
      let unmet : elem x c.0 ≡ false =
      not_true_false (elem x c.0) (λ t.
      let same = homes_apart nx det q.0 m x q.1 c.0 (off q.0 (elem_tail q.0 m ms q.2)) (off m here) q.3 c.1 q.4 t in
      clash (elem m ms) (rw (← same) q.2) (once_head m ms d)) in
      r.2 x ∙ rw (clear x (q.0, q.1, elem_tail q.0 m ms q.2, q.3, q.4), unmet) in
      rw r.1 (home_sweep cs inside fuel lt ms r.0 (λ n e. off n (elem_tail n m ms e)) (once_tail m ms d) (λ n e. comes n (elem_tail n m ms e)) later)

pub passes_home : (r : Marking) (p : (ℕ → Bool) → Bool) → passes r p ≡ true → (h : ℕ → Bool) × (r ≡ marked h) × (p h ≡ true)
unfolding passes
passes_home spent p e = absurd (false≢true e)
passes_home failed p e = absurd (false≢true e)
passes_home (marked h) p e = (h, refl, e)

module _ (nx : ℕ → ℕ) (det mas : ℕ → Bool) (cs : List ℕ)
    (apart : (x : ℕ) → mas x ≡ true → det x ≡ false)
    (inside : (x : ℕ) → det x ≡ true → elem x cs ≡ true)
    (masters : (x : ℕ) → mas x ≡ true → elem x cs ≡ true)
    (fuel : ℕ) (enough : length cs < fuel) where
  master_off : (m : ℕ) → elem m (keep mas cs) ≡ true → det m ≡ false
  master_off m e = apart m (keep_elem mas m cs e).1

  pub home_short : (m : ℕ) (xs : List ℕ) → det m ≡ false → Home nx det m (nx m) xs → walk fuel nx det m (nx m) ≡ some xs
  home_short m xs off way =
      let short = pigeons xs cs (home_once nx det m (nx m) xs off way) (λ y e. inside y (home_detail nx det m (nx m) xs way y e)) in
      home_walk nx det fuel m (nx m) xs off way (omega (arith, short))

  pub audit_sound : audit fuel nx det mas cs ≡ true
      → Rings det mas (walked fuel nx det mas) × ((m : ℕ) → mas m ≡ true → Agrees nx m (walked fuel nx det mas m))
  unfolding audit
  audit_sound e =
      let r = passes_home _ _ e in
      let s = sweep_swept nx det fuel (keep mas cs) (λ x. false) r.0 master_off r.1 in
      let comes : (m : ℕ) → mas m ≡ true → (xs : List ℕ) × (walk fuel nx det m (nx m) ≡ some xs) =
      λ m t. let c = s.comes m (elem_keep mas m cs (masters m t) t) in (c.0, home_short m c.0 (apart m t) c.1) in
      let marked : (x : ℕ) → det x ≡ true → r.0 x ≡ true =
      λ x t. not-false (r.0 x) (rw t at (none_any _ cs (not-true _ r.2) x (inside x t))) in
      let seen : (x : ℕ) → det x ≡ true → (m : ℕ) × (elem x (walked fuel nx det mas m) ≡ true) = λ x t.
      elim (s.only x (marked x t)) [
        | inl q ↦ absurd (false≢true q)
        | inr q ↦ (
            let k = (keep_elem mas q.0 cs q.2).1 in
            (q.0, rw (walked_is nx det mas apart fuel q.0 q.1 k (home_short q.0 q.1 (apart q.0 k) q.3)) q.4))
      ] in
      (walked_rings nx det mas apart fuel comes seen, walked_agrees nx det mas apart fuel comes)

  pub audit_complete : (ring : ℕ → List ℕ) → Rings det mas ring → ((m : ℕ) → mas m ≡ true → Agrees nx m (ring m)) → once cs ≡ true
      → audit fuel nx det mas cs ≡ true
  unfolding audit passes
  audit_complete ring formed agrees d =
      let way : (m : ℕ) → mas m ≡ true → Home nx det m (nx m) (ring m) = ring_home nx det mas apart ring formed agrees in
      let r = home_sweep nx det cs inside fuel enough (keep mas cs) (λ x. false) master_off (once_keep mas cs d)
      (λ m e. (ring m, way m (keep_elem mas m cs e).1)) (λ x q. refl) in
      let s = sweep_swept nx det fuel (keep mas cs) (λ x. false) r.0 master_off r.1 in
      let all : (x : ℕ) → elem x cs ≡ true → (det x && not (r.0 x)) ≡ false = λ x e.
      by_cases (det x)
      (λ t.
      let q = formed.every x t in
      let k = (formed.own q.0 x q.1).0 in
      rw (t, s.every x (q.0, ring q.0, elem_keep mas q.0 cs (masters q.0 k) k, way q.0 k, q.1)))
      (λ f. rw f) in
      rw (r.1, any_none (λ x. det x && not (r.0 x)) cs all)

  -- there are no other rings than the walks'
  pub rings_walked : (ring : ℕ → List ℕ) → Rings det mas ring → ((m : ℕ) → mas m ≡ true → Agrees nx m (ring m)) → (m : ℕ)
      → walked fuel nx det mas m ≡ ring m
  rings_walked ring formed agrees m =
      by_cases (mas m)
      (λ t. walked_is nx det mas apart fuel m (ring m) t (ring_walk nx det mas apart ring formed agrees cs inside fuel enough m t))
      (λ f. walked_out nx det mas apart fuel m f ∙ sym (no_members (ring m) (λ x e. clash (mas m) (formed.own m x e).0 f)))

-- the audit over the codes 64 .. 64 * n + 63 passes exactly where there are rings that NEXT tells
module _ (nx : ℕ → ℕ) (det mas : ℕ → Bool) (n : ℕ)
    (apart : (x : ℕ) → mas x ≡ true → det x ≡ false)
    (detail-within : (x : ℕ) → det x ≡ true → (64 ≤ x) × (x < 64 * n + 64))
    (master_within : (x : ℕ) → mas x ≡ true → (64 ≤ x) × (x < 64 * n + 64)) where
  pub audit_exact : (audit (suc (64 * n)) nx det mas (run 64 (64 * n)) ≡ true)
      ↔ ((ring : ℕ → List ℕ) × Rings det mas ring × ((m : ℕ) → mas m ≡ true → Agrees nx m (ring m)))
  audit_exact =
      let cs = run 64 (64 * n) in
      let coded : (x : ℕ) → (64 ≤ x) × (x < 64 * n + 64) → elem x cs ≡ true = λ x h. elem_run x 64 (64 * n) h.0 (omega arith) in
      let inside : (x : ℕ) → det x ≡ true → elem x cs ≡ true = λ x t. coded x (detail-within x t) in
      let masters : (x : ℕ) → mas x ≡ true → elem x cs ≡ true = λ x t. coded x (master_within x t) in
      let enough : length cs < suc (64 * n) = omega (arith, length_run 64 (64 * n)) in (
        λ e. let r = audit_sound nx det mas cs apart inside masters (suc (64 * n)) enough e in (walked (suc (64 * n)) nx det mas, r.0, r.1),
        λ r. audit_complete nx det mas cs apart inside masters (suc (64 * n)) enough r.0 r.1 r.2 (once_run 64 (64 * n)),
      )
