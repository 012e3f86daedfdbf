-- A ring closed over what is marked, as lists: each member that stays follows the last before it that stays, and home follows the last.
use Prim.Native.Nat.{ℕ, zero, suc, ◌<◌}
use mathlib.Core.Path.{◌≡◌, refl, sym, ◌∙◌, ap}
use mathlib.Core.Logic.{◌≢◌, inl, inr}
use mathlib.Core.Bool.{Bool, true, false, not}
use mathlib.Core.List.{List, [], ◌∷◌, ◌++◌, reverse, reverse-cons, append_assoc}
use native.Mathlib.Omega.{arith}
use lib.ListN.{length}
use lib.Dec.{eqb}
use borrow.Author.Tests.{ne_eqb, eqb-false}
use Rattle.ledger.specs.Numbers.{elem, keep, once, head_or, follower, update}
use Rattle.ledger.proofs.Lists.Tests.{by_cases, same_or_not, clash, neither, eqb_same, not_true_false, update_same, update_other}
use Rattle.ledger.proofs.Lists.Members.{elem_nil, elem_here, elem_there, elem_tail, elem_cases, elem_put, elem_reverse, elem_turned}
use Rattle.ledger.proofs.Lists.Pairs.{once_head, once_tail, once_cons, once_keep}
use Rattle.ledger.proofs.Lists.Sieves.{keep_elem, elem_keep}
use Rattle.ledger.proofs.Lists.Followers.{follower_here, follower_there, follower_past, follower_front}
use Rattle.delete_model.specs.Marks.{goes_in}
use Rattle.delete_model.specs.Closing.{step_on, close_from}

-- what follows `last`, then each of zs, the last of them followed by home; and what stands before them
unfoldable pub nexts : ℕ → ℕ → List ℕ → (ℕ → ℕ) → ℕ → ℕ
nexts home last [] nx = update nx last home
nexts home last (z ∷ zs) nx = nexts home z zs (update nx last z)

unfoldable pub priors : ℕ → ℕ → List ℕ → (ℕ → ℕ) → ℕ → ℕ
priors home last [] pr = update pr home last
priors home last (z ∷ zs) pr = priors home z zs (update pr z last)

-- no other code is changed
pub nexts_else : (home last : ℕ) (zs : List ℕ) (nx : ℕ → ℕ) (y : ℕ) → elem y (last ∷ zs) ≡ false → nexts home last zs nx y ≡ nx y
unfolding nexts elem
nexts_else home last [] nx y h = update_other nx last home y (eqb-false y last (neither (eqb y last) _ h).0)
nexts_else home last (z ∷ zs) nx y h =
    let (a, b) = neither (eqb y last) _ h in
    nexts_else home z zs (update nx last z) y b ∙ update_other nx last z y (eqb-false y last a)

pub priors_else : (home last : ℕ) (zs : List ℕ) (pr : ℕ → ℕ) (y : ℕ) → elem y (home ∷ zs) ≡ false → priors home last zs pr y ≡ pr y
unfolding priors elem
priors_else home last [] pr y h = update_other pr home last y (eqb-false y home (neither (eqb y home) _ h).0)
priors_else home last (z ∷ zs) pr y h =
    let (n, m) = neither (eqb y home) _ h in
    let (a, b) = neither (eqb y z) _ m in
    priors_else home z zs (update pr z last) y (rw n b) ∙ update_other pr z last y (eqb-false y z a)

-- after a member comes the one after it
pub nexts_in : (home last : ℕ) (zs : List ℕ) (nx : ℕ → ℕ) (y : ℕ) → once (last ∷ zs) ≡ true → elem y (last ∷ zs) ≡ true
    → nexts home last zs nx y ≡ follower y (last ∷ (zs ++ (home ∷ [])))
unfolding nexts head_or
nexts_in home last [] nx y o e = elim (elem_cases y last [] e) [
  | inl q ↦ rw (q, follower_here last (home ∷ [])) (update_same nx last home)
  | inr q ↦ elem_nil y q
]
nexts_in home last (z ∷ zs) nx y o e = same_or_not y last
    (λ q. rw (q, follower_here last (z ∷ (zs ++ (home ∷ []))))
    (nexts_else home z zs (update nx last z) last (once_head last (z ∷ zs) o) ∙ update_same nx last z))
    (λ n. rw (follower_there y last (z ∷ (zs ++ (home ∷ []))) n)
    (nexts_in home z zs (update nx last z) y (once_tail last (z ∷ zs) o) (rw (elem_there y last (z ∷ zs) n) at e)))

-- and before it, that before it
pub priors_in : (home last : ℕ) (zs : List ℕ) (pr : ℕ → ℕ) (y : ℕ) → once (home ∷ zs) ≡ true → elem y (home ∷ zs) ≡ true
    → priors home last zs pr y ≡ follower y (home ∷ (reverse zs ++ (last ∷ [])))
unfolding priors head_or
priors_in home last [] pr y o e = elim (elem_cases y home [] e) [
  | inl q ↦ rw (q, follower_here home (last ∷ [])) (update_same pr home last)
  | inr q ↦ elem_nil y q
]
priors_in home last (z ∷ zs) pr y o e =
    let rest : once (z ∷ zs) ≡ true = once_tail home (z ∷ zs) o in
    let off = once_head home (z ∷ zs) o in
    let apart : home ≢ z = λ q. clash _ (rw q (elem_here z zs)) off in
    rw (reverse-cons z zs, append_assoc (reverse zs)) (same_or_not y z
    (λ q. rw (q, follower_there z home _ (λ r. apart (sym r)), follower_past z (reverse zs) (z ∷ last ∷ []) (elem_reverse z zs ∙ once_head z zs rest), follower_here z (last ∷ []))
    (priors_else home z zs (update pr z last) z (elem_there z home zs (λ r. apart (sym r)) ∙ once_head z zs rest) ∙ update_same pr z last))
    (λ n.
    let i : elem y (home ∷ zs) ≡ true = elim (elem_cases y home (z ∷ zs) e) [
      | inl q ↦ rw q (elem_here home zs)
      | inr q ↦ elem_tail y home zs (rw (elem_there y z zs n) at q)
    ] in
    let o' : once (home ∷ zs) ≡ true = once_cons home zs (rw (elem_there home z zs apart) at off) (once_tail z zs rest) in
    let i' : elem y (home ∷ reverse zs) ≡ true = rw (elem_turned y home zs) i in
    rw (follower_front y z (home ∷ reverse zs) (last ∷ []) i') (priors_in home z zs (update pr z last) y o' i)))

-- round a ring without those that fail a test
module _ (p : ℕ → Bool) (home : ℕ) (ring : List ℕ) where
  pub rest_once : elem home ring ≡ false → once ring ≡ true → once (home ∷ keep p ring) ≡ true
  rest_once off o = once_cons home (keep p ring) (not_true_false _ (λ e. clash _ (keep_elem p home ring e).0 off)) (once_keep p ring o)

  pub rest_member : (y : ℕ) → elem y (home ∷ ring) ≡ true → p y ≡ true → elem y (home ∷ keep p ring) ≡ true
  rest_member y e h = elim (elem_cases y home ring e) [
    | inl q ↦ rw q (elem_here home _)
    | inr q ↦ elem_tail y home _ (elem_keep p y ring q h)
  ]

  pub rest_other : (y : ℕ) → elem y (home ∷ ring) ≡ false → elem y (home ∷ keep p ring) ≡ false
  rest_other y e = not_true_false _ (λ h. elim (elem_cases y home (keep p ring) h) [
    | inl q ↦ clash _ (rw q (elem_here home ring)) e
    | inr q ↦ clash _ (elem_tail y home ring (keep_elem p y ring q).0) e
  ])

-- A ring in a file: `Is g nx pr` says that file g has there the links nx and pr. What is read at a member is its link, and what is joined is linked.
module _ (next : List ℕ → ℕ → ℕ) (join : List ℕ → ℕ → ℕ → List ℕ) (k : List ℕ) (home : ℕ) (ring : List ℕ) (Is : List ℕ → (ℕ → ℕ) → (ℕ → ℕ) → Type 0)
    (reads : (g : List ℕ) (nx pr : ℕ → ℕ) → Is g nx pr → (y : ℕ) → elem y ring ≡ true → next g y ≡ nx y)
    (joins : (g : List ℕ) (nx pr : ℕ → ℕ) → Is g nx pr → (b c : ℕ) → elem b (home ∷ ring) ≡ true → elem c (home ∷ ring) ≡ true
    → Is (join g b c) (update nx b c) (update pr c b)) where
  abbrev left_in : List ℕ → List ℕ
  left_in = keep (λ y. not (goes_in k y))

  -- the rest zs of a ring, where each follows the one before
  pub close_from_lem : (zs g : List ℕ) (nx pr : ℕ → ℕ) (last left : ℕ) → Is g nx pr
      → ((y : ℕ) → elem y zs ≡ true → elem y ring ≡ true) → elem last (home ∷ ring) ≡ true
      → ((ys : List ℕ) (y : ℕ) (ws : List ℕ) → zs ≡ ys ++ y ∷ ws → nx y ≡ head_or home ws)
      → elem home zs ≡ false → once (last ∷ zs) ≡ true → length zs < left
      → Is (close_from next join k home g last (head_or home zs) left) (nexts home last (left_in zs) nx) (priors home last (left_in zs) pr)
  unfolding close_from step_on nexts priors keep head_or elem
  close_from_lem zs g nx pr last zero is sub lm along off o h = absurd (omega arith)
  close_from_lem [] g nx pr last (suc left) is sub lm along off o h = rw (eqb_same home) (joins g nx pr is last home lm (elem_here home ring))
  close_from_lem (z ∷ zs) g nx pr last (suc left) is sub lm along off o h =
      let (apart, off') = neither (eqb home z) (elem home zs) off in
      let n : eqb z home ≡ false = ne_eqb z home (λ q. eqb-false home z apart (sym q)) in
      let zr : elem z ring ≡ true = sub z (elem_here z zs) in
      let rest : once (z ∷ zs) ≡ true = once_tail last (z ∷ zs) o in
      let lzs : elem last zs ≡ false = (neither (eqb last z) (elem last zs) (once_head last (z ∷ zs) o)).1 in
      let follow : nx z ≡ head_or home zs = along [] z zs refl in
      let sub' : (y : ℕ) → elem y zs ≡ true → elem y ring ≡ true = λ y i. sub y (elem_tail y z zs i) in
      let along' : (ys : List ℕ) (y : ℕ) (ws : List ℕ) → zs ≡ ys ++ y ∷ ws → nx y ≡ head_or home ws =
      λ ys y ws e. along (z ∷ ys) y ws (ap (λ (xs : List ℕ). z ∷ xs) e) in
      by_cases (goes_in k z)
      (λ g1. rw (n, g1, reads g nx pr is z zr, follow)
      (close_from_lem zs g nx pr last left is sub' lm along' off' (once_cons last zs lzs (once_tail z zs rest)) (omega arith)))
      (λ g0.
      let is' = joins g nx pr is last z lm (elem_tail z home ring zr) in
      rw (n, g0, reads g nx pr is z zr, follow)
      (close_from_lem zs (join g last z) (update nx last z) (update pr z last) z left is' sub' (elem_tail z home ring zr)
      (λ ys y ws e. update_other nx last z y (λ q. clash (elem last zs) (rw (e, ← q) (elem_put y ys ws)) lzs) ∙ along' ys y ws e)
      off' rest (omega arith)))
