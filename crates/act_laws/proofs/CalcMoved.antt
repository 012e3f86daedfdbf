-- A record moved to the front of a page's CALC ring, as MODIFY does: the CALC links written are those of the ledger after it.
use Prim.Native.Nat.{ℕ, ◌*◌, ◌≤◌, ◌<◌}
use mathlib.Core.Path.{◌≡◌, refl, sym, ◌∙◌}
use mathlib.Core.Logic.{◌≢◌, inl, inr}
use mathlib.Core.Bool.{true, false}
use mathlib.Core.List.{List, ◌∷◌, ◌++◌}
use native.Mathlib.Omega.{arith}
use Rattle.ledger.specs.Numbers.{elem, once, head_or, last_or, update, without}
use Rattle.ledger.specs.Table.{pages, calculated, Accepted}
use Rattle.ledger.specs.Pages.{Ledger, kind_at, present, home_of, calc_next_of, calc_next, head_next, file_with, WellFormed}
use Rattle.ledger.specs.Walks.{Agrees}
use Rattle.ledger.proofs.Lists.Tests.{same_or_not, not_true_false}
use Rattle.ledger.proofs.Lists.Members.{elem_here, elem_there, elem_tail, elem_cases, elem_put, split_at_member}
use Rattle.ledger.proofs.Lists.Pairs.{once_left, once_right, without_none, without_once, without_gone, without_else}
use Rattle.ledger.proofs.Lists.Followers.{follower_in, before_in_lem, last_member}
use Rattle.ledger.proofs.Ledger.Bounds.{home_of_within}
use Rattle.ledger.proofs.Ledger.Calcs.{head_no_member}
use Rattle.model.specs.Writes.{calc_put}
use Rattle.place_laws.proofs.With.{Small, own_held, held_small, with_kind, with_data, with_calc, with_head}
use Rattle.ring_laws.proofs.Shown.{ShowsCalc, shown_calc_key}
use Rattle.ring_laws.proofs.Before.{shown_calc_before}
use Rattle.act_model.specs.Storing.{calc_entered}
use Rattle.act_model.specs.Modifying.{calc_prior_in, calc_left}
use Rattle.act_laws.proofs.CalcLinked.{CalcLinked, by_code, by_line, by_head, no_head, with_linked, record_linked, head_linked, code_linked, linked_as, head_shown, agrees_else, agrees_out, agrees_first}

-- the links of a ledger's CALC rings
abbrev pub calc_links : List ℕ → Ledger → ℕ → ℕ
calc_links t l = by_code (calc_next t l) (head_next t l)

module _ (t : List ℕ) (l : Ledger) (a : Accepted t) (w : WellFormed t l) where
  pub calc_links_agree : (p : ℕ) → Agrees (calc_links t l) (64 * p) (l.calc p)
  unfolding head_next calc_next_of
  calc_links_agree p c e = elim (elem_cases c (64 * p) (l.calc p) e) [
    | inl i ↦ rw (i, by_head (calc_next t l) (head_next t l) p)
    | inr i ↦ (
        let o = w.calc_own p c i in
        rw (by_line (calc_next t l) (head_next t l) c (w.placed c o.0).on_a_line, o.2))
  ]

  -- no code is round the rings of two pages
  pub one_page : (p q c : ℕ) → elem c (64 * p ∷ l.calc p) ≡ true → elem c (64 * q ∷ l.calc q) ≡ true → p ≡ q
  one_page p q c e i = elim (elem_cases c (64 * p) (l.calc p) e) [
    | inl h ↦ elim (elem_cases c (64 * q) (l.calc q) i) [
      | inl k ↦ omega arith
      | inr k ↦ absurd (no_head t l a w c p (w.calc_own q c k).0 h)
    ]
    | inr h ↦ elim (elem_cases c (64 * q) (l.calc q) i) [
      | inl k ↦ absurd (no_head t l a w c q (w.calc_own p c h).0 k)
      | inr k ↦ sym (w.calc_own p c h).2 ∙ (w.calc_own q c k).2
    ]
  ]

-- In l' record x is first in the CALC ring of page q, its home, and else the rings are those of l without it.
module _ (t : List ℕ) (l l' : Ledger) (a : Accepted t) (w : WellFormed t l) (x q : ℕ) (there : present l x ≡ true) (keyed : calculated t (kind_at l x) ≡ true)
    (lo : 1 ≤ q) (hi : q ≤ pages t) (home-new : home_of t l' x ≡ q) (home_else : (y : ℕ) → y ≢ x → home_of t l' y ≡ home_of t l y)
    (enters : l'.calc q ≡ x ∷ without x (l.calc q)) (leaves : (p : ℕ) → p ≢ q → l'.calc p ≡ without x (l.calc p)) where
  -- the page whose ring x leaves, and between whom it stands there
  module _ (p : ℕ) (own : home_of t l x ≡ p) (ys zs : List ℕ) (split : l.calc p ≡ ys ++ x ∷ zs) where
    abbrev b : ℕ
    b = last_or (64 * p) ys

    abbrev v : ℕ
    v = head_or (64 * p) zs

    abbrev left : ℕ → ℕ
    left = update (calc_links t l) b v

    abbrev moved : ℕ → ℕ
    moved = update (update left x (left (64 * q))) (64 * q) x

    apart : once (ys ++ x ∷ zs) ≡ true
    apart = rw split at (w.calc_once p)

    before_in_ring : elem b (64 * p ∷ l.calc p) ≡ true
    before_in_ring = rw split (last_member (64 * p) ys (x ∷ zs))

    -- x has left
    left_agrees : (r : ℕ) → Agrees left (64 * r) (without x (l.calc r))
    left_agrees r = same_or_not r p
        (λ e. rw (e, split, without_once x ys zs apart)
        (agrees_out (calc_links t l) (64 * p) x ys zs apart (rw split at (head_no_member t l w p)) (rw split at (calc_links_agree t l a w p))))
        (λ n.
        let gone : elem x (l.calc r) ≡ false = not_true_false _ λ h. n (sym (w.calc_own r x h).2 ∙ own) in
        let else : elem b (64 * r ∷ l.calc r) ≡ false = not_true_false _ λ h. n (one_page t l a w r p b h before_in_ring) in
        rw (without_none x (l.calc r) gone) (agrees_else (calc_links t l) (64 * r) (l.calc r) b v else (calc_links_agree t l a w r)))

    -- and is in its new place
    out_of : (r : ℕ) → elem x (64 * r ∷ without x (l.calc r)) ≡ false
    out_of r = elem_there x (64 * r) _ (no_head t l a w x r there) ∙ without_gone x (l.calc r)

    head_out : (r : ℕ) → r ≢ q → elem (64 * q) (64 * r ∷ without x (l.calc r)) ≡ false
    head_out r n = not_true_false _ λ h. elim (elem_cases (64 * q) (64 * r) (without x (l.calc r)) h) [
      | inl i ↦ n (omega arith)
      | inr i ↦ same_or_not (64 * q) x
          (λ k. no_head t l a w x q there (sym k))
          (λ k. no_head t l a w (64 * q) q (w.calc_own r (64 * q) (sym (without_else x (l.calc r) (64 * q) k) ∙ i)).0 refl)
    ]

    moved_agrees : (r : ℕ) → Agrees moved (64 * r) (l'.calc r)
    moved_agrees r = same_or_not r q
        (λ e. rw (e, enters) (agrees_first left (64 * q) x (without x (l.calc q)) (no_head t l a w x q there) (left_agrees q)))
        (λ n. rw (leaves r n)
        (agrees_else (update left x (left (64 * q))) (64 * r) (without x (l.calc r)) (64 * q) x (head_out r n)
        (agrees_else left (64 * r) (without x (l.calc r)) x (left (64 * q)) (out_of r) (left_agrees r))))

    -- so they are the links of l'
    listed : (y : ℕ) → present l y ≡ true → calculated t (kind_at l y) ≡ true → elem y (l'.calc (home_of t l' y)) ≡ true
    listed y e c = same_or_not y x
        (λ i. rw (i, home-new, enters) (elem_here x _))
        (λ n.
        let stays : elem y (without x (l.calc (home_of t l y))) ≡ true = without_else x _ y n ∙ w.calc_all y e c in
        rw (home_else y n) (same_or_not (home_of t l y) q
        (λ i. rw (i, enters) (elem_tail y x _ (rw i at stays)))
        (λ k. rw (leaves (home_of t l y) k) stays)))

    moved_calc : (y : ℕ) → present l y ≡ true → calculated t (kind_at l y) ≡ true → moved y ≡ calc_links t l' y
    unfolding calc_next_of
    moved_calc y e c =
        moved_agrees (home_of t l' y) y (elem_tail y _ _ (listed y e c)) ∙ sym (by_line (calc_next t l') (head_next t l') y (w.placed y e).on_a_line)

    moved_head : (r : ℕ) → moved (64 * r) ≡ calc_links t l' (64 * r)
    unfolding head_next calc_next_of
    moved_head r = moved_agrees r (64 * r) (elem_here (64 * r) _) ∙ sym (by_head (calc_next t l') (head_next t l') r)

    -- what is read and written in a file with the CALC links of l
    module _ (nx pr : ℕ → ℕ → ℕ) (z : Small t l nx pr (calc_next t l) (head_next t l)) where
      abbrev f : List ℕ
      f = file_with t l nx pr (calc_next t l) (head_next t l)

      within : (1 ≤ p) × (p ≤ pages t)
      within = rw own at (home_of_within t l a w x there)

      shows : ShowsCalc t f l
      shows = record {
        kinds = with_kind t l nx pr (calc_next t l) (head_next t l) a (own_held t l w) z;
        datas = with_data t l nx pr (calc_next t l) (head_next t l) a (own_held t l w) z;
        calc_nexts = with_calc t l nx pr (calc_next t l) (head_next t l) a (own_held t l w) z;
        heads = with_head t l nx pr (calc_next t l) (head_next t l) a (own_held t l w) z;
      }

      read_before : calc_prior_in t f (kind_at l x) x ≡ b
      unfolding calc_prior_in home_of
      read_before =
          rw (shown_calc_key t f l shows x, own)
          (shown_calc_before t f l a w shows p x within.0 within.1 (rw split (elem_put x ys zs))
          ∙ rw split (before_in_lem (64 * p) x ys zs (no_head t l a w x p there) (once_right x ys zs apart)))

      read_after : calc_next t l x ≡ v
      unfolding calc_next_of
      read_after = rw (own, split) (follower_in (64 * p) x ys zs (no_head t l a w x p there) (once_left x ys zs apart))

      written : CalcLinked t l nx pr (calc_entered t (calc_left t f (kind_at l x) x) q x) moved
      unfolding calc_entered calc_left
      written =
          let small : v < 16777216 = rw read_after at (z.calcs x there) in
          let u = code_linked t l a w nx pr f (calc_links t l) (with_linked t l a w nx pr (calc_next t l) (head_next t l) z) v small p within.0 within.1 b before_in_ring in
          let head : u.hd q ≡ left (64 * q) = u.heads q lo hi in
          let u' = record_linked t l a w nx pr (calc_put t f b v) left u (left (64 * q)) (rw head at (u.small.heads q lo hi)) x there keyed in
          rw (read_before, shows.calc_nexts x there keyed, read_after, head_shown t l a w nx pr (calc_put t f b v) left u q lo hi)
          (head_linked t l a w nx pr _ _ u' x (held_small t l a (own_held t l w) x there) q lo hi)

      calc_moved_at : CalcLinked t l nx pr (calc_entered t (calc_left t f (kind_at l x) x) q x) (calc_links t l')
      calc_moved_at = linked_as t l a w nx pr _ moved (calc_links t l') moved_calc moved_head written

  pub calc_moved : (nx pr : ℕ → ℕ → ℕ) → Small t l nx pr (calc_next t l) (head_next t l)
      → CalcLinked t l nx pr (calc_entered t (calc_left t (file_with t l nx pr (calc_next t l) (head_next t l)) (kind_at l x) x) q x) (calc_links t l')
  calc_moved nx pr z =
      let (ys, zs, split, left) = split_at_member x (l.calc (home_of t l x)) (w.calc_all x there keyed) in
      calc_moved_at (home_of t l x) refl ys zs split nx pr z
