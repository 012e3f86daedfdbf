-- RELINK on a sound file: it refuses where the ledger does, and what it writes is the layout of the ledger after it.
use Prim.Native.Nat.{ℕ, ◌<◌}
use mathlib.Core.Path.{◌≡◌, refl, sym, ◌∙◌}
use mathlib.Core.Logic.{◌≢◌}
use mathlib.Core.Bool.{true, cond, not, ◌&&◌}
use mathlib.Core.List.{List}
use lib.Dec.{eqb, leb}
use borrow.Author.Tests.{ne_eqb, eqb-false, leb-false, not-false}
use Rattle.ledger.specs.declared.Currency.{Currency}
use Rattle.ledger.specs.Numbers.{without}
use Rattle.ledger.specs.Table.{chains, is_master, is_detail, in_chain, Accepted}
use Rattle.ledger.specs.Pages.{Ledger, kind_at, present, key_in, home_of, next_of, prior_of, calc_next_of, calc_next, head_next, file_with, layout, Sound}
use Rattle.ledger.specs.Calls.{refuse, arrive, twin_in, joined, relinked, relink}
use Rattle.ledger.proofs.Lists.Tests.{same_or_not, clash, both, eqb_same}
use Rattle.ledger.proofs.Ledger.Rows.{detail_no_master}
use Rattle.ledger.proofs.Ledger.Rings.{next_same, prior_same}
use Rattle.model.specs.declared.Between.{Between}
use Rattle.model.specs.Reads.{kind_in}
use Rattle.model.specs.Keys.{sort_key_in}
use Rattle.place_laws.proofs.Sound.{sound_kind, sound_there, sound_next, sound_sort_key}
use Rattle.place_laws.proofs.With.{layout_with, own_held, own_small, with_same}
use Rattle.ring_model.specs.Rings.{key_twin_in}
use Rattle.ring_laws.proofs.Rounds.{detail_in_chain}
use Rattle.ring_laws.proofs.Before.{sound_before}
use Rattle.ring_laws.proofs.Between.{sound_between}
use Rattle.ring_laws.proofs.Found.{sound_key_twin}
use Rattle.act_model.specs.Relinking.{masters_in, relink_refusal, stands_in, moved_in, relinked_on}
use Rattle.act_laws.proofs.Moved.{next_moved, prior_moved, next_moved_else, prior_moved_else, stands_at}
use Rattle.act_laws.proofs.Rejoined.{gap_for, rejoined_put, rejoined_next, rejoined_prior}
use Rattle.act_laws.proofs.Refusals.{unless_number, number_clean}

-- the ledger after it: the rings of chain j, and all others
module _ (t : List ℕ) (l : Ledger) (j x m : ℕ) where
  relinked_enters : (relinked t l j x m).ring j m ≡ joined t l j (key_in t l j x) x (without x (l.ring j m))
  unfolding relinked
  relinked_enters = rw (eqb_same j, eqb_same m)

  relinked_leaves : (k : ℕ) → k ≢ m → (relinked t l j x m).ring j k ≡ without x (l.ring j k)
  unfolding relinked
  relinked_leaves k n = rw (eqb_same j, ne_eqb k m n)

  relinked_else : (i : ℕ) → i ≢ j → (k : ℕ) → (relinked t l j x m).ring i k ≡ l.ring i k
  unfolding relinked
  relinked_else i n k = rw (ne_eqb i j n)

  relinked_at : (y : ℕ) → l.at y ≡ (relinked t l j x m).at y
  unfolding relinked
  relinked_at y = refl

  relinked_calc : (y : ℕ) → calc_next t l y ≡ calc_next t (relinked t l j x m) y
  unfolding relinked home_of calc_next_of
  relinked_calc y = refl

  relinked_head : (p : ℕ) → head_next t l p ≡ head_next t (relinked t l j x m) p
  unfolding relinked head_next calc_next_of
  relinked_head p = refl

module _ (t f : List ℕ) (l : Ledger) (a : Accepted t) (s : Sound t f l) where
  module _ (j x m : ℕ) (lt : j < chains t) (below : is_detail t j (kind_at l x) ≡ true) (top : is_master t j (kind_at l m) ≡ true) where
    abbrev l' : Ledger
    l' = relinked t l j x m

    abbrev gap : Between
    gap = gap_for t l j m (key_in t l j x) x

    abbrev nx' : ℕ → ℕ → ℕ
    nx' = next_moved (next_of t l) j x (stands_at t l j x) gap

    abbrev pr' : ℕ → ℕ → ℕ
    pr' = prior_moved (prior_of t l) j x (stands_at t l j x) gap

    kinds : (y : ℕ) → is_master t j (kind_at l' y) ≡ is_master t j (kind_at l y)
    kinds y = rw (← relinked_at t l j x m y)

    -- where x stands and where it goes
    read_places : relinked_on t f j x m ≡ moved_in t f j x (stands_at t l j x) gap
    unfolding relinked_on stands_in
    read_places =
        let i = detail_in_chain t j _ below in
        let other : x ≢ m = λ e. clash _ top (rw e at (detail_no_master t j _ (a.chain_rows j lt) below)) in
        rw (sound_before t f l a s j x lt i, sound_next t f l a s j x lt i, sound_sort_key t f l a s j x, sound_between t f l a s j m lt top (key_in t l j x) x other)

    -- what is written, and that chain j then has the links of the ledger after it
    written : moved_in t f j x (stands_at t l j x) gap ≡ file_with t l nx' pr' (calc_next t l) (head_next t l)
    written =
        rw (s.bytes, layout_with t l)
        (rejoined_put t l l' a s.formed j x m (key_in t l j x) lt below top (relinked_enters t l j x m) (relinked_leaves t l j x m) kinds
        (next_of t l) (prior_of t l) (calc_next t l) (head_next t l) (own_held t l s.formed) (own_small t l a s.formed))

    nexts : (y : ℕ) → in_chain t j (kind_at l y) ≡ true → nx' j y ≡ next_of t l' j y
    nexts =
        rejoined_next t l l' a s.formed j x m (key_in t l j x) lt below top (relinked_enters t l j x m) (relinked_leaves t l j x m) kinds
        (next_of t l) (prior_of t l) (calc_next t l) (head_next t l) (λ y c. refl)

    priors : (y : ℕ) → in_chain t j (kind_at l y) ≡ true → pr' j y ≡ prior_of t l' j y
    priors =
        rejoined_prior t l l' a s.formed j x m (key_in t l j x) lt below top (relinked_enters t l j x m) (relinked_leaves t l j x m) kinds
        (next_of t l) (prior_of t l) (calc_next t l) (head_next t l) (λ y c. refl)

    -- the other chains keep theirs
    as_after : file_with t l nx' pr' (calc_next t l) (head_next t l) ≡ layout t l'
    as_after =
        with_same t l l' nx' (next_of t l') pr' (prior_of t l') (calc_next t l) (calc_next t l') (head_next t l) (head_next t l') (relinked_at t l j x m)
        (λ i y h p c. same_or_not i j
        (λ e. rw e (nexts y (rw e at c)))
        (λ n. next_moved_else (next_of t l) j x (stands_at t l j x) gap i y n
        ∙ sym (next_same t l l' i (relinked_else t l j x m i n) y (rw (← relinked_at t l j x m y)))))
        (λ i y h p c q. same_or_not i j
        (λ e. rw e (priors y (rw e at c)))
        (λ n. prior_moved_else (prior_of t l) j x (stands_at t l j x) gap i y n
        ∙ sym (prior_same t l l' i (relinked_else t l j x m i n) y (rw (← relinked_at t l j x m y)))))
        (λ y p c. relinked_calc t l j x m y) (λ p lo hi. relinked_head t l j x m p)
        ∙ sym (layout_with t l')

    pub relinked_file : relinked_on t f j x m ≡ layout t l'
    relinked_file = read_places ∙ written ∙ as_after

  -- the refusals
  masters_same : (j m : ℕ) → (present l m && is_master t j (kind_at l m)) ≡ masters_in t f j m
  unfolding masters_in
  masters_same j m = rw (sound_there t f l a s m, sound_kind t f l a s m)

  pub relink_turn : (cur : Currency) (j m : ℕ) → relink t l cur j m
      ≡ cond (eqb (relink_refusal t f cur.run j m) 0) (arrive t (relinked t l j cur.run m) cur cur.run 0) (refuse (relink_refusal t f cur.run j m))
  unfolding relink relink_refusal
  relink_turn cur j m =
      let x = cur.run in
      unless_number _ _ 5 _ _ _ refl refl λ inside.
      unless_number _ _ 6 _ _ _ refl refl λ run.
      unless_number (not (is_detail t j (kind_at l x))) (not (is_detail t j (kind_in f x))) 7 _ _ _ refl (rw (sound_kind t f l a s x)) λ below.
      unless_number (not (present l m && is_master t j (kind_at l m))) (not (masters_in t f j m)) 9 _ _ _ refl (rw (masters_same j m)) λ master.
      let top = (both (present l m) _ (not-false _ master)).1 in
      unless_number (twin_in t l j m (key_in t l j x) x) (key_twin_in t f j m (sort_key_in t f j x) x) 10 _ _ _ refl
      (rw (sound_sort_key t f l a s j x) (sym (sound_key_twin t f l a s j m (leb-false _ _ inside) top (key_in t l j x) x))) λ alone.
      refl

  pub relink_clean : (x j m : ℕ) → relink_refusal t f x j m ≡ 0
      → (j < chains t) × (x ≢ 0) × (is_detail t j (kind_at l x) ≡ true) × (present l m ≡ true) × (is_master t j (kind_at l m) ≡ true)
  unfolding relink_refusal
  relink_clean x j m e =
      let (inside, e5) = number_clean (leb (chains t) j) 5 _ refl e in
      let (some, e6) = number_clean (eqb x 0) 6 _ refl e5 in
      let (below, e7) = number_clean (not (is_detail t j (kind_in f x))) 7 _ refl e6 in
      let (master, e9) = number_clean (not (masters_in t f j m)) 9 _ refl e7 in
      let (there, above) = both (present l m) (is_master t j (kind_at l m)) (masters_same j m ∙ not-false _ master) in
      (leb-false _ _ inside, eqb-false _ _ some, rw (sound_kind t f l a s x) at (not-false (is_detail t j (kind_in f x)) below), there, above)
