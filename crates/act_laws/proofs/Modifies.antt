-- MODIFY on a sound file: it refuses where the ledger does, and what it writes is the layout of the ledger after it.
use Prim.Native.Nat.{ℕ}
use mathlib.Core.Path.{◌≡◌, refl, sym, ◌∙◌}
use mathlib.Core.Logic.{◌≢◌}
use mathlib.Core.Bool.{true, false, cond, not, ◌||◌}
use mathlib.Core.List.{List}
use native.Mathlib.Omega.{arith}
use lib.Dec.{eqb, ltb}
use lib.ListN.{length}
use borrow.Author.Tests.{eqb-true, eqb-false, ltb-true, not-false}
use Rattle.ledger.specs.declared.Currency.{Currency}
use Rattle.ledger.specs.Numbers.{any}
use Rattle.ledger.specs.Table.{chains, row, data_len, calculated, is_detail, calc_key, sort_key, Accepted}
use Rattle.ledger.specs.Pages.{Ledger, kind_at, present, master_of, next_of, prior_of, calc_next, head_next, file_with, layout, Sound}
use Rattle.ledger.specs.Currency.{InForce}
use Rattle.ledger.specs.Calls.{refuse, arrive, as_detail, twin_in, calc_twin, modified, modify}
use Rattle.ledger.proofs.Lists.Tests.{by_cases, both}
use Rattle.ledger.proofs.Lists.Members.{any_same}
use Rattle.ledger.proofs.Ledger.Entries.{points_there}
use Rattle.ledger.proofs.Ledger.Rows.{home_within, detail_chain}
use Rattle.model.specs.Reads.{kind_in}
use Rattle.model.specs.Keys.{calc_key_in}
use Rattle.place_laws.proofs.Sound.{sound_kind}
use Rattle.place_laws.proofs.With.{Small, layout_with, own_held, own_small, with_kind, with_data, with_same}
use Rattle.place_laws.proofs.NewData.{data_put_lem}
use Rattle.ring_model.specs.Rings.{key_twin_in, master_in, calc_twin_in}
use Rattle.ring_laws.proofs.Rounds.{detail_in_chain, master_type_lem}
use Rattle.ring_laws.proofs.Masters.{sound_master}
use Rattle.ring_laws.proofs.Found.{sound_key_twin, sound_calc_twin}
use Rattle.act_model.specs.Modifying.{modify_twin, modify_refusal, calc_moves_in, calc_rejoined, rejoined_all, data_put, modified_on}
use Rattle.act_laws.proofs.Refusals.{unless_number, number_clean}
use Rattle.act_laws.proofs.ModifiedLedger.{modified_kind, modified_there, modified_home, modified_home_else, calc_rejoins, calc_enters, calc_leaves, stays_calc, stays_head}
use Rattle.act_laws.proofs.ChainsModified.{Upto, rejoined_from_lem}
use Rattle.act_laws.proofs.CalcLinked.{CalcLinked, by_line, by_head, with_linked, linked_as}
use Rattle.act_laws.proofs.CalcMoved.{calc_links, calc_moved}

module _ (t f : List ℕ) (l : Ledger) (a : Accepted t) (s : Sound t f l) where
  module _ (x : ℕ) (d : List ℕ) (there : present l x ≡ true) where
    abbrev l' : Ledger
    l' = modified t l x d

    -- every chain is relinked
    chains_start : Upto t l l' (calc_next t l) (head_next t l) f 0
    chains_start = record {
      nx = next_of t l;
      pr = prior_of t l;
      file = s.bytes ∙ layout_with t l;
      small = own_small t l a s.formed;
      new_next = λ i y lt h c. absurd (omega arith);
      new_prior = λ i y lt h c. absurd (omega arith);
      old_next = λ i y le h c. refl;
      old_prior = λ i y le h c. refl;
    }

    chains_end : Upto t l l' (calc_next t l) (head_next t l) (rejoined_all t f (kind_at l x) d x) 16
    unfolding rejoined_all
    chains_end = rejoined_from_lem t l x d a s.formed there (calc_next t l) (head_next t l) 16 0 16 f refl chains_start

    -- the CALC rings, where the CALC key changes and where it does not
    module _ (nx pr : ℕ → ℕ → ℕ) (z : Small t l nx pr (calc_next t l) (head_next t l)) where
      abbrev g : List ℕ
      g = file_with t l nx pr (calc_next t l) (head_next t l)

      same_moves : calc_moves_in t g (kind_at l x) d x ≡ calc_rejoins t l x d
      unfolding calc_moves_in calc_rejoins calc_key_in
      same_moves = rw (
        with_kind t l nx pr (calc_next t l) (head_next t l) a (own_held t l s.formed) z x,
        with_data t l nx pr (calc_next t l) (head_next t l) a (own_held t l s.formed) z x,
      )

      moves : calc_rejoins t l x d ≡ true → CalcLinked t l nx pr (calc_rejoined t g (kind_at l x) d x) (calc_links t l')
      unfolding calc_rejoined calc_rejoins
      moves e =
          let (lo, hi) = home_within t (kind_at l x) (calc_key t (kind_at l x) d) a (s.formed.placed x there).typed in
          rw (same_moves, e)
          (calc_moved t l l' a s.formed x _ there (both (calculated t (kind_at l x)) _ e).0 lo hi
          (modified_home t l x d) (modified_home_else t l x d) (calc_enters t l x d e) (calc_leaves t l x d e) nx pr z)

      stays : calc_rejoins t l x d ≡ false → CalcLinked t l nx pr (calc_rejoined t g (kind_at l x) d x) (calc_links t l')
      unfolding calc_rejoined
      stays e =
          rw (same_moves, e)
          (linked_as t l a s.formed nx pr g (calc_links t l) (calc_links t l')
          (λ y h c.
          let line = (s.formed.placed y h).on_a_line in
          by_line (calc_next t l) (head_next t l) y line ∙ sym (by_line (calc_next t l') (head_next t l') y line ∙ stays_calc t l x d e y c))
          (λ p. by_head (calc_next t l) (head_next t l) p ∙ sym (by_head (calc_next t l') (head_next t l') p ∙ stays_head t l x d e p))
          (with_linked t l a s.formed nx pr (calc_next t l) (head_next t l) z))

    calc_end : CalcLinked t l chains_end.nx chains_end.pr (calc_rejoined t (rejoined_all t f (kind_at l x) d x) (kind_at l x) d x) (calc_links t l')
    calc_end =
        let u = chains_end in
        rw u.file (by_cases (calc_rejoins t l x d) (moves u.nx u.pr u.small) (stays u.nx u.pr u.small))

    -- then the data, and the file has the links of the modified ledger
    pub modified_file : length d ≡ data_len t (row t (kind_at l x)) → modified_on t f x d ≡ layout t l'
    unfolding modified_on data_put modified
    modified_file full =
        let u = chains_end in
        let c = calc_end in
        let kind = modified_kind t l x d in
        rw (sound_kind t f l a s x, c.file)
        (data_put_lem t l u.nx u.pr c.cn c.hd a (own_held t l s.formed) c.small x d l' there full refl
        ∙ with_same t l' l' u.nx (next_of t l') u.pr (prior_of t l') c.cn (calc_next t l') c.hd (head_next t l') (λ y. refl)
        (λ i y h e b. u.new_next i y (omega (arith, a.chain_count)) h (rw (kind y) at b))
        (λ i y h e b p. u.new_prior i y (omega (arith, a.chain_count)) h (rw (kind y) at b))
        (λ y e b.
        let was = rw (modified_there t l x d there y) at e in
        c.calcs y was (rw (kind y) at b) ∙ by_line (calc_next t l') (head_next t l') y (s.formed.placed y was).on_a_line)
        (λ p lo hi. c.heads p lo hi ∙ by_head (calc_next t l') (head_next t l') p)
        ∙ sym (layout_with t l'))

  -- the refusals: a twin of x in a ring of its own
  same_twin : (x : ℕ) (d : List ℕ) → modify_twin t f (kind_at l x) d x ≡ any (λ j. twin_in t l j (master_of t l j x) (sort_key t j (kind_at l x) d) x) (as_detail t (kind_at l x))
  unfolding modify_twin
  same_twin x d =
      any_same (λ j. key_twin_in t f j (master_in t f j x) (sort_key t j (kind_at l x) d) x) (λ j. twin_in t l j (master_of t l j x) (sort_key t j (kind_at l x) d) x) (as_detail t (kind_at l x))
      (λ j e.
      let (lt, below) = both (ltb j (chains t)) (is_detail t j (kind_at l x)) (sym (detail_chain t (kind_at l x) j) ∙ e) in
      let inside = ltb-true _ _ lt in
      let i = detail_in_chain t j _ below in
      rw (sound_master t f l a s j x inside i)
      (sound_key_twin t f l a s j (master_of t l j x) inside (master_type_lem t l a s.formed j x inside i) (sort_key t j (kind_at l x) d) x))

  pub modify_turn : (cur : Currency) → InForce t l cur → (d : List ℕ) → modify t l cur d
      ≡ cond (eqb (modify_refusal t f cur.run d) 0) (arrive t (modified t l cur.run d) cur cur.run 0) (refuse (modify_refusal t f cur.run d))
  unfolding modify modify_refusal
  modify_turn cur force d =
      let x = cur.run in
      let n = kind_at l x in
      rw (sound_kind t f l a s x)
      (unless_number _ _ 6 _ _ _ refl refl λ run.
      unless_number _ _ 8 _ _ _ refl refl λ full.
      let typed = (s.formed.placed x (points_there l x force.run_there (eqb-false _ _ run))).typed in
      unless_number (calc_twin t l n d x || any (λ j. twin_in t l j (master_of t l j x) (sort_key t j n d) x) (as_detail t n)) (calc_twin_in t f n d x || modify_twin t f n d x) 10 _ _ _ refl
      (rw (sound_calc_twin t f l a s n d x typed, same_twin x d)) λ alone.
      refl)

  pub modify_clean : (x : ℕ) (d : List ℕ) → modify_refusal t f x d ≡ 0 → (x ≢ 0) × (length d ≡ data_len t (row t (kind_at l x)))
  unfolding modify_refusal
  modify_clean x d e =
      let (some, e6) = number_clean (eqb x 0) 6 _ refl e in
      let (full, e8) = number_clean (not (eqb (length d) (data_len t (row t (kind_in f x))))) 8 _ refl e6 in
      (eqb-false _ _ some, rw (sound_kind t f l a s x) at (eqb-true (length d) (data_len t (row t (kind_in f x))) (not-false _ full)))
