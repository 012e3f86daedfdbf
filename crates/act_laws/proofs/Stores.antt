-- STORE on a sound file leaves the layout of the ledger that it says.
use Prim.Native.Nat.{ℕ, ◌*◌, ◌<◌}
use mathlib.Core.Path.{◌≡◌, refl, sym, ◌∙◌, ap}
use mathlib.Core.Logic.{◌≢◌}
use mathlib.Core.Bool.{true, false, ◌&&◌}
use mathlib.Core.List.{List, [], ◌∷◌}
use native.Mathlib.Omega.{arith}
use lib.ListN.{length, get_or}
use lib.Dec.{eqb}
use borrow.Author.Tests.{eqb-true, ne_eqb}
use Rattle.ledger.specs.declared.Currency.{Currency}
use Rattle.ledger.specs.Numbers.{elem, head_or, last_or, update}
use Rattle.ledger.specs.Table.{row, data_len, defined, calculated, calc_key, Accepted}
use Rattle.ledger.specs.Pages.{code_of, home, Ledger, kind_at, present, home_of, next_of, prior_of, calc_next_of, calc_next, head_next, file_with, layout, Sound}
use Rattle.ledger.specs.Currency.{InForce}
use Rattle.ledger.specs.Calls.{free_line, place_for, stored}
use Rattle.ledger.proofs.Lists.Tests.{by_cases, same_or_not, clash, both, eqb_same, update_same, update_other}
use Rattle.ledger.proofs.Lists.Followers.{follower_first, follower_in, follower_else}
use Rattle.ledger.proofs.Ledger.Entries.{home_as}
use Rattle.ledger.proofs.Ledger.Rows.{home_within}
use Rattle.ledger.proofs.Keeps.Changes.{written_home}
use Rattle.ledger.proofs.Keeps.Stored.{stored_at, stored_at_else}
use Rattle.place_laws.proofs.With.{layout_with, with_same, with_head}
use Rattle.place_laws.proofs.Written.{small_calc, calc_put_lem, head_put_lem}
use Rattle.act_model.specs.Storing.{lacks_current, calc_entered, calc_joined, stored_with, stored_on}
use Rattle.act_laws.proofs.Places.{sound_code}
use Rattle.act_laws.proofs.Entered.{Fitting, new_kind, new_there, after_held}
use Rattle.act_laws.proofs.Linked.{Linked, all_linked}

module _ (t f : List ℕ) (l : Ledger) (a : Accepted t) (s : Sound t f l) (cur : Currency) (n : ℕ) (d : List ℕ) (p k : ℕ) (g : Fitting t l n d p k) where
  abbrev x : ℕ
  x = code_of p k

  abbrev after : Ledger
  after = stored t l cur n d x

  abbrev top : ℕ
  top = home t n (calc_key t n d)

  -- The CALC lists: the new record is first in that of its home, and the others stay.
  calc_first : calculated t n ≡ true → after.calc top ≡ x ∷ l.calc top
  unfolding stored
  calc_first c = rw (c, eqb_same top)

  calc_same : (q : ℕ) → (calculated t n && eqb q top) ≡ false → after.calc q ≡ l.calc q
  unfolding stored
  calc_same q e = rw e

  line_no_head : (y q : ℕ) → present after y ≡ true → y ≢ 64 * q
  line_no_head y q e z = omega (arith, ((after_held t f l a s cur n d p k g).placed y e).on_a_line)

  -- so do their links
  calc_next_else : (y : ℕ) → y ≢ x → present after y ≡ true → calc_next t after y ≡ calc_next t l y
  unfolding calc_next_of last_or
  calc_next_else y ne e =
      let q = home_of t l y in
      rw (home_as t l after y (stored_at_else t l cur n d x y ne)) (by_cases (calculated t n && eqb q top)
      (λ b. let (c, h) = both (calculated t n) (eqb q top) b in
      let here : q ≡ top = eqb-true q top h in
      rw (here, calc_first c) (follower_else y x (64 * top) [] (l.calc top) ne (line_no_head y top e)))
      (λ b. rw (calc_same q b)))

  head_else : (q : ℕ) → (calculated t n && eqb q top) ≡ false → head_next t after q ≡ head_next t l q
  unfolding head_next calc_next_of
  head_else q b = rw (calc_same q b)

  calc_next_new : calculated t n ≡ true → calc_next t after x ≡ head_next t l top
  unfolding head_next calc_next_of elem
  calc_next_new c =
      rw (written_home t after x n d (stored_at t l cur n d x), calc_first c, follower_first (64 * top) (l.calc top))
      (follower_in (64 * top) x [] (l.calc top) (line_no_head x top (new_there t f l a s cur n d p k g)) refl)

  head_new : calculated t n ≡ true → head_next t after top ≡ x
  unfolding head_next calc_next_of head_or
  head_new c = rw (calc_first c) (follower_first (64 * top) (x ∷ l.calc top))

  -- The file with all chains linked: with CALC NEXTs that are the new ledger's it is the new ledger's layout.
  abbrev cn : ℕ → ℕ
  cn = update (calc_next t l) x 0

  abbrev hd : ℕ → ℕ
  hd = head_next t l

  module _ (h : List ℕ) (w : Linked t l after cn hd x 16 h) where
    told : (cn' hd' : ℕ → ℕ) → ((y : ℕ) → present after y ≡ true → calculated t (kind_at after y) ≡ true → cn' y ≡ calc_next t after y)
        → ((q : ℕ) → hd' q ≡ head_next t after q) → file_with t after w.nx w.pr cn' hd' ≡ layout t after
    told cn' hd' calcs heads =
        let few = a.chain_count in
        rw (layout_with t after)
        (with_same t after after w.nx (next_of t after) w.pr (prior_of t after) cn' (calc_next t after) hd' (head_next t after) (λ y. refl)
        (λ j y lt e c. w.next_done j y (omega arith) lt c) (λ j y lt e c b. w.prior_done j y (omega arith) lt c) calcs (λ q lo hi. heads q))

    -- a calculated record is put behind its home's header
    keyed_linked : calculated t n ≡ true → calc_entered t h top x ≡ layout t after
    unfolding calc_entered
    keyed_linked c =
        let (lo, hi) = home_within t n (calc_key t n d) a g.typed in
        let held = after_held t f l a s cur n d p k g in
        let there = new_there t f l a s cur n d p k g in
        let keyed : calculated t (kind_at after x) ≡ true = rw (new_kind t f l a s cur n d p k g) c in
        let small = small_calc t after w.nx w.pr cn hd w.small (hd top) (w.small.heads top lo hi) x in
        rw (
          w.file,
          with_head t after w.nx w.pr cn hd a held w.small top lo hi,
          calc_put_lem t after w.nx w.pr cn hd a held w.small x (hd top) there keyed,
          head_put_lem t after w.nx w.pr (update cn x (hd top)) hd a held small top x lo hi,
        )
        (told (update cn x (hd top)) (update hd top x)
        (λ y e i. same_or_not y x
        (λ q. rw (q, update_same cn x (hd top)) (sym (calc_next_new c)))
        (λ ne. rw (update_other cn x (hd top) y ne, update_other (calc_next t l) x 0 y ne) (sym (calc_next_else y ne e))))
        (λ q. same_or_not q top
        (λ r. rw (r, update_same hd top x) (sym (head_new c)))
        (λ ne. rw (update_other hd top x q ne) (sym (head_else q (rw (c, ne_eqb q top ne)))))))

    -- another is in no CALC list
    plain_linked : calculated t n ≡ false → h ≡ layout t after
    plain_linked c = w.file ∙ told cn hd
        (λ y e i.
        let ne : y ≢ x = λ q. clash (calculated t n) (rw (q, new_kind t f l a s cur n d p k g) at i) c in
        rw (update_other (calc_next t l) x 0 y ne) (sym (calc_next_else y ne e)))
        (λ q. sym (head_else q (rw c)))

    calc_linked : calc_joined t h n d x ≡ layout t after
    unfolding calc_joined
    calc_linked = by_cases (calculated t n) (λ c. rw c (keyed_linked c)) (λ c. rw c (plain_linked c))

module _ (t f : List ℕ) (l : Ledger) (a : Accepted t) (s : Sound t f l) (cur : Currency) (force : InForce t l cur) where
  pub stored_file : (n : ℕ) (d : List ℕ) → defined t n ≡ true → lacks_current t cur n ≡ false
      → length d ≡ data_len t (row t n) → ((i : ℕ) → get_or d i 0 < 256)
      → let p = place_for t l cur n d in p ≢ 0 → let x = code_of p (free_line l p) in stored_on t f cur n d p ≡ (x, layout t (stored t l cur n d x))
  unfolding stored_on stored_with
  stored_file n d typed none full small m =
      let p = place_for t l cur n d in
      let k = free_line l p in
      let (within, taking, code) = sound_code t f l a s cur force n d typed m in
      let g : Fitting t l n d p k = record { typed = typed; full = full; small = small; within = within; taking = taking; lowest = refl } in
      let w = all_linked t f l a s cur n d p k g force none in
      rw code (ap (λ (h : List ℕ). (code_of p k, h)) (calc_linked t f l a s cur n d p k g _ w))
