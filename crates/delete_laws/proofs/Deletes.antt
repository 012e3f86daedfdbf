-- DELETE on a sound file: the file then is the layout of the ledger after the deletion, and the answer and the currency are the ledger's.
use Prim.Native.Nat.{ℕ, ◌+◌, ◌*◌, ◌<◌}
use mathlib.Core.Path.{◌≡◌, refl, sym, ◌∙◌}
use mathlib.Core.Logic.{◌≢◌}
use mathlib.Core.Bool.{true, false}
use mathlib.Core.List.{List, []}
use native.Mathlib.Omega.{arith}
use lib.ListN.{length, replicate}
use borrow.Author.Tests.{ne_eqb, eq-eqb}
use Rattle.ledger.specs.declared.Answer.{Answer}
use Rattle.ledger.specs.declared.Currency.{Currency}
use Rattle.ledger.specs.Table.{pages, chains, in_chain, Accepted}
use Rattle.ledger.specs.Pages.{Ledger, is_some, kind_at, present, master_of, next_of, prior_of, calc_next, head_next, bytes_with, record_bytes, layout, Sound}
use Rattle.ledger.specs.Image.{Imaged}
use Rattle.ledger.specs.Answers.{done_with, outcome, refusal}
use Rattle.ledger.specs.Currency.{InForce}
use Rattle.ledger.specs.Calls.{done, goes, deleted, delete}
use Rattle.ledger.proofs.Lists.Tests.{by_cases}
use Rattle.ledger.proofs.Bytes.Writes.{laid_same}
use Rattle.ledger.proofs.Ledger.Bounds.{present_small, home_of_within}
use Rattle.ledger.proofs.Ledger.Entries.{points_there}
use Rattle.ledger.proofs.Ledger.Records.{absent_bytes}
use Rattle.ledger.proofs.Delete.Doomed.{going, goes_there}
use Rattle.ledger.proofs.Delete.Deleted.{deleted_gone, deleted_at}
use Rattle.ledger.proofs.Delete.Backed.{currency_after as backed_currency, delete_parts}
use Rattle.place_laws.proofs.Sound.{sound_kind}
use Rattle.place_laws.proofs.Pieces.{bytes_same}
use Rattle.place_laws.proofs.With.{own_held, bytes_some, with_imaged}
use Rattle.delete_model.specs.Marks.{goes_in, marked_on}
use Rattle.delete_model.specs.Closing.{chains_closed, act_on}
use Rattle.delete_model.specs.Deletes.{deleted_with, decided_on, deleted_from, delete_on}
use Rattle.delete_laws.proofs.Marked.{marked_goes}
use Rattle.delete_laws.proofs.Entries.{entries_backed}
use Rattle.delete_laws.proofs.Chains.{Before, master_within, chains_closed_lem}
use Rattle.delete_laws.proofs.Calcs.{Upto, calcs_closed_lem}
use Rattle.delete_laws.proofs.Taken.{Taken, marks_taken_lem}

module _ (t f : List ℕ) (l : Ledger) (a : Accepted t) (s : Sound t f l) where
  -- File e, once all rings of chains are closed (`b`), g, once the CALC rings are too (`u`), and h, once the marked records are taken out of it (`v`).
  module _ (x : ℕ) (k : List ℕ) (same : (y : ℕ) → goes_in k y ≡ goes t l x y) (e g : List ℕ) (b : Before t f l a s x k same (8256 * chains t + 64) e)
      (u : Upto t f l a s x k same b.nx b.pr (1 + pages t) g) where
    abbrev after : Ledger
    after = deleted t l x

    abbrev bytes : ℕ → List ℕ
    bytes = bytes_with t l b.nx b.pr u.cn

    -- it is an image, in which each marked record has its bytes
    closed_image : Imaged t g bytes u.hd
    closed_image =
        rw u.homed.file (with_imaged t l b.nx b.pr u.cn u.hd a (own_held t l s.formed) u.homed.small)

    marked_there : (y : ℕ) → goes_in k y ≡ true → present l y ≡ true
    marked_there y m = goes_there t l x a s.formed y (rw (same y) at m)

    marked_some : (y : ℕ) → goes_in k y ≡ true → 0 < length (bytes y)
    marked_some y m = bytes_some t l b.nx b.pr u.cn a (own_held t l s.formed) y (marked_there y m)

    -- a record that stays has the bytes of the ledger after the deletion, one that goes has none there
    bytes_left : (y : ℕ) → goes t l x y ≡ false → bytes y ≡ record_bytes t after y
    unfolding record_bytes
    bytes_left y st =
        let number : (j : ℕ) → j < chains t → in_chain t j (kind_at l y) ≡ true → 8256 * j + master_of t l j y < 8256 * chains t + 64 =
        λ j lt c. let (low, high, max) = master_within t f l a s x k same j y lt c in omega arith in
        bytes_same t l after b.nx (next_of t after) b.pr (prior_of t after) u.cn (calc_next t after) y (sym (deleted_at t l x y st))
        (λ p c. u.calc_closed_lem y p c st (omega (arith, (home_of_within t l a s.formed y p).1)))
        (λ p j lt c. b.next_closed j y lt c st (number j lt c))
        (λ p j lt c q. b.prior_closed j y lt c st (number j lt c))

    bytes_gone : (y : ℕ) → goes t l x y ≡ true → record_bytes t after y ≡ []
    bytes_gone y gone = absent_bytes t after y (rw (deleted_gone t l x y gone) (unfold is_some in refl))

    taken_file : (h : List ℕ) → Taken t g bytes u.hd a closed_image k marked_some 8256 h → h ≡ layout t after
    unfolding layout
    taken_file h v =
        v.image.bytes
        ∙ laid_same (pages t) v.left (record_bytes t after) u.hd (head_next t after)
        (λ y. by_cases (goes t l x y)
        (λ gone.
        let m : goes_in k y ≡ true = same y ∙ gone in
        v.gone y (omega (arith, present_small t l a s.formed y (marked_there y m), a.page_count.1)) m ∙ sym (bytes_gone y gone))
        (λ st. v.stayed y (same y ∙ st) ∙ bytes_left y st))
        (λ p lo hi. u.head_closed p lo hi (omega arith))

  -- rings closed over what is marked, and the marked records taken out
  pub deleted_file : (x : ℕ) (k : List ℕ) → ((y : ℕ) → goes_in k y ≡ goes t l x y) → act_on t f k ≡ layout t (deleted t l x)
  unfolding act_on
  deleted_file x k same =
      let b = chains_closed_lem t f l a s x k same in
      let u = calcs_closed_lem t f l a s x k same b.nx b.pr (chains_closed t f k) (record { file = b.linked.file; small = b.linked.small }) in
      taken_file x k same _ _ b u _ (marks_taken_lem t _ _ _ a (closed_image x k same _ _ b u) k (marked_some x k same _ _ b u))

  module _ (cur : Currency) where
    -- a run with no current record
    pub delete_refused : cur.run ≡ 0 → delete_on t f cur ≡ (refusal 6 cur, f)
    unfolding delete_on
    delete_refused e = rw (eq-eqb cur.run 0 e)

    module _ (c : InForce t l cur) where
      pub delete_file : cur.run ≢ 0
          → delete_on t f cur
          ≡ (outcome (done_with cur.run (kind_at l cur.run) (length (going t l cur.run))) (backed_currency t l cur), layout t (deleted t l cur.run))
      unfolding delete_on deleted_from decided_on deleted_with
      delete_file n =
          let x = cur.run in
          let (same, count) = marked_goes t f l a s x (points_there l x c.run_there n) in
          rw (
            ne_eqb x 0 n,
            deleted_file x (marked_on t f 16 x (replicate 8256 0)).1 same,
            entries_backed t f l a s cur c (marked_on t f 16 x (replicate 8256 0)).1 same,
            sound_kind t f l a s x,
            count,
          )

      -- a deletion that the ledger does, and what it leaves
      pub delete_done : (b : Answer) (l' : Ledger) (c' : Currency) → delete t l cur ≡ done b l' c' → delete_on t f cur ≡ (outcome b c', layout t l')
      delete_done b l' c' e = let (n, p, q, r) = delete_parts t l cur b l' c' e in rw (p, q, r) (delete_file n)
