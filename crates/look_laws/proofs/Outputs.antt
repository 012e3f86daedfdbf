-- READ on a sound file with a currency in force: the ledger's answer, the data at the front of the output, and the rest of it as it was.
use Prim.Native.Nat.{ℕ, ◌+◌, ◌≤◌}
use mathlib.Core.Path.{◌≡◌, refl}
use mathlib.Core.List.{List, ◌++◌}
use native.Mathlib.Omega.{arith}
use native.Mathlib.Nat.{zero-add}
use lib.ListN.{length, drop}
use lib.Dec.{eqb, ltb}
use borrow.Author.Tests.{eqb-false, ltb-false}
use Rattle.ledger.specs.declared.Currency.{Currency}
use Rattle.ledger.specs.Table.{row, data_len, Accepted}
use Rattle.ledger.specs.Pages.{Ledger, kind_at, bytes_at, Sound}
use Rattle.ledger.specs.Currency.{InForce}
use Rattle.ledger.specs.Calls.{read}
use Rattle.ledger.specs.Promise.{told}
use Rattle.ledger.proofs.Lists.Tests.{by_cases}
use Rattle.ledger.proofs.Ledger.Entries.{points_there}
use Rattle.model.specs.Reads.{kind_in}
use Rattle.look_model.specs.Looks.{read_on}
use Rattle.place_laws.proofs.Sound.{sound_kind, sound_data}
use Rattle.place_laws.proofs.Links.{put_is}
use Rattle.look_laws.proofs.Looks.{told_unless}

module _ (t f : List ℕ) (l : Ledger) (cur : Currency) (a : Accepted t) (s : Sound t f l) (i : InForce t l cur) (out : List ℕ) where
  pub read_told : (read_on t f cur out).0 ≡ told cur (read t l cur (length out))
  unfolding read_on read
  read_told = rw (told_unless, told_unless, sound_kind t f l a s cur.run)
      (by_cases (eqb cur.run 0) (λ e. rw e) λ some.
      by_cases (ltb (length out) (data_len t (row t (kind_at l cur.run)))) (λ e. rw (some, e)) (λ fits. rw (some, fits) (unfold told in refl)))

  pub read_filled : (read_on t f cur out).0.answer.code ≡ 0 → (read_on t f cur out).1 ≡ bytes_at l cur.run ++ drop (length (bytes_at l cur.run)) out
  unfolding read_on
  read_filled = rw (sound_kind t f l a s cur.run, sound_data t f l a s cur.run)
      (by_cases (eqb cur.run 0) (λ e. rw e (λ z. absurd (omega arith))) λ some.
      by_cases (ltb (length out) (data_len t (row t (kind_at l cur.run)))) (λ e. rw (some, e) (λ z. absurd (omega arith)))
      (λ fits. rw (some, fits) (λ z.
      let there = points_there l cur.run i.run_there (eqb-false _ _ some) in
      let room : 0 + length (bytes_at l cur.run) ≤ length out =
      omega (arith, (s.formed.placed cur.run there).full, ltb-false (length out) (data_len t (row t (kind_at l cur.run))) fits) in
      rw zero-add at (put_is out 0 (bytes_at l cur.run) room))))

-- refused, all of the output stays, on any bytes
pub output_kept : (t f : List ℕ) (cur : Currency) (out : List ℕ) → ((read_on t f cur out).0.answer.code ≡ 0 → ⊥) → (read_on t f cur out).1 ≡ out
unfolding read_on
output_kept t f cur out =
    by_cases (eqb cur.run 0) (λ e. rw e (λ n. refl)) λ some.
    by_cases (ltb (length out) (data_len t (row t (kind_in f cur.run)))) (λ e. rw (some, e) (λ n. refl)) (λ fits. rw (some, fits) (λ n. absurd (n refl)))
