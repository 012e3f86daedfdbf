-- Demand 3 after recovery: currency is all zero, and the history goes on from the recovered ledger.
-- `t` is an accepted table; `g` is what recovery leaves after a cut of the call from f to f', and cuts of recovery.
use Prim.Native.Nat.{ℕ}
use mathlib.Core.Path.{refl}
use mathlib.Core.Logic.{◌⊎◌, inl, inr}
use mathlib.Core.List.{List, [], ◌∷◌, ◌++◌}
use native.Mathlib.Omega.{arith}
use lib.ListN.{length, replicate}
use lib.Dec.{ltb}
use borrow.Author.Tests.{ltb-true, ltb-false}
use Rattle.ledger.specs.declared.Currency.{Currency}
use Rattle.ledger.specs.Numbers.{run}
use Rattle.ledger.specs.Table.{pages, Accepted}
use Rattle.ledger.specs.Pages.{code_of, Ledger, record_bytes, head_next, free, header, packed, page, laid, layout, Sound}
use Rattle.ledger.specs.Currency.{unset, InForce}
use Rattle.ledger.specs.History.{Event, Step, events_told, Runs, Demand3}
use Rattle.ledger.proofs.Lists.Tests.{by_cases}
use Rattle.ledger.proofs.Lists.Members.{no_length}
use Rattle.ledger.proofs.Lists.Parts.{get_d_zeros}
use Rattle.ledger.proofs.Lists.Digits.{Bytes, nil_bytes, append_bytes, digits_bytes, concat_bytes}
use Rattle.ledger.proofs.Ledger.Fields.{file_length}
use Rattle.ledger.proofs.Image.Laid.{laid_paged}
use Rattle.ledger.proofs.History.Running.{Running, runs}
use Rattle.ledger.proofs.History.Demand3.{demanded}
use Rattle.ledger.specs.Journal.Writes.{Disk}
use Rattle.ledger.specs.Journal.Recovery.{recovered}
use Rattle.ledger.specs.Journal.Survival.{FileOf, Earlier, lost}
use Rattle.journal_laws.proofs.Survives.{survives}

-- "Currency after recovery is all zero": that is in force beside any ledger
pub unset_in_force : (t : List ℕ) (l : Ledger) → InForce t l unset
unset_in_force t l = record {
  run_there = inl refl;
  type_there = λ i. inl (get_d_zeros 16 i);
  type_right = λ i. inl (get_d_zeros 16 i);
  chain_there = λ j. inl (get_d_zeros 16 j);
  chain_right = λ j. inl (get_d_zeros 16 j);
}

module _ (t : List ℕ) (a : Accepted t) where
  -- a sound file is one of the table's pages
  module _ (f : List ℕ) (l : Ledger) (s : Sound t f l) where
    bytes_of : (x : ℕ) → Bytes (record_bytes t l x)
    bytes_of x = by_cases (ltb 0 (length (record_bytes t l x)))
        (λ e. record { small = ((laid_paged t l a s.formed).standing x (ltb-true 0 _ e)).bytes })
        (λ e. rw (no_length (record_bytes t l x) (ltb-false 0 _ e)) nil_bytes)

    pub sound_file : FileOf (pages t) f
    unfolding layout laid page header packed
    sound_file =
        let zeros : (n : ℕ) → Bytes (replicate n 0) = λ n. record { small = λ i. omega (arith, get_d_zeros n i) } in
        let whole : Bytes (layout t l) = concat_bytes (page (record_bytes t l) (head_next t l)) (run 1 (pages t)) (λ p.
        append_bytes (append_bytes
        (append_bytes (append_bytes (append_bytes (digits_bytes 3 _) (digits_bytes 2 _)) (digits_bytes 8 _)) (digits_bytes 3 _))
        (concat_bytes (λ k. record_bytes t l (code_of p k)) (run 1 63) (λ k. bytes_of (code_of p k))))
        (zeros (free (record_bytes t l) p))) in
        record { few = a.page_count.1; size = file_length t f l a s; bytes = rw s.bytes whole.small }

  module _ (f f' j : List ℕ) (e : Earlier (pages t) j) (m k : ℕ) (cs : List (ℕ × ℕ)) where
    abbrev left : Disk
    left = recovered (pages t) (lost (pages t) f f' j m k cs)

    -- where both files are sound, the recovered one is, for the ledger before the call or the one after it
    pub sound_again : (l l' : Ledger) → Sound t f l → Sound t f' l' → Sound t left.file l ⊎ Sound t left.file l'
    sound_again l l' s s' =
        elim (survives (pages t) f f' j (sound_file f l s) (sound_file f' l' s') e m k cs).one_of [
          | inl q ↦ inl (rw q s)
          | inr q ↦ inr (rw q s')
        ]

    -- the history goes on, from currency zero, with the call or without it
    pub history_again : (cur cur' : Currency) (es : List Event) (c : Step) → Running t f cur es → Runs t f cur (c ∷ []) f' cur'
        → Running t left.file unset es ⊎ Running t left.file unset (events_told cur (c ∷ []) ++ es)
    history_again cur cur' es c r call =
        let r' = (runs t a (c ∷ []) f f' cur cur' es r call).0 in
        elim (survives (pages t) f f' j (sound_file f _ r.sound) (sound_file f' _ r'.sound) e m k cs).one_of [
          | inl q ↦ inl (rw q (from_zero f cur es r))
          | inr q ↦ inr (rw q (from_zero f' cur' _ r'))
        ]
      where
        from_zero : (h : List ℕ) (now : Currency) (us : List Event) → Running t h now us → Running t h unset us
        from_zero h now us s = record { ledger = s.ledger; sound = s.sound; in_force = unset_in_force t s.ledger; tells = s.tells }

    -- and demand 3 holds of the recovered file
    pub demand_again : (cur cur' : Currency) (es : List Event) (c : Step) → Running t f cur es → Runs t f cur (c ∷ []) f' cur'
        → Demand3 t left.file es ⊎ Demand3 t left.file (events_told cur (c ∷ []) ++ es)
    demand_again cur cur' es c r call = elim (history_again cur cur' es c r call) [
      | inl h ↦ inl (demanded t _ unset _ a h)
      | inr h ↦ inr (demanded t _ unset _ a h)
    ]
