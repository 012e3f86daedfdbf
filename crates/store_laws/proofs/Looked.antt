-- The whole promise of the calls that read.
use Prim.Native.Nat.{ℕ}
use mathlib.Core.Path.{◌≡◌, refl, ◌∙◌, ap}
use mathlib.Core.List.{List}
use native.Mathlib.Omega.{arith}
use lib.ListN.{length}
use lib.Dec.{eqb}
use borrow.Author.Tests.{eqb-true, eqb-false}
use Rattle.ledger.specs.declared.Currency.{Currency}
use Rattle.ledger.specs.declared.Outcome.{Outcome}
use Rattle.ledger.specs.Table.{Accepted}
use Rattle.ledger.specs.Pages.{Ledger, Sound}
use Rattle.ledger.specs.Currency.{InForce}
use Rattle.ledger.specs.Calls.{Turn, refuse, direct, key, current, find, next, prior, master, each, read, turn, DIRECT, KEY, NEXT, PRIOR, MASTER, EACH, CURRENT, FIND, UNKNOWN}
use Rattle.ledger.specs.Promise.{Checks, Plays, Reads, told, turn_of}
use Rattle.ledger.proofs.Lists.Tests.{by_cases}
use Rattle.ledger.proofs.Image.Unique.{sound_unique}
use Rattle.ledger.proofs.Keeps.Arrival.{Kept}
use Rattle.ledger.proofs.Keeps.Looks.{direct_kept, key_kept, find_kept, current_kept, each_kept, next_kept, prior_kept, master_kept, read_kept}
use Rattle.ledger.proofs.History.Turns.{Leaves, looks_direct, looks_key, looks_next, looks_prior, looks_master, looks_each, looks_read, looks_current, looks_find}
use Rattle.look_model.specs.Looks.{direct_on, key_on, current_on, find_on, next_on, prior_on, master_on, each_on, read_on}
use Rattle.look_laws.proofs.Looks.{direct_told, key_told_lem, current_told, find_told, next_told, prior_told, master_told_lem, each_told}
use Rattle.look_laws.proofs.Outputs.{read_told, read_filled, output_kept}
use Rattle.store_model.specs.Checks.{refusal_on}
use Rattle.store_model.specs.Changes.{changed_unless}
use Rattle.store_model.specs.Calls.{checked, checked_with, direct_call, key_call, next_call, prior_call, master_call, each_call, read_call, current_call, find_call, unknown_call}
use Rattle.store_laws.proofs.Checked.{Acts, plays}

-- what a call that reads comes to on a ledger: what is told, with the ledger as it was and the rules kept
pub record Looked (call : Ledger → Turn) (t f : List ℕ) (cur : Currency) (o : Outcome) (l : Ledger) : Type 0 where
  pub same : o ≡ told cur (call l)
  pub leaves : Leaves l (call l)
  pub keeps : Kept t (call l)

module _ (t f : List ℕ) (cur : Currency) where
  acts_looked : (call : Ledger → Turn) (o : Outcome) → (Accepted t → (l : Ledger) → Sound t f l → InForce t l cur → Looked call t f cur o l) → Acts call t f cur (o, f)
  acts_looked call o w = record {
    refused = λ a l s i n e. ap (λ (z : Outcome). (z, f)) ((w a l s i).same ∙ rw e (unfold told in refl));
    played = λ a l s i b l' c e.
        let q = w a l s i in (
          q.same ∙ rw e (unfold told in refl),
          rw (q.leaves b l' c e) s,
          (q.keeps b l' c e).1,
        );
  }

  with_checked : (o : Outcome) → checked_with t f cur f (o, f) ≡ (checked t f cur o, f)
  unfolding checked_with changed_unless checked
  with_checked o = by_cases (eqb (refusal_on t f cur) 0) (λ e. rw e) (λ e. rw e)

  module _ (k : Checks t f cur (refusal_on t f cur)) (ch : length cur.chains ≡ 16) where
    looked : (call : Ledger → Turn) (o : Outcome) → (Accepted t → (l : Ledger) → Sound t f l → InForce t l cur → Looked call t f cur o l)
        → Plays call t f f cur (checked t f cur o)
    looked call o w = plays t f cur k call (o, f) (acts_looked call o w) _ _ (with_checked o)

    pub direct_plays : (x : ℕ) → Plays (turn_of t cur (DIRECT x)) t f f cur (direct_call t f cur x)
    unfolding direct_call turn
    direct_plays x = looked (λ l. direct t l cur x) (direct_on t f cur x) λ a l s i.
        record { same = direct_told t f l cur a s i ch x; leaves = looks_direct t l cur x; keeps = direct_kept t l cur a s.formed i x }

    pub key_plays : (n : ℕ) (key' : List ℕ) → Plays (turn_of t cur (KEY n key')) t f f cur (key_call t f cur n key')
    unfolding key_call turn
    key_plays n key' = looked (λ l. key t l cur n key') (key_on t f cur n key') λ a l s i.
        record { same = key_told_lem t f l cur a s i ch n key'; leaves = looks_key t l cur n key'; keeps = key_kept t l cur a s.formed i n key' }

    pub current_plays : (n : ℕ) → Plays (turn_of t cur (CURRENT n)) t f f cur (current_call t f cur n)
    unfolding current_call turn
    current_plays n = looked (λ l. current t l cur n) (current_on t f cur n) λ a l s i.
        record { same = current_told t f l cur a s i ch n; leaves = looks_current t l cur n; keeps = current_kept t l cur a s.formed i n }

    pub find_plays : (j : ℕ) (key' : List ℕ) → Plays (turn_of t cur (FIND j key')) t f f cur (find_call t f cur j key')
    unfolding find_call turn
    find_plays j key' = looked (λ l. find t l cur j key') (find_on t f cur j key') λ a l s i.
        record { same = find_told t f l cur a s i ch j key'; leaves = looks_find t l cur j key'; keeps = find_kept t l cur a s.formed i j key' }

    pub next_plays : (j : ℕ) → Plays (turn_of t cur (NEXT j)) t f f cur (next_call t f cur j)
    unfolding next_call turn
    next_plays j = looked (λ l. next t l cur j) (next_on t f cur j) λ a l s i.
        record { same = next_told t f l cur a s i ch j; leaves = looks_next t l cur j; keeps = next_kept t l cur a s.formed i j }

    pub prior_plays : (j : ℕ) → Plays (turn_of t cur (PRIOR j)) t f f cur (prior_call t f cur j)
    unfolding prior_call turn
    prior_plays j = looked (λ l. prior t l cur j) (prior_on t f cur j) λ a l s i.
        record { same = prior_told t f l cur a s i ch j; leaves = looks_prior t l cur j; keeps = prior_kept t l cur a s.formed i j }

    pub master_plays : (j : ℕ) → Plays (turn_of t cur (MASTER j)) t f f cur (master_call t f cur j)
    unfolding master_call turn
    master_plays j = looked (λ l. master t l cur j) (master_on t f cur j) λ a l s i.
        record { same = master_told_lem t f l cur a s i ch j; leaves = looks_master t l cur j; keeps = master_kept t l cur a s.formed i j }

    pub each_plays : (first last : ℕ) → Plays (turn_of t cur (EACH first last)) t f f cur (each_call t f cur first last)
    unfolding each_call turn
    each_plays first last = looked (λ l. each t l cur first last) (each_on t f cur first last) λ a l s i.
        record { same = each_told t f l cur a s i ch first last; leaves = looks_each t l cur first last; keeps = each_kept t l cur a s.formed i first last }

    pub unknown_plays : Plays (turn_of t cur UNKNOWN) t f f cur (unknown_call t f cur)
    unfolding unknown_call turn
    unknown_plays = looked (λ l. refuse 5) _ λ a l s i. record { same = unfold told in refl; leaves = λ b l' c e. cc; keeps = λ b l' c e. let z : ◌≡◌ {A = ℕ} 0 1 = cc in absurd (omega arith) }

    -- READ, with the output that it leaves
    read_shown : (out : List ℕ) → (read_call t f cur out).0 ≡ checked t f cur (read_on t f cur out).0
    unfolding read_call checked_with changed_unless checked
    read_shown out = by_cases (eqb (refusal_on t f cur) 0) (λ e. rw e) (λ e. rw e)

    read_done : (out : List ℕ) → (read_call t f cur out).0.answer.code ≡ 0 → (refusal_on t f cur ≡ 0) × (read_call t f cur out ≡ read_on t f cur out)
    unfolding read_call checked_with changed_unless
    read_done out = by_cases (eqb (refusal_on t f cur) 0)
        (λ e. rw e (λ z. (eqb-true _ _ e, refl)))
        (λ e. rw e (λ z. absurd (eqb-false _ _ e z)))

    read_left : (out : List ℕ) → ((read_call t f cur out).0.answer.code ≡ 0 → ⊥) → (read_call t f cur out).1 ≡ out
    unfolding read_call checked_with changed_unless
    read_left out = by_cases (eqb (refusal_on t f cur) 0) (λ e. rw e (output_kept t f cur out)) (λ e. rw e (λ n. refl))

    pub read_reads : (out : List ℕ) → Reads t f out (read_call t f cur out).1 cur (read_call t f cur out).0
    read_reads out = record {
      plays = rw (read_shown out) (looked (λ l. read t l cur (length out)) (read_on t f cur out).0 λ a l s i.
          record { same = read_told t f l cur a s i out; leaves = looks_read t l cur (length out); keeps = read_kept t l cur a s.formed i (length out) });
      kept = read_left out;
      filled = λ z l s.
          let (n, same) = read_done out z in
          let (a, g) = k.found n in
          let one : g.0 ≡ l = sound_unique t f g.0 l a g.1 s in
          let done : (read_on t f cur out).0.answer.code ≡ 0 = rw same at z in
          rw same (read_filled t f l cur a s (rw one at g.2) out done);
    }
