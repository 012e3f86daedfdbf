-- The public calls: refusals 1 to 4, then the call.
use Rattle.std.proofs.Common.{◌≡◌, ℕ, List, Result, Err, ne_eqb}
use Rattle.std.specs.Bool.{⊤}
use Rattle.ledger.specs.declared.Answer.{Answer}
use Rattle.ledger.specs.declared.Currency.{Currency}
use Rattle.ledger.specs.declared.Outcome.{Outcome}
use Rattle.ledger.specs.declared.Refusal.{Refusal}
use Rattle.ledger.specs.Answers.{done_with, outcome, refusal, refusal_number, number_of}
use Rattle.ledger.specs.Currency.{unset}
use Rattle.model.specs.Moves.{file_made}
use Rattle.store_model.specs.Checks.{size_refusal, refusal_on}
use Rattle.store_model.specs.Changes.{Changed}
use Rattle.store_model.specs.Calls.{checked, checked_with, format_call}
use Rattle.store.proofs.Laws.Refusals.{number_some, refused_number, unless_refused, unless_done, let_pass}

module _ (t f : List ℕ) (cur : Currency) (test : Result ⊤ Refusal) (en : number_of test ≡ refusal_on t f cur) where
  -- a call that reads
  pub checked_refused : (o : Outcome) (why : Refusal) (k : ℕ) (r : Outcome) → test ≡ Err why → k ≡ refusal_number why → r ≡ refusal k cur → r ≡ checked t f cur o
  unfolding checked
  checked_refused o why k r e ek er = rw (refused_number _ test en why e, ne_eqb (refusal_number why) 0 (number_some why), ← ek) er

  pub checked_done : (o r : Outcome) → ((why : Refusal) → test ≡ Err why → ⊥) → r ≡ o → r ≡ checked t f cur o
  unfolding checked
  checked_done o r pass er = rw (let_pass _ test en pass) er

  -- a call that changes bytes
  pub with_refused : (b : List ℕ) (c : Changed) (why : Refusal) (k : ℕ) (r : Outcome) → test ≡ Err why → k ≡ refusal_number why → r ≡ refusal k cur
      → checked_with t f cur b c ≡ (r, b)
  unfolding checked_with
  with_refused b c why k r e ek er = rw (er, ek) (unless_refused _ test en cur b c why e)

  pub with_done : (b : List ℕ) (c : Changed) (r : Outcome) (g : List ℕ) → ((why : Refusal) → test ≡ Err why → ⊥) → c ≡ (r, g) → checked_with t f cur b c ≡ (r, g)
  unfolding checked_with
  with_done b c r g pass ec = unless_done _ test en cur b c r g (let_pass _ test en pass) ec

-- the second and the third of what a call promises
pub the_back : {A B C : Type 0} → A × (B × C) → B
the_back p = p.1.0

pub the_plays : {A B C : Type 0} → A × (B × C) → C
the_plays p = p.1.1

-- FORMAT
module _ (t f : List ℕ) (cur : Currency) (test : Result ⊤ Refusal) (en : number_of test ≡ size_refusal t f) where
  pub format_refused : (why : Refusal) (k : ℕ) (r : Outcome) → test ≡ Err why → k ≡ refusal_number why → r ≡ refusal k cur → format_call t f cur ≡ (r, f)
  unfolding format_call
  format_refused why k r e ek er = rw (er, ek) (unless_refused _ test en cur f _ why e)

  pub format_done : (g : List ℕ) (a : Answer) (c : Currency) (r : Outcome) → ((why : Refusal) → test ≡ Err why → ⊥) → file_made f ≡ g → a ≡ done_with 0 0 0 → c ≡ unset
      → r ≡ outcome a c → format_call t f cur ≡ (r, g)
  unfolding format_call
  format_done g a c r pass eg ea ec er = unless_done _ test en cur f _ r g (let_pass _ test en pass) (rw (eg, er, ea, ec))
