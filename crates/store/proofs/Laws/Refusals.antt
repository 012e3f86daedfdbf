-- A refusal's number is not 0, and what a call comes to by a test's number.
use Rattle.std.proofs.Common.{◌≡◌, ℕ, refl, arith, List, Result, Ok, Err, ne_eqb}
use Rattle.std.specs.Bool.{⊤}
use Rattle.ledger.specs.declared.Currency.{Currency}
use Rattle.ledger.specs.declared.Outcome.{Outcome}
use Rattle.ledger.specs.declared.Refusal.{Refusal}
use Rattle.ledger.specs.declared.Refusal.TheVariants.{BadTable, BadSize, Damaged, BadCurrency, Unknown, NoCurrent, WrongKind, BadLength, NoRecord, Duplicate, NoRoom, ShortOutput}
use Rattle.ledger.specs.Answers.{refusal, refusal_number, number_of}
use Rattle.store_model.specs.Changes.{Changed, changed_unless}

pub number_some : (why : Refusal) → refusal_number why ≡ 0 → ⊥
number_some BadTable e = omega arith
number_some BadSize e = omega arith
number_some Damaged e = omega arith
number_some BadCurrency e = omega arith
number_some Unknown e = omega arith
number_some NoCurrent e = omega arith
number_some WrongKind e = omega arith
number_some BadLength e = omega arith
number_some NoRecord e = omega arith
number_some Duplicate e = omega arith
number_some NoRoom e = omega arith
number_some ShortOutput e = omega arith

-- a test of a call, whose number is n
module _ (n : ℕ) (test : Result ⊤ Refusal) (en : number_of test ≡ n) where
  pub refused_number : (why : Refusal) → test ≡ Err why → n ≡ refusal_number why
  refused_number why e = rw (← en, e)

  pub let_number : (x : ⊤) → test ≡ Ok x → n ≡ 0
  let_number x e = rw (← en, e)

  module _ (cur : Currency) (b : List ℕ) (c : Changed) where
    pub unless_refused : (why : Refusal) → test ≡ Err why → changed_unless n cur b c ≡ (refusal (refusal_number why) cur, b)
    unfolding changed_unless
    unless_refused why e = rw (refused_number why e, ne_eqb (refusal_number why) 0 (number_some why))

    pub unless_done : (r : Outcome) (g : List ℕ) → n ≡ 0 → c ≡ (r, g) → changed_unless n cur b c ≡ (r, g)
    unfolding changed_unless
    unless_done r g z ec = rw z ec

pub let_pass : (n : ℕ) (test : Result ⊤ Refusal) → number_of test ≡ n → ((why : Refusal) → test ≡ Err why → ⊥) → n ≡ 0
let_pass n (Ok x) en pass = rw (← en) refl
let_pass n (Err why) en pass = absurd (pass why refl)
