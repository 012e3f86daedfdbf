-- Refusals 1 to 4.
use Rattle.std.proofs.Common.{◌≡◌, ℕ, ◌*◌, Bool, true, false, List, length, Result, Ok, Err, eq-eqb, ne_eqb}
use Rattle.std.specs.Bool.{⊤}
use Rattle.ledger.specs.declared.Currency.{Currency}
use Rattle.ledger.specs.declared.Refusal.{Refusal}
use Rattle.ledger.specs.Answers.{refusal_number, number_of}
use Rattle.ledger.specs.Table.{pages}
use Rattle.ledger.specs.Rules.{accepts}
use Rattle.model.specs.declared.Fault.{Fault}
use Rattle.audit_model.specs.Faults.{first_place, audit_on}
use Rattle.look_model.specs.Currencies.{in_force_on}
use Rattle.store_model.specs.Checks.{size_refusal, audit_refusal, currency_refusal, refusal_on}
use Rattle.store.proofs.Laws.Refusals.{number_some, refused_number}

module _ (t f : List ℕ) (a : Bool) (ea : a ≡ accepts t) where
  pub size_table : a ≡ false → 1 ≡ size_refusal t f
  unfolding size_refusal
  size_table e = rw (← ea, e)

  module _ (e : a ≡ true) (n : ℕ) (en : n ≡ pages t) where
    pub size_file : (length f ≡ 512 * n → ⊥) → 2 ≡ size_refusal t f
    unfolding size_refusal
    size_file ne = rw (← ea, e, ← en, ne_eqb (length f) (512 * n) ne)

    pub size_right : length f ≡ 512 * n → 0 ≡ size_refusal t f
    unfolding size_refusal
    size_right h = rw (← ea, e, ← en, eq-eqb (length f) (512 * n) h)

module _ (t f : List ℕ) (cur : Currency) (size : Result ⊤ Refusal) (es : number_of size ≡ size_refusal t f) where
  pub refused_size : (why : Refusal) → size ≡ Err why → refusal_number why ≡ refusal_on t f cur
  unfolding refusal_on first_place
  refused_size why e = rw (refused_number _ size es why e, ne_eqb (refusal_number why) 0 (number_some why))

  module _ (sized : size_refusal t f ≡ 0) (audit : Result ⊤ Fault) (ea : audit ≡ audit_on t f) where
    pub refused_file : (fault : Fault) → audit ≡ Err fault → 3 ≡ refusal_on t f cur
    unfolding refusal_on first_place audit_refusal
    refused_file fault e = rw (sized, ← ea, e)

    module _ (y : ⊤) (sound : audit ≡ Ok y) (b : Bool) (eb : b ≡ in_force_on t f cur) where
      pub refused_currency : b ≡ false → 4 ≡ refusal_on t f cur
      unfolding refusal_on first_place audit_refusal currency_refusal
      refused_currency e = rw (sized, ← ea, sound, ← eb, e)

      pub let_through : b ≡ true → 0 ≡ refusal_on t f cur
      unfolding refusal_on first_place audit_refusal currency_refusal
      let_through e = rw (sized, ← ea, sound, ← eb, e)
