-- "An answer has code, reference code, type and count": code 0 where the call is done, else the refusal's number, the rest 0.
use Rattle.std.specs.Prelude.{ℕ, ⊤, Result, Ok, Err}
use Rattle.ledger.specs.declared.Answer.{Answer}
use Rattle.ledger.specs.declared.Currency.{Currency}
use Rattle.ledger.specs.declared.Outcome.{Outcome}
use Rattle.ledger.specs.declared.Refusal.{Refusal}
use Rattle.ledger.specs.declared.Refusal.TheVariants.{BadTable, BadSize, Damaged, BadCurrency, Unknown, NoCurrent, WrongKind, BadLength, NoRecord, Duplicate, NoRoom, ShortOutput}

abbrev pub done_with : ℕ → ℕ → ℕ → Answer
done_with x n count = record { code = 0; reference = x; kind = n; count = count }

abbrev pub refused_with : ℕ → Answer
refused_with n = record { code = n; reference = 0; kind = 0; count = 0 }

-- an answer with the currency after the call: a refusal leaves it as it was
abbrev pub outcome : Answer → Currency → Outcome
outcome a cur = record { answer = a; currency = cur }

abbrev pub refusal : ℕ → Currency → Outcome
refusal n cur = record { answer = refused_with n; currency = cur }

-- the number of each refusal
abbrev pub refusal_number : Refusal → ℕ
refusal_number BadTable = 1
refusal_number BadSize = 2
refusal_number Damaged = 3
refusal_number BadCurrency = 4
refusal_number Unknown = 5
refusal_number NoCurrent = 6
refusal_number WrongKind = 7
refusal_number BadLength = 8
refusal_number NoRecord = 9
refusal_number Duplicate = 10
refusal_number NoRoom = 11
refusal_number ShortOutput = 12

-- what a test of a call comes to, as a number: 0 where nothing is refused
abbrev pub number_of : Result ⊤ Refusal → ℕ
number_of (Ok done) = 0
number_of (Err why) = refusal_number why

-- what a call comes to: its outcome, or a refusal that leaves the currency as it was
abbrev pub outcome_of : Result Outcome Refusal → Currency → Outcome
outcome_of (Ok done) cur = done
outcome_of (Err why) cur = refusal (refusal_number why) cur
