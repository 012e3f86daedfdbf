-- Refusals 1 to 4 on any bytes `f`.
use Rattle.std.specs.Prelude.{ℕ, ◌*◌, cond, List, length, eqb}
use Rattle.ledger.specs.declared.Currency.{Currency}
use Rattle.ledger.specs.Table.{pages}
use Rattle.ledger.specs.Rules.{accepts}
use Rattle.audit_model.specs.Faults.{first_place, audit_on, fault_number}
use Rattle.look_model.specs.Currencies.{in_force_on}

-- 1 and 2, or 0: all that FORMAT asks
unfoldable pub size_refusal : List ℕ → List ℕ → ℕ
size_refusal t f = cond (accepts t) (cond (eqb (length f) (512 * pages t)) 0 2) 1

-- the refusal of the audit's first fault, or 0
unfoldable pub audit_refusal : List ℕ → List ℕ → ℕ
audit_refusal t f = fault_number (audit_on t f)

unfoldable pub currency_refusal : List ℕ → List ℕ → Currency → ℕ
currency_refusal t f cur = cond (in_force_on t f cur) 0 4

-- the first of 1 to 4 that is due, or 0
unfoldable pub refusal_on : List ℕ → List ℕ → Currency → ℕ
refusal_on t f cur = first_place (size_refusal t f) (first_place (audit_refusal t f) (currency_refusal t f cur))
