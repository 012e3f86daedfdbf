-- The audit: the first fault of a file, phase by phase, and where it is.
use Rattle.std.specs.Prelude.{ℕ, ⊤, Result, Ok, Err, cond, List, eqb}
use Rattle.model.specs.declared.Fault.{Fault}
use Rattle.model.specs.declared.Fault.TheVariants.{Page, Ring, Order}
use Rattle.audit_model.specs.Scan.{scan}
use Rattle.audit_model.specs.Calcs.{calc_fault_in}
use Rattle.audit_model.specs.Chains.{ring_fault_in}
use Rattle.audit_model.specs.Twins.{twin_fault}
use Rattle.audit_model.specs.Orders.{order_fault_in}

-- the first of two places that is not 0
unfoldable pub first_place : ℕ → ℕ → ℕ
first_place a b = cond (eqb a 0) b a

unfoldable pub ring_place : List ℕ → List ℕ → ℕ
ring_place t f = first_place (calc_fault_in t f) (ring_fault_in t f)

unfoldable pub order_place : List ℕ → List ℕ → ℕ
order_place t f = first_place (twin_fault t f) (order_fault_in t f)

-- no fault, or the first
unfoldable pub audit_on : List ℕ → List ℕ → Result ⊤ Fault
audit_on t f =
    cond (eqb (scan t f) 0)
    (cond (eqb (ring_place t f) 0) (cond (eqb (order_place t f) 0) (Ok tt) (Err (Order (order_place t f)))) (Err (Ring (ring_place t f))))
    (Err (Page (scan t f)))

-- the number of the audit's refusal: 3 for each fault, 0 for none
abbrev pub fault_number : Result ⊤ Fault → ℕ
fault_number (Ok sound) = 0
fault_number (Err fault) = 3
