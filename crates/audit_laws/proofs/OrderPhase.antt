-- The order phase of the audit: no fault exactly where the image's ledger is ordered.
use Prim.Native.Nat.{ℕ, ◌<◌}
use mathlib.Core.Path.{◌≡◌}
use mathlib.Core.Logic.{◌↔◌}
use mathlib.Core.List.{List}
use Rattle.ledger.specs.Table.{chains, Accepted}
use Rattle.ledger.specs.Image.{ledger_of, Imaged}
use Rattle.ledger.specs.Audit.{Ringed, Ordered}
use Rattle.audit_model.specs.Faults.{order_place}
use Rattle.audit_laws.proofs.Firsts.{first_place_lem}
use Rattle.audit_laws.proofs.Orders.{order_fault_exactly}
use Rattle.audit_laws.proofs.Twins.{twin_fault_exactly}

module _ (t f : List ℕ) (r : ℕ → List ℕ) (h : ℕ → ℕ) (a : Accepted t) (i : Imaged t f r h) where
  pub order_phase_exactly : ((j : ℕ) → j < chains t → Ringed t r j) → (order_place t f ≡ 0) ↔ Ordered t (ledger_of t r h)
  unfolding order_place
  order_phase_exactly s =
      let orders = order_fault_exactly t f r h a i s in
      let twins = twin_fault_exactly t f r h a i in (
        λ z. let (p, q) = (first_place_lem _ _).0 z in let (o, n) = orders.0 q in record { in_order = o; no_twins = n; no_calc_twins = twins.0 p },
        λ o. (first_place_lem _ _).1 (twins.1 o.no_calc_twins, orders.1 (o.in_order, o.no_twins)),
      )
