use Rattle.std.proofs.Common.{◌≡◌, ◌-◌}
use Rattle.ledger.specs.Numbers.{run}
use Rattle.audit_model.specs.Marks.{first_fault}
use Rattle.audit_model.specs.Chains.{chain_fault_in, ring_fault_in}
use Rattle.sweeps.proofs.chains.first_fault.Given as goal

-- the chains before have no fault
abbrev pub invariant-loop-j : goal.invariant-loop-j
invariant-loop-j l = first_fault (chain_fault_in l.table l.file) (run l.j (l.chains - l.j)) ≡ ring_fault_in l.table l.file
