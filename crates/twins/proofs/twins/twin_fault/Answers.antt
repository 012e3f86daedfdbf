use Rattle.std.proofs.Common.{rules}
use Rattle.audit_model.specs.Twins.{twin_fault}
use Rattle.twins.proofs.twins.twin_fault.Goals as goal

pub returns : goal.returns
unfolding twin_fault
returns c = search rules
