use Rattle.sweeps.proofs.Laws.Marks.{fault_none, fault_here, fault_next}
use Rattle.sweeps.proofs.Laws.Faults.{ring_first}
use Rattle.sweeps.proofs.chains.first_fault.Goals as goal

pub loop-j-init : goal.loop-j-init
loop-j-init c = ring_first _ _ _ c.word-chains.ensures

pub returns-in-Some : goal.returns-in-Some
returns-in-Some c = fault_here _ _ _ _ c.loop-j.invariant c.loop-j-test.true _ c.chain_fault.ensures _ c.in-Some.is

pub loop-j-preserved : goal.loop-j-preserved
loop-j-preserved c = fault_next _ _ _ _ c.loop-j.invariant c.loop-j-test.true _ c.chain_fault.ensures c.in_default.is

pub returns : goal.returns
returns c = fault_none _ _ _ _ c.loop-j.invariant c.loop-j-test.false
