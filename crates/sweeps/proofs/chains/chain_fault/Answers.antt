use Rattle.std.proofs.Common.{refl}
use Rattle.sweeps.proofs.Laws.Faults.{chain_astray, chain_unmet}
use Rattle.sweeps.proofs.chains.chain_fault.Goals as goal

pub returns-in-Some : goal.returns-in-Some
returns-in-Some c = chain_astray _ _ _ c.word-pages.ensures _ _ _ _ c.ends_of.ensures c.in-Some.ensures.swept c.in-Some.ensures.within.0

pub returns-in-None : goal.returns-in-None
returns-in-None c = chain_unmet _ _ _ c.word-pages.ensures _ _ _ _ c.ends_of.ensures c.in-None.ensures.swept _ refl c.unmet.ensures
