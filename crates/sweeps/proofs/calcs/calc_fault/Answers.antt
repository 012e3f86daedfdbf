use Rattle.std.proofs.Common.{refl, arith}
use Rattle.sweeps.proofs.Laws.Faults.{calc_astray, calc_unmet}
use Rattle.sweeps.proofs.calcs.calc_fault.Goals as goal

pub returns-in-Some : goal.returns-in-Some
returns-in-Some c = calc_astray _ _ _ c.word-pages.ensures _ _ c.in-Some.ensures.swept (omega arith) c.in-Some.ensures.within.0 c.in-Some.ensures.within.1

pub returns-in-None : goal.returns-in-None
returns-in-None c = calc_unmet _ _ _ c.word-pages.ensures _ _ c.in-None.ensures.swept _ refl c.unmet.ensures
