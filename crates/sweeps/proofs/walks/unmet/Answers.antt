use Rattle.std.proofs.Common.{rules, refl, arith}
use Rattle.ledger.proofs.Lists.Ranges.{first_from_range}
use Rattle.sweeps.proofs.walks.unmet.Goals as goal

pub returns : goal.returns
returns g c = first_from_range (g.R.Rings.unmet c.args.rings.now c.args.marks.now) _ _ _ _ _ (omega arith) refl (omega arith) c.find.ensures.ran (λ x b q k. search rules)
