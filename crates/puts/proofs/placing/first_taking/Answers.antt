use Rattle.std.proofs.Common.{rules, refl}
use Rattle.act_model.specs.Placing.{takes_in}
use Rattle.puts.proofs.Laws.Placing.{find_from_range}
use Rattle.puts.proofs.placing.first_taking.Goals as goal

pub returns : goal.returns
returns c = find_from_range (takes_in c.args.file.now c.args.size) _ _ _ _ _ refl refl c.find.ensures.ran (λ x b q k. search rules)
