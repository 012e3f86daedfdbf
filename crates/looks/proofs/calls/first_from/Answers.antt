use Rattle.std.proofs.Common.{refl, arith, rules}
use Rattle.std.proofs.lemmas.Grind.{common_steps}
use Rattle.ledger.proofs.Lists.Ranges.{first_from_range}
use Rattle.look_model.specs.Looks.{there_in}
use Rattle.looks.proofs.Laws.Calls.{first_in_from}
use Rattle.looks.proofs.calls.first_from.Goals as goal

pub returns : goal.returns
returns c =
    rw (first_in_from c.args.file.now c.args.first c.args.last c.max.result (grind (arith, common_steps)) (grind (arith, common_steps)))
    (first_from_range (there_in c.args.file.now c.args.first c.args.last) _ c.max.result 8320 _ c.find.result (grind (arith, common_steps)) refl refl c.find.ensures.ran (λ x q k. search rules))
