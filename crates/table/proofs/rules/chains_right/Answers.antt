use Rattle.std.proofs.Common.{refl, arith, rules}
use Rattle.ledger.specs.Rules.{chain_right}
use Rattle.ledger.proofs.Lists.Ranges.{all_from_range}
use Rattle.table.proofs.rules.chains_right.Goals as goal

pub returns : goal.returns
returns c = rw (← c.word.ensures) (all_from_range (chain_right c.args.table.now) _ _ _ _ _ refl (omega arith) c.all.ensures.ran (λ x b q k. search rules))
