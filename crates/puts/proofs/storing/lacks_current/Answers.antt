use Rattle.std.proofs.Common.{rules, arith, refl, eqb, ◌&&◌}
use Rattle.ledger.specs.Table.{is_detail}
use Rattle.ledger.specs.Currency.{chain_current}
use Rattle.act_model.specs.Storing.{lacks_current}
use Rattle.ledger.proofs.Lists.Ranges.{any_from_range}
use Rattle.puts.proofs.Laws.Details.{any_detail}
use Rattle.puts.proofs.storing.lacks_current.Goals as goal

pub returns : goal.returns
unfolding lacks_current
returns c = any_detail _ _ _ _ _ c.word.ensures (any_from_range (λ j. is_detail c.args.table.now j c.args.kind && eqb (chain_current c.args.cur j) 0) _ _ _ _ _ refl (omega arith) c.any.ensures.ran (λ x b q k. search rules))
