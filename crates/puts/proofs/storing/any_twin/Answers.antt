use Rattle.std.proofs.Common.{rules, arith, refl, ◌&&◌}
use Rattle.ledger.specs.Table.{is_detail, sort_key}
use Rattle.ring_model.specs.Rings.{key_twin_in}
use Rattle.act_model.specs.Placing.{occurrence_in}
use Rattle.act_model.specs.Storing.{store_twin}
use Rattle.ledger.proofs.Lists.Ranges.{any_from_range}
use Rattle.puts.proofs.Laws.Details.{any_detail}
use Rattle.puts.proofs.storing.any_twin.Goals as goal

pub returns : goal.returns
unfolding store_twin
returns c = any_detail _ _ _ _ _ c.word.ensures (any_from_range (λ j. is_detail c.args.table.now j c.args.new.kind && key_twin_in c.args.table.now c.args.file.now j (occurrence_in c.args.table.now c.args.file.now c.args.cur j) (sort_key c.args.table.now j c.args.new.kind c.args.new.«data».now) 0) _ _ _ _ _ refl (omega arith) c.any.ensures.ran (λ x b q k. search rules))
