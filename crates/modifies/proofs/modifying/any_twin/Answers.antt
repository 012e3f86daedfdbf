use Rattle.std.proofs.Common.{rules, arith, refl, ◌&&◌}
use Rattle.ledger.specs.Table.{is_detail, sort_key}
use Rattle.ring_model.specs.Rings.{master_in, key_twin_in}
use Rattle.act_model.specs.Modifying.{modify_twin}
use Rattle.ledger.proofs.Lists.Ranges.{any_from_range}
use Rattle.puts.proofs.Laws.Details.{any_detail}
use Rattle.modifies.proofs.modifying.any_twin.Goals as goal

pub returns : goal.returns
unfolding modify_twin
returns c = any_detail _ _ _ _ _ c.word.ensures (any_from_range (λ j. is_detail c.args.table.now j c.args.new.kind && key_twin_in c.args.table.now c.args.file.now j (master_in c.args.table.now c.args.file.now j c.args.x) (sort_key c.args.table.now j c.args.new.kind c.args.new.«data».now) c.args.x) _ _ _ _ _ refl (omega arith) c.any.ensures.ran (λ x b q k. search rules))
