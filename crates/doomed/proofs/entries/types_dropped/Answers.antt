use Rattle.std.proofs.Common.{rules}
use Rattle.delete_model.specs.Entries.{dropped_in}
use Rattle.doomed.proofs.Laws.Arrays.{map_by_index}
use Rattle.doomed.proofs.entries.types_dropped.Goals as goal

pub returns : goal.returns
returns c = map_by_index (dropped_in c.args.marks.now) _ _ _ (λ x y q k. search rules) c.map.ensures.items (search rules)
