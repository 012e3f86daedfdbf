use Rattle.std.proofs.Common.{rules}
use Rattle.delete_model.specs.Entries.{backed_in}
use Rattle.doomed.proofs.Laws.Arrays.{from_fn_by_index}
use Rattle.doomed.proofs.entries.chains_backed.Goals as goal

pub returns : goal.returns
returns c = from_fn_by_index (λ j y. backed_in c.args.table.now c.args.file.now c.args.marks.now j y) _ _ _ c.from_fn.ensures.items (search rules) (λ x y q h k. search rules)
