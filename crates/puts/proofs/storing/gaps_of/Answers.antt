use Rattle.std.proofs.Common.{rules}
use Rattle.act_model.specs.Storing.{gap_in, places_by}
use Rattle.puts.proofs.Laws.Storing.{made_of}
use Rattle.puts.proofs.storing.gaps_of.Goals as goal

pub returns : goal.returns
unfolding places_by
returns c = made_of (gap_in c.args.table.now c.args.file.now c.args.cur c.args.new.kind c.args.new.«data».now c.args.x) _ (λ x y q k. search rules) _ 16 c.from_fn.ensures.items
