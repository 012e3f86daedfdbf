use Rattle.std.proofs.Common.{rules, refl, arith, ◌+◌, ◌*◌}
use Rattle.model.proofs.Fills.{fill_is}
use Rattle.restore_model.specs.Walks.{hex_at, image_at}
use Rattle.journal.proofs.Laws.Restored.{made_from}
use Rattle.journal.proofs.back.image_at.Goals as goal

pub returns : goal.returns
unfolding image_at
returns c =
    let j = c.args.journal.now in
    let made = c.from_fn.ensures.items in
    fill_is (λ i. hex_at j (c.args.at + (4 + 2 * i))) c.from_fn.result made.long
    (λ i h. made_from (λ i. hex_at j (c.args.at + (4 + 2 * i))) _ (λ i y q k. search rules) c.from_fn.result 512 0 _ refl made.each i (omega arith) (omega arith))
