use Rattle.std.proofs.Common.{rules}
use Rattle.ledger.proofs.Lists.Arrays.{from_fn_at}
use Rattle.model.specs.Moves.{fill, closed_byte}
use Rattle.records.proofs.Laws.Moves.{fill_made}
use Rattle.records.proofs.moves.closed_page.Goals as goal

pub returns : goal.returns
unfolding fill
returns c = fill_made _ 512 _ c.from_fn.ensures.items.long (λ k low. from_fn_at (closed_byte c.args.page.now c.args.at c.args.n) (λ x y q h. search rules) _ _ k c.from_fn.ensures.items low)
