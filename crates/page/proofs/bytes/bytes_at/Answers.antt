use Rattle.std.proofs.Common.{◌∙◌, get_or, rules}
use lib.Seq.{get_or-drop}
use Rattle.ledger.proofs.Lists.Arrays.{from_fn_at}
use Rattle.page.proofs.bytes.bytes_at.Goals as goal

pub returns : goal.returns
returns g c = λ k low. from_fn_at (λ i. get_or c.rest_of-rest.result.now i 0) (λ x y q k. search rules) _ _ k c.from_fn.ensures.items low ∙ rw c.rest_of-rest.ensures (get_or-drop _ _ k 0)
