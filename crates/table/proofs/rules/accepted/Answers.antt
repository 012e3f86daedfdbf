use Rattle.std.proofs.Common.{◌≡◌, arith}
use Rattle.std.proofs.lemmas.Grind.{common_steps}
use Rattle.ledger.specs.Rules.{accepts}
use Rattle.ledger.proofs.Ledger.Accepts.{accepts_exactly}
use Rattle.table.proofs.rules.accepted.Goals as goal

pub returns-then-types_right : goal.returns-then-types_right
unfolding accepts
returns-then-types_right c =
    let e : c.chains_right.result ≡ accepts c.args.table.now = grind (arith, common_steps) in
    record { computed = e; exactly = rw e (accepts_exactly _) }

pub returns-else-types_right : goal.returns-else-types_right
unfolding accepts
returns-else-types_right c =
    let e : c.if-counted.value ≡ accepts c.args.table.now = grind (arith, common_steps) in
    record { computed = e; exactly = rw e (accepts_exactly _) }
