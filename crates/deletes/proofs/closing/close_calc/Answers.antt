use Rattle.std.proofs.Common.{◌≡◌, ◌%◌, arith}
use Rattle.delete_model.specs.Closing.{calc_closed}
use Rattle.deletes.proofs.closing.close_calc.Goals as goal

pub returns : goal.returns
unfolding calc_closed
returns c = let e : c.args.p % 65536 ≡ c.args.p = omega (arith, c.ranges.p) in rw (e, ← c.head_next-first.ensures) c.close.ensures
