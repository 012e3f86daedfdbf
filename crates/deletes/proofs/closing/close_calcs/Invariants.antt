use Rattle.std.proofs.Common.{◌≡◌, ◌-◌, ◌+◌}
use Rattle.ledger.specs.Table.{pages}
use Rattle.delete_model.specs.Closing.{each_from, calc_closed, calcs_closed}
use Rattle.deletes.proofs.closing.close_calcs.Given as goal

abbrev pub invariant-loop-p : goal.invariant-loop-p
invariant-loop-p l = each_from (λ f p. calc_closed l.table f l.marks p) l.file l.p (pages l.table + 1 - l.p) ≡ calcs_closed l.table l.fn.file l.marks
