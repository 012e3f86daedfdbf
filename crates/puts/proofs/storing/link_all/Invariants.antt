use Rattle.std.proofs.Common.{◌≡◌, ◌-◌}
use Rattle.act_model.specs.Storing.{place_at, entered_from, entered_all}
use Rattle.puts.proofs.storing.link_all.Given as goal

abbrev pub invariant-loop-j : goal.invariant-loop-j
invariant-loop-j l = entered_from l.table l.file l.kind l.x (place_at l.fn.gaps) l.j (16 - l.j) ≡ entered_all l.table l.fn.file l.kind l.x (place_at l.fn.gaps)
