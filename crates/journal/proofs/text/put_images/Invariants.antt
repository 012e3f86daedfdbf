use Rattle.std.proofs.Common.{◌≡◌, ◌+◌, ◌-◌, ◌*◌, ◌≤◌}
use Rattle.restore_model.specs.Texts.{images_from}
use Rattle.journal.proofs.text.put_images.Given as goal

abbrev pub invariant-loop-i : goal.invariant-loop-i
invariant-loop-i l = record { few : l.at ≤ 65535 * l.i; whole : images_from l.out l.at l.before l.after (l.i + 1) (l.n - l.i) ≡ images_from l.fn.out 0 l.before l.after 1 l.n }
