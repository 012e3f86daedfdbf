use Rattle.std.proofs.Common.{◌≡◌, ◌-◌}
use Rattle.delete_model.specs.Marks.{marks_size}
use Rattle.delete_model.specs.Closing.{each_from, mark_taken, marks_taken}
use Rattle.deletes.proofs.closing.take_marked.Given as goal

abbrev pub invariant-loop-code : goal.invariant-loop-code
invariant-loop-code l = each_from (λ f c. mark_taken f l.marks c) l.file l.code (marks_size - l.code) ≡ marks_taken l.fn.file l.marks
