-- From what a public function of `plan` computes, what it promises.
use Prim.Native.Nat.{ℕ}
use mathlib.Core.Path.{◌≡◌, sym, subst}
use mathlib.Core.List.{List}
use Rattle.std.proofs.Common.{Option}
use Rattle.restore_model.specs.Plans.{due_next, marks_on, line_on}
use Rattle.ledger.specs.declared.Due.{Due}
use Rattle.ledger.specs.Journal.Promises.{Marks, Follows, PutsLine}
use Rattle.restore_model.proofs.Marked.{follows}
use Rattle.restore_model.proofs.Marks.{marks}
use Rattle.restore_model.proofs.PutsLine.{puts_line}

pub follows_from : (s : List ℕ) (d r : Option Due) → r ≡ due_next s d → Follows s d r
follows_from s d r e = subst (λ q. Follows s d q) (sym e) (follows s d)

pub marks_told_from : (f g s : List ℕ) (r : Option ℕ) (s' : List ℕ) → marks_on f g s ≡ (r, s') → Marks f g s r s'
marks_told_from f g s r s' e = subst (λ q. Marks f g s q.0 q.1) e (marks f g s)

pub puts_line_from : (f : List ℕ) (d : Option Due) (out : List ℕ) (r : Option ℕ) (out' : List ℕ) → line_on f d out ≡ (r, out') → PutsLine f d out r out'
puts_line_from f d out r out' e = subst (λ q. PutsLine f d out q.0 q.1) e (puts_line f d out)
