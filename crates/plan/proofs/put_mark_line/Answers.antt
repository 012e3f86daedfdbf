use borrow.Author.Tests.{lt-ltb, le-ltb}
use Rattle.plan.proofs.put_mark_line.Goals as goal

pub returns-then-out : goal.returns-then-out
returns-then-out c = rw (lt-ltb _ _ c.if-out.true)

pub returns : goal.returns
returns c = rw (le-ltb _ _ c.if-out.false, c.put_mark.ensures)
