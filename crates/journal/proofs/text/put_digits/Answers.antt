use Rattle.std.proofs.Common.{rules, arith}
use Rattle.journal.proofs.Laws.Written.{digits_end, digits_full, digits_next}
use Rattle.journal.proofs.text.put_digits.Goals as goal

pub returns-then-saturating_sub-lt2 : goal.returns-then-saturating_sub-lt2
returns-then-saturating_sub-lt2 c = digits_full _ _ _ _ _ c.loop-byte.invariant c.loop-byte-test.true (omega arith)

pub loop-byte-preserved : goal.loop-byte-preserved
loop-byte-preserved c = digits_next _ _ _ _ _ c.loop-byte.invariant c.loop-byte-test.true _ _ (search rules) (omega arith) c.put_hex.ensures

pub returns : goal.returns
returns c = digits_end _ _ _ _ _ c.loop-byte.invariant c.loop-byte-test.false
