use Rattle.std.proofs.Common.{rules, ◌≤◌, length}
use Rattle.frames.proofs.Laws.Prints.{bytes_end, bytes_next, bytes_done, shown_short}
use Rattle.frames.proofs.text.put_bytes.Goals as goal

pub overflow_add-start : goal.overflow_add-start
overflow_add-start c = let h : length c.part_of-shown.result.now ≤ 200 = shown_short _ _ c.part_of-shown.ensures in search rules

pub loop-i-preserved : goal.loop-i-preserved
loop-i-preserved c = bytes_next _ _ _ _ _ c.loop-i.invariant _ c.loop-i-test.true c.put_hex.ensures

pub overflow_add-result : goal.overflow_add-result
overflow_add-result c = let h : length c.part_of-shown.result.now ≤ 200 = shown_short _ _ c.part_of-shown.ensures in search rules

pub returns : goal.returns
returns c = bytes_done _ _ _ _ _ c.part_of-shown.ensures (bytes_end _ _ _ _ _ c.loop-i.invariant c.loop-i-test.false)
