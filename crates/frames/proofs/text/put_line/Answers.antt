use Rattle.std.proofs.Common.{rules, ◌≤◌, ◌+◌}
use Rattle.frames.proofs.Laws.Prints.{bytes_near, line_done}
use Rattle.frames.proofs.text.put_line.Goals as goal

pub overflow_add-result : goal.overflow_add-result
overflow_add-result c = let h : c.put_bytes-end.result ≤ 16 + 400 = bytes_near _ _ _ _ _ c.put_bytes-end.ensures in search rules

pub returns : goal.returns
returns c = line_done _ _ _ _ _ _ _ _ _ c.head_of-head.ensures c.put_bytes.ensures c.put_bytes-end.ensures c.put_byte.ensures
