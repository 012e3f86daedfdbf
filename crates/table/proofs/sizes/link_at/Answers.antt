use Rattle.std.proofs.Common.{arith}
use Rattle.table.proofs.Laws.Sizes.{link_first, link_next, link_end}
use Rattle.table.proofs.sizes.link_at.Goals as goal

pub loop-k-init : goal.loop-k-init
loop-k-init c = (omega arith, link_first _ _ _ _ _ c.kind_word-data_length.ensures c.calc_bytes.ensures)

pub loop-k-preserved : goal.loop-k-preserved
loop-k-preserved c = (omega arith, link_next _ _ _ _ _ _ _ c.loop-k.invariant.1 c.loop-k-test.true c.link_bytes.ensures)

pub returns : goal.returns
returns c = link_end _ _ _ _ _ _ c.loop-k.invariant.1 (omega arith)
