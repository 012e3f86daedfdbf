use Rattle.doomed.proofs.Laws.Marks.{next_past, next_chain, next_null, next_in_ring}
use Rattle.doomed.proofs.marks.next_below.Goals as goal

pub returns-then-chain-ge-CHAINS : goal.returns-then-chain-ge-CHAINS
returns-then-chain-ge-CHAINS c = next_past _ _ _ _ _ _ c.next_at-next.ensures c.if-next-code.true c.if-chain-ge-CHAINS.true

pub returns-then-next-code : goal.returns-then-next-code
returns-then-next-code c = next_chain _ _ _ _ _ _ c.next_at-next.ensures c.if-next-code.true _ c.if-chain-ge-CHAINS.false c.first_below.ensures

pub returns-then-next-eq0 : goal.returns-then-next-eq0
returns-then-next-eq0 c = next_null _ _ _ _ _ _ c.next_at-next.ensures c.if-next-code.false c.if-next-eq0.true

pub returns : goal.returns
returns c = next_in_ring _ _ _ _ _ _ c.next_at-next.ensures c.if-next-code.false c.if-next-eq0.false
