use Rattle.std.proofs.Common.{rules}
use Rattle.twins.proofs.Laws.Twins.{twin_none, twin_some}
use Rattle.twins.proofs.twins.lower_twin.Goals as goal

pub returns-then-not-are_twins : goal.returns-then-not-are_twins
returns-then-not-are_twins c n e = let k = twin_none _ _ n _ _ _ c.are_twins.ensures (search rules) in search rules

pub returns : goal.returns
returns c n e = twin_some _ _ _ _ _ _ c.are_twins.ensures _ _ _ _ (search rules) c.code_from.ensures (c.lower-first.ensures n e) c.code_from-2.ensures (c.lower.ensures _)
