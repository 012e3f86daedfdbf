use Rattle.std.proofs.Common.{sym}
use lib.Seq.{length-take-le}
use Rattle.twins.proofs.Laws.Twins.{gathered_count, among_is}
use Rattle.twins.proofs.twins.twin_among.Goals as goal

pub slice_bounds-gathered-end : goal.slice_bounds-gathered-end
slice_bounds-gathered-end c = gathered_count _ _ _ c.args.scratch.now _ _ c.gather-n.ensures

pub slice_bounds-gathered-end-2 : goal.slice_bounds-gathered-end-2
slice_bounds-gathered-end-2 c = sym (length-take-le _ _ (gathered_count _ _ _ c.args.scratch.now _ _ c.gather-n.ensures))

pub returns : goal.returns
returns c = among_is _ _ _ _ _ _ c.gather-n.ensures _ _ c.sort.ensures c.lowest_twin.ensures
