use Rattle.page.proofs.Laws.Lookup.{place_off, place_none, place_some}
use Rattle.page.proofs.lookup.find.Goals as goal

pub returns-in_err-start : goal.returns-in_err-start
returns-in_err-start c = rw c.from_residual.ensures (place_off _ _ (rw (c.in_err-start.was {u = tt}) at c.start_of.ensures))

pub returns-in_err-at : goal.returns-in_err-at
returns-in_err-at c =
    let page = rw (c.in_ok-start.was {u = tt}) at c.start_of.ensures in
    rw c.from_residual-in_err-at.ensures (place_none _ _ _ _ page.0 page.1 page.2 c.find_line.ensures (c.in_err-at.was {u = tt}))

pub returns : goal.returns
returns c =
    let page = rw (c.in_ok-start.was {u = tt}) at c.start_of.ensures in
    place_some _ _ _ _ page.0 page.1 page.2 c.find_line.ensures _ (c.in_ok-at.was {u = tt})
