use Rattle.std.proofs.Common.{rules, refl}
use Rattle.std.proofs.lemmas.Option.{MatchOption-at_some, MatchOption-at_none}
use Rattle.ledger.proofs.Lists.Nones.{none_is}
use Rattle.twins.proofs.Laws.Twins.{looking_next, looking_end}
use Rattle.twins.proofs.twins.lowest_twin.Goals as goal

pub loop-pair-init : goal.loop-pair-init
loop-pair-init c = (search rules, (0, none_is refl, search rules))

pub loop-pair-preserved : goal.loop-pair-preserved
loop-pair-preserved c =
    let (two, looking) = c.loop-pair.invariant in
    let (h, w, k, n) = MatchOption-at_some _ _ _ c.in-Some.is c.next.ensures.steps.1 in
    (search rules, looking_next _ _ _ _ _ _ _ _ looking (search rules) (rw two at w) k c.lower_twin-lowest.ensures)

pub returns : goal.returns
returns c =
    let (two, looking) = c.loop-pair.invariant in
    let (h, e) = MatchOption-at_none _ _ c.in-None.is c.next.ensures.steps.1 in
    looking_end _ _ _ _ _ looking (rw two at h)
