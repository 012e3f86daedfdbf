use Rattle.std.proofs.Common.{rules, ◌≡◌, refl, ◌∙◌, ◌+◌, ◌-◌, length, get_or}
use Rattle.std.proofs.lemmas.Iterator.{YieldsList-from_range}
use Rattle.std.proofs.lemmas.Iterator.Search.{find_from_yields_List}
use Rattle.std.specs.List.{find, range_with_len}
use Rattle.std.specs.Option.{option_map}
use lib.Dec.{eqb}
use Rattle.restore_model.specs.Plans.{marked_after}
use Rattle.plan.proofs.Laws.Planned.{found_from, plain}
use Rattle.plan.proofs.marked_after.Goals as goal

pub returns : goal.returns
unfolding marked_after
returns c =
    let s = c.args.marks.now in
    let found : c.find.result ≡ find (λ i. eqb (get_or s i 0) 1) (range_with_len c.args.after (length s - c.args.after))
    = plain _ (find_from_yields_List (λ i. eqb (get_or s i 0) 1) _ _ _ c.find.ensures.ran (YieldsList-from_range _ _ _ refl refl) (λ x b q k. search rules)) in
    let mapped : c.map.result ≡ option_map (λ i. i + 1) c.find.result = search rules in
    mapped ∙ rw found (found_from s _ _ refl)
