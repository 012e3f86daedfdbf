use Rattle.std.proofs.Common.{rules, ◌≡◌, ◌∙◌}
use borrow.Author.Tests.{tests}
use lib.Dec.{eqb}
use Rattle.std.specs.List.{list_all}
use Rattle.std.proofs.lemmas.Iterator.{YieldsList-from_slice}
use Rattle.std.proofs.lemmas.Iterator.Search.{all_from_yields_List}
use Rattle.scan.proofs.Laws.Pages.{zeros_listed}
use Rattle.scan.proofs.pages.zeros_from.Goals as goal

pub returns : goal.returns
returns c =
    let e : c.all.result ≡ list_all (λ b. eqb b 0) c.part_of.result.now = all_from_yields_List (λ b. eqb b 0) _ _ _ c.all.ensures.ran (YieldsList-from_slice c.part_of.result.now cc) (λ x b q k. search (rules, tests)) in
    (rw c.part_of.ensures at e) ∙ zeros_listed c.args.page.now c.args.n c.args.at
