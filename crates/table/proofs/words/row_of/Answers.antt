use Rattle.std.proofs.Common.{refl, ◌∙◌, ap, eqb, arith, rules}
use Rattle.std.specs.Prelude.{unwrap_or}
use Rattle.ledger.specs.Table.{number}
use Rattle.ledger.proofs.Lists.Ranges.{find_from_range}
use Rattle.table.proofs.Laws.Words.{find-row}
use Rattle.table.proofs.words.row_of.Goals as goal

pub returns : goal.returns
returns c =
    let found = find_from_range (λ i. eqb (number c.args.table.now i) c.args.number) _ 0 c.word-types.result c.word-types.result _ refl (omega arith) c.find.ensures.ran (λ x b q k. search rules) in
    c.unwrap_or.ensures ∙ ap (λ o. unwrap_or o c.word-types.result) found ∙ (rw c.word-types.ensures (find-row _ _ _ _ _ (omega arith)))
