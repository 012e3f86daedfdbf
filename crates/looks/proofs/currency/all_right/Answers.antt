use Rattle.std.proofs.Common.{refl, rules, get_or}
use Rattle.ledger.proofs.Lists.Ranges.{all_from_range}
use Rattle.look_model.specs.Currencies.{right_in, all_right}
use Rattle.looks.proofs.Laws.Currency.{right_as_all}
use Rattle.looks.proofs.currency.all_right.Goals as goal

pub returns : goal.returns
unfolding all_right
returns g c =
    let right = right_in c.args.file.now (g.R.Rows.used c.args.rows.now) (g.R.Rows.suits c.args.rows.now) in
    rw (← right_as_all right c.args.entries 0 16)
    (all_from_range (λ k. right k (get_or c.args.entries k 0)) _ 0 16 16 c.all.result refl refl c.all.ensures.ran (λ x b q k. search rules))
