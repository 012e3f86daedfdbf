use Rattle.std.proofs.Common.{◌≡◌, ◌+◌, ◌*◌, ◌%◌, ◌∙◌, rules, fold}
use Rattle.table.proofs.Laws.Keys.{fold-hash}
use Rattle.table.proofs.keys.randomize.Goals as goal

pub returns : goal.returns
returns c =
    let e : c.fold.result ≡ fold (λ h b. (2 * h + b) % 65536) 0 c.args.key.now = search rules in
    e ∙ fold-hash _ _
