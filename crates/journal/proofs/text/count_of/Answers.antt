use Rattle.std.proofs.Common.{rules, sym, ◌≡◌, ◌∙◌, ◌+◌, length}
use Rattle.std.proofs.lemmas.Iterator.{YieldsList-from_range}
use Rattle.std.proofs.lemmas.Iterator.Consumers.{YieldsList-from_filter, count_from_yields_List}
use Rattle.std.specs.List.{filter, range_with_len}
use native.Mathlib.Nat.{sub-zero, zero-add}
use Rattle.restore_model.specs.Texts.{apart, count_of}
use Rattle.journal.proofs.Laws.Written.{count_filtered}
use Rattle.journal.proofs.text.count_of.Goals as goal

pub returns : goal.returns
unfolding count_of
returns c =
    let test = λ (i : _). apart c.args.before.now c.args.after.now (i + 1) in
    let counted : c.count.result ≡ length (filter test (range_with_len 0 c.args.n))
    = count_from_yields_List _ _ c.count.ensures.ran (YieldsList-from_filter _ test (YieldsList-from_range 0 c.args.n c.args.n (search rules) (sub-zero c.args.n)) c.filter.ensures.closure (λ x b q k. search rules)) in
    counted ∙ sym (zero-add _) ∙ count_filtered _ _ c.args.n 0 0
