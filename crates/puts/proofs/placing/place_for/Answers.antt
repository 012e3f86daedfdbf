use Rattle.std.proofs.Common.{rules, ◌∙◌}
use Rattle.puts.proofs.Laws.Placing.{place_found}
use Rattle.puts.proofs.placing.place_for.Goals as goal

pub returns : goal.returns
returns c = place_found _ _ _ _ _ _ _ _ _ _ _ (c.from-low.ensures ∙ c.kind_word.ensures) (c.from-high.ensures ∙ c.kind_word-2.ensures) c.record_size-size.ensures c.base_page-base.ensures c.first_taking.ensures c.or_else.ensures (λ k. search rules)
