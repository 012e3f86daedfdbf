use Rattle.std.proofs.Common.{◌∙◌}
use Rattle.change.proofs.Laws.Links.{prior_off, prior_on}
use Rattle.change.proofs.links.set_prior.Goals as goal

pub returns-then-chain_word-eq1 : goal.returns-then-chain_word-eq1
returns-then-chain_word-eq1 c = prior_on _ _ _ _ _ _ c.chain_word.ensures c.if-chain_word-eq1.true ∙ c.put_link.ensures

pub returns-else-chain_word-eq1 : goal.returns-else-chain_word-eq1
returns-else-chain_word-eq1 c = prior_off _ _ _ _ _ _ c.chain_word.ensures c.if-chain_word-eq1.false
