use Rattle.store.proofs.Laws.Checks.{size_table, size_file, size_right}
use Rattle.store.proofs.checks.check_size.Goals as goal

pub returns-then-not-accepted-clause-computed : goal.returns-then-not-accepted-clause-computed
returns-then-not-accepted-clause-computed c = size_table _ _ _ c.accepted.ensures.computed c.if-not-accepted.true

pub returns-then-file-word-clause-computed : goal.returns-then-file-word-clause-computed
returns-then-file-word-clause-computed c = size_file _ _ _ c.accepted.ensures.computed c.if-not-accepted.false _ c.word.ensures c.if-file-word.true

pub returns-clause-computed : goal.returns-clause-computed
returns-clause-computed c = size_right _ _ _ c.accepted.ensures.computed c.if-not-accepted.false _ c.word.ensures c.if-file-word.false
