-- DELETE on a file.
use Rattle.std.specs.Prelude.{ℕ, cond, List, replicate, eqb}
use Rattle.ledger.specs.declared.Currency.{Currency}
use Rattle.ledger.specs.declared.Outcome.{Outcome}
use Rattle.ledger.specs.Answers.{done_with, outcome, refusal}
use Rattle.model.specs.Reads.{kind_in}
use Rattle.delete_model.specs.Marks.{marks_size, Marked, marked_on}
use Rattle.delete_model.specs.Entries.{currency_after}
use Rattle.delete_model.specs.Closing.{act_on}

-- what a call hands back, and the marks or the file then
abbrev pub Deleted : Type 0
Deleted = Outcome × List ℕ

-- the answer and the currency, where the run's record and all below it are marked in k, as many as counted
unfoldable pub deleted_with : List ℕ → List ℕ → List ℕ → Currency → ℕ → Outcome
deleted_with t f k cur count = outcome (done_with cur.run (kind_in f cur.run) count) (currency_after t f k cur)

-- the call decided: from marks k on, all that goes is marked
unfoldable pub decided_on : List ℕ → List ℕ → List ℕ → Currency → Deleted
decided_on t f k cur =
    let went : Marked = marked_on t f 16 cur.run k in
    (deleted_with t f went.1 cur went.0, went.1)

-- and carried out
unfoldable pub deleted_from : List ℕ → List ℕ → List ℕ → Currency → Deleted
deleted_from t f k cur =
    let d : Deleted = decided_on t f k cur in
    (d.0, act_on t f d.1)

unfoldable pub delete_on : List ℕ → List ℕ → Currency → Deleted
delete_on t f cur = cond (eqb cur.run 0) (refusal 6 cur, f) (deleted_from t f (replicate marks_size 0) cur)
