-- DELETE as a whole.
use Rattle.std.proofs.Common.{◌≡◌, ℕ, List, eq-eqb, ne_eqb}
use lib.ListN.{replicate}
use Rattle.ledger.specs.declared.Answer.{Answer}
use Rattle.ledger.specs.declared.Currency.{Currency}
use Rattle.ledger.specs.declared.Outcome.{Outcome}
use Rattle.ledger.specs.Answers.{done_with, outcome, refusal}
use Rattle.model.specs.Reads.{kind_in}
use Rattle.delete_model.specs.Marks.{marks_size, marked_on}
use Rattle.delete_model.specs.Entries.{currency_after}
use Rattle.delete_model.specs.Closing.{act_on}
use Rattle.delete_model.specs.Deletes.{deleted_with, decided_on, deleted_from, delete_on}

module _ (t f : List ℕ) (cur : Currency) where
  pub delete_none : cur.run ≡ 0 → delete_on t f cur ≡ (refusal 6 cur, f)
  unfolding delete_on
  delete_none h = rw (eq-eqb cur.run 0 h)

  pub delete_some : (count n : ℕ) (k g : List ℕ) (a : Answer) (after : Currency) (r : Outcome) → (cur.run ≡ 0 → ⊥)
      → marked_on t f 16 cur.run (replicate marks_size 0) ≡ (count, k) → n ≡ kind_in f cur.run → a ≡ done_with cur.run n count
      → after ≡ currency_after t f k cur → act_on t f k ≡ g → r ≡ outcome a after → delete_on t f cur ≡ (r, g)
  unfolding delete_on deleted_from decided_on deleted_with
  delete_some count n k g a after r h em en ea ec eg er = rw (ne_eqb cur.run 0 h, em, eg, er, ea, en, ec)
