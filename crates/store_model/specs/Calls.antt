-- The public calls on any table, bytes and currency: refusals 1 to 4, then the call's own work.
use Rattle.std.specs.Prelude.{ℕ, cond, List, eqb}
use Rattle.ledger.specs.declared.Currency.{Currency}
use Rattle.ledger.specs.declared.Outcome.{Outcome}
use Rattle.ledger.specs.Answers.{done_with, outcome, refusal}
use Rattle.ledger.specs.Currency.{unset}
use Rattle.model.specs.Moves.{file_made}
use Rattle.look_model.specs.Looks.{direct_on, key_on, current_on, find_on, next_on, prior_on, master_on, each_on, read_on}
use Rattle.delete_model.specs.Deletes.{delete_on}
use Rattle.store_model.specs.Checks.{size_refusal, refusal_on}
use Rattle.store_model.specs.Changes.{Changed, changed_unless, store_on, relink_on, modify_on}

-- a call that changes no byte of the file
unfoldable pub checked : List ℕ → List ℕ → Currency → Outcome → Outcome
checked t f cur o = cond (eqb (refusal_on t f cur) 0) o (refusal (refusal_on t f cur) cur)

-- a call that changes bytes: `f` the file, or READ's output `b`
unfoldable pub checked_with : List ℕ → List ℕ → Currency → List ℕ → Changed → Changed
checked_with t f cur b done = changed_unless (refusal_on t f cur) cur b done

unfoldable pub format_call : List ℕ → List ℕ → Currency → Changed
format_call t f cur = changed_unless (size_refusal t f) cur f (outcome (done_with 0 0 0) unset, file_made f)

unfoldable pub store_call : List ℕ → List ℕ → Currency → ℕ → List ℕ → Changed
store_call t f cur n d = checked_with t f cur f (store_on t f cur n d)

unfoldable pub direct_call : List ℕ → List ℕ → Currency → ℕ → Outcome
direct_call t f cur x = checked t f cur (direct_on t f cur x)

unfoldable pub key_call : List ℕ → List ℕ → Currency → ℕ → List ℕ → Outcome
key_call t f cur n k = checked t f cur (key_on t f cur n k)

unfoldable pub next_call : List ℕ → List ℕ → Currency → ℕ → Outcome
next_call t f cur j = checked t f cur (next_on t f cur j)

unfoldable pub prior_call : List ℕ → List ℕ → Currency → ℕ → Outcome
prior_call t f cur j = checked t f cur (prior_on t f cur j)

unfoldable pub master_call : List ℕ → List ℕ → Currency → ℕ → Outcome
master_call t f cur j = checked t f cur (master_on t f cur j)

unfoldable pub each_call : List ℕ → List ℕ → Currency → ℕ → ℕ → Outcome
each_call t f cur low high = checked t f cur (each_on t f cur low high)

unfoldable pub modify_call : List ℕ → List ℕ → Currency → List ℕ → Changed
modify_call t f cur d = checked_with t f cur f (modify_on t f cur d)

unfoldable pub delete_call : List ℕ → List ℕ → Currency → Changed
delete_call t f cur = checked_with t f cur f (delete_on t f cur)

unfoldable pub read_call : List ℕ → List ℕ → Currency → List ℕ → Changed
read_call t f cur b = checked_with t f cur b (read_on t f cur b)

unfoldable pub current_call : List ℕ → List ℕ → Currency → ℕ → Outcome
current_call t f cur n = checked t f cur (current_on t f cur n)

unfoldable pub find_call : List ℕ → List ℕ → Currency → ℕ → List ℕ → Outcome
find_call t f cur j k = checked t f cur (find_on t f cur j k)

unfoldable pub relink_call : List ℕ → List ℕ → Currency → ℕ → ℕ → Changed
relink_call t f cur j m = checked_with t f cur f (relink_on t f cur j m)

unfoldable pub unknown_call : List ℕ → List ℕ → Currency → Outcome
unknown_call t f cur = checked t f cur (refusal 5 cur)
