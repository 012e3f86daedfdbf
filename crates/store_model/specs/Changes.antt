-- STORE, RELINK and MODIFY on any bytes `f`, once refusals 1 to 4 are behind them: what they hand back, and the file then.
use Rattle.std.specs.Prelude.{ℕ, cond, List, eqb}
use Rattle.ledger.specs.declared.Currency.{Currency}
use Rattle.ledger.specs.declared.Outcome.{Outcome}
use Rattle.ledger.specs.Answers.{refusal}
use Rattle.model.specs.Reads.{kind_in}
use Rattle.look_model.specs.Currencies.{arrival}
use Rattle.act_model.specs.Placing.{place_for_in}
use Rattle.act_model.specs.Storing.{store_refusal, stored_on}
use Rattle.act_model.specs.Relinking.{relink_refusal, relinked_on}
use Rattle.act_model.specs.Modifying.{modify_refusal, modified_on}

abbrev pub Changed : Type 0
Changed = Outcome × List ℕ

-- what is done unless the refusal n is due
unfoldable pub changed_unless : ℕ → Currency → List ℕ → Changed → Changed
changed_unless n cur f done = cond (eqb n 0) done (refusal n cur, f)

-- STORE on page p, 0 where none takes the record
unfoldable pub placed_on : List ℕ → List ℕ → Currency → ℕ → List ℕ → ℕ → Changed
placed_on t f cur n d p =
    let s : ℕ × List ℕ = stored_on t f cur n d p in
    cond (eqb p 0) (refusal 11 cur, f) (arrival t cur n s.0 0, s.1)

unfoldable pub store_on : List ℕ → List ℕ → Currency → ℕ → List ℕ → Changed
store_on t f cur n d = changed_unless (store_refusal t f cur n d) cur f (placed_on t f cur n d (place_for_in t f cur n d))

-- the run's record stays where it is, and is arrived at
unfoldable pub run_arrival : List ℕ → List ℕ → Currency → Outcome
run_arrival t f cur = arrival t cur (kind_in f cur.run) cur.run 0

unfoldable pub relink_on : List ℕ → List ℕ → Currency → ℕ → ℕ → Changed
relink_on t f cur j m =
    changed_unless (relink_refusal t f cur.run j m) cur f (run_arrival t f cur, relinked_on t f j cur.run m)

unfoldable pub modify_on : List ℕ → List ℕ → Currency → List ℕ → Changed
modify_on t f cur d = changed_unless (modify_refusal t f cur.run d) cur f (run_arrival t f cur, modified_on t f cur.run d)
