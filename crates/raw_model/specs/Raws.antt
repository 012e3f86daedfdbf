-- Calls without refusals 1 to 4, and these refusals alone; all else is as a frame is played and a call made on lent memory.
use Rattle.std.specs.Prelude.{ℕ, cond, List, length, eqb, ltb}
use Rattle.ledger.specs.declared.Currency.{Currency}
use Rattle.ledger.specs.declared.Outcome.{Outcome}
use Rattle.ledger.specs.Answers.{refusal}
use Rattle.ledger.specs.Calls.{Call, FORMAT, STORE, DIRECT, KEY, NEXT, PRIOR, MASTER, EACH, MODIFY, DELETE, READ, CURRENT, FIND, RELINK, UNKNOWN}
use Rattle.ledger.specs.Player.{call_in, call_made}
use Rattle.look_model.specs.Looks.{direct_on, key_on, current_on, find_on, next_on, prior_on, master_on, each_on, read_on}
use Rattle.delete_model.specs.Deletes.{delete_on}
use Rattle.store_model.specs.Checks.{refusal_on}
use Rattle.store_model.specs.Changes.{Changed, store_on, relink_on, modify_on}
use Rattle.store_model.specs.Calls.{format_call}
use Rattle.play_model.specs.Plays.{Played, read_into, changed_to}
use Rattle.gerunjap_model.specs.Lent.{Called, currency_of, answered}

-- the first of refusals 1 to 4 that is due, or 0; 255: no 33 words are lent
unfoldable pub check_on : List ℕ → List ℕ → List ℕ → ℕ
check_on t f words = cond (eqb (length words) 33) (refusal_on t f (currency_of words)) 255

-- FORMAT as it is; the others without refusals 1 to 4
unfoldable pub raw_played_on : List ℕ → List ℕ → Currency → List ℕ → Call → Played
raw_played_on t f cur out FORMAT = changed_to out (format_call t f cur)
raw_played_on t f cur out (STORE n d) = changed_to out (store_on t f cur n d)
raw_played_on t f cur out (DIRECT x) = (direct_on t f cur x, f, out)
raw_played_on t f cur out (KEY n k) = (key_on t f cur n k, f, out)
raw_played_on t f cur out (NEXT j) = (next_on t f cur j, f, out)
raw_played_on t f cur out (PRIOR j) = (prior_on t f cur j, f, out)
raw_played_on t f cur out (MASTER j) = (master_on t f cur j, f, out)
raw_played_on t f cur out (EACH x y) = (each_on t f cur x y, f, out)
raw_played_on t f cur out (MODIFY d) = changed_to out (modify_on t f cur d)
raw_played_on t f cur out DELETE = changed_to out (delete_on t f cur)
raw_played_on t f cur out (READ room) = read_into f (read_on t f cur out)
raw_played_on t f cur out (CURRENT n) = (current_on t f cur n, f, out)
raw_played_on t f cur out (FIND j k) = (find_on t f cur j k, f, out)
raw_played_on t f cur out (RELINK j m) = changed_to out (relink_on t f cur j m)
raw_played_on t f cur out UNKNOWN = (refusal 5 cur, f, out)

unfoldable pub raw_play_on : List ℕ → List ℕ → Currency → List ℕ → List ℕ → Played
raw_play_on t f cur fr out = raw_played_on t f cur out (call_in fr (length out))

-- status 2: no 33 words or no 8 bytes are lent; 1: the frame is ill made; else it is answered
unfoldable pub raw_on : List ℕ → List ℕ → List ℕ → List ℕ → List ℕ → List ℕ → Called
raw_on t f words fr out answer =
    cond (eqb (length words) 33)
    (cond (ltb (length answer) 8) (2, f, words, out, answer)
    (cond (call_made fr) (answered words answer (raw_play_on t f (currency_of words) fr out))
    (1, f, words, out, answer)))
    (2, f, words, out, answer)
