-- A well-made frame played: the call that it carries, made on a file.
use Rattle.std.specs.Prelude.{ℕ, List, length}
use Rattle.ledger.specs.declared.Currency.{Currency}
use Rattle.ledger.specs.declared.Outcome.{Outcome}
use Rattle.ledger.specs.Calls.{Call, FORMAT, STORE, DIRECT, KEY, NEXT, PRIOR, MASTER, EACH, MODIFY, DELETE, READ, CURRENT, FIND, RELINK, UNKNOWN}
use Rattle.ledger.specs.Player.{call_in}
use Rattle.store_model.specs.Changes.{Changed}
use Rattle.store_model.specs.Calls.{format_call, store_call, direct_call, key_call, next_call, prior_call, master_call, each_call, modify_call, delete_call, read_call, current_call, find_call, relink_call, unknown_call}

-- what is handed back, the file and READ's output
abbrev pub Played : Type 0
Played = Outcome × List ℕ × List ℕ

-- READ alone writes the output, and only FORMAT, STORE, MODIFY, DELETE and RELINK the file
abbrev pub read_into : List ℕ → Changed → Played
read_into f c = (c.0, f, c.1)

abbrev pub changed_to : List ℕ → Changed → Played
changed_to out c = (c.0, c.1, out)

unfoldable pub played_on : List ℕ → List ℕ → Currency → List ℕ → Call → Played
played_on t f cur out FORMAT = changed_to out (format_call t f cur)
played_on t f cur out (STORE n d) = changed_to out (store_call t f cur n d)
played_on t f cur out (DIRECT x) = (direct_call t f cur x, f, out)
played_on t f cur out (KEY n k) = (key_call t f cur n k, f, out)
played_on t f cur out (NEXT j) = (next_call t f cur j, f, out)
played_on t f cur out (PRIOR j) = (prior_call t f cur j, f, out)
played_on t f cur out (MASTER j) = (master_call t f cur j, f, out)
played_on t f cur out (EACH x y) = (each_call t f cur x y, f, out)
played_on t f cur out (MODIFY d) = changed_to out (modify_call t f cur d)
played_on t f cur out DELETE = changed_to out (delete_call t f cur)
played_on t f cur out (READ room) = read_into f (read_call t f cur out)
played_on t f cur out (CURRENT n) = (current_call t f cur n, f, out)
played_on t f cur out (FIND j k) = (find_call t f cur j k, f, out)
played_on t f cur out (RELINK j m) = changed_to out (relink_call t f cur j m)
played_on t f cur out UNKNOWN = (unknown_call t f cur, f, out)

unfoldable pub play_on : List ℕ → List ℕ → Currency → List ℕ → List ℕ → Played
play_on t f cur fr out = played_on t f cur out (call_in fr (length out))
