-- The player's buffers: what they hold, and when they are long enough.
use Rattle.std.specs.Prelude.{ℕ, ◌*◌, ◌≤◌, ◌≡◌, ◌⊎◌, List, ◌++◌, length, drop}
use Rattle.ledger.specs.Numbers.{part}
use Rattle.ledger.specs.Table.{pages, Accepted}
use Rattle.line_model.specs.declared.Session.{Session}
use Rattle.line_model.specs.declared.Played.{Played}
use Rattle.ledger.specs.Line.{Playing, Line}

-- as many words of the table's buffer as the session says, and as many bytes of the file's as their pages ask
abbrev pub playing_in : List ℕ → List ℕ → Session → Playing
playing_in t f w =
    record { table = part 0 w.words t; file = part 0 (512 * pages (part 0 w.words t)) f; cur = w.currency }

-- no table yet or one that is accepted; room for the longest table and the largest file
pub record Stands (t f : List ℕ) (w : Session) : Type 0 where
  pub table_room : 243 ≤ length t
  pub file_room : 65536 ≤ length f
  pub words_in_lem : w.words ≤ length t
  pub accepted : (w.words ≡ 0) ⊎ Accepted (part 0 w.words t)
  pub types : length w.currency.types ≡ 16
  pub chains : length w.currency.chains ≡ 16

-- a line played over the buffers: what it says of what they hold, its text at the front of the output, and the rest of that as it was
pub record LinePlays (t f : List ℕ) (w : Session) (line out : List ℕ) (p : Played) (t' f' out' : List ℕ) : Type 0 where
  pub text : List ℕ
  pub stands : Stands t' f' p.session
  pub says : Line (playing_in t f w) (playing_in t' f' p.session) line text
  pub count : p.count ≡ length text
  pub output : out' ≡ text ++ drop (length text) out
