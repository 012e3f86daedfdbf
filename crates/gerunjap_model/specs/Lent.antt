-- One call on lent memory: the currency is 33 words, the answer 8 bytes, high byte first.
use Rattle.std.specs.Prelude.{ℕ, cond, List, length, get_or, set, drop, replicate, eqb, ltb}
use Rattle.ledger.specs.declared.Answer.{Answer}
use Rattle.ledger.specs.declared.Currency.{Currency}
use Rattle.ledger.specs.Player.{call_made}
use Rattle.model.specs.Writes.{three_put}
use Rattle.model.specs.Moves.{two_put, part_put}
use Rattle.play_model.specs.Plays.{Played, play_on}

-- sixteen words from `at` on, 0 where there is none
unfoldable pub sixteen_of : List ℕ → ℕ → List ℕ
sixteen_of words at = part_put (replicate 16 0) 0 (drop at words)

-- the run's word, the types' sixteen, the chains' sixteen
unfoldable pub currency_of : List ℕ → Currency
currency_of words = record { run = get_or words 0 0; types = sixteen_of words 1; chains = sixteen_of words 17 }

unfoldable pub currency_put : List ℕ → Currency → List ℕ
currency_put words cur = part_put (part_put (set words 0 cur.run) 1 cur.types) 17 cur.chains

-- code 1 byte, reference code 3, type 2, count 2
unfoldable pub answer_put8 : List ℕ → Answer → List ℕ
answer_put8 out a = two_put (two_put (three_put (set out 0 a.code) 1 a.reference) 4 a.kind) 6 a.count

-- the status, and the file, currency, output and answer as they are left
abbrev pub Called : Type 0
Called = ℕ × List ℕ × List ℕ × List ℕ × List ℕ

abbrev pub answered : List ℕ → List ℕ → Played → Called
answered words answer p = (0, p.1, currency_put words p.0.currency, p.2, answer_put8 answer p.0.answer)

-- status 2: no 33 words or no 8 bytes are lent; 1: the frame is ill made; else it is answered
unfoldable pub call_on : List ℕ → List ℕ → List ℕ → List ℕ → List ℕ → List ℕ → Called
call_on t f words fr out answer =
    cond (eqb (length words) 33)
    (cond (ltb (length answer) 8) (2, f, words, out, answer)
    (cond (call_made fr) (answered words answer (play_on t f (currency_of words) fr out))
    (1, f, words, out, answer)))
    (2, f, words, out, answer)
