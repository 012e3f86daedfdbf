-- Document 01, "The frame player": what a line does to what the player holds between lines, and what it prints.
use Rattle.std.specs.Prelude.{ℕ, ◌+◌, ◌*◌, ◌≡◌, ◌⊎◌, true, false, List, [], ◌∷◌, ◌++◌, get_or, drop, replicate}
use Rattle.std.proofs.Math.Option.{some}
use Rattle.ledger.specs.declared.Answer.{Answer}
use Rattle.ledger.specs.declared.Currency.{Currency}
use Rattle.ledger.specs.declared.Outcome.{Outcome}
use Rattle.ledger.specs.Table.{Accepted}
use Rattle.ledger.specs.Pages.{Ledger, empty, bytes_at, layout, Sound}
use Rattle.ledger.specs.Answers.{done_with, refused_with}
use Rattle.ledger.specs.Currency.{unset}
use Rattle.ledger.specs.Calls.{READ}
use Rattle.ledger.specs.Promise.{Promised}
use Rattle.ledger.specs.Player.{frame_of, call_in, line_bad, printed}

-- between lines: the words of the table that was accepted last, none before any; the file under it; the currency
pub record Playing : Type 0 where
  pub table : List ℕ
  pub file : List ℕ
  pub cur : Currency

-- the words that frame 00 carries: two bytes each, the high byte first
unfoldable pub table_in : List ℕ → List ℕ
table_in [] = []
table_in (a ∷ []) = []
table_in (a ∷ b ∷ bs) = (256 * a + b) ∷ table_in bs

-- an answer's line, with READ's data and its line end
abbrev pub answer_line : Answer → List ℕ → List ℕ
answer_line a bs = printed a bs ++ (10 ∷ [])

-- a frame but 00 once there is a table: a call with an output of 200 bytes, its outcome `r`, and what READ shows
pub record Answers (s s' : Playing) (fr out : List ℕ) : Type 0 where
  pub r : Outcome
  pub o' : List ℕ
  pub shown : List ℕ
  pub promised : Promised (call_in fr 200) s.table s.file s'.file (replicate 200 0) o' s.cur r
  pub same_table : s'.table ≡ s.table
  pub currency : s'.cur ≡ r.currency
  pub data_shown : call_in fr 200 ≡ READ 200 → r.answer.code ≡ 0 → (l : Ledger) → Sound s.table s.file l → shown ≡ bytes_at l s.cur.run
  pub none_shown : ((call_in fr 200 ≡ READ 200 → ⊥) ⊎ (r.answer.code ≡ 0 → ⊥)) → shown ≡ []
  pub prints : out ≡ answer_line r.answer shown

-- a well-made frame
pub record FramePlays (s s' : Playing) (fr out : List ℕ) : Type 0 where
  pub fresh : get_or fr 0 0 ≡ 0 → Accepted (table_in (drop 1 fr))
      → (s' ≡ record { table = table_in (drop 1 fr); file = layout (table_in (drop 1 fr)) empty; cur = unset }) × (out ≡ answer_line (done_with 0 0 0) [])
  pub unfit : get_or fr 0 0 ≡ 0 → (Accepted (table_in (drop 1 fr)) → ⊥) → (s' ≡ s) × (out ≡ answer_line (refused_with 1) [])
  pub early : (get_or fr 0 0 ≡ 0 → ⊥) → s.table ≡ [] → (s' ≡ s) × (out ≡ answer_line (refused_with 1) [])
  pub called : (get_or fr 0 0 ≡ 0 → ⊥) → (s.table ≡ [] → ⊥) → Answers s s' fr out

-- any line; a bad one prints FF
pub record Line (s s' : Playing) (line out : List ℕ) : Type 0 where
  pub bad : line_bad line ≡ true → (s' ≡ s) × (out ≡ 70 ∷ 70 ∷ 10 ∷ [])
  pub framed : line_bad line ≡ false → (fr : List ℕ) → frame_of line ≡ some fr → FramePlays s s' fr out
