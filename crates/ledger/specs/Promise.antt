-- Document 01, "Refusal numbers" and "Proof owed by every public call": what a call promises of its answer, the currency, and every byte
-- of file and output, refused or done. `f` and `o` are file and output before the call, `f'` and `o'` after it; `r` is what it returns.
use Rattle.std.specs.Prelude.{ℕ, ◌*◌, ◌≡◌, true, List, ◌∷◌, ◌++◌, length, drop}
use Rattle.ledger.specs.declared.Answer.{Answer}
use Rattle.ledger.specs.declared.Currency.{Currency}
use Rattle.ledger.specs.declared.Outcome.{Outcome}
use Rattle.ledger.specs.Numbers.{elem}
use Rattle.ledger.specs.Table.{pages, Accepted}
use Rattle.ledger.specs.Pages.{Ledger, empty, bytes_at, Sound}
use Rattle.ledger.specs.Answers.{done_with, refused_with, outcome, refusal}
use Rattle.ledger.specs.Currency.{unset, InForce}
use Rattle.ledger.specs.Calls.{Turn, refuse, done, read, Call, FORMAT, READ, turn}

-- refused: the number, and nothing changed
pub record Refused (n : ℕ) (f f' : List ℕ) (cur : Currency) (r : Outcome) : Type 0 where
  pub answered : r.answer ≡ refused_with n
  pub same_currency : r.currency ≡ cur
  pub same_file : f' ≡ f

-- demand 1: a call comes back done, or with one of its refusals and nothing changed
pub record ComesBack (numbers : List ℕ) (f f' : List ℕ) (cur : Currency) (r : Outcome) : Type 0 where
  pub number : elem r.answer.code (0 ∷ numbers) ≡ true
  pub unchanged : (r.answer.code ≡ 0 → ⊥) → Refused r.answer.code f f' cur r

-- what is checked before every call: the first of refusals 1 to 4 that is due, or 0, and then there is a ledger
pub record Checks (t f : List ℕ) (cur : Currency) (n : ℕ) : Type 0 where
  pub table_refused : (Accepted t → ⊥) → n ≡ 1
  pub size_refused : Accepted t → (length f ≡ 512 * pages t → ⊥) → n ≡ 2
  pub file_refused : Accepted t → length f ≡ 512 * pages t → ((l : Ledger) → Sound t f l → ⊥) → n ≡ 3
  pub currency_refused : Accepted t → (l : Ledger) → Sound t f l → (InForce t l cur → ⊥) → n ≡ 4
  pub clean : Accepted t → (l : Ledger) → Sound t f l → InForce t l cur → n ≡ 0
  pub found : n ≡ 0 → Accepted t × ((l : Ledger) × Sound t f l × InForce t l cur)

-- what FORMAT checks: 1 and 2 alone
pub record ChecksSize (t f : List ℕ) (n : ℕ) : Type 0 where
  pub table_refused : (Accepted t → ⊥) → n ≡ 1
  pub size_refused : Accepted t → (length f ≡ 512 * pages t → ⊥) → n ≡ 2
  pub clean : Accepted t → length f ≡ 512 * pages t → n ≡ 0
  pub found : n ≡ 0 → Accepted t × (length f ≡ 512 * pages t)

-- a call on a file: refusals 1 to 4 exactly when, then what the call on the file's ledger says
pub record Plays (call : Ledger → Turn) (t f f' : List ℕ) (cur : Currency) (r : Outcome) : Type 0 where
  pub table_refused : (Accepted t → ⊥) → Refused 1 f f' cur r
  pub size_refused : Accepted t → (length f ≡ 512 * pages t → ⊥) → Refused 2 f f' cur r
  pub file_refused : Accepted t → length f ≡ 512 * pages t → ((l : Ledger) → Sound t f l → ⊥) → Refused 3 f f' cur r
  pub currency_refused : Accepted t → (l : Ledger) → Sound t f l → (InForce t l cur → ⊥) → Refused 4 f f' cur r
  pub refused : Accepted t → (l : Ledger) → Sound t f l → InForce t l cur → (n : ℕ) → call l ≡ refuse n → Refused n f f' cur r
  pub played : Accepted t → (l : Ledger) → Sound t f l → InForce t l cur → (a : Answer) (l' : Ledger) (c : Currency) → call l ≡ done a l' c
      → (r.answer ≡ a) × (r.currency ≡ c) × Sound t f' l' × InForce t l' c

-- FORMAT asks nothing of the file but its size, and nothing of the currency
pub record Formats (t f f' : List ℕ) (cur : Currency) (r : Outcome) : Type 0 where
  pub table_refused : (Accepted t → ⊥) → Refused 1 f f' cur r
  pub size_refused : Accepted t → (length f ≡ 512 * pages t → ⊥) → Refused 2 f f' cur r
  pub formatted : Accepted t → length f ≡ 512 * pages t → (r.answer ≡ done_with 0 0 0) × (r.currency ≡ unset) × Sound t f' empty

-- READ: the file stays; the data stand at the front of the output, and the rest of it stays; refused, all of it stays
pub record Reads (t f o o' : List ℕ) (cur : Currency) (r : Outcome) : Type 0 where
  pub plays : Plays (λ l. read t l cur (length o)) t f f cur r
  pub kept : (r.answer.code ≡ 0 → ⊥) → o' ≡ o
  pub filled : r.answer.code ≡ 0 → (l : Ledger) → Sound t f l → o' ≡ bytes_at l cur.run ++ drop (length (bytes_at l cur.run)) o

-- a call beside its currency, as it comes to on a ledger
abbrev pub turn_of : List ℕ → Currency → Call → Ledger → Turn
turn_of t cur c l = turn t (record { ledger = l; cur = cur }) c

-- what any call promises: of file `f` and output `o`, those after it and what it returns
pub record Promised (c : Call) (t f f' o o' : List ℕ) (cur : Currency) (r : Outcome) : Type 0 where
  pub formats : c ≡ FORMAT → Formats t f f' cur r
  pub plays : (c ≡ FORMAT → ⊥) → Plays (turn_of t cur c) t f f' cur r
  pub reads : c ≡ READ (length o) → Reads t f o o' cur r
  pub same_output : ((room : ℕ) → c ≡ READ room → ⊥) → o' ≡ o

-- what a call that changes no byte hands back, from what it comes to on the ledger
unfoldable pub told : Currency → Turn → Outcome
told cur (refuse n) = refusal n cur
told cur (done a l c) = outcome a c
