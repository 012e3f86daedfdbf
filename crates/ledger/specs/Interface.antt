-- The C interface: one call on lent memory. The currency is 33 words: the run's, the types' sixteen, the chains' sixteen.
-- The answer is 8 bytes: code 1, reference code 3, type 2, count 2, the high byte first.
use Rattle.std.specs.Prelude.{ℕ, ◌≤◌, ◌<◌, ◌≡◌, ◌⊎◌, true, false, List, ◌∷◌, ◌++◌, length, get_or, drop}
use Rattle.ledger.specs.declared.Answer.{Answer}
use Rattle.ledger.specs.declared.Currency.{Currency}
use Rattle.ledger.specs.declared.Outcome.{Outcome}
use Rattle.ledger.specs.Numbers.{digits, part}
use Rattle.ledger.specs.Promise.{Promised}
use Rattle.ledger.specs.Player.{call_made, call_in}

unfoldable pub currency_in : List ℕ → Currency
currency_in ws = record { run = get_or ws 0 0; types = part 1 16 ws; chains = part 17 16 ws }

unfoldable pub words_of : Currency → List ℕ
words_of cur = cur.run ∷ (cur.types ++ cur.chains)

unfoldable pub eight_of : Answer → List ℕ
eight_of a = a.code ∷ (digits 3 a.reference ++ digits 2 a.kind ++ digits 2 a.count)

-- what the interface promises: table `t`, file `f`, currency `ws`, frame `fr`, output `o` and answer `b` as they are lent, those after it, and the status
pub record Lends (t f f' ws ws' fr o o' b b' : List ℕ) (status : ℕ) : Type 0 where
  pub bad_lent : ((length ws ≡ 33 → ⊥) ⊎ (length b < 8)) → status ≡ 2
  pub ill_made : length ws ≡ 33 → 8 ≤ length b → call_made fr ≡ false → status ≡ 1
  pub unchanged : (status ≡ 0 → ⊥) → (f' ≡ f) × (ws' ≡ ws) × (o' ≡ o) × (b' ≡ b)
  pub answered : length ws ≡ 33 → 8 ≤ length b → call_made fr ≡ true
      → (status ≡ 0)
      × ((r : Outcome) × Promised (call_in fr (length o)) t f f' o o' (currency_in ws) r × (ws' ≡ words_of r.currency) × (b' ≡ eight_of r.answer ++ drop 8 b))
