-- The currency once what is marked in `k` went.
use Rattle.std.specs.Prelude.{ℕ, zero, suc, Bool, cond, not, List, eqb}
use Rattle.ledger.specs.declared.Currency.{Currency}
use Rattle.ledger.specs.Numbers.{by_index}
use Rattle.model.specs.Reads.{next_in}
use Rattle.ring_model.specs.Rings.{ring_fuel, master_in}
use Rattle.delete_model.specs.Marks.{goes_in}

-- along a ring's `next` from `at` on: the last before c that stays, `best` where none does (`last_before` of Calls)
unfoldable pub stay_from : (ℕ → ℕ) → (ℕ → Bool) → ℕ → ℕ → ℕ → ℕ → ℕ
stay_from next gone c best at zero = best
stay_from next gone c best at (suc left) =
    let rest = stay_from next gone c (cond (gone at) best at) (next at) left in
    cond (eqb at c) best rest

-- the last record before c in the ring of master m that stays, or m
unfoldable pub stay_in : List ℕ → List ℕ → List ℕ → ℕ → ℕ → ℕ → ℕ
stay_in t f k j m c = stay_from (next_in t f j) (goes_in k) c m (next_in t f j m) ring_fuel

-- where chain j's entry goes back to (`backed` of Calls)
unfoldable pub backed_in : List ℕ → List ℕ → List ℕ → ℕ → ℕ → ℕ
backed_in t f k j c =
    let m : ℕ = master_in t f j c in
    cond (eqb c 0) 0 (cond (not (goes_in k c)) c (cond (goes_in k m) 0 (stay_in t f k j m c)))

-- a type's entry: 0 where its record went
unfoldable pub dropped_in : List ℕ → ℕ → ℕ
dropped_in k c = cond (goes_in k c) 0 c

unfoldable pub currency_after : List ℕ → List ℕ → List ℕ → Currency → Currency
currency_after t f k cur =
    record { run = 0; types = by_index (λ i y. dropped_in k y) 0 cur.types; chains = by_index (λ j y. backed_in t f k j y) 0 cur.chains }
