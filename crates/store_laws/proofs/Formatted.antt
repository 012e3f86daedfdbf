-- The whole promise of FORMAT.
use Prim.Native.Nat.{ℕ, ◌*◌}
use mathlib.Core.Path.{◌≡◌, sym, ◌∙◌, ap}
use mathlib.Core.List.{List}
use native.Mathlib.Omega.{arith}
use lib.ListN.{length}
use borrow.Author.Tests.{eq-eqb, ne_eqb}
use Rattle.ledger.specs.declared.Currency.{Currency}
use Rattle.ledger.specs.declared.Outcome.{Outcome}
use Rattle.ledger.specs.Table.{pages, Accepted}
use Rattle.ledger.specs.Answers.{done_with, outcome, refusal}
use Rattle.ledger.specs.Currency.{unset}
use Rattle.ledger.specs.Promise.{Refused, Formats}
use Rattle.ledger.proofs.History.Play.{start_fit}
use Rattle.model.specs.Moves.{file_made}
use Rattle.place_laws.proofs.Fresh.{file_made_lem}
use Rattle.store_model.specs.Checks.{size_refusal}
use Rattle.store_model.specs.Changes.{Changed, changed_unless}
use Rattle.store_model.specs.Calls.{format_call}
use Rattle.store_laws.proofs.Checked.{checks_size}

module _ (t f : List ℕ) (cur : Currency) (r : Outcome) (f' : List ℕ) (e : format_call t f cur ≡ (r, f')) where
  refused_by : (n : ℕ) → (n ≡ 0 → ⊥) → size_refusal t f ≡ n → Refused n f f' cur r
  unfolding format_call changed_unless
  refused_by n nz d =
      let q : ◌≡◌ {A = Changed} (r, f') (refusal n cur, f) = sym e ∙ rw (d, ne_eqb n 0 nz) in record {
        answered = ap (λ (z : Changed). z.0.answer) q;
        same_currency = ap (λ (z : Changed). z.0.currency) q;
        same_file = ap (λ (z : Changed). z.1) q;
      }

  made : Accepted t → length f ≡ 512 * pages t → ◌≡◌ {A = Changed} (r, f') (outcome (done_with 0 0 0) unset, file_made f)
  unfolding format_call changed_unless
  made a long = sym e ∙ rw (eq-eqb (size_refusal t f) 0 ((checks_size t f).clean a long))

  pub format_formats : Formats t f f' cur r
  format_formats = record {
    table_refused = λ n. refused_by 1 (λ z. omega arith) ((checks_size t f).table_refused n);
    size_refused = λ a n. refused_by 2 (λ z. omega arith) ((checks_size t f).size_refused a n);
    formatted = λ a long.
        let q = made a long in (
          ap (λ (z : Changed). z.0.answer) q,
          ap (λ (z : Changed). z.0.currency) q,
          record { formed = (start_fit t).formed; bytes = ap (λ (z : Changed). z.1) q ∙ file_made_lem t f a long },
        );
  }
