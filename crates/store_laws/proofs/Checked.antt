-- Refusals 1 to 4 of the models, exactly, and what is left of a call's promise once they are behind it.
use Prim.Native.Nat.{ℕ, ◌*◌, ◌<◌}
use mathlib.Core.Path.{◌≡◌, refl, sym, ◌∙◌, ap}
use mathlib.Core.Logic.{◌↔◌}
use mathlib.Core.List.{List}
use native.Mathlib.Omega.{arith}
use lib.ListN.{length, get_or}
use lib.Dec.{eqb}
use borrow.Author.Tests.{eq-eqb, ne_eqb, eqb-true}
use Rattle.ledger.specs.declared.Answer.{Answer}
use Rattle.ledger.specs.declared.Currency.{Currency}
use Rattle.ledger.specs.declared.Outcome.{Outcome}
use Rattle.ledger.specs.Table.{pages, Accepted}
use Rattle.ledger.specs.Rules.{accepts}
use Rattle.ledger.specs.Pages.{Ledger, Sound}
use Rattle.ledger.specs.Answers.{outcome, refusal}
use Rattle.ledger.specs.Currency.{InForce}
use Rattle.ledger.specs.Calls.{Turn, refuse, done}
use Rattle.ledger.specs.Promise.{Refused, Checks, ChecksSize, Plays}
use Rattle.ledger.proofs.Lists.Tests.{by_cases, not_true_false}
use Rattle.ledger.proofs.Ledger.Accepts.{accepts_exactly}
use Rattle.ledger.proofs.Ledger.Fields.{file_length}
use Rattle.std.specs.Prelude.{⊤, Result, Ok, Err}
use Rattle.model.specs.declared.Fault.{Fault}
use Rattle.audit_model.specs.Faults.{first_place, audit_on, fault_number}
use Rattle.look_model.specs.Currencies.{in_force_on}
use Rattle.audit_laws.proofs.Firsts.{first_place_lem}
use Rattle.audit_laws.proofs.Exact.{audit_exactly}
use Rattle.store_model.specs.Checks.{size_refusal, audit_refusal, currency_refusal, refusal_on}
use Rattle.store_model.specs.Changes.{Changed, changed_unless}
use Rattle.store_model.specs.Calls.{checked_with}
use Rattle.store_laws.proofs.Force.{in_force_exactly}

-- 1 and 2
pub checks_size : (t f : List ℕ) → ChecksSize t f (size_refusal t f)
unfolding size_refusal
checks_size t f = record {
  table_refused = λ n. rw (not_true_false (accepts t) (λ e. n ((accepts_exactly t).0 e)));
  size_refused = λ a n. rw ((accepts_exactly t).1 a, ne_eqb (length f) (512 * pages t) n);
  clean = λ a e. rw ((accepts_exactly t).1 a, eq-eqb (length f) (512 * pages t) e);
  found = λ z. by_cases (accepts t)
      (λ e. by_cases (eqb (length f) (512 * pages t))
      (λ long. ((accepts_exactly t).0 e, eqb-true _ _ long))
      (λ other. let bad : 2 ≡ 0 = rw (e, other) at z in absurd (omega arith)))
      (λ e. let bad : 1 ≡ 0 = rw e at z in absurd (omega arith));
}

-- the number of a fault is 3
fault_number_lem : (x : Result ⊤ Fault) → (fault_number x ≡ 0 → ⊥) → fault_number x ≡ 3
fault_number_lem (Ok sound) n = absurd (n refl)
fault_number_lem (Err fault) n = refl

-- 3 and 4 after them
module _ (t f : List ℕ) (cur : Currency) (small : (i : ℕ) → get_or f i 0 < 256) (ty : length cur.types ≡ 16) (ch : length cur.chains ≡ 16) where
  audited : Accepted t → length f ≡ 512 * pages t → (audit_refusal t f ≡ 0) ↔ ((l : Ledger) × Sound t f l)
  unfolding audit_refusal
  audited a long = audit_exactly t f a small long

  -- the audit's number is 0 or 3
  audit_number : (audit_refusal t f ≡ 0 → ⊥) → audit_refusal t f ≡ 3
  unfolding audit_refusal
  audit_number n = fault_number_lem (audit_on t f) n

  past : (n m : ℕ) → n ≡ 0 → first_place n m ≡ m
  unfolding first_place
  past n m z = rw (eq-eqb n 0 z)

  stays : (n m k : ℕ) → n ≡ k → (k ≡ 0 → ⊥) → first_place n m ≡ k
  unfolding first_place
  stays n m k e nz = rw (e, ne_eqb k 0 nz)

  sized : Accepted t → length f ≡ 512 * pages t → size_refusal t f ≡ 0
  sized a long = (checks_size t f).clean a long

  pub checks_all : Checks t f cur (refusal_on t f cur)
  unfolding refusal_on currency_refusal
  checks_all = record {
    table_refused = λ n. stays _ _ 1 ((checks_size t f).table_refused n) (λ z. omega arith);
    size_refused = λ a n. stays _ _ 2 ((checks_size t f).size_refused a n) (λ z. omega arith);
    file_refused = λ a long n.
        past _ _ (sized a long) ∙ stays _ _ 3 (audit_number (λ z. let q = (audited a long).0 z in n q.0 q.1)) (λ z. omega arith);
    currency_refused = λ a l s n.
        let long = file_length t f l a s in
        past _ _ (sized a long) ∙ past _ _ ((audited a long).1 (l, s))
        ∙ rw (not_true_false (in_force_on t f cur) (λ e. n ((in_force_exactly t f l a s cur ty ch).0 e)));
    clean = λ a l s i.
        let long = file_length t f l a s in
        past _ _ (sized a long) ∙ past _ _ ((audited a long).1 (l, s)) ∙ rw ((in_force_exactly t f l a s cur ty ch).1 i);
    found = λ z.
        let (size, rest) = (first_place_lem (size_refusal t f) (first_place (audit_refusal t f) (currency_refusal t f cur))).0 z in
        let (audit, force) = (first_place_lem (audit_refusal t f) (currency_refusal t f cur)).0 rest in
        let (a, long) = (checks_size t f).found size in
        let (l, s) = (audited a long).0 audit in
        let right : InForce t l cur = by_cases (in_force_on t f cur)
        (λ e. (in_force_exactly t f l a s cur ty ch).0 e)
        (λ e. let bad : 4 ≡ 0 = rw e at force in absurd (omega arith)) in
        (a, (l, s, right));
  }

-- What is left to show of a call once refusals 1 to 4 are behind it: what it does on a sound file with a currency in force.
pub record Acts (call : Ledger → Turn) (t f : List ℕ) (cur : Currency) (c : Changed) : Type 0 where
  pub refused : Accepted t → (l : Ledger) → Sound t f l → InForce t l cur → (n : ℕ) → call l ≡ refuse n → c ≡ (refusal n cur, f)
  pub played : Accepted t → (l : Ledger) → Sound t f l → InForce t l cur → (a : Answer) (l' : Ledger) (cur' : Currency) → call l ≡ done a l' cur'
      → (c.0 ≡ outcome a cur') × Sound t c.1 l' × InForce t l' cur'

module _ (t f : List ℕ) (cur : Currency) (k : Checks t f cur (refusal_on t f cur)) where
  -- a refusal that is due is given, and nothing changed
  refused_by : (c : Changed) (n : ℕ) → (n ≡ 0 → ⊥) → refusal_on t f cur ≡ n → checked_with t f cur f c ≡ (refusal n cur, f)
  unfolding checked_with changed_unless
  refused_by c n nz e = rw (e, ne_eqb n 0 nz)

  let_through : (c : Changed) → refusal_on t f cur ≡ 0 → checked_with t f cur f c ≡ c
  unfolding checked_with changed_unless
  let_through c e = rw (eq-eqb (refusal_on t f cur) 0 e)

  pub plays : (call : Ledger → Turn) (c : Changed) → Acts call t f cur c → (r : Outcome) (f' : List ℕ) → checked_with t f cur f c ≡ (r, f') → Plays call t f f' cur r
  plays call c w r f' e = record {
    table_refused = λ n. given 1 (λ z. omega arith) (k.table_refused n);
    size_refused = λ a n. given 2 (λ z. omega arith) (k.size_refused a n);
    file_refused = λ a long n. given 3 (λ z. omega arith) (k.file_refused a long n);
    currency_refused = λ a l s n. given 4 (λ z. omega arith) (k.currency_refused a l s n);
    refused = λ a l s i n q. told_refused n (sym e ∙ let_through c (k.clean a l s i) ∙ w.refused a l s i n q);
    played = λ a l s i b l' cur' q.
        let same : c ≡ (r, f') = sym (let_through c (k.clean a l s i)) ∙ e in
        let (o, sound, force) = w.played a l s i b l' cur' q in
        let out : r ≡ outcome b cur' = sym (ap (λ (z : Changed). z.0) same) ∙ o in
        (ap (λ (z : Outcome). z.answer) out, ap (λ (z : Outcome). z.currency) out, rw same at sound, force);
  }
    where
      told_refused : (n : ℕ) → ◌≡◌ {A = Changed} (r, f') (refusal n cur, f) → Refused n f f' cur r
      told_refused n q = record {
        answered = ap (λ (z : Changed). z.0.answer) q;
        same_currency = ap (λ (z : Changed). z.0.currency) q;
        same_file = ap (λ (z : Changed). z.1) q;
      }

      given : (n : ℕ) → (n ≡ 0 → ⊥) → refusal_on t f cur ≡ n → Refused n f f' cur r
      given n nz d = told_refused n (sym e ∙ refused_by c n nz d)
