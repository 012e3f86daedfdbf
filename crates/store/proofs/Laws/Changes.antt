-- STORE, RELINK and MODIFY: a refusal that is due, or what is done.
use Rattle.std.proofs.Common.{◌≡◌, ℕ, zero, suc, refl, arith, List, Result, Ok, Err, Option, Some, None, ne_eqb}
use Rattle.std.specs.Bool.{⊤}
use Rattle.std.specs.Option.{ok_or}
use Rattle.ledger.specs.declared.Currency.{Currency}
use Rattle.ledger.specs.declared.Outcome.{Outcome}
use Rattle.ledger.specs.declared.Refusal.{Refusal}
use Rattle.ledger.specs.Numbers.{or_none}
use Rattle.ledger.specs.Answers.{refusal, refusal_number, number_of}
use Rattle.look_model.specs.Currencies.{arrival}
use Rattle.model.specs.Reads.{kind_in}
use Rattle.act_model.specs.Placing.{place_for_in}
use Rattle.act_model.specs.Storing.{store_refusal, stored_on}
use Rattle.act_model.specs.Relinking.{relink_refusal, relinked_on}
use Rattle.act_model.specs.Modifying.{modify_refusal, modified_on}
use Rattle.store_model.specs.Changes.{placed_on, store_on, run_arrival, relink_on, modify_on}
use Rattle.store.proofs.Laws.Refusals.{unless_refused, unless_done}

-- where a place is found, or refused with the room that there is not
no_place : (n : ℕ) → None ≡ or_none n → n ≡ 0
unfolding or_none
no_place zero e = refl
no_place (suc n) e = cc

a_place : (n p : ℕ) → Some p ≡ or_none n → (n ≡ p) × (n ≡ 0 → ⊥)
unfolding or_none
a_place zero p e = cc
a_place (suc n) p e = (cc, λ z. omega arith)

pub found_or : (o : Option ℕ) (r : Result ℕ Refusal) (e : Refusal) (p : ℕ) → r ≡ ok_or o e → r ≡ Ok p → o ≡ Some p
found_or None r e p er is = cc
found_or (Some x) r e p er is = cc

pub refused_or : (o : Option ℕ) (r : Result ℕ Refusal) (e d : Refusal) → r ≡ ok_or o e → r ≡ Err d → (o ≡ None) × (d ≡ e)
refused_or None r e d er is = (refl, cc)
refused_or (Some x) r e d er is = cc

-- STORE
module _ (t f : List ℕ) (cur : Currency) (n : ℕ) (d : List ℕ) (test : Result ⊤ Refusal) (em : number_of test ≡ store_refusal t f cur n d) where
  pub store_refused : (why : Refusal) → test ≡ Err why → store_on t f cur n d ≡ (refusal (refusal_number why) cur, f)
  unfolding store_on
  store_refused why e = unless_refused _ test em cur f _ why e

  module _ (z : store_refusal t f cur n d ≡ 0) (place : Option ℕ) (ep : place ≡ or_none (place_for_in t f cur n d)) where
    pub store_full : place ≡ None → store_on t f cur n d ≡ (refusal 11 cur, f)
    unfolding store_on placed_on
    store_full e = unless_done _ test em cur f _ _ _ z (rw (no_place _ (rw e at ep)))

    pub store_placed : (p : ℕ) (s : ℕ) (g : List ℕ) (r : Outcome) → place ≡ Some p → stored_on t f cur n d p ≡ (s, g) → r ≡ arrival t cur n s 0
        → store_on t f cur n d ≡ (r, g)
    unfolding store_on placed_on
    store_placed p s g r e es er =
        unless_done _ test em cur f _ _ _ z (let q = a_place _ p (rw e at ep) in rw (ne_eqb _ 0 q.1, q.0, es, er))

pub run_is : (t f : List ℕ) (cur : Currency) (n : ℕ) (r : Outcome) → n ≡ kind_in f cur.run → r ≡ arrival t cur n cur.run 0 → r ≡ run_arrival t f cur
unfolding run_arrival
run_is t f cur n r en er = rw (← en) er

-- RELINK
module _ (t f : List ℕ) (cur : Currency) (j k : ℕ) (test : Result ⊤ Refusal) (em : number_of test ≡ relink_refusal t f cur.run j k) where
  pub relink_refused : (why : Refusal) → test ≡ Err why → relink_on t f cur j k ≡ (refusal (refusal_number why) cur, f)
  unfolding relink_on
  relink_refused why e = unless_refused _ test em cur f _ why e

  pub relink_done : (r : Outcome) (g : List ℕ) → relink_refusal t f cur.run j k ≡ 0 → r ≡ run_arrival t f cur → relinked_on t f j cur.run k ≡ g → relink_on t f cur j k ≡ (r, g)
  unfolding relink_on
  relink_done r g z er eg = unless_done _ test em cur f _ r g z (rw (eg, er))

-- MODIFY
module _ (t f : List ℕ) (cur : Currency) (d : List ℕ) (test : Result ⊤ Refusal) (em : number_of test ≡ modify_refusal t f cur.run d) where
  pub modify_refused : (why : Refusal) → test ≡ Err why → modify_on t f cur d ≡ (refusal (refusal_number why) cur, f)
  unfolding modify_on
  modify_refused why e = unless_refused _ test em cur f _ why e

  pub modify_done : (r : Outcome) (g : List ℕ) → modify_refusal t f cur.run d ≡ 0 → r ≡ run_arrival t f cur → modified_on t f cur.run d ≡ g → modify_on t f cur d ≡ (r, g)
  unfolding modify_on
  modify_done r g z er eg = unless_done _ test em cur f _ r g z (rw (eg, er))
