-- Demand 1 of the models: a call comes back done, or with one of its refusals and nothing changed.
use Prim.Native.Nat.{ℕ, ◌*◌}
use mathlib.Core.Path.{◌≡◌, refl}
use mathlib.Core.Bool.{Bool, true, cond, not, ◌||◌}
use mathlib.Core.List.{List, [], ◌∷◌}
use lib.ListN.{length}
use lib.Dec.{eqb, ltb, leb}
use Rattle.std.specs.Prelude.{⊤, Result, Ok, Err}
use Rattle.ledger.specs.declared.Currency.{Currency}
use Rattle.ledger.specs.declared.Outcome.{Outcome}
use Rattle.ledger.specs.Numbers.{elem}
use Rattle.ledger.specs.Table.{pages, chains, row, data_len, key_len, sort_len, order, defined, calculated, is_detail}
use Rattle.ledger.specs.Rules.{accepts}
use Rattle.ledger.specs.Currency.{type_current, chain_current}
use Rattle.ledger.specs.Calls.{no_chain}
use Rattle.ledger.specs.Answers.{refusal}
use Rattle.model.specs.Reads.{kind_in, next_in}
use Rattle.model.specs.Keys.{sort_key_in}
use Rattle.ring_model.specs.Rings.{master_in, before_in, key_twin_in, calc_twin_in}
use Rattle.look_model.specs.Currencies.{in_force_on}
use Rattle.ledger.specs.Promise.{ComesBack}
use Rattle.ledger.proofs.Lists.Tests.{by_cases}
use Rattle.model.specs.declared.Fault.{Fault}
use Rattle.model.specs.declared.Found.{Found}
use Rattle.audit_model.specs.Faults.{first_place, audit_on, fault_number}
use Rattle.look_model.specs.Looks.{direct_on, reached_on, found_on, key_on, current_on, find_on, on_chain, along_on, next_on, prior_on, master_on, each_on, read_on}
use Rattle.act_model.specs.Storing.{lacks_current, store_twin, store_refusal}
use Rattle.act_model.specs.Relinking.{masters_in, relink_refusal}
use Rattle.act_model.specs.Modifying.{modify_twin, modify_refusal}
use Rattle.delete_model.specs.Deletes.{deleted_with, decided_on, deleted_from, delete_on}
use Rattle.store_model.specs.Checks.{size_refusal, audit_refusal, currency_refusal, refusal_on}
use Rattle.store_model.specs.Changes.{Changed, changed_unless, placed_on, store_on, run_arrival, relink_on, modify_on}
use Rattle.store_model.specs.Calls.{checked, checked_with, format_call, store_call, direct_call, key_call, next_call, prior_call, master_call, each_call, modify_call, delete_call, read_call, current_call, find_call, relink_call, unknown_call}

-- a number that is 0 or one of ns
pub record Among (ns : List ℕ) (n : ℕ) : Type 0 where
  pub held : elem n (0 ∷ ns) ≡ true

-- bytes b and what a call on them hands back and leaves
pub record Comes (ns b : List ℕ) (cur : Currency) (c : Changed) : Type 0 where
  pub back : ComesBack ns b c.1 cur c.0

abbrev Looks : List ℕ → List ℕ → Currency → Outcome → Type 0
Looks ns b cur r = Comes ns b cur (r, b)

among_cond : {ns : List ℕ} (b : Bool) {m n : ℕ} → Among ns m → Among ns n → Among ns (cond b m n)
among_cond b p q = by_cases b (λ e. rw e p) (λ e. rw e q)

among_first : {ns : List ℕ} {m n : ℕ} → Among ns m → Among ns n → Among ns (first_place m n)
unfolding first_place
among_first {m = m} p q = among_cond (eqb m 0) q p

module _ {ns b : List ℕ} {cur : Currency} where
  came_done : (c : Changed) → c.0.answer.code ≡ 0 → Comes ns b cur c
  unfolding elem
  came_done c e = record { back = record { number = rw e; unchanged = λ n. absurd (n e) } }

  came_refused : {n : ℕ} → Among ns n → Comes ns b cur (refusal n cur, b)
  came_refused a = record { back = record { number = a.held; unchanged = λ z. record { answered = refl; same_currency = refl; same_file = refl } } }

  came_cond : (t : Bool) {c d : Changed} → Comes ns b cur c → Comes ns b cur d → Comes ns b cur (cond t c d)
  came_cond t p q = by_cases t (λ e. rw e p) (λ e. rw e q)

  came_unless : {n : ℕ} {c : Changed} → Among ns n → Comes ns b cur c → Comes ns b cur (changed_unless n cur b c)
  unfolding changed_unless
  came_unless {n} a p = came_cond (eqb n 0) p (came_refused a)

  look_cond : (t : Bool) {r s : Outcome} → Looks ns b cur r → Looks ns b cur s → Looks ns b cur (cond t r s)
  look_cond t p q = by_cases t (λ e. rw e p) (λ e. rw e q)

-- a number that stands in a list
among : {ns : List ℕ} {n : ℕ} → elem n (0 ∷ ns) ≡ true → Among ns n
among e = record { held = e }

-- refusals 1 and 2
of_size : (ns t f : List ℕ) → Among (1 ∷ 2 ∷ ns) (size_refusal t f)
unfolding size_refusal elem
of_size ns t f = among_cond (accepts t) (among_cond (eqb (length f) (512 * pages t)) (among refl) (among refl)) (among refl)

-- refusals 1 to 4
module _ (ns : List ℕ) where
  abbrev Four : List ℕ
  Four = 1 ∷ 2 ∷ 3 ∷ 4 ∷ ns

  of_fault : (x : Result ⊤ Fault) → Among Four (fault_number x)
  unfolding elem
  of_fault (Ok sound) = among refl
  of_fault (Err fault) = among refl

  of_currency : (t f : List ℕ) (cur : Currency) → Among Four (currency_refusal t f cur)
  unfolding currency_refusal elem
  of_currency t f cur = among_cond (in_force_on t f cur) (among refl) (among refl)

  of_audit : (t f : List ℕ) → Among Four (audit_refusal t f)
  unfolding audit_refusal
  of_audit t f = of_fault (audit_on t f)

  first_four : (t f : List ℕ) (cur : Currency) → Among Four (refusal_on t f cur)
  unfolding refusal_on
  first_four t f cur = among_first (of_size (3 ∷ 4 ∷ ns) t f) (among_first (of_audit t f) (of_currency t f cur))

  came_checked : (t f : List ℕ) (cur : Currency) (r : Outcome) → Looks Four f cur r → Looks Four f cur (checked t f cur r)
  unfolding checked
  came_checked t f cur r p = look_cond (eqb (refusal_on t f cur) 0) p (came_refused (first_four t f cur))

  came_with : (t f : List ℕ) (cur : Currency) (b : List ℕ) (c : Changed) → Comes Four b cur c → Comes Four b cur (checked_with t f cur b c)
  unfolding checked_with
  came_with t f cur b c p = came_unless (first_four t f cur) p

-- each call: its own refusals in their order
module _ (t f : List ℕ) (cur : Currency) where
  pub format_comes : Comes (1 ∷ 2 ∷ []) f cur (format_call t f cur)
  unfolding format_call
  format_comes = came_unless (of_size [] t f) (came_done _ refl)

  direct_looks : {ns : List ℕ} (x : ℕ) → Among ns 9 → Looks ns f cur (direct_on t f cur x)
  unfolding direct_on
  direct_looks x nine = look_cond (eqb (kind_in f x) 0) (came_refused nine) (came_done _ refl)

  found_looks : {ns : List ℕ} (r : Found) → Among ns 9 → Looks ns f cur (found_on t f cur r)
  unfolding found_on
  found_looks r nine = look_cond (eqb r.code 0) (came_refused nine) (came_done _ refl)

  pub direct_comes : (x : ℕ) → Looks (1 ∷ 2 ∷ 3 ∷ 4 ∷ 9 ∷ []) f cur (direct_call t f cur x)
  unfolding direct_call elem
  direct_comes x = came_checked (9 ∷ []) t f cur _ (direct_looks x (among refl))

  pub each_comes : (low high : ℕ) → Looks (1 ∷ 2 ∷ 3 ∷ 4 ∷ 9 ∷ []) f cur (each_call t f cur low high)
  unfolding each_call each_on elem
  each_comes low high = came_checked (9 ∷ []) t f cur _ (direct_looks _ (among refl))

  pub key_comes : (n : ℕ) (k : List ℕ) → Looks (1 ∷ 2 ∷ 3 ∷ 4 ∷ 5 ∷ 7 ∷ 8 ∷ 9 ∷ []) f cur (key_call t f cur n k)
  unfolding key_call key_on elem
  key_comes n k =
      came_checked (5 ∷ 7 ∷ 8 ∷ 9 ∷ []) t f cur _
      (look_cond (not (defined t n)) (came_refused (among refl))
      (look_cond (not (calculated t n)) (came_refused (among refl))
      (look_cond (not (eqb (length k) (key_len t (row t n)))) (came_refused (among refl)) (found_looks _ (among refl)))))

  pub current_comes : (n : ℕ) → Looks (1 ∷ 2 ∷ 3 ∷ 4 ∷ 5 ∷ 6 ∷ []) f cur (current_call t f cur n)
  unfolding current_call current_on reached_on elem
  current_comes n =
      came_checked (5 ∷ 6 ∷ []) t f cur _
      (look_cond (not (defined t n)) (came_refused (among refl))
      (look_cond (eqb (type_current t cur n) 0) (came_refused (among refl)) (came_done _ refl)))

  -- refusals 5 and 6 of a call on a chain
  chain_looks : {ns : List ℕ} (j : ℕ) (r : Outcome) → Among ns 5 → Among ns 6 → Looks ns f cur r → Looks ns f cur (on_chain t cur j r)
  chain_looks j r five six p =
      look_cond (no_chain t j) (came_refused five) (look_cond (eqb (chain_current cur j) 0) (came_refused six) p)

  pub find_comes : (j : ℕ) (k : List ℕ) → Looks (1 ∷ 2 ∷ 3 ∷ 4 ∷ 5 ∷ 6 ∷ 7 ∷ 8 ∷ 9 ∷ []) f cur (find_call t f cur j k)
  unfolding find_call find_on elem
  find_comes j k =
      came_checked (5 ∷ 6 ∷ 7 ∷ 8 ∷ 9 ∷ []) t f cur _
      (chain_looks j _ (among refl) (among refl)
      (look_cond (ltb (order t j) 2) (came_refused (among refl))
      (look_cond (not (eqb (length k) (sort_len t j))) (came_refused (among refl)) (found_looks _ (among refl)))))

  along_looks : (step : List ℕ → List ℕ → ℕ → ℕ → ℕ) (j : ℕ) → Looks (1 ∷ 2 ∷ 3 ∷ 4 ∷ 5 ∷ 6 ∷ []) f cur (checked t f cur (along_on step t f cur j))
  unfolding along_on reached_on elem
  along_looks step j = came_checked (5 ∷ 6 ∷ []) t f cur _ (chain_looks j _ (among refl) (among refl) (came_done _ refl))

  pub next_comes : (j : ℕ) → Looks (1 ∷ 2 ∷ 3 ∷ 4 ∷ 5 ∷ 6 ∷ []) f cur (next_call t f cur j)
  unfolding next_call next_on
  next_comes j = along_looks next_in j

  pub prior_comes : (j : ℕ) → Looks (1 ∷ 2 ∷ 3 ∷ 4 ∷ 5 ∷ 6 ∷ []) f cur (prior_call t f cur j)
  unfolding prior_call prior_on
  prior_comes j = along_looks before_in j

  pub master_comes : (j : ℕ) → Looks (1 ∷ 2 ∷ 3 ∷ 4 ∷ 5 ∷ 6 ∷ []) f cur (master_call t f cur j)
  unfolding master_call master_on
  master_comes j = along_looks master_in j

  pub unknown_comes : Looks (1 ∷ 2 ∷ 3 ∷ 4 ∷ 5 ∷ []) f cur (unknown_call t f cur)
  unfolding unknown_call elem
  unknown_comes = came_checked (5 ∷ []) t f cur _ (came_refused (among refl))

  pub read_comes : (b : List ℕ) → Comes (1 ∷ 2 ∷ 3 ∷ 4 ∷ 6 ∷ 12 ∷ []) b cur (read_call t f cur b)
  unfolding read_call read_on elem
  read_comes b =
      came_with (6 ∷ 12 ∷ []) t f cur b _
      (came_cond (eqb cur.run 0) (came_refused (among refl))
      (came_cond (ltb (length b) (data_len t (row t (kind_in f cur.run)))) (came_refused (among refl)) (came_done _ refl)))

  -- the calls that change the file
  of_store : (n : ℕ) (d : List ℕ) → Among (1 ∷ 2 ∷ 3 ∷ 4 ∷ 5 ∷ 6 ∷ 8 ∷ 10 ∷ 11 ∷ []) (store_refusal t f cur n d)
  unfolding store_refusal elem
  of_store n d =
      among_cond (not (defined t n)) (among refl)
      (among_cond (lacks_current t cur n) (among refl)
      (among_cond (not (eqb (length d) (data_len t (row t n)))) (among refl)
      (among_cond (calc_twin_in t f n d 0 || store_twin t f cur n d) (among refl) (among refl))))

  placed_comes : (n : ℕ) (d : List ℕ) (p : ℕ) → Comes (1 ∷ 2 ∷ 3 ∷ 4 ∷ 5 ∷ 6 ∷ 8 ∷ 10 ∷ 11 ∷ []) f cur (placed_on t f cur n d p)
  unfolding placed_on elem
  placed_comes n d p = came_cond (eqb p 0) (came_refused (among refl)) (came_done _ refl)

  pub store_comes : (n : ℕ) (d : List ℕ) → Comes (1 ∷ 2 ∷ 3 ∷ 4 ∷ 5 ∷ 6 ∷ 8 ∷ 10 ∷ 11 ∷ []) f cur (store_call t f cur n d)
  unfolding store_call store_on
  store_comes n d = came_with (5 ∷ 6 ∷ 8 ∷ 10 ∷ 11 ∷ []) t f cur f _ (came_unless (of_store n d) (placed_comes n d _))

  of_relink : (x j m : ℕ) → Among (1 ∷ 2 ∷ 3 ∷ 4 ∷ 5 ∷ 6 ∷ 7 ∷ 9 ∷ 10 ∷ []) (relink_refusal t f x j m)
  unfolding relink_refusal elem
  of_relink x j m =
      among_cond (leb (chains t) j) (among refl)
      (among_cond (eqb x 0) (among refl)
      (among_cond (not (is_detail t j (kind_in f x))) (among refl)
      (among_cond (not (masters_in t f j m)) (among refl)
      (among_cond (key_twin_in t f j m (sort_key_in t f j x) x) (among refl) (among refl)))))

  pub relink_comes : (j m : ℕ) → Comes (1 ∷ 2 ∷ 3 ∷ 4 ∷ 5 ∷ 6 ∷ 7 ∷ 9 ∷ 10 ∷ []) f cur (relink_call t f cur j m)
  unfolding relink_call relink_on run_arrival
  relink_comes j m = came_with (5 ∷ 6 ∷ 7 ∷ 9 ∷ 10 ∷ []) t f cur f _ (came_unless (of_relink cur.run j m) (came_done _ refl))

  of_modify : (x : ℕ) (d : List ℕ) → Among (1 ∷ 2 ∷ 3 ∷ 4 ∷ 6 ∷ 8 ∷ 10 ∷ []) (modify_refusal t f x d)
  unfolding modify_refusal elem
  of_modify x d =
      among_cond (eqb x 0) (among refl)
      (among_cond (not (eqb (length d) (data_len t (row t (kind_in f x))))) (among refl)
      (among_cond (calc_twin_in t f (kind_in f x) d x || modify_twin t f (kind_in f x) d x) (among refl) (among refl)))

  pub modify_comes : (d : List ℕ) → Comes (1 ∷ 2 ∷ 3 ∷ 4 ∷ 6 ∷ 8 ∷ 10 ∷ []) f cur (modify_call t f cur d)
  unfolding modify_call modify_on run_arrival
  modify_comes d = came_with (6 ∷ 8 ∷ 10 ∷ []) t f cur f _ (came_unless (of_modify cur.run d) (came_done _ refl))

  deleted_comes : (k : List ℕ) → Comes (1 ∷ 2 ∷ 3 ∷ 4 ∷ 6 ∷ []) f cur (deleted_from t f k cur)
  unfolding deleted_from decided_on deleted_with
  deleted_comes k = came_done (deleted_from t f k cur) refl

  pub delete_comes : Comes (1 ∷ 2 ∷ 3 ∷ 4 ∷ 6 ∷ []) f cur (delete_call t f cur)
  unfolding delete_call delete_on elem
  delete_comes = came_with (6 ∷ []) t f cur f _ (came_cond (eqb cur.run 0) (came_refused (among refl)) (deleted_comes _))
