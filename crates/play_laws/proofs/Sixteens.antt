-- A call hands back a currency of sixteen entries for types and sixteen for chains where it was given one.
use Prim.Native.Nat.{ℕ, zero, suc, ◌+◌}
use mathlib.Core.Path.{◌≡◌, refl, ◌∙◌}
use mathlib.Core.Bool.{Bool, cond, not}
use mathlib.Core.List.{List}
use lib.ListN.{length, get_or, set, drop, length-set}
use lib.Dec.{eqb, ltb}
use Rattle.ledger.specs.declared.Currency.{Currency}
use Rattle.ledger.specs.declared.Outcome.{Outcome}
use Rattle.ledger.specs.Table.{row, data_len, key_len, sort_len, order, defined, calculated}
use Rattle.ledger.specs.Bytes.{two_at, three_at}
use Rattle.ledger.specs.Currency.{type_current, chain_current}
use Rattle.ledger.specs.Calls.{no_chain}
use Rattle.ledger.proofs.Lists.Tests.{by_cases}
use Rattle.ledger.proofs.Lists.Parts.{length_by_index}
use Rattle.model.specs.declared.Found.{Found}
use Rattle.model.specs.Reads.{kind_in, next_in}
use Rattle.ring_model.specs.Rings.{master_in, before_in}
use Rattle.look_model.specs.Currencies.{entry_after, entries_from, arrived_as}
use Rattle.look_model.specs.Looks.{direct_on, reached_on, found_on, key_on, current_on, on_chain, find_on, along_on, next_on, prior_on, master_on, each_on, read_on}
use Rattle.act_model.specs.Placing.{place_for_in}
use Rattle.act_model.specs.Storing.{store_refusal}
use Rattle.act_model.specs.Relinking.{relink_refusal}
use Rattle.act_model.specs.Modifying.{modify_refusal}
use Rattle.delete_model.specs.Entries.{currency_after}
use Rattle.delete_model.specs.Deletes.{deleted_with, decided_on, deleted_from, delete_on}
use Rattle.store_model.specs.Checks.{size_refusal, refusal_on}
use Rattle.store_model.specs.Changes.{Changed, changed_unless, placed_on, store_on, run_arrival, relink_on, modify_on}
use Rattle.store_model.specs.Calls.{checked, checked_with, format_call, store_call, direct_call, key_call, next_call, prior_call, master_call, each_call, modify_call, delete_call, read_call, current_call, find_call, relink_call, unknown_call}
use Rattle.play_model.specs.Plays.{Played, played_on, play_on}
use Rattle.ledger.specs.Calls.{Call, FORMAT, STORE, DIRECT, KEY, NEXT, PRIOR, MASTER, EACH, MODIFY, DELETE, READ, CURRENT, FIND, RELINK, UNKNOWN}
use Rattle.ledger.specs.Player.{call_in}

pub record Sixteen (cur : Currency) : Type 0 where
  pub types : length cur.types ≡ 16
  pub chains : length cur.chains ≡ 16

-- of two that a test chooses from
full_cond : {A : Type 0} (g : A → Currency) (b : Bool) {x y : A} → Sixteen (g x) → Sixteen (g y) → Sixteen (g (cond b x y))
full_cond g b p q = by_cases b (λ e. rw e p) (λ e. rw e q)

length_entries : (t : List ℕ) (n x : ℕ) (es : List ℕ) (j m : ℕ) → length (entries_from t n x es j m) ≡ length es
unfolding entries_from
length_entries t n x es j zero = refl
length_entries t n x es j (suc m) =
    length_entries t n x (set es j (entry_after t n x j (get_or es j 0))) (j + 1) m ∙ length-set es j _

abbrev of_outcome : Outcome → Currency
of_outcome r = r.currency

abbrev of_changed : Changed → Currency
of_changed c = c.0.currency

abbrev of_played : Played → Currency
of_played p = p.0.currency

module _ (t f : List ℕ) (cur : Currency) (full : Sixteen cur) where
  full_arrived : (n x : ℕ) → Sixteen (arrived_as t cur n x)
  unfolding arrived_as
  full_arrived n x =
      record { types = length-set cur.types (row t n) x ∙ full.types; chains = length_entries t n x cur.chains 0 16 ∙ full.chains }

  full_after : (k : List ℕ) → Sixteen (currency_after t f k cur)
  unfolding currency_after
  full_after k = record { types = length_by_index _ 0 cur.types ∙ full.types; chains = length_by_index _ 0 cur.chains ∙ full.chains }

  -- behind refusals
  full_checked : (r : Outcome) → Sixteen r.currency → Sixteen (checked t f cur r).currency
  unfolding checked
  full_checked r p = full_cond of_outcome (eqb (refusal_on t f cur) 0) p full

  full_unless : (n : ℕ) (b : List ℕ) (c : Changed) → Sixteen (of_changed c) → Sixteen (of_changed (changed_unless n cur b c))
  unfolding changed_unless
  full_unless n b c p = full_cond of_changed (eqb n 0) p full

  full_with : (b : List ℕ) (c : Changed) → Sixteen (of_changed c) → Sixteen (of_changed (checked_with t f cur b c))
  unfolding checked_with
  full_with b c p = full_unless (refusal_on t f cur) b c p

  -- the calls that look
  full_reached : (x : ℕ) → Sixteen (reached_on t f cur x).currency
  unfolding reached_on
  full_reached x = full_arrived (kind_in f x) x

  full_direct : (x : ℕ) → Sixteen (direct_on t f cur x).currency
  unfolding direct_on
  full_direct x = full_cond of_outcome (eqb (kind_in f x) 0) full (full_arrived _ x)

  full_found : (r : Found) → Sixteen (found_on t f cur r).currency
  unfolding found_on
  full_found r = full_cond of_outcome (eqb r.code 0) full (full_arrived _ _)

  full_key : (n : ℕ) (k : List ℕ) → Sixteen (key_on t f cur n k).currency
  unfolding key_on
  full_key n k =
      full_cond of_outcome (not (defined t n)) full
      (full_cond of_outcome (not (calculated t n)) full
      (full_cond of_outcome (not (eqb (length k) (key_len t (row t n)))) full (full_found _)))

  full_current : (n : ℕ) → Sixteen (current_on t f cur n).currency
  unfolding current_on
  full_current n =
      full_cond of_outcome (not (defined t n)) full (full_cond of_outcome (eqb (type_current t cur n) 0) full (full_reached _))

  full_chain : (j : ℕ) (r : Outcome) → Sixteen r.currency → Sixteen (on_chain t cur j r).currency
  full_chain j r p = full_cond of_outcome (no_chain t j) full (full_cond of_outcome (eqb (chain_current cur j) 0) full p)

  full_find : (j : ℕ) (k : List ℕ) → Sixteen (find_on t f cur j k).currency
  unfolding find_on
  full_find j k =
      full_chain j _
      (full_cond of_outcome (ltb (order t j) 2) full
      (full_cond of_outcome (not (eqb (length k) (sort_len t j))) full (full_found _)))

  full_along : (step : List ℕ → List ℕ → ℕ → ℕ → ℕ) (j : ℕ) → Sixteen (checked t f cur (along_on step t f cur j)).currency
  unfolding along_on
  full_along step j = full_checked _ (full_chain j _ (full_reached _))

  full_read : (b : List ℕ) → Sixteen (of_changed (read_call t f cur b))
  unfolding read_call read_on
  full_read b =
      full_with b _
      (full_cond of_changed (eqb cur.run 0) full
      (full_cond of_changed (ltb (length b) (data_len t (row t (kind_in f cur.run)))) full full))

  -- the calls that change the file
  full_placed : (n : ℕ) (d : List ℕ) (p : ℕ) → Sixteen (of_changed (placed_on t f cur n d p))
  unfolding placed_on
  full_placed n d p = full_cond of_changed (eqb p 0) full (full_arrived _ _)

  full_store : (n : ℕ) (d : List ℕ) → Sixteen (of_changed (store_call t f cur n d))
  unfolding store_call store_on
  full_store n d = full_with f _ (full_unless (store_refusal t f cur n d) f _ (full_placed n d (place_for_in t f cur n d)))

  full_relink : (j m : ℕ) → Sixteen (of_changed (relink_call t f cur j m))
  unfolding relink_call relink_on run_arrival
  full_relink j m = full_with f _ (full_unless (relink_refusal t f cur.run j m) f _ (full_arrived _ _))

  full_modify : (d : List ℕ) → Sixteen (of_changed (modify_call t f cur d))
  unfolding modify_call modify_on run_arrival
  full_modify d = full_with f _ (full_unless (modify_refusal t f cur.run d) f _ (full_arrived _ _))

  full_deleted : (k : List ℕ) → Sixteen (of_changed (deleted_from t f k cur))
  unfolding deleted_from decided_on deleted_with
  full_deleted k = full_after _

  full_delete : Sixteen (of_changed (delete_call t f cur))
  unfolding delete_call delete_on
  full_delete = full_with f _ (full_cond of_changed (eqb cur.run 0) full (full_deleted _))

  full_format : Sixteen (of_changed (format_call t f cur))
  unfolding format_call
  full_format = full_unless (size_refusal t f) f _ (record { types = refl; chains = refl })

  full_played : (o : List ℕ) (c : Call) → Sixteen (played_on t f cur o c).0.currency
  unfolding played_on direct_call key_call next_call next_on prior_call prior_on master_call master_on each_call each_on current_call find_call unknown_call
  full_played o FORMAT = full_format
  full_played o (STORE n d) = full_store n d
  full_played o (DIRECT x) = full_checked _ (full_direct x)
  full_played o (KEY n k) = full_checked _ (full_key n k)
  full_played o (NEXT j) = full_along next_in j
  full_played o (PRIOR j) = full_along before_in j
  full_played o (MASTER j) = full_along master_in j
  full_played o (EACH x y) = full_checked _ (full_direct _)
  full_played o (MODIFY d) = full_modify d
  full_played o DELETE = full_delete
  full_played o (READ room) = full_read o
  full_played o (CURRENT n) = full_checked _ (full_current n)
  full_played o (FIND j k) = full_checked _ (full_find j k)
  full_played o (RELINK j m) = full_relink j m
  full_played o UNKNOWN = full_checked _ full

  -- a frame played
  pub play_sixteen : (fr o : List ℕ) → Sixteen (play_on t f cur fr o).0.currency
  unfolding play_on
  play_sixteen fr o = full_played o (call_in fr (length o))
