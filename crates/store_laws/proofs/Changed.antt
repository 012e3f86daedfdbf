-- The whole promise of the calls that change the file.
use Prim.Native.Nat.{ℕ, ◌<◌}
use mathlib.Core.Path.{◌≡◌, sym, ◌∙◌, ap}
use mathlib.Core.Logic.{◌≢◌}
use mathlib.Core.Bool.{false, cond}
use mathlib.Core.List.{List}
use mathlib.Core.Option.{some}
use native.Mathlib.Omega.{arith}
use lib.ListN.{length, get_or}
use lib.Dec.{eqb}
use borrow.Author.Tests.{eqb-true, eqb-false, ne_eqb}
use Rattle.ledger.specs.declared.Answer.{Answer}
use Rattle.ledger.specs.declared.Currency.{Currency}
use Rattle.ledger.specs.declared.Outcome.{Outcome}
use Rattle.ledger.specs.Table.{Accepted}
use Rattle.ledger.specs.Pages.{Ledger, code_of, kind_of, kind_at, layout, Sound}
use Rattle.ledger.specs.Answers.{done_with, outcome, refusal}
use Rattle.ledger.specs.Currency.{arrived, InForce}
use Rattle.ledger.specs.Calls.{Turn, refuse, done, unless, arrive, free_line, place_for, stored, store, modified, modify, relinked, relink, delete, STORE, MODIFY, DELETE, RELINK, turn}
use Rattle.ledger.specs.Promise.{Checks, Plays, turn_of}
use Rattle.ledger.proofs.Lists.Tests.{by_cases, update_same}
use Rattle.ledger.proofs.Ledger.Entries.{points_there}
use Rattle.ledger.proofs.Keeps.Arrival.{Kept}
use Rattle.ledger.proofs.Keeps.Store.{store_kept}
use Rattle.ledger.proofs.Keeps.Modify.{modify_kept}
use Rattle.ledger.proofs.Keeps.Relink.{relink_kept}
use Rattle.ledger.proofs.Delete.Backed.{delete_formed}
use Rattle.model.specs.Reads.{kind_in}
use Rattle.look_model.specs.Currencies.{arrival}
use Rattle.look_laws.proofs.Arrivals.{arrived_same}
use Rattle.act_model.specs.Placing.{place_for_in}
use Rattle.act_model.specs.Storing.{store_refusal, stored_on}
use Rattle.act_model.specs.Relinking.{relink_refusal, relinked_on}
use Rattle.act_model.specs.Modifying.{modify_refusal, modified_on}
use Rattle.act_laws.proofs.Places.{sound_place}
use Rattle.act_laws.proofs.Stores.{stored_file}
use Rattle.act_laws.proofs.StoreTurns.{store_turn, store_clean}
use Rattle.act_laws.proofs.Relinks.{relinked_file, relink_turn, relink_clean}
use Rattle.act_laws.proofs.Modifies.{modified_file, modify_turn, modify_clean}
use Rattle.place_laws.proofs.Sound.{sound_kind}
use Rattle.delete_model.specs.Deletes.{delete_on}
use Rattle.delete_laws.proofs.Deletes.{delete_refused, delete_done}
use Rattle.store_model.specs.Checks.{refusal_on}
use Rattle.store_model.specs.Changes.{Changed, changed_unless, placed_on, store_on, run_arrival, relink_on, modify_on}
use Rattle.store_model.specs.Calls.{store_call, modify_call, delete_call, relink_call}
use Rattle.store_laws.proofs.Checked.{Acts, plays}

-- what a call that changes the file comes to on a ledger: its refusal n, or the arrival at x in the ledger that the file then is the layout of
pub record Turned (t f : List ℕ) (cur : Currency) (n x kind : ℕ) (f' : List ℕ) (r : Turn) : Type 0 where
  pub after : Ledger
  pub same : r ≡ cond (eqb n 0) (arrive t after cur x 0) (refuse n)
  pub kinds : n ≡ 0 → kind_at after x ≡ kind
  pub file : n ≡ 0 → f' ≡ layout t after
  pub keeps : Kept t r

module _ (t f : List ℕ) (cur : Currency) (ch : length cur.chains ≡ 16) (n x kind : ℕ) (f' : List ℕ) where
  turned_refused : (r : Turn) → Turned t f cur n x kind f' r → (m : ℕ) → r ≡ refuse m → changed_unless n cur f (arrival t cur kind x 0, f') ≡ (refusal m cur, f)
  unfolding changed_unless arrive
  turned_refused r w m e = by_cases (eqb n 0)
      (λ z. let s = rw z at w.same in let bad : ◌≡◌ {A = ℕ} 0 1 = cc in absurd (omega arith))
      (λ z. let s = rw z at w.same in let q : n ≡ m = cc in rw z (rw q))

  turned_played : (r : Turn) → Turned t f cur n x kind f' r → (b : Answer) (l' : Ledger) (c : Currency) → r ≡ done b l' c
      → let d = changed_unless n cur f (arrival t cur kind x 0, f') in (d.0 ≡ outcome b c) × Sound t d.1 l' × InForce t l' c
  unfolding changed_unless arrive
  turned_played r w b l' c e = by_cases (eqb n 0)
      (λ z.
      let s = rw z at w.same in
      let nz = eqb-true n 0 z in
      let one : done_with x (kind_at w.after x) 0 ≡ b = cc in
      let two : w.after ≡ l' = cc in
      let three : arrived t w.after cur x ≡ c = cc in
      let k = w.keeps b l' c e in
      rw z
      (rw (← one, ← three, ← w.kinds nz, arrived_same t w.after cur x ch), record { formed = k.0; bytes = w.file nz ∙ ap (layout t) two }, k.1))
      (λ z. let s = rw z at w.same in let bad : ◌≡◌ {A = ℕ} 0 1 = cc in absurd (omega arith))

  pub acts_turned : (call : Ledger → Turn) → (Accepted t → (l : Ledger) → Sound t f l → InForce t l cur → Turned t f cur n x kind f' (call l))
      → Acts call t f cur (changed_unless n cur f (arrival t cur kind x 0, f'))
  acts_turned call w = record {
    refused = λ a l s i m e. turned_refused (call l) (w a l s i) m e;
    played = λ a l s i b l' c e. turned_played (call l) (w a l s i) b l' c e;
  }

kind_stored : (t : List ℕ) (l : Ledger) (cur : Currency) (n : ℕ) (d : List ℕ) (x : ℕ) → kind_at (stored t l cur n d x) x ≡ n
unfolding stored kind_of
kind_stored t l cur n d x = rw (update_same l.at x (some (record { kind = n; bytes = d })))

kind_modified : (t : List ℕ) (l : Ledger) (x : ℕ) (d : List ℕ) → kind_at (modified t l x d) x ≡ kind_at l x
unfolding modified kind_of
kind_modified t l x d = rw (update_same l.at x (some (record { kind = kind_at l x; bytes = d })))

-- STORE's refusal, the want of a page among them
module _ (t f : List ℕ) (cur : Currency) (n : ℕ) (d : List ℕ) where
  number : ℕ
  number = cond (eqb (store_refusal t f cur n d) 0) (cond (eqb (place_for_in t f cur n d) 0) 11 0) (store_refusal t f cur n d)

  put : ℕ × List ℕ
  put = stored_on t f cur n d (place_for_in t f cur n d)

  store_as : store_on t f cur n d ≡ changed_unless number cur f (arrival t cur n put.0 0, put.1)
  unfolding store_on placed_on changed_unless number put
  store_as = by_cases (eqb (store_refusal t f cur n d) 0)
      (λ z. by_cases (eqb (place_for_in t f cur n d) 0) (λ p. rw (z, p)) (λ p. rw (z, p)))
      (λ z. rw (z, z))

  number_clean : number ≡ 0 → (store_refusal t f cur n d ≡ 0) × (place_for_in t f cur n d ≢ 0)
  unfolding number
  number_clean e = by_cases (eqb (store_refusal t f cur n d) 0)
      (λ z. by_cases (eqb (place_for_in t f cur n d) 0)
      (λ p. let bad : 11 ≡ 0 = rw (z, p) at e in absurd (omega arith))
      (λ p. (eqb-true _ _ z, eqb-false _ _ p)))
      (λ z. absurd (eqb-false _ _ z (rw z at e)))

  module _ (small : (i : ℕ) → get_or d i 0 < 256) (a : Accepted t) (l : Ledger) (s : Sound t f l) (i : InForce t l cur) where
    place : ℕ
    place = code_of (place_for t l cur n d) (free_line l (place_for t l cur n d))

    stored_put : number ≡ 0 → put ≡ (place, layout t (stored t l cur n d place))
    unfolding put place
    stored_put e =
        let (z, found) = number_clean e in
        let (typed, none, full, apart) = store_clean t f cur n d z in
        let same = sound_place t f l a s cur i n d typed none in
        rw same (stored_file t f l a s cur i n d typed none full small (λ q. found (same ∙ q)))

    store_turned : Turned t f cur number put.0 n put.1 (store t l cur n d)
    store_turned = record {
      after = stored t l cur n d place;
      same = by_cases (eqb number 0)
          (λ z. let e = eqb-true _ _ z in rw (z, stored_put e) (turn_here e))
          (λ z. rw z (turn_else z));
      kinds = λ e. rw (stored_put e) (kind_stored t l cur n d place);
      file = λ e. ap (λ (q : ℕ × List ℕ). q.1) (stored_put e);
      keeps = store_kept t l cur n d a s.formed i small;
    }
      where
        turn_here : number ≡ 0 → store t l cur n d ≡ arrive t (stored t l cur n d place) cur place 0
        turn_here e = let (z, found) = number_clean e in store_turn t f l a s cur i n d ∙ (unfold place in rw (z, ne_eqb _ _ found))

        turn_else : eqb number 0 ≡ false → store t l cur n d ≡ refuse number
        turn_else e = store_turn t f l a s cur i n d ∙ (unfold number in by_cases (eqb (store_refusal t f cur n d) 0)
            (λ z. by_cases (eqb (place_for_in t f cur n d) 0) (λ p. rw (z, p)) (λ p. absurd (eqb-false number 0 e (unfold number in rw (z, p)))))
            (λ z. rw z))

module _ (t f : List ℕ) (cur : Currency) (k : Checks t f cur (refusal_on t f cur)) (ch : length cur.chains ≡ 16) (r : Outcome) (f' : List ℕ) where
  pub store_plays : (n : ℕ) (d : List ℕ) → ((i : ℕ) → get_or d i 0 < 256) → store_call t f cur n d ≡ (r, f') → Plays (turn_of t cur (STORE n d)) t f f' cur r
  unfolding store_call turn
  store_plays n d small e =
      plays t f cur k _ _ (acts_turned t f cur ch (number t f cur n d) (put t f cur n d).0 n (put t f cur n d).1 (λ l. store t l cur n d)
      (λ a l s i. store_turned t f cur n d small a l s i)) r f' (rw (store_as t f cur n d) at e)

  delete_told : Accepted t → (l : Ledger) → Sound t f l → InForce t l cur → (n : ℕ) → delete t l cur ≡ refuse n → delete_on t f cur ≡ (refusal n cur, f)
  unfolding delete unless
  delete_told a l s i n q = by_cases (eqb cur.run 0)
      (λ z. let p = rw z at q in let six : 6 ≡ n = cc in rw (← six) (delete_refused t f l a s cur (eqb-true _ _ z)))
      (λ z. let p = rw z at q in let bad : ◌≡◌ {A = ℕ} 0 1 = cc in absurd (omega arith))

  pub delete_plays : delete_call t f cur ≡ (r, f') → Plays (turn_of t cur DELETE) t f f' cur r
  unfolding delete_call turn
  delete_plays e = plays t f cur k (λ l. delete t l cur) (delete_on t f cur) (record {
    refused = delete_told;
    played = λ a l s i b l' c q.
        let w = delete_done t f l a s cur i b l' c q in
        let (formed, force, count) = delete_formed t l cur a s.formed i b l' c q in
        (ap (λ (z : Changed). z.0) w, record { formed = formed; bytes = ap (λ (z : Changed). z.1) w }, force);
  }) r f' e

  pub modify_plays : (d : List ℕ) → ((i : ℕ) → get_or d i 0 < 256) → modify_call t f cur d ≡ (r, f') → Plays (turn_of t cur (MODIFY d)) t f f' cur r
  unfolding modify_call modify_on run_arrival turn
  modify_plays d small e =
      let x = cur.run in
      plays t f cur k _ _ (acts_turned t f cur ch (modify_refusal t f x d) x (kind_in f x) (modified_on t f x d) (λ l. modify t l cur d) λ a l s i. record {
        after = modified t l x d;
        same = modify_turn t f l a s cur i d;
        kinds = λ n. kind_modified t l x d ∙ sym (sound_kind t f l a s x);
        file = λ n. let (run, full) = modify_clean t f l a s x d n in modified_file t f l a s x d (points_there l x i.run_there run) full;
        keeps = modify_kept t l cur d a s.formed i small;
      }) r f' e

  pub relink_plays : (j m : ℕ) → relink_call t f cur j m ≡ (r, f') → Plays (turn_of t cur (RELINK j m)) t f f' cur r
  unfolding relink_call relink_on run_arrival turn relinked
  relink_plays j m e =
      let x = cur.run in
      plays t f cur k _ _ (acts_turned t f cur ch (relink_refusal t f x j m) x (kind_in f x) (relinked_on t f j x m) (λ l. relink t l cur j m) λ a l s i. record {
        after = relinked t l j x m;
        same = relink_turn t f l a s cur j m;
        kinds = λ n. sym (sound_kind t f l a s x);
        file = λ n. let (lt, run, below, there, top) = relink_clean t f l a s x j m n in relinked_file t f l a s j x m lt below top;
        keeps = relink_kept t l cur j m a s.formed i;
      }) r f' e
