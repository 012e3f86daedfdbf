-- Demand 3: what a history of calls tells, from the calls, their answers and the currencies alone, and what the file then is.
-- `es` are events, the newest first; `x` and `y` are codes of records, `m` of a master; `j` is a chain, `n` a type and `d` a record's data.
use Rattle.std.specs.Prelude.{ℕ, zero, suc, ◌+◌, ◌*◌, ◌-◌, ◌≤◌, ◌<◌, ◌≡◌, ◌↔◌, ◌≢◌, Bool, true, false, cond, not, ◌&&◌, ◌||◌, List, [], ◌∷◌, ◌++◌, reverse, length, eqb, ltb}
use Rattle.std.proofs.Math.Option.{Option, none, some}
use Rattle.ledger.specs.declared.Currency.{Currency}
use Rattle.ledger.specs.declared.Outcome.{Outcome}
use Rattle.ledger.specs.Numbers.{elem, keep, any, run, once, pairs, same_key, without}
use Rattle.ledger.specs.Table.{pages, types, chains, order, duplicates, is_master, is_detail, sort_key}
use Rattle.ledger.specs.Bytes.{two_at}
use Rattle.ledger.specs.Pages.{Ledger, kind_at, bytes_at, present, master_of, next_of, key_in, used, record_bytes, may_precede, Sound}
use Rattle.ledger.specs.Currency.{chain_current}
use Rattle.ledger.specs.Calls.{Call, FORMAT, STORE, DIRECT, KEY, NEXT, PRIOR, MASTER, EACH, MODIFY, DELETE, READ, CURRENT, FIND, RELINK, UNKNOWN}
use Rattle.ledger.specs.Promise.{Promised}

-- What an accepted call did: FORMAT; STORE, beside the currency before it; MODIFY; RELINK; DELETE. x is the code that the call's answer names.
pub data Event : Type 0 where
  fresh : Event
  stored : (cur : Currency) (n : ℕ) (d : List ℕ) (x : ℕ) → Event
  changed : (d : List ℕ) (x : ℕ) → Event
  moved : (j m x : ℕ) → Event
  taken : (x : ℕ) → Event

-- there is one, and it passes
unfoldable pub passes : (ℕ → Bool) → Option ℕ → Bool
passes p none = false
passes p (some m) = p m

-- the master in a chain of a record x of type n: itself where it is of the master type, else the one that it is under
unfoldable pub master_told : List ℕ → ℕ → ℕ → ℕ → Option ℕ → Option ℕ
master_told t j x n above = cond (is_master t j n) (some x) above

-- What a DELETE of x took: x, and whatever is under one that it took, in any chain; `up j y` is the master that y is under.
-- Types rise from master to detail, so there are no more levels than types.
unfoldable pub took_down : List ℕ → (ℕ → ℕ → Option ℕ) → ℕ → ℕ → ℕ → Bool
took_down t up zero x y = eqb y x
took_down t up (suc n) x y = took_down t up n x y || any (λ j. passes (took_down t up n x) (up j y)) (run 0 (chains t))

unfoldable pub took : List ℕ → (ℕ → ℕ → Option ℕ) → ℕ → ℕ → Bool
took t up x y = took_down t up (types t) x y

unfoldable mutual
  -- the master under which x was last put or moved in chain j, since the last fresh start, and not deleted since:
  -- STORE puts a record under the master of each chain's current record
  pub under : List ℕ → List Event → ℕ → ℕ → Option ℕ
  under t [] j x = none
  under t (fresh ∷ es) j x = none
  under t (stored cur n d y ∷ es) j x =
      let c = chain_current cur j in
      cond (ltb j (chains t) && is_detail t j n && eqb x y) (master_told t j c (kind_told t es c) (under t es j c)) (under t es j x)
  under t (changed d y ∷ es) j x = under t es j x
  under t (moved i m y ∷ es) j x = cond (eqb j i && eqb x y) (some m) (under t es j x)
  under t (taken y ∷ es) j x = cond (took t (λ i v. under t es i v) y x) none (under t es j x)

  -- the type with which x was last stored, 0 where there is no such record
  pub kind_told : List ℕ → List Event → ℕ → ℕ
  kind_told t [] x = 0
  kind_told t (fresh ∷ es) x = 0
  kind_told t (stored cur n d y ∷ es) x = cond (eqb x y) n (kind_told t es x)
  kind_told t (changed d y ∷ es) x = kind_told t es x
  kind_told t (moved j m y ∷ es) x = kind_told t es x
  kind_told t (taken y ∷ es) x = cond (took t (λ i v. under t es i v) y x) 0 (kind_told t es x)

-- the data that x was last given
unfoldable pub data_told : List ℕ → List Event → ℕ → List ℕ
data_told t [] x = []
data_told t (fresh ∷ es) x = []
data_told t (stored cur n d y ∷ es) x = cond (eqb x y) d (data_told t es x)
data_told t (changed d y ∷ es) x = cond (eqb x y) d (data_told t es x)
data_told t (moved j m y ∷ es) x = data_told t es x
data_told t (taken y ∷ es) x = cond (took t (under t es) y x) [] (data_told t es x)

-- its key in a chain
unfoldable pub key_told : List ℕ → List Event → ℕ → ℕ → List ℕ
key_told t es j x = sort_key t j (kind_told t es x) (data_told t es x)

-- the details last put under m in chain j, the one that joined last first; MODIFY makes a record join afresh where it changes the key
unfoldable pub newest : List ℕ → List Event → ℕ → ℕ → List ℕ
newest t [] j m = []
newest t (fresh ∷ es) j m = []
newest t (stored cur n d x ∷ es) j m =
    let c = chain_current cur j in
    cond (ltb j (chains t) && is_detail t j n && passes (eqb m) (master_told t j c (kind_told t es c) (under t es j c))) (x ∷ newest t es j m) (newest t es j m)
newest t (changed d x ∷ es) j m =
    cond (elem x (newest t es j m) && not (same_key (key_told t es j x) (sort_key t j (kind_told t es x) d))) (x ∷ without x (newest t es j m)) (newest t es j m)
newest t (moved i k x ∷ es) j m =
    cond (eqb j i) (cond (eqb m k) (x ∷ without x (newest t es j m)) (without x (newest t es j m))) (newest t es j m)
newest t (taken x ∷ es) j m = keep (λ y. not (took t (under t es) x y)) (newest t es j m)

-- A call and what it returned. The event of an accepted one, with the currency before it and its answer's reference code; the other calls only look.
pub record Step : Type 0 where
  pub call : Call
  pub outcome : Outcome

unfoldable pub event_of : Currency → ℕ → Call → List Event
event_of cur x FORMAT = fresh ∷ []
event_of cur x (STORE n d) = stored cur n d x ∷ []
event_of cur x (MODIFY d) = changed d x ∷ []
event_of cur x (RELINK j m) = moved j m x ∷ []
event_of cur x DELETE = taken x ∷ []
event_of cur x (DIRECT y) = []
event_of cur x (KEY n k) = []
event_of cur x (NEXT j) = []
event_of cur x (PRIOR j) = []
event_of cur x (MASTER j) = []
event_of cur x (EACH low high) = []
event_of cur x (READ room) = []
event_of cur x (CURRENT n) = []
event_of cur x (FIND j k) = []
event_of cur x UNKNOWN = []

-- the events of calls made one after another from the currency cur, the first call at the head; a refused call has none
unfoldable pub events_told : Currency → List Step → List Event
events_told cur [] = []
events_told cur (s ∷ ss) =
    let a = s.outcome.answer in
    events_told s.outcome.currency ss ++ cond (eqb a.code 0) (event_of cur a.reference s.call) []

-- Promised calls one after another, from the file f and the currency cur to f' and cur', each given what the one before it left.
abbrev pub Runs : List ℕ → List ℕ → Currency → List Step → List ℕ → Currency → Type 0
Runs t f cur [] f' cur' = (f' ≡ f) × (cur' ≡ cur)
Runs t f cur (s ∷ ss) f' cur' = (g o o' : List ℕ) × Promised s.call t f g o o' cur s.outcome × Runs t g s.outcome.currency ss f' cur'

-- "No such file is ever called damaged": no call answers 3, that the file is not sound, or 4, that the currency is not of it.
abbrev pub Undamaged : List Step → Type 0
Undamaged [] = Unit {0}
Undamaged (s ∷ ss) = (s.outcome.answer.code ≢ 3) × (s.outcome.answer.code ≢ 4) × Undamaged ss

-- NEXT, k times
unfoldable pub steps : ℕ → (ℕ → ℕ) → ℕ → ℕ
steps zero nx x = x
steps (suc k) nx x = steps k nx (nx x)

-- whether a record has this key in a chain
abbrev pub has_key : List ℕ → Ledger → ℕ → List ℕ → ℕ → Bool
has_key t l j k y = same_key (key_in t l j y) k

-- What the demand's words say of the file f after calls whose events are es.
pub record Demand3 (t f : List ℕ) (es : List Event) : Type 0 where
  -- the file is sound, for this ledger: every byte of it is the ledger's layout
  pub ledger : Ledger
  pub sound : Sound t f ledger
  -- each record is of the type, and has the data, that it was last given; and where none is told, none is there
  pub kinds : (x : ℕ) → kind_at ledger x ≡ kind_told t es x
  pub contents : (x : ℕ) → bytes_at ledger x ≡ data_told t es x
  -- "each master's ring of a chain holds exactly the details that were last put or moved under it in that chain since the last fresh start and not deleted since"
  pub holds_exactly : (j m x : ℕ) → (elem x (ledger.ring j m) ≡ true) ↔ (under t es j x ≡ some m)
  -- "once each"
  pub once_each : (j m : ℕ) → once (ledger.ring j m) ≡ true
  -- "in the chain's order": first; last; by key, and equals in the order of joining
  pub newest_first : (j m : ℕ) → j < chains t → order t j ≡ 0 → ledger.ring j m ≡ newest t es j m
  pub oldest_first : (j m : ℕ) → j < chains t → order t j ≡ 1 → ledger.ring j m ≡ reverse (newest t es j m)
  pub by_key : (j m : ℕ) → pairs (may_precede t ledger j) (ledger.ring j m) ≡ true
  pub first_among_equals : (j m : ℕ) (k : List ℕ) → j < chains t → 2 ≤ order t j → duplicates t j ≡ 0
      → keep (has_key t ledger j k) (ledger.ring j m) ≡ keep (has_key t ledger j k) (newest t es j m)
  pub last_among_equals : (j m : ℕ) (k : List ℕ) → j < chains t → 2 ≤ order t j → duplicates t j ≡ 1
      → keep (has_key t ledger j k) (ledger.ring j m) ≡ reverse (keep (has_key t ledger j k) (newest t es j m))
  pub no_equals : (j m : ℕ) → 2 ≤ order t j → duplicates t j ≡ 2
      → pairs (λ a b. not (same_key (key_in t ledger j a) (key_in t ledger j b))) (ledger.ring j m) ≡ true
  -- "Each detail has one master in each of its chains"
  pub a_master : (j x : ℕ) → j < chains t → present ledger x ≡ true → is_detail t j (kind_at ledger x) ≡ true → (m : ℕ) × (elem x (ledger.ring j m) ≡ true)
  pub one_master : (j m n x : ℕ) → elem x (ledger.ring j m) ≡ true → elem x (ledger.ring j n) ≡ true → m ≡ n
  pub master_is : (j m x : ℕ) → under t es j x ≡ some m → master_of t ledger j x ≡ m
  -- "Walking on from any detail reaches that master within as many steps as the ring has details"
  pub comes_home : (j m x : ℕ) → elem x (ledger.ring j m) ≡ true → (k : ℕ) × (k ≤ length (ledger.ring j m)) × (steps k (next_of t ledger j) x ≡ m)
  -- "Each page's free count is its room less the records in it": what the page's header in the file says, and the bytes of the records in it
  pub free_count : (p : ℕ) → 1 ≤ p → p ≤ pages t → two_at f (512 * (p - 1) + 3) + used (record_bytes t ledger) p ≡ 496
