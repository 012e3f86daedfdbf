-- Document 01, "The calls": what each does to a ledger and a currency, and its refusals from 5 on, in their order.
use Rattle.std.specs.Prelude.{ℕ, zero, suc, ◌+◌, ◌-◌, Bool, true, false, cond, not, ◌&&◌, ◌||◌, List, [], ◌∷◌, ◌++◌, length, eqb, ltb, leb}
use Rattle.std.proofs.Math.Option.{none, some}
use Rattle.ledger.specs.declared.Answer.{Answer}
use Rattle.ledger.specs.declared.Currency.{Currency}
use Rattle.ledger.specs.Numbers.{elem, keep, any, run, first_of, place_from, put_before, without, by_index, update, less_key, same_key}
use Rattle.ledger.specs.Table.{types, chains, low, high, via, class, row, data_len, key_len, sort_len, defined, calculated, is_master, is_detail, order, duplicates, sort_key, calc_key}
use Rattle.ledger.specs.Pages.{Ledger, empty, kind_at, bytes_at, present, codes, code_of, page_of, record_size, home, master_of, next_of, prior_of, key_in, free, record_bytes}
use Rattle.ledger.specs.Answers.{done_with, refused_with}
use Rattle.ledger.specs.Currency.{unset, type_current, chain_current, occurrence, arrived}

-- what a call comes to: its refusal, or its answer with the ledger and the currency that it leaves
pub data Turn : Type 0 where
  refuse : ℕ → Turn
  done : Answer → Ledger → Currency → Turn

-- the first refusal whose test holds, else what is to be done
unfoldable pub unless : Bool → ℕ → Turn → Turn
unless true n r = refuse n
unless false n r = r

unfoldable pub arrive : List ℕ → Ledger → Currency → ℕ → ℕ → Turn
arrive t l cur x count = done (done_with x (kind_at l x) count) l (arrived t l cur x)

abbrev pub no_chain : List ℕ → ℕ → Bool
no_chain t j = leb (chains t) j

-- the chains in which a type is detail
unfoldable pub as_detail : List ℕ → ℕ → List ℕ
as_detail t n = keep (λ j. is_detail t j n) (run 0 (chains t))

-- whether a member of a ring stops a record with this key that goes along the ring to its place
unfoldable pub stops : List ℕ → Ledger → ℕ → List ℕ → ℕ → Bool
stops t l j key y =
    cond (eqb (order t j) 0) true
    (cond (eqb (order t j) 1) false
    (cond (eqb (order t j) 2)
    (cond (eqb (duplicates t j) 0) (not (less_key (key_in t l j y) key)) (less_key key (key_in t l j y)))
    (cond (eqb (duplicates t j) 0) (not (less_key key (key_in t l j y))) (less_key (key_in t l j y) key))))

-- a ring with x put where the chain's order says; `key` is its key
unfoldable pub joined : List ℕ → Ledger → ℕ → List ℕ → ℕ → List ℕ → List ℕ
joined t l j key x xs = put_before (stops t l j key) x xs

-- a twin of x in a ring where duplicates are refused (x = 0: a record that is not there yet)
unfoldable pub twin_in : List ℕ → Ledger → ℕ → ℕ → List ℕ → ℕ → Bool
twin_in t l j m key x =
    leb 2 (order t j) && eqb (duplicates t j) 2 && any (λ y. not (eqb y x) && same_key (key_in t l j y) key) (l.ring j m)

-- the same of a calculated type n, for a record with data d
unfoldable pub calc_twin : List ℕ → Ledger → ℕ → List ℕ → ℕ → Bool
calc_twin t l n d x =
    calculated t n && any (λ y. not (eqb y x) && eqb (kind_at l y) n && same_key (calc_key t n (bytes_at l y)) (calc_key t n d)) (l.calc (home t n (calc_key t n d)))

-- STORE's place: the base page by class
unfoldable pub base_page : List ℕ → Ledger → Currency → ℕ → List ℕ → ℕ
base_page t l cur n d =
    let i = row t n in
    let m = page_of (occurrence t l cur (via t i)) in
    cond (eqb (class t i) 2) (home t n (calc_key t n d))
    (cond (eqb (class t i) 1)
    (cond (leb (low t i) m && leb m (high t i)) m (low t i))
    (cond (eqb (type_current t cur n) 0) (low t i) (page_of (type_current t cur n))))

-- the lowest free line of a page, 0 where all are used
unfoldable pub free_line : Ledger → ℕ → ℕ
free_line l p = first_of (λ k. not (present l (code_of p k))) (run 1 63)

-- whether a page has the room and a free line for a record of type n
unfoldable pub takes : List ℕ → Ledger → ℕ → ℕ → Bool
takes t l n p = leb (record_size t n) (free (record_bytes t l) p) && ltb 0 (free_line l p)

-- the pages in the order they are tried: from the base up to high, then from low
unfoldable pub tried : List ℕ → ℕ → ℕ → List ℕ
tried t n base = run base (high t (row t n) + 1 - base) ++ run (low t (row t n)) (base - low t (row t n))

-- the page that takes the record, 0 where none does
unfoldable pub place_for : List ℕ → Ledger → Currency → ℕ → List ℕ → ℕ
place_for t l cur n d = first_of (takes t l n) (tried t n (base_page t l cur n d))

-- the ledger with the record x of type n and data d, joined to the occurrence of each chain where it is detail
unfoldable pub stored : List ℕ → Ledger → Currency → ℕ → List ℕ → ℕ → Ledger
stored t l cur n d x =
    record {
      at = update l.at x (some (record { kind = n; bytes = d }));
      ring = λ j m. cond (ltb j (chains t) && is_detail t j n && eqb m (occurrence t l cur j)) (joined t l j (sort_key t j n d) x (l.ring j m)) (l.ring j m);
      calc = λ p. cond (calculated t n && eqb p (home t n (calc_key t n d))) (x ∷ l.calc p) (l.calc p);
    }

-- STORE
unfoldable pub store : List ℕ → Ledger → Currency → ℕ → List ℕ → Turn
store t l cur n d =
    let p = place_for t l cur n d in
    let x = code_of p (free_line l p) in
    let after = stored t l cur n d x in
    unless (not (defined t n)) 5
    (unless (any (λ j. eqb (chain_current cur j) 0) (as_detail t n)) 6
    (unless (not (eqb (length d) (data_len t (row t n)))) 8
    (unless (calc_twin t l n d 0 || any (λ j. twin_in t l j (occurrence t l cur j) (sort_key t j n d) 0) (as_detail t n)) 10
    (unless (eqb p 0) 11
    (arrive t after cur x 0)))))

-- DIRECT
unfoldable pub direct : List ℕ → Ledger → Currency → ℕ → Turn
direct t l cur x = unless (not (present l x)) 9 (arrive t l cur x 0)

-- KEY and FIND: the first of a ring that passes, and its place, the first being 1
unfoldable pub found : List ℕ → Ledger → Currency → (ℕ → Bool) → List ℕ → Turn
found t l cur p xs = unless (eqb (place_from p 1 xs) 0) 9 (arrive t l cur (first_of p xs) (place_from p 1 xs))

-- KEY
unfoldable pub key : List ℕ → Ledger → Currency → ℕ → List ℕ → Turn
key t l cur n k =
    unless (not (defined t n)) 5
    (unless (not (calculated t n)) 7
    (unless (not (eqb (length k) (key_len t (row t n)))) 8
    (found t l cur (λ y. eqb (kind_at l y) n && same_key (calc_key t n (bytes_at l y)) k) (l.calc (home t n k)))))

-- CURRENT
unfoldable pub current : List ℕ → Ledger → Currency → ℕ → Turn
current t l cur n =
    unless (not (defined t n)) 5 (unless (eqb (type_current t cur n) 0) 6 (arrive t l cur (type_current t cur n) 0))

-- FIND
unfoldable pub find : List ℕ → Ledger → Currency → ℕ → List ℕ → Turn
find t l cur j k =
    unless (no_chain t j) 5
    (unless (eqb (chain_current cur j) 0) 6
    (unless (ltb (order t j) 2) 7
    (unless (not (eqb (length k) (sort_len t j))) 8
    (found t l cur (λ y. same_key (key_in t l j y) k) (l.ring j (occurrence t l cur j))))))

-- NEXT, PRIOR and MASTER: from the chain's current record to another of its ring
unfoldable pub along : (List ℕ → Ledger → ℕ → ℕ → ℕ) → List ℕ → Ledger → Currency → ℕ → Turn
along step t l cur j =
    unless (no_chain t j) 5 (unless (eqb (chain_current cur j) 0) 6 (arrive t l cur (step t l j (chain_current cur j)) 0))

unfoldable pub next : List ℕ → Ledger → Currency → ℕ → Turn
next = along next_of

unfoldable pub prior : List ℕ → Ledger → Currency → ℕ → Turn
prior = along prior_of

unfoldable pub master : List ℕ → Ledger → Currency → ℕ → Turn
master = along master_of

-- EACH: the lowest code from first to last that has a record
unfoldable pub each : List ℕ → Ledger → Currency → ℕ → ℕ → Turn
each t l cur first last =
    let x = first_of (λ y. leb first y && leb y last && present l y) (codes t) in
    unless (eqb x 0) 9 (arrive t l cur x 0)

-- MODIFY: where a ring's key bytes are unchanged the record keeps its place, else it joins afresh
unfoldable pub modified : List ℕ → Ledger → ℕ → List ℕ → Ledger
modified t l x d =
    let n = kind_at l x in
    let old = calc_key t n (bytes_at l x) in
    let new = calc_key t n d in
    record {
      at = update l.at x (some (record { kind = n; bytes = d }));
      ring = λ j m. cond (elem x (l.ring j m) && not (same_key (key_in t l j x) (sort_key t j n d))) (joined t l j (sort_key t j n d) x (without x (l.ring j m))) (l.ring j m);
      calc = λ p. cond (calculated t n && not (same_key old new)) (cond (eqb p (home t n new)) (x ∷ without x (l.calc p)) (without x (l.calc p))) (l.calc p);
    }

unfoldable pub modify : List ℕ → Ledger → Currency → List ℕ → Turn
modify t l cur d =
    let x = cur.run in
    let n = kind_at l x in
    let after = modified t l x d in
    unless (eqb x 0) 6
    (unless (not (eqb (length d) (data_len t (row t n)))) 8
    (unless (calc_twin t l n d x || any (λ j. twin_in t l j (master_of t l j x) (sort_key t j n d) x) (as_detail t n)) 10
    (arrive t after cur x 0)))

-- RELINK: x leaves its ring of chain j and joins that of m
unfoldable pub relinked : List ℕ → Ledger → ℕ → ℕ → ℕ → Ledger
relinked t l j x m =
    record {
      at = l.at;
      ring = λ i k. cond (eqb i j) (cond (eqb k m) (joined t l j (key_in t l j x) x (without x (l.ring j k))) (without x (l.ring j k))) (l.ring i k);
      calc = l.calc;
    }

unfoldable pub relink : List ℕ → Ledger → Currency → ℕ → ℕ → Turn
relink t l cur j m =
    let x = cur.run in
    unless (no_chain t j) 5
    (unless (eqb x 0) 6
    (unless (not (is_detail t j (kind_at l x))) 7
    (unless (not (present l m && is_master t j (kind_at l m))) 9
    (unless (twin_in t l j m (key_in t l j x) x) 10
    (arrive t (relinked t l j x m) cur x 0)))))

-- DELETE: the record, the details below it, and theirs; n levels down
unfoldable pub doomed : List ℕ → Ledger → ℕ → ℕ → ℕ → Bool
doomed t l zero x y = eqb y x
doomed t l (suc n) x y =
    doomed t l n x y || any (λ j. is_detail t j (kind_at l y) && doomed t l n x (master_of t l j y)) (run 0 (chains t))

-- whether y goes where x is deleted
unfoldable pub goes : List ℕ → Ledger → ℕ → ℕ → Bool
goes t l x y = present l y && doomed t l (types t) x y

unfoldable pub deleted : List ℕ → Ledger → ℕ → Ledger
deleted t l x =
    record {
      at = λ y. cond (goes t l x y) none (l.at y);
      ring = λ j m. cond (goes t l x m) [] (keep (λ y. not (goes t l x y)) (l.ring j m));
      calc = λ p. keep (λ y. not (goes t l x y)) (l.calc p);
    }

-- the last survivor before y in a list, else what is handed in
unfoldable pub last_before : (ℕ → Bool) → ℕ → ℕ → List ℕ → ℕ
last_before gone y best [] = best
last_before gone y best (z ∷ zs) = cond (eqb z y) best (last_before gone y (cond (gone z) best z) zs)

-- where chain j's entry y goes back to: the nearest survivor backwards round its old ring, or 0 if its master went
unfoldable pub backed : List ℕ → Ledger → ℕ → ℕ → ℕ → ℕ
backed t l x j y =
    let m = master_of t l j y in
    cond (eqb y 0) 0 (cond (not (goes t l x y)) y (cond (goes t l x m) 0 (last_before (goes t l x) y m (l.ring j m))))

unfoldable pub delete : List ℕ → Ledger → Currency → Turn
delete t l cur =
    let x = cur.run in
    unless (eqb x 0) 6
    (done (done_with x (kind_at l x) (length (keep (goes t l x) (codes t)))) (deleted t l x)
    (record {
      run = 0;
      types = by_index (λ i y. cond (goes t l x y) 0 y) 0 cur.types;
      chains = by_index (λ j y. backed t l x j y) 0 cur.chains;
    }))

-- READ: `room` is the length of the output; what it then holds is said with READ's promise
unfoldable pub read : List ℕ → Ledger → Currency → ℕ → Turn
read t l cur room =
    let x = cur.run in
    unless (eqb x 0) 6 (unless (ltb room (data_len t (row t (kind_at l x)))) 12 (done (done_with x (kind_at l x) 0) l cur))

-- Any call with its arguments, READ with its output's length; UNKNOWN is any number but those of the fourteen.
pub data Call : Type 0 where
  FORMAT : Call
  STORE : (n : ℕ) (d : List ℕ) → Call
  DIRECT : (x : ℕ) → Call
  KEY : (n : ℕ) (k : List ℕ) → Call
  NEXT PRIOR MASTER : (j : ℕ) → Call
  EACH : (low high : ℕ) → Call
  MODIFY : (d : List ℕ) → Call
  DELETE : Call
  READ : (room : ℕ) → Call
  CURRENT : (n : ℕ) → Call
  FIND : (j : ℕ) (k : List ℕ) → Call
  RELINK : (j m : ℕ) → Call
  UNKNOWN : Call

-- a ledger and the currency beside it; what FORMAT leaves
pub record State : Type 0 where
  pub ledger : Ledger
  pub cur : Currency

abbrev pub start : State
start = record { ledger = empty; cur = unset }

unfoldable pub turn : List ℕ → State → Call → Turn
turn t s FORMAT = done (done_with 0 0 0) empty unset
turn t s (STORE n d) = store t s.ledger s.cur n d
turn t s (DIRECT x) = direct t s.ledger s.cur x
turn t s (KEY n k) = key t s.ledger s.cur n k
turn t s (NEXT j) = next t s.ledger s.cur j
turn t s (PRIOR j) = prior t s.ledger s.cur j
turn t s (MASTER j) = master t s.ledger s.cur j
turn t s (EACH low high) = each t s.ledger s.cur low high
turn t s (MODIFY d) = modify t s.ledger s.cur d
turn t s DELETE = delete t s.ledger s.cur
turn t s (READ room) = read t s.ledger s.cur room
turn t s (CURRENT n) = current t s.ledger s.cur n
turn t s (FIND j k) = find t s.ledger s.cur j k
turn t s (RELINK j m) = relink t s.ledger s.cur j m
turn t s UNKNOWN = refuse 5

-- a refused call leaves all as it was
unfoldable pub settle : State → Turn → State
settle s (refuse n) = s
settle s (done a l c) = record { ledger = l; cur = c }

abbrev pub step : List ℕ → State → Call → State
step t s c = settle s (turn t s c)

unfoldable pub answered : Turn → Answer
answered (refuse n) = refused_with n
answered (done a l c) = a

-- a sequence of calls, the first at the head: the state after it, and its answers
unfoldable pub play : List ℕ → State → List Call → State
play t s [] = s
play t s (c ∷ cs) = play t (step t s c) cs

unfoldable pub answers : List ℕ → State → List Call → List Answer
answers t s [] = []
answers t s (c ∷ cs) = answered (turn t s c) ∷ answers t (step t s c) cs
