-- What an accepted call did to the ledger, told from its answer; and that a call of a ledger answers 0, or refuses from 5 on.
use Prim.Native.Nat.{ℕ, ◌≤◌, ◌<◌}
use mathlib.Core.Path.{◌≡◌, refl, sym, ap}
use mathlib.Core.Logic.{◌≢◌}
use mathlib.Core.Bool.{Bool, true, false}
use mathlib.Core.List.{List}
use native.Mathlib.Omega.{arith}
use lib.Dec.{eqb}
use borrow.Author.Tests.{eqb-false}
use Rattle.ledger.specs.declared.Answer.{Answer}
use Rattle.ledger.specs.declared.Currency.{Currency}
use Rattle.ledger.specs.Table.{chains, is_detail}
use Rattle.ledger.specs.Pages.{code_of, Ledger, present}
use Rattle.ledger.specs.Currency.{chain_current}
use Rattle.ledger.specs.Calls.{Turn, refuse, done, unless, arrive, as_detail, found, along, free_line, takes, tried, base_page, place_for, stored, store, direct, key, current, find, next, prior, master, each, modified, modify, relinked, relink, deleted, delete, read, Call, FORMAT, STORE, DIRECT, KEY, NEXT, PRIOR, MASTER, EACH, MODIFY, DELETE, READ, CURRENT, FIND, RELINK, UNKNOWN, State, turn}
use Rattle.ledger.proofs.Lists.Searches.{first_of_passes}
use Rattle.ledger.proofs.Lists.Members.{none_any}
use Rattle.ledger.proofs.Ledger.Rows.{as_detail_lem}
use Rattle.ledger.proofs.Keeps.Placing.{taking}
use Rattle.ledger.proofs.Delete.Backed.{delete_parts}

-- the parts of a turn
pub unless_done : (b : Bool) (n : ℕ) (r : Turn) (a : Answer) (l : Ledger) (c : Currency) → unless b n r ≡ done a l c → (b ≡ false) × (r ≡ done a l c)
unfolding unless
unless_done true n r a l c e = absurd (let z : ◌≡◌ {A = ℕ} 0 1 = cc in omega arith)
unless_done false n r a l c e = (refl, e)

pub done_parts : (a : Answer) (l : Ledger) (c : Currency) (a' : Answer) (l' : Ledger) (c' : Currency) → done a l c ≡ done a' l' c' → (a ≡ a') × (l ≡ l')
done_parts a l c a' l' c' e = (cc, cc)

-- what only looks leaves the ledger as it was
abbrev pub Leaves : Ledger → Turn → Type 0
Leaves l r = (a : Answer) (l' : Ledger) (c : Currency) → r ≡ done a l' c → l' ≡ l

pub unless_leaves : (b : Bool) (n : ℕ) (l : Ledger) (r : Turn) → Leaves l r → Leaves l (unless b n r)
unless_leaves b n l r h a l' c e = h a l' c (unless_done b n r a l' c e).1

pub arrive_leaves : (t : List ℕ) (l : Ledger) (cur : Currency) (x k : ℕ) → Leaves l (arrive t l cur x k)
unfolding arrive
arrive_leaves t l cur x k a l' c e = cc

pub along_leaves : (way : List ℕ → Ledger → ℕ → ℕ → ℕ) (t : List ℕ) (l : Ledger) (cur : Currency) (j : ℕ) → Leaves l (along way t l cur j)
unfolding along
along_leaves way t l cur j = unless_leaves _ 5 l _ (unless_leaves _ 6 l _ (arrive_leaves t l cur _ 0))

pub found_leaves : (t : List ℕ) (l : Ledger) (cur : Currency) (p : ℕ → Bool) (xs : List ℕ) → Leaves l (found t l cur p xs)
unfolding found
found_leaves t l cur p xs = unless_leaves _ 9 l _ (arrive_leaves t l cur _ _)

-- a call of a ledger answers 0 where it is done, and its refusals are those from 5 on
abbrev pub Numbered : Turn → Type 0
Numbered (refuse n) = 5 ≤ n
Numbered (done a l c) = a.code ≡ 0

unless_numbered : (b : Bool) (n : ℕ) (r : Turn) → 5 ≤ n → Numbered r → Numbered (unless b n r)
unfolding unless
unless_numbered true n r low h = low
unless_numbered false n r low h = h

-- the calls that only look
module _ (t : List ℕ) (l : Ledger) (cur : Currency) where
  pub looks_direct : (x : ℕ) → Leaves l (direct t l cur x)
  unfolding direct
  looks_direct x = unless_leaves _ 9 l _ (arrive_leaves t l cur x 0)

  pub looks_key : (n : ℕ) (k : List ℕ) → Leaves l (key t l cur n k)
  unfolding key
  looks_key n k = unless_leaves _ 5 l _ (unless_leaves _ 7 l _ (unless_leaves _ 8 l _ (found_leaves t l cur _ _)))

  pub looks_next : (j : ℕ) → Leaves l (next t l cur j)
  unfolding next
  looks_next j = along_leaves _ t l cur j

  pub looks_prior : (j : ℕ) → Leaves l (prior t l cur j)
  unfolding prior
  looks_prior j = along_leaves _ t l cur j

  pub looks_master : (j : ℕ) → Leaves l (master t l cur j)
  unfolding master
  looks_master j = along_leaves _ t l cur j

  pub looks_each : (low high : ℕ) → Leaves l (each t l cur low high)
  unfolding each
  looks_each low high = unless_leaves _ 9 l _ (arrive_leaves t l cur _ 0)

  pub looks_read : (room : ℕ) → Leaves l (read t l cur room)
  unfolding read
  looks_read room = unless_leaves _ 6 l _ (unless_leaves _ 12 l _ (λ a l' c e. cc))

  pub looks_current : (n : ℕ) → Leaves l (current t l cur n)
  unfolding current
  looks_current n = unless_leaves _ 5 l _ (unless_leaves _ 6 l _ (arrive_leaves t l cur _ 0))

  pub looks_find : (j : ℕ) (k : List ℕ) → Leaves l (find t l cur j k)
  unfolding find
  looks_find j k = unless_leaves _ 5 l _ (unless_leaves _ 6 l _ (unless_leaves _ 7 l _ (unless_leaves _ 8 l _ (found_leaves t l cur _ _))))

-- the place that STORE finds has no record yet
place_free : (t : List ℕ) (l : Ledger) (cur : Currency) (n : ℕ) (d : List ℕ) → eqb (place_for t l cur n d) 0 ≡ false
    → present l (code_of (place_for t l cur n d) (free_line l (place_for t l cur n d))) ≡ false
unfolding place_for
place_free t l cur n d e =
    let p = place_for t l cur n d in
    (taking t l n p (first_of_passes (takes t l n) (tried t n (base_page t l cur n d)) (eqb-false p 0 e)).1).fresh

module _ (t : List ℕ) (l : Ledger) (cur : Currency) (a : Answer) (l' : Ledger) (c : Currency) where
  arrive_done : (m : Ledger) (x k : ℕ) → arrive t m cur x k ≡ done a l' c → (a.reference ≡ x) × (l' ≡ m)
  unfolding arrive
  arrive_done m x k e = let q = done_parts _ m _ a l' c e in (sym (ap (λ (r : Answer). r.reference) q.0), sym q.1)

  pub store_done : (n : ℕ) (d : List ℕ) → store t l cur n d ≡ done a l' c
      → (present l a.reference ≡ false) × ((j : ℕ) → j < chains t → is_detail t j n ≡ true → chain_current cur j ≢ 0) × (l' ≡ stored t l cur n d a.reference)
  unfolding store
  store_done n d e =
      let u = unless_done _ 6 _ a l' c (unless_done _ 5 _ a l' c e).1 in
      let s = unless_done _ 11 _ a l' c (unless_done _ 10 _ a l' c (unless_done _ 8 _ a l' c u.1).1).1 in
      let q = arrive_done _ _ 0 s.1 in
      let set : (j : ℕ) → j < chains t → is_detail t j n ≡ true → chain_current cur j ≢ 0 =
      λ j lt i. eqb-false (chain_current cur j) 0 (none_any (λ k. eqb (chain_current cur k) 0) (as_detail t n) u.0 j (as_detail_lem t n j lt i)) in
      (rw q.0 (place_free t l cur n d s.0), set, rw q.0 q.1)

  pub modify_done : (d : List ℕ) → modify t l cur d ≡ done a l' c → l' ≡ modified t l a.reference d
  unfolding modify
  modify_done d e =
      let q = arrive_done _ _ 0 (unless_done _ 10 _ a l' c (unless_done _ 8 _ a l' c (unless_done _ 6 _ a l' c e).1).1).1 in
      rw q.0 q.1

  pub relink_done : (j m : ℕ) → relink t l cur j m ≡ done a l' c → l' ≡ relinked t l j a.reference m
  unfolding relink
  relink_done j m e =
      let r = (unless_done _ 7 _ a l' c (unless_done _ 6 _ a l' c (unless_done _ 5 _ a l' c e).1).1).1 in
      let q = arrive_done _ _ 0 (unless_done _ 10 _ a l' c (unless_done _ 9 _ a l' c r).1).1 in
      rw q.0 q.1

  pub delete_done : delete t l cur ≡ done a l' c → (a.reference ≢ 0) × (a.reference ≡ cur.run) × (l' ≡ deleted t l a.reference)
  delete_done e = let (n, p, q, r) = delete_parts t l cur a l' c e in rw p (n, refl, q)

-- the answers of the calls
module _ (t : List ℕ) (l : Ledger) (cur : Currency) where
  arrive_numbered : (x k : ℕ) (m : Ledger) → Numbered (arrive t m cur x k)
  unfolding arrive
  arrive_numbered x k m = refl

  found_numbered : (p : ℕ → Bool) (xs : List ℕ) → Numbered (found t l cur p xs)
  unfolding found
  found_numbered p xs = unless_numbered _ 9 _ (omega arith) (arrive_numbered _ _ l)

  along_numbered : (way : List ℕ → Ledger → ℕ → ℕ → ℕ) (j : ℕ) → Numbered (along way t l cur j)
  unfolding along
  along_numbered way j = unless_numbered _ 5 _ (omega arith) (unless_numbered _ 6 _ (omega arith) (arrive_numbered _ 0 l))

pub turn_numbered : (t : List ℕ) (s : State) (c : Call) → Numbered (turn t s c)
unfolding turn store direct key next prior master each modify delete read current find relink
turn_numbered t s FORMAT = refl
turn_numbered t s (STORE n d) =
    unless_numbered _ 5 _ (omega arith) (unless_numbered _ 6 _ (omega arith) (unless_numbered _ 8 _ (omega arith) (unless_numbered _ 10 _ (omega arith) (unless_numbered _ 11 _ (omega arith) (arrive_numbered t s.ledger s.cur _ 0 _)))))
turn_numbered t s (DIRECT x) = unless_numbered _ 9 _ (omega arith) (arrive_numbered t s.ledger s.cur x 0 _)
turn_numbered t s (KEY n k) = unless_numbered _ 5 _ (omega arith) (unless_numbered _ 7 _ (omega arith) (unless_numbered _ 8 _ (omega arith) (found_numbered t s.ledger s.cur _ _)))
turn_numbered t s (NEXT j) = along_numbered t s.ledger s.cur _ j
turn_numbered t s (PRIOR j) = along_numbered t s.ledger s.cur _ j
turn_numbered t s (MASTER j) = along_numbered t s.ledger s.cur _ j
turn_numbered t s (EACH low high) = unless_numbered _ 9 _ (omega arith) (arrive_numbered t s.ledger s.cur _ 0 _)
turn_numbered t s (MODIFY d) = unless_numbered _ 6 _ (omega arith) (unless_numbered _ 8 _ (omega arith) (unless_numbered _ 10 _ (omega arith) (arrive_numbered t s.ledger s.cur _ 0 _)))
turn_numbered t s DELETE = unless_numbered _ 6 _ (omega arith) refl
turn_numbered t s (READ room) = unless_numbered _ 6 _ (omega arith) (unless_numbered _ 12 _ (omega arith) refl)
turn_numbered t s (CURRENT n) = unless_numbered _ 5 _ (omega arith) (unless_numbered _ 6 _ (omega arith) (arrive_numbered t s.ledger s.cur _ 0 _))
turn_numbered t s (FIND j k) =
    unless_numbered _ 5 _ (omega arith) (unless_numbered _ 6 _ (omega arith) (unless_numbered _ 7 _ (omega arith) (unless_numbered _ 8 _ (omega arith) (found_numbered t s.ledger s.cur _ _))))
turn_numbered t s (RELINK j m) =
    unless_numbered _ 5 _ (omega arith) (unless_numbered _ 6 _ (omega arith) (unless_numbered _ 7 _ (omega arith) (unless_numbered _ 9 _ (omega arith) (unless_numbered _ 10 _ (omega arith) (arrive_numbered t s.ledger s.cur _ 0 _)))))
turn_numbered t s UNKNOWN = omega arith
