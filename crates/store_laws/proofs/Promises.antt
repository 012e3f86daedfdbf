-- Each call's promises together: what its model computes comes back, and is the ledger's.
use Prim.Native.Nat.{ℕ}
use mathlib.Core.Path.{◌≡◌}
use mathlib.Core.List.{List, [], ◌∷◌}
use native.Mathlib.Omega.{arith}
use mir.Syntax.{w8}
use mir.Val.{Fits}
use lib.ListN.{length, get_or}
use Rattle.ledger.specs.declared.Currency.{Currency}
use Rattle.ledger.specs.declared.Outcome.{Outcome}
use Rattle.ledger.specs.Calls.{STORE, DIRECT, KEY, NEXT, PRIOR, MASTER, EACH, MODIFY, DELETE, CURRENT, FIND, RELINK, UNKNOWN}
use Rattle.ledger.specs.Promise.{Checks, ChecksSize, ComesBack, Plays, Formats, Reads, turn_of}
use Rattle.store_model.specs.Checks.{size_refusal, refusal_on}
use Rattle.store_model.specs.Calls.{format_call, store_call, direct_call, key_call, next_call, prior_call, master_call, each_call, modify_call, delete_call, read_call, current_call, find_call, relink_call, unknown_call}
use Rattle.store_model.proofs.Comes.{format_comes, store_comes, direct_comes, key_comes, next_comes, prior_comes, master_comes, each_comes, modify_comes, delete_comes, read_comes, current_comes, find_comes, relink_comes, unknown_comes}
use Rattle.store_laws.proofs.Checked.{checks_all}
use Rattle.store_laws.proofs.Looked.{direct_plays, key_plays, current_plays, find_plays, next_plays, prior_plays, master_plays, each_plays, unknown_plays, read_reads}
use Rattle.store_laws.proofs.Formatted.{format_formats}
use Rattle.store_laws.proofs.Changed.{store_plays, modify_plays, delete_plays, relink_plays}

pub format_promised : (t f : List ℕ) (cur : Currency) (r : Outcome) (f' : List ℕ) → format_call t f cur ≡ (r, f')
    → (format_call t f cur ≡ (r, f')) × (ComesBack (1 ∷ 2 ∷ []) f f' cur r × Formats t f f' cur r)
format_promised t f cur r f' e = (e, ((rw e at (format_comes t f cur)).back, format_formats t f cur r f' e))

-- the file's bytes are bytes, and the currency's lists have sixteen entries
module _ (t f : List ℕ) (cur : Currency) (small : (i : ℕ) → Fits w8 (get_or f i 0)) (ty : length cur.types ≡ 16) (ch : length cur.chains ≡ 16) where
  checks : Checks t f cur (refusal_on t f cur)
  checks = checks_all t f cur (λ i. omega (arith, small i)) ty ch

  pub check_promised : (n : ℕ) → n ≡ refusal_on t f cur → (n ≡ refusal_on t f cur) × Checks t f cur n
  check_promised n e = (e, rw e checks)

  -- the calls that read
  module _ (r : Outcome) where
    pub direct_promised : (x : ℕ) → r ≡ direct_call t f cur x
        → (r ≡ direct_call t f cur x) × (ComesBack (1 ∷ 2 ∷ 3 ∷ 4 ∷ 9 ∷ []) f f cur r × Plays (turn_of t cur (DIRECT x)) t f f cur r)
    direct_promised x e = (e, (rw e (direct_comes t f cur x).back, rw e (direct_plays t f cur checks ch x)))

    pub key_promised : (n : ℕ) (key : List ℕ) → r ≡ key_call t f cur n key
        → (r ≡ key_call t f cur n key) × (ComesBack (1 ∷ 2 ∷ 3 ∷ 4 ∷ 5 ∷ 7 ∷ 8 ∷ 9 ∷ []) f f cur r × Plays (turn_of t cur (KEY n key)) t f f cur r)
    key_promised n key e = (e, (rw e (key_comes t f cur n key).back, rw e (key_plays t f cur checks ch n key)))

    pub next_promised : (j : ℕ) → r ≡ next_call t f cur j
        → (r ≡ next_call t f cur j) × (ComesBack (1 ∷ 2 ∷ 3 ∷ 4 ∷ 5 ∷ 6 ∷ []) f f cur r × Plays (turn_of t cur (NEXT j)) t f f cur r)
    next_promised j e = (e, (rw e (next_comes t f cur j).back, rw e (next_plays t f cur checks ch j)))

    pub prior_promised : (j : ℕ) → r ≡ prior_call t f cur j
        → (r ≡ prior_call t f cur j) × (ComesBack (1 ∷ 2 ∷ 3 ∷ 4 ∷ 5 ∷ 6 ∷ []) f f cur r × Plays (turn_of t cur (PRIOR j)) t f f cur r)
    prior_promised j e = (e, (rw e (prior_comes t f cur j).back, rw e (prior_plays t f cur checks ch j)))

    pub master_promised : (j : ℕ) → r ≡ master_call t f cur j
        → (r ≡ master_call t f cur j) × (ComesBack (1 ∷ 2 ∷ 3 ∷ 4 ∷ 5 ∷ 6 ∷ []) f f cur r × Plays (turn_of t cur (MASTER j)) t f f cur r)
    master_promised j e = (e, (rw e (master_comes t f cur j).back, rw e (master_plays t f cur checks ch j)))

    pub each_promised : (first last : ℕ) → r ≡ each_call t f cur first last
        → (r ≡ each_call t f cur first last) × (ComesBack (1 ∷ 2 ∷ 3 ∷ 4 ∷ 9 ∷ []) f f cur r × Plays (turn_of t cur (EACH first last)) t f f cur r)
    each_promised first last e = (e, (rw e (each_comes t f cur first last).back, rw e (each_plays t f cur checks ch first last)))

    pub current_promised : (n : ℕ) → r ≡ current_call t f cur n
        → (r ≡ current_call t f cur n) × (ComesBack (1 ∷ 2 ∷ 3 ∷ 4 ∷ 5 ∷ 6 ∷ []) f f cur r × Plays (turn_of t cur (CURRENT n)) t f f cur r)
    current_promised n e = (e, (rw e (current_comes t f cur n).back, rw e (current_plays t f cur checks ch n)))

    pub find_promised : (j : ℕ) (key : List ℕ) → r ≡ find_call t f cur j key
        → (r ≡ find_call t f cur j key) × (ComesBack (1 ∷ 2 ∷ 3 ∷ 4 ∷ 5 ∷ 6 ∷ 7 ∷ 8 ∷ 9 ∷ []) f f cur r × Plays (turn_of t cur (FIND j key)) t f f cur r)
    find_promised j key e = (e, (rw e (find_comes t f cur j key).back, rw e (find_plays t f cur checks ch j key)))

    pub unknown_promised : r ≡ unknown_call t f cur
        → (r ≡ unknown_call t f cur) × (ComesBack (1 ∷ 2 ∷ 3 ∷ 4 ∷ 5 ∷ []) f f cur r × Plays (turn_of t cur UNKNOWN) t f f cur r)
    unknown_promised e = (e, (rw e (unknown_comes t f cur).back, rw e (unknown_plays t f cur checks ch)))

    pub read_promised : (o o' : List ℕ) → read_call t f cur o ≡ (r, o')
        → (read_call t f cur o ≡ (r, o')) × (ComesBack (1 ∷ 2 ∷ 3 ∷ 4 ∷ 6 ∷ 12 ∷ []) o o' cur r × Reads t f o o' cur r)
    read_promised o o' e = (e, ((rw e at (read_comes t f cur o)).back, rw e at (read_reads t f cur checks ch o)))

    -- the calls that change the file
    pub store_promised : (f' : List ℕ) (n : ℕ) (d : List ℕ) → ((i : ℕ) → Fits w8 (get_or d i 0)) → store_call t f cur n d ≡ (r, f')
        → (store_call t f cur n d ≡ (r, f')) × (ComesBack (1 ∷ 2 ∷ 3 ∷ 4 ∷ 5 ∷ 6 ∷ 8 ∷ 10 ∷ 11 ∷ []) f f' cur r × Plays (turn_of t cur (STORE n d)) t f f' cur r)
    store_promised f' n d bytes e = (e, ((rw e at (store_comes t f cur n d)).back, store_plays t f cur checks ch r f' n d (λ i. omega (arith, bytes i)) e))

    pub modify_promised : (f' d : List ℕ) → ((i : ℕ) → Fits w8 (get_or d i 0)) → modify_call t f cur d ≡ (r, f')
        → (modify_call t f cur d ≡ (r, f')) × (ComesBack (1 ∷ 2 ∷ 3 ∷ 4 ∷ 6 ∷ 8 ∷ 10 ∷ []) f f' cur r × Plays (turn_of t cur (MODIFY d)) t f f' cur r)
    modify_promised f' d bytes e = (e, ((rw e at (modify_comes t f cur d)).back, modify_plays t f cur checks ch r f' d (λ i. omega (arith, bytes i)) e))

    pub delete_promised : (f' : List ℕ) → delete_call t f cur ≡ (r, f')
        → (delete_call t f cur ≡ (r, f')) × (ComesBack (1 ∷ 2 ∷ 3 ∷ 4 ∷ 6 ∷ []) f f' cur r × Plays (turn_of t cur DELETE) t f f' cur r)
    delete_promised f' e = (e, ((rw e at (delete_comes t f cur)).back, delete_plays t f cur checks ch r f' e))

    pub relink_promised : (f' : List ℕ) (j m : ℕ) → relink_call t f cur j m ≡ (r, f')
        → (relink_call t f cur j m ≡ (r, f')) × (ComesBack (1 ∷ 2 ∷ 3 ∷ 4 ∷ 5 ∷ 6 ∷ 7 ∷ 9 ∷ 10 ∷ []) f f' cur r × Plays (turn_of t cur (RELINK j m)) t f f' cur r)
    relink_promised f' j m e = (e, ((rw e at (relink_comes t f cur j m)).back, relink_plays t f cur checks ch r f' j m e))
