-- RELINK on any bytes `f`: its refusals, and what it writes. `x` is the run's record and `m` the master that it joins.
use Rattle.std.specs.Prelude.{ℕ, Bool, cond, not, ◌&&◌, List, eqb, leb}
use Rattle.ledger.specs.Table.{chains, is_master, is_detail}
use Rattle.model.specs.declared.Between.{Between}
use Rattle.model.specs.Reads.{kind_in, next_in}
use Rattle.model.specs.Keys.{sort_key_in}
use Rattle.model.specs.Writes.{joined_in, linked_in}
use Rattle.ring_model.specs.Rings.{before_in, between_in, key_twin_in}

-- whether m is a record, and of chain j's master type
unfoldable pub masters_in : List ℕ → List ℕ → ℕ → ℕ → Bool
masters_in t f j m = not (eqb (kind_in f m) 0) && is_master t j (kind_in f m)

-- RELINK's refusal, or 0
unfoldable pub relink_refusal : List ℕ → List ℕ → ℕ → ℕ → ℕ → ℕ
relink_refusal t f x j m =
    cond (leb (chains t) j) 5
    (cond (eqb x 0) 6
    (cond (not (is_detail t j (kind_in f x))) 7
    (cond (not (masters_in t f j m)) 9
    (cond (key_twin_in t f j m (sort_key_in t f j x) x) 10 0))))

-- the neighbours of x in its ring now
unfoldable pub stands_in : List ℕ → List ℕ → ℕ → ℕ → Between
stands_in t f j x = record { before = before_in t f j x; after = next_in t f j x }

-- x moved from between two to between two others
unfoldable pub moved_in : List ℕ → List ℕ → ℕ → ℕ → Between → Between → List ℕ
moved_in t f j x old new = linked_in t (joined_in t f j old.before old.after) j x new.before new.after

-- RELINK: x leaves its ring of chain j and joins that of m
unfoldable pub relinked_on : List ℕ → List ℕ → ℕ → ℕ → ℕ → List ℕ
relinked_on t f j x m = moved_in t f j x (stands_in t f j x) (between_in t f j m (sort_key_in t f j x) x)
