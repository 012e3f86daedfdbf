-- What the audit finds of a chain's rings in any bytes `f`: each master's walk along NEXT, with PRIOR compared where there are PRIORs,
-- then a detail that no walk has met. `e` is what a walk needs of the table, `g` the marks.
use Rattle.std.specs.Prelude.{ℕ, ◌+◌, ◌*◌, Bool, true, false, cond, List, get_or, eqb}
use Rattle.ledger.specs.Numbers.{run, first_of}
use Rattle.ledger.specs.Table.{pages, chains, master_type, detail_type, linked_prior}
use Rattle.ledger.specs.Pages.{link_at}
use Rattle.ledger.specs.Bytes.{two_at, three_at}
use Rattle.model.specs.declared.Ends.{Ends}
use Rattle.model.specs.Reads.{place_in, kind_in}
use Rattle.audit_model.specs.Marks.{Walk, Sweep, no_marks, walk_on, sweep_on, first_fault}

unfoldable pub ends_of : List ℕ → ℕ → Ends
ends_of t j = record {
  master = master_type t j;
  detail = detail_type t j;
  above = link_at t (master_type t j) j;
  below = link_at t (detail_type t j) j;
  linked = eqb (linked_prior t j) 1;
}

-- whether the PRIOR behind a NEXT, k bytes into the record that starts at s, is `last`, where there are PRIORs
unfoldable pub prior_is : List ℕ → Bool → ℕ → ℕ → ℕ → Bool
prior_is f linked s k last = cond linked (eqb (three_at f (s + (k + 3))) last) true

-- whether master m's PRIOR is `last`
unfoldable pub back_home : List ℕ → Ends → ℕ → ℕ → Bool
back_home f e m last = prior_is f e.linked (place_in f m) e.above last

-- the code after `at`, where `at` is an unmet detail whose PRIOR is `last`, else 0
unfoldable pub met_in : List ℕ → Ends → List ℕ → ℕ → ℕ → ℕ
met_in f e g last at =
    let s : ℕ = place_in f at in
    cond (eqb s 0) 0
    (cond (eqb (two_at f s) e.detail)
    (cond (eqb (get_or g at 0) 0) (cond (prior_is f e.linked s e.below last) (three_at f (s + e.below)) 0) 0) 0)

-- the walk of master m
unfoldable pub walk_home : List ℕ → Ends → ℕ → List ℕ → Walk
walk_home f e m g = walk_on 8256 (met_in f e) (back_home f e m) m m (three_at f (place_in f m + e.above)) g

-- the walk of a code, where it is a master
unfoldable pub code_walks : List ℕ → Ends → ℕ → List ℕ → Walk
code_walks f e c g = cond (eqb (kind_in f c) e.master) (walk_home f e c g) (true, g)

-- whether a code is a record of type d without mark
unfoldable pub unmet_in : List ℕ → ℕ → List ℕ → ℕ → Bool
unmet_in f d g c = cond (eqb (get_or g c 0) 0) (eqb (kind_in f c) d) false

-- the first ring fault of chain j: the lowest master whose walk fails, else the lowest detail unmet, or 0
unfoldable pub chain_fault_in : List ℕ → List ℕ → ℕ → ℕ
chain_fault_in t f j =
    let s : Sweep = sweep_on (code_walks f (ends_of t j)) (run 64 (64 * pages t)) no_marks in
    cond (eqb s.0 0) (first_of (unmet_in f (detail_type t j) s.1) (run 64 (64 * pages t))) s.0

-- of all chains
unfoldable pub ring_fault_in : List ℕ → List ℕ → ℕ
ring_fault_in t f = first_fault (chain_fault_in t f) (run 0 (chains t))
