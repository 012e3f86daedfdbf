-- What the audit finds of the CALC rings in any bytes `f`: each header's walk along CALC NEXT, then a calculated record that none has met.
use Rattle.std.specs.Prelude.{ℕ, ◌*◌, ◌%◌, Bool, true, false, cond, not, List, get_or, eqb}
use Rattle.ledger.specs.Numbers.{run, first_of}
use Rattle.ledger.specs.Table.{pages, calculated}
use Rattle.ledger.specs.Pages.{home}
use Rattle.model.specs.Reads.{kind_in, calc_next_in, head_next_in}
use Rattle.model.specs.Keys.{calc_key_in}
use Rattle.audit_model.specs.Marks.{Walk, Sweep, no_marks, walk_on, sweep_on}

-- the home page of record c, 0 where it is not calculated or not there
unfoldable pub home_in : List ℕ → List ℕ → ℕ → ℕ
home_in t f c = cond (eqb (kind_in f c) 0) 0 (cond (calculated t (kind_in f c)) (home t (kind_in f c) (calc_key_in t f c)) 0)

-- the code after `at` in page p's ring, where `at` is an unmet record of that home, else 0
unfoldable pub calc_met_in : List ℕ → List ℕ → ℕ → List ℕ → ℕ → ℕ
calc_met_in t f p g at = cond (eqb (get_or g at 0) 0) (cond (eqb (home_in t f at) p) (calc_next_in t f at) 0) 0

-- a walk in that ring: there are no PRIORs, so what it comes from is not looked at
unfoldable pub calc_walk_on : ℕ → List ℕ → List ℕ → ℕ → ℕ → List ℕ → Walk
calc_walk_on fuel t f p at g = walk_on fuel (λ h last x. calc_met_in t f p h x) (λ last. true) (64 * (p % 65536)) 0 at g

-- the walk of page p's header
unfoldable pub head_walks : List ℕ → List ℕ → ℕ → List ℕ → Walk
head_walks t f p g = calc_walk_on 8256 t f p (head_next_in f p) g

-- whether a code is a calculated record without mark
unfoldable pub calc_unmet_in : List ℕ → List ℕ → List ℕ → ℕ → Bool
calc_unmet_in t f g c = cond (eqb (get_or g c 0) 0) (not (eqb (home_in t f c) 0)) false

-- the first fault of the CALC rings: the lowest header whose walk fails, else the lowest record unmet, or 0
unfoldable pub calc_fault_in : List ℕ → List ℕ → ℕ
calc_fault_in t f =
    let s : Sweep = sweep_on (head_walks t f) (run 1 (pages t)) no_marks in
    cond (eqb s.0 0) (first_of (calc_unmet_in t f s.1) (run 64 (64 * pages t))) (64 * (s.0 % 65536))
