-- What the journal's functions promise together: a loop that performs what is due writes what the call writes, and what recovery writes.
use Prim.Native.Nat.{ℕ, ◌≤◌}
use mathlib.Core.Path.{◌≡◌, ◌∙◌}
use mathlib.Core.List.{List, map}
use lib.ListN.{length, take}
use Rattle.std.proofs.Common.{Option, Some}
use Rattle.ledger.specs.declared.Due.{Due}
use Rattle.ledger.specs.Journal.Writes.{Write, disk, changed, writes}
use Rattle.ledger.specs.Journal.Recovery.{restore, recovery}
use Rattle.ledger.specs.Journal.Dues.{marked, call_dues, recovery_dues, first_of, write_due}
use Rattle.ledger.specs.Journal.Promises.{Paged, Marks, Restores, Performs}
use Rattle.journal_laws.proofs.Dues.{call_writes}
use Rattle.journal_laws.proofs.Loops.{call_performed, recovery_performed}
use Rattle.restore_model.proofs.Dues.{recovery_writes_lem, told_marked}

-- a call from f to g, whose pages are told in s', and m is how many there are
pub call_kept : (n : ℕ) (f g s : List ℕ) (m : ℕ) (s' : List ℕ) (ds : List Due) {d : Option Due} → Paged n f → length f ≡ length g → n ≤ length s
    → Marks f g s (Some m) s' → d ≡ first_of (call_dues (marked (take m s'))) → Performs (take m s') d ds → map (write_due f g) ds ≡ writes n f g
call_kept n f g s m s' ds paged same room marks is p =
    let (some, told, rest, size) = marks.all n paged same room in
    let pages : m ≡ n = cc in
    let dues : ds ≡ call_dues (changed n f g) = call_performed (take m s') ds is p ∙ rw (pages, told) in
    rw dues (call_writes n f g)

-- recovery of f from the journal j, which leaves the file g and tells the pages put back in s'
pub recovery_kept : (n : ℕ) (f j s : List ℕ) (r : ℕ) (g s' : List ℕ) (ws : List Write) (ds : List Due) {d : Option Due} → Paged n f → n ≤ length s
    → Restores f j s r g s' → recovery n (disk f j) ≡ restore ws → d ≡ first_of (recovery_dues (marked (take n s'))) → Performs (take n s') d ds
    → map (write_due f g) ds ≡ ws
recovery_kept n f j s r g s' ws ds paged room restores e is p =
    let (zero, file, told) = restores.restored n ws paged room e in
    rw (recovery_performed (take n s') ds is p, told_marked n (disk f j) ws s s' e room told, file) (recovery_writes_lem n (disk f j) ws f e)
