-- Arrival on the arrays of sixteen is the ledger's arrival.
use Prim.Native.Nat.{ℕ, zero, suc, ◌+◌, ◌≤◌, ◌<◌}
use mathlib.Core.Path.{◌≡◌, refl, sym, ◌∙◌}
use mathlib.Core.List.{List, ◌++◌, append-nil, append_assoc}
use native.Mathlib.Omega.{arith}
use native.Mathlib.Numerals.{add-one}
use lib.ListN.{length, get_or, set, take, drop, length-set, drop_of_length-le}
use lib.Seq.{take_all, drop-cons, drop-set-lt, take-suc-set}
use Rattle.ledger.specs.declared.Currency.{Currency}
use Rattle.ledger.specs.Numbers.{by_index}
use Rattle.ledger.specs.Table.{Accepted}
use Rattle.ledger.specs.Pages.{Ledger, kind_at, Sound}
use Rattle.ledger.specs.Currency.{arrived}
use Rattle.ledger.specs.Calls.{arrive}
use Rattle.ledger.specs.Promise.{told}
use Rattle.model.specs.Reads.{kind_in}
use Rattle.look_model.specs.Currencies.{entry_after, entries_from, arrived_as, arrival}
use Rattle.place_laws.proofs.Sound.{sound_kind}

-- entries set one by one from the j-th on
pub entries_set : (t : List ℕ) (n x m j : ℕ) (es : List ℕ) → length es ≡ j + m
    → entries_from t n x es j m ≡ take j es ++ by_index (entry_after t n x) j (drop j es)
unfolding entries_from by_index
entries_set t n x zero j es e =
    let l : length es ≤ j = omega arith in
    rw (drop_of_length-le es l, append-nil) (sym (take_all j es l))
entries_set t n x (suc m) j es e =
    let l : j < length es = omega arith in
    let v = entry_after t n x j (get_or es j 0) in
    entries_set t n x m (j + 1) (set es j v) (rw length-set (omega arith))
    ∙ rw (add-one, take-suc-set es j v l, drop-set-lt (suc j) es j v (omega arith), append_assoc, drop-cons es j 0 l)

pub arrived_same : (t : List ℕ) (l : Ledger) (cur : Currency) (x : ℕ) → length cur.chains ≡ 16 → arrived_as t cur (kind_at l x) x ≡ arrived t l cur x
unfolding arrived_as arrived
arrived_same t l cur x e = rw (entries_set t (kind_at l x) x 16 0 cur.chains e) (unfold entry_after in refl)

-- a call done by it
pub arrival_told : (t f : List ℕ) (l : Ledger) (cur : Currency) (x count : ℕ) → Accepted t → Sound t f l → length cur.chains ≡ 16
    → arrival t cur (kind_in f x) x count ≡ told cur (arrive t l cur x count)
unfolding arrive told
arrival_told t f l cur x count a s e = rw (sound_kind t f l a s x, arrived_same t l cur x e)
