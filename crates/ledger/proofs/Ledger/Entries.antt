-- The entry of a code: none, or a record's; and what the same entry says in two ledgers.
use mathlib.Core.Path.{◌≡◌, refl}
use mathlib.Core.Bool.{true, false}
use mathlib.Core.Option.{Option, none, some}
use mathlib.Core.List.{List}
use Prim.Native.Nat.{ℕ}
use mathlib.Core.Logic.{◌≢◌, inl, inr}
use Rattle.ledger.specs.Pages.{Entry, kind_of, bytes_of, is_some, Ledger, key_in, home_of, present, Placed}
use Rattle.ledger.specs.Currency.{Points}
use Rattle.ledger.proofs.Lists.Tests.{clash}

pub absent_none : (o : Option Entry) → is_some o ≡ false → o ≡ none
unfolding is_some
absent_none none h = refl
absent_none (some e) h = clash true refl h

pub absent_kind : (o : Option Entry) → is_some o ≡ false → kind_of o ≡ 0
unfolding kind_of
absent_kind o h = rw (absent_none o h)

-- two records of one kind and one data are one
pub entry_same : (o o' : Option Entry) → is_some o ≡ true → is_some o' ≡ true → kind_of o ≡ kind_of o' → bytes_of o ≡ bytes_of o' → o ≡ o'
unfolding is_some kind_of bytes_of
entry_same none o' h g k b = clash false h refl
entry_same (some e) none h g k b = clash false g refl
entry_same (some e) (some e') h g k b = λ i. some (record { kind = k i; bytes = b i })

-- what the same entry says in two ledgers
pub placed_as : (t : List ℕ) (l l' : Ledger) (y : ℕ) → l'.at y ≡ l.at y → Placed t l y → Placed t l' y
placed_as t l l' y e p = record {
  typed = rw e p.typed;
  low_page = rw e p.low_page;
  high_page = rw e p.high_page;
  on_a_line = p.on_a_line;
  full = rw e p.full;
  bytes = λ i. rw e (p.bytes i);
}

pub key_as : (t : List ℕ) (l l' : Ledger) (j y : ℕ) → l'.at y ≡ l.at y → key_in t l' j y ≡ key_in t l j y
unfolding key_in
key_as t l l' j y e = rw e

pub home_as : (t : List ℕ) (l l' : Ledger) (y : ℕ) → l'.at y ≡ l.at y → home_of t l' y ≡ home_of t l y
unfolding home_of
home_as t l l' y e = rw e

-- two ledgers are one where they say the same
pub same_ledger : (l l' : Ledger) → ((y : ℕ) → l.at y ≡ l'.at y) → ((j m : ℕ) → l.ring j m ≡ l'.ring j m) → ((p : ℕ) → l.calc p ≡ l'.calc p) → l ≡ l'
same_ledger l l' a r c = λ i. record { at = λ y. a y i; ring = λ j m. r j m i; calc = λ p. c p i }

-- an entry of a currency that is not 0 is there
pub points_there : (l : Ledger) (y : ℕ) → Points l y → y ≢ 0 → present l y ≡ true
points_there l y (inl e) n = absurd (n e)
points_there l y (inr h) n = h
