-- One record put in its places: a ledger that differs from a well-formed one in one record alone, by the rules, is well formed.
use Prim.Native.Nat.{ℕ, ◌+◌, ◌≤◌, ◌<◌}
use mathlib.Core.Path.{◌≡◌, refl, sym, ◌∙◌, ap}
use mathlib.Core.Logic.{◌≢◌, ◌⊎◌}
use mathlib.Core.Bool.{true, false}
use mathlib.Core.List.{List, ◌∷◌}
use native.Mathlib.Omega.{arith}
use mathlib.Core.Option.{some}
use lib.ListN.{length, get_or}
use Rattle.ledger.specs.Numbers.{elem, same_key, update, without}
use Rattle.ledger.specs.Table.{chains, low, high, row, data_len, defined, calculated, is_master, is_detail, order, duplicates, sort_key, calc_key, Accepted}
use Rattle.ledger.specs.Pages.{page_of, line_of, code_of, home, record_size, Ledger, kind_of, bytes_of, is_some, kind_at, bytes_at, present, home_of, key_in, used, free, record_bytes, Placed, WellFormed}
use Rattle.ledger.specs.Calls.{joined}
use Rattle.ledger.proofs.Lists.Tests.{by_cases, same_or_not, update_same, update_other}
use Rattle.ledger.proofs.Bytes.Writes.{used_same}
use Rattle.ledger.proofs.Bytes.Moves.{fits_moved}
use Rattle.ledger.proofs.Ledger.Entries.{placed_as, key_as, home_as}
use Rattle.ledger.proofs.Ledger.Records.{record_sized}

-- a chain whose rings stay: x keeps its key in it, and is no detail of it that is new
pub record Stays (t : List ℕ) (l l' : Ledger) (x j : ℕ) : Type 0 where
  pub rings : (m : ℕ) → l'.ring j m ≡ l.ring j m
  pub same_key_lem : (m : ℕ) → elem x (l.ring j m) ≡ true → key_in t l' j x ≡ key_in t l j x
  pub old : j < chains t → is_detail t j (kind_at l' x) ≡ true → present l x ≡ true

-- a chain where x leaves its ring, if it is in one, and joins that of a master with no twin
pub record Joins (t : List ℕ) (l l' : Ledger) (x j m : ℕ) : Type 0 where
  pub inside : j < chains t
  pub there : present l m ≡ true
  pub above : is_master t j (kind_at l m) ≡ true
  pub below : is_detail t j (kind_at l' x) ≡ true
  pub enters : l'.ring j m ≡ joined t l j (key_in t l' j x) x (without x (l.ring j m))
  pub leaves : (k : ℕ) → k ≢ m → l'.ring j k ≡ without x (l.ring j k)
  pub alone : 2 ≤ order t j → duplicates t j ≡ 2 → (y : ℕ) → elem y (l.ring j m) ≡ true → y ≢ x → same_key (key_in t l j y) (key_in t l' j x) ≡ false

-- the CALC lists stay, or x leaves its list, if it is in one, and goes first into that of its home
pub record CalcStays (t : List ℕ) (l l' : Ledger) (x : ℕ) : Type 0 where
  pub lists : (p : ℕ) → l'.calc p ≡ l.calc p
  pub old : calculated t (kind_at l' x) ≡ true → (present l x ≡ true) × (home_of t l' x ≡ home_of t l x)

pub record CalcJoins (t : List ℕ) (l l' : Ledger) (x : ℕ) : Type 0 where
  pub keyed : calculated t (kind_at l' x) ≡ true
  pub enters : l'.calc (home_of t l' x) ≡ x ∷ without x (l.calc (home_of t l' x))
  pub leaves : (p : ℕ) → p ≢ home_of t l' x → l'.calc p ≡ without x (l.calc p)

-- l' is l but for the record x: it is new and there is room for it, or it was there and keeps its type
pub record Changed (t : List ℕ) (l l' : Ledger) (x : ℕ) : Type 0 where
  pub others : (y : ℕ) → y ≢ x → l'.at y ≡ l.at y
  pub there : present l' x ≡ true
  pub placed : Placed t l' x
  pub kept : present l x ≡ true → kind_at l' x ≡ kind_at l x
  pub room : present l x ≡ false → record_size t (kind_at l' x) ≤ free (record_bytes t l) (page_of x)
  pub turns : (j : ℕ) → Stays t l l' x j ⊎ ((m : ℕ) × Joins t l l' x j m)
  pub calcs : CalcStays t l l' x ⊎ CalcJoins t l l' x
  pub lone : (y : ℕ) → present l y ≡ true → y ≢ x → calculated t (kind_at l' x) ≡ true → kind_at l y ≡ kind_at l' x
      → same_key (calc_key t (kind_at l' x) (bytes_at l y)) (calc_key t (kind_at l' x) (bytes_at l' x)) ≡ true → ⊥

-- a record with a type and data written
module _ (t : List ℕ) (b : Ledger) (x n : ℕ) (d : List ℕ) (e : b.at x ≡ some (record { kind = n; bytes = d })) where
  pub written_there : present b x ≡ true
  unfolding is_some
  written_there = rw e

  pub written_kind : kind_at b x ≡ n
  unfolding kind_of
  written_kind = rw e

  pub written_bytes : bytes_at b x ≡ d
  unfolding bytes_of
  written_bytes = rw e

  pub written_key : (j : ℕ) → key_in t b j x ≡ sort_key t j n d
  unfolding key_in
  written_key j = rw (written_kind, written_bytes)

  pub written_home : home_of t b x ≡ home t n (calc_key t n d)
  unfolding home_of
  written_home = rw (written_kind, written_bytes)

  pub written_placed : defined t n ≡ true → low t (row t n) ≤ page_of x → page_of x ≤ high t (row t n) → 1 ≤ line_of x
      → length d ≡ data_len t (row t n) → ((i : ℕ) → get_or d i 0 < 256) → Placed t b x
  written_placed typed lowest highest line full small = record {
    typed = rw written_kind typed;
    low_page = rw written_kind lowest;
    high_page = rw written_kind highest;
    on_a_line = line;
    full = rw (written_kind, written_bytes) full;
    bytes = λ i. rw written_bytes (small i);
  }

module _ (t : List ℕ) (l l' : Ledger) (x : ℕ) (a : Accepted t) (w : WellFormed t l) (c : Changed t l l' x) where
  -- what was there is there, of its type
  pub still : (y : ℕ) → present l y ≡ true → (present l' y ≡ true) × (kind_at l' y ≡ kind_at l y)
  still y h = same_or_not y x
      (λ e. rw e (c.there, c.kept (rw e at h)))
      (λ n. rw (c.others y n) (h, refl))

  pub was : (y : ℕ) → y ≢ x → present l' y ≡ true → present l y ≡ true
  was y n h = rw (c.others y n) at h

  pub key_else : (j y : ℕ) → y ≢ x → key_in t l' j y ≡ key_in t l j y
  key_else j y n = key_as t l l' j y (c.others y n)

  pub home_else : (y : ℕ) → y ≢ x → home_of t l' y ≡ home_of t l y
  home_else y n = home_as t l l' y (c.others y n)

  pub all_placed : (y : ℕ) → present l' y ≡ true → Placed t l' y
  all_placed y h = same_or_not y x
      (λ e. rw e c.placed)
      (λ n. placed_as t l l' y (c.others y n) (w.placed y (was y n h)))

  size_else : (y : ℕ) → y ≢ x → length (record_bytes t l' y) ≡ length (record_bytes t l y)
  size_else y n = record_sized t l' y (λ h. (all_placed y h).full) ∙ rw (c.others y n) (sym (record_sized t l y (λ h. (w.placed y h).full)))

  -- the bytes of l, with those of x in l'
  abbrev put : ℕ → List ℕ
  put = update (record_bytes t l) x (record_bytes t l' x)

  put_used : (q : ℕ) → used (record_bytes t l') q ≡ used put q
  put_used q = used_same put (record_bytes t l') q (λ k lo hi. same_or_not (code_of q k) x
      (λ e. rw (e, update_same (record_bytes t l) x (record_bytes t l' x)))
      (λ n. size_else (code_of q k) n ∙ sym (ap length (update_other (record_bytes t l) x (record_bytes t l' x) (code_of q k) n))))

  put_fits : length (put x) ≤ free (record_bytes t l) (page_of x) + length (record_bytes t l x)
  put_fits = rw (update_same (record_bytes t l) x (record_bytes t l' x), record_sized t l' x (λ h. (all_placed x h).full), c.there) (by_cases (present l x)
      (λ e. rw (record_sized t l x (λ h. (w.placed x h).full), e, c.kept e) (omega arith))
      (λ e. omega (arith, c.room e)))

  pub all_room : (q : ℕ) → used (record_bytes t l') q ≤ 496
  all_room q =
      let here : code_of (page_of x) (line_of x) ≡ x = omega arith in
      rw (put_used q) (fits_moved (record_bytes t l) put (page_of x) (line_of x) c.placed.on_a_line (omega arith)
      (λ y n. update_other (record_bytes t l) x _ y (λ e. n (e ∙ sym here)))
      w.room (rw here put_fits) q)
