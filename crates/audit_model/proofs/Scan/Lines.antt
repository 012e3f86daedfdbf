-- The lines of a page that pass the scan: their records, looked up, are what the page holds.
use Prim.Native.Nat.{ℕ, zero, suc, ◌+◌, ◌-◌, ◌^◌, ◌≤◌, ◌<◌}
use mathlib.Core.Path.{◌≡◌, refl, sym, ◌∙◌, ap}
use mathlib.Core.Logic.{◌≢◌}
use mathlib.Core.Bool.{true, false, cond, false≢true}
use mathlib.Core.List.{List, [], ◌++◌, append_assoc}
use native.Mathlib.Omega.{arith}
use native.Mathlib.Nat.{add-zero, add_assoc}
use native.Mathlib.Numerals.{add-one}
use lib.ListN.{length, get_or, drop, replicate, length-drop, take-append-drop}
use lib.Seq.{get_or-take, get_or-drop, length-take-le, drop-drop}
use lib.Dec.{ltb, leb}
use borrow.Author.Tests.{eqb-true, eq-eqb, ne_eqb, le-leb, leb-true, lt-ltb}
use Rattle.ledger.specs.Numbers.{run, sum_of, concat_of, part}
use Rattle.ledger.specs.Table.{low, high, row, defined}
use Rattle.ledger.specs.Pages.{code_of, record_size}
use Rattle.ledger.specs.Bytes.{two_at, size_at, line_at}
use Rattle.ledger.specs.Image.{kind_read, Standing}
use Rattle.ledger.proofs.Lists.Tests.{by_cases, both, same_or_not}
use Rattle.ledger.proofs.Lists.Runs.{concat_of_same, sum_of_same}
use Rattle.ledger.proofs.Lists.Parts.{part_bytes}
use Rattle.ledger.proofs.Bytes.Lookup.{lookup_stop, lookup_here, lookup_past}
use Rattle.ledger.proofs.Ledger.Rows.{size_least}
use Rattle.model.specs.Room.{flags_at}
use Rattle.audit_model.specs.Scan.{stands, taken, flag_of, ends, lines_from, record_from}
use Rattle.audit_model.proofs.Scan.Numbers.{zeros_part, zeros_byte}

-- a record looked up from a place on
module _ (g : List ℕ) (at k : ℕ) where
  pub record_stop : (fuel : ℕ) → size_at g at ≡ 0 → record_from g fuel at k ≡ []
  unfolding record_from
  record_stop fuel e = rw (lookup_stop 508 g at k fuel e)

  pub record_here : (fuel : ℕ) → 0 < at → at < 508 → 0 < size_at g at → line_at g at ≡ k → record_from g (suc fuel) at k ≡ part at (size_at g at) g
  unfolding record_from
  record_here fuel some room size e = rw (lookup_here 508 g at k fuel room size e, ne_eqb at 0 (λ z. omega arith))

  pub record_past : (fuel : ℕ) → at < 508 → 0 < size_at g at → line_at g at ≢ k → record_from g (suc fuel) at k ≡ record_from g fuel (at + size_at g at) k
  unfolding record_from
  record_past fuel room size ne = rw (lookup_past 508 g at k fuel room size ne)

-- what line k takes
module _ (t g : List ℕ) (p at k : ℕ) where
  pub taken_none : line_at g at ≢ k → taken t g p at k ≡ 0
  unfolding taken
  taken_none ne = rw (ne_eqb _ _ ne)

  pub taken_some : line_at g at ≡ k → stands t (two_at g at) (size_at g at) p ≡ true → taken t g p at k ≡ size_at g at
  unfolding taken
  taken_some e s = rw (eq-eqb _ _ e, s)

  pub taken_bad : line_at g at ≡ k → stands t (two_at g at) (size_at g at) p ≡ false → taken t g p at k ≡ 65535
  unfolding taken
  taken_bad e s = rw (eq-eqb _ _ e, s)

-- one turn: how far the line's bytes reach, and the rest
pub lines_on : (t g : List ℕ) (p at bits k n s : ℕ) → taken t g p at k ≡ s → lines_from t g p at bits k (suc n) ≡ true
    → (at + s ≤ 512) × (lines_from t g p (at + s) (bits + flag_of s (2 ^ k)) (k + 1) n ≡ true)
unfolding lines_from
lines_on t g p at bits k n s e h = go (rw e at h)
  where
    go : cond (leb (at + s) 512) (lines_from t g p (at + s) (bits + flag_of s (2 ^ k)) (k + 1) n) false ≡ true
        → (at + s ≤ 512) × (lines_from t g p (at + s) (bits + flag_of s (2 ^ k)) (k + 1) n ≡ true)
    go h = by_cases (leb (at + s) 512) (λ f. (leb-true _ _ f, rw f at h)) (λ f. absurd (false≢true (rw f at h)))

-- what `stands` tests
pub record MayStand (t : List ℕ) (n size p : ℕ) : Type 0 where
  pub typed : defined t n ≡ true
  pub whole : size ≡ record_size t n
  pub low_page : low t (row t n) ≤ p
  pub high_page : p ≤ high t (row t n)

module _ (t : List ℕ) (n size p : ℕ) where
  pub stands_may : stands t n size p ≡ true → MayStand t n size p
  unfolding stands
  stands_may e =
      let (d, h) = both _ _ e in
      let (b, l) = both _ _ d in
      let (a, c) = both _ _ b in
      record { typed = a; whole = eqb-true _ _ c; low_page = leb-true _ _ l; high_page = leb-true _ _ h }

  pub may_stands : MayStand t n size p → stands t n size p ≡ true
  unfolding stands
  may_stands m = rw (m.typed, eq-eqb _ _ m.whole, le-leb _ _ m.low_page, le-leb _ _ m.high_page)

pub flag_some : (s bit : ℕ) → 0 < s → flag_of s bit ≡ bit
unfolding flag_of
flag_some s bit some = rw (lt-ltb 0 s some)

pub flag_none : (bit : ℕ) → flag_of 0 bit ≡ 0
unfolding flag_of
flag_none bit = refl

pub flag_most : (s bit : ℕ) → flag_of s bit ≤ bit
unfolding flag_of
flag_most s bit = by_cases (ltb 0 s) (λ e. rw e (omega arith)) (λ e. rw e (omega arith))

no_size : (g : List ℕ) (at n : ℕ) → drop at g ≡ replicate n 0 → size_at g at ≡ 0
unfolding size_at two_at
no_size g at n e = rw (add_assoc, zeros_byte g at n (at + 2) e (omega arith), zeros_byte g at n (at + 3) e (omega arith))

-- what the lines from k on say of the page from `at` on
pub record Told (t g : List ℕ) (p fuel at bits k n : ℕ) : Type 0 where
  pub none : (j : ℕ) → j < k → record_from g fuel at j ≡ []
  pub filled : at + sum_of (λ j. length (record_from g fuel at j)) (run k n) + two_at g 3 ≡ 512
  pub flagged : bits + sum_of (λ j. flag_of (length (record_from g fuel at j)) (2 ^ j)) (run k n) ≡ flags_at g
  pub rest : drop at g ≡ concat_of (λ j. record_from g fuel at j) (run k n) ++ replicate (two_at g 3) 0
  pub each : (j : ℕ) → k ≤ j → j < 64 → 0 < length (record_from g fuel at j) → Standing t (code_of p j) (record_from g fuel at j)

module _ (t g : List ℕ) (p : ℕ) (small : (i : ℕ) → get_or g i 0 < 256) (long : length g ≡ 512) where
  -- a record of its type's size is one as the table says
  part_standing : (at k : ℕ) → at + size_at g at ≤ 512 → 1 ≤ k → k < 64 → line_at g at ≡ k → MayStand t (two_at g at) (size_at g at) p
      → Standing t (code_of p k) (part at (size_at g at) g)
  unfolding size_at line_at two_at
  part_standing at k inside lo hi line fits =
      let size : ℕ = size_at g at in
      let b : List ℕ = part at size g in
      let least = size_least t (two_at g at) in
      let big : 5 ≤ size = omega (arith, fits.whole) in
      let long-part : length b ≡ size = length-take-le size (drop at g) (rw length-drop (omega arith)) in
      let byte : (i : ℕ) → i < 5 → get_or b i 0 ≡ get_or g (at + i) 0 = λ i lt. get_or-take size (drop at g) i 0 (omega arith) ∙ get_or-drop at g i 0 in
      let kind : kind_read b ≡ two_at g at = rw (byte 0 (omega arith), byte 1 (omega arith), add-zero) in
      record {
        head = record {
          long = omega arith;
          size = rw (byte 2 (omega arith), byte 3 (omega arith), ← add_assoc at 2 1) (sym long-part);
          line = byte 4 (omega arith) ∙ line ∙ omega arith;
        };
        typed = rw kind fits.typed;
        whole = rw kind (long-part ∙ fits.whole);
        low_page = rw kind (omega (arith, fits.low_page));
        high_page = rw kind (omega (arith, fits.high_page));
        on_a_line = omega arith;
        bytes = part_bytes g at size small;
      }

  module _ (at bits k n fuel : ℕ) where
    -- no record of line k begins here
    skip : Told t g p fuel at bits (k + 1) n → Told t g p fuel at bits k (suc n)
    unfolding run sum_of concat_of flag_of
    skip w =
        let z : record_from g fuel at k ≡ [] = w.none k (omega arith) in
        let e : suc k ≡ k + 1 = sym (add-one k) in record {
          none = λ j lt. w.none j (omega arith);
          filled = rw (z, e) (omega (arith, w.filled));
          flagged = rw (z, e) (omega (arith, w.flagged));
          rest = rw (z, e) w.rest;
          each = λ j lo hi full. same_or_not j k
              (λ s. let q : record_from g fuel at j ≡ [] = rw s z in absurd (omega (arith, ap length q)))
              (λ s. w.each j (omega arith) hi full);
        }

    -- line k's record stands here
    step : at + size_at g at ≤ 512 → 1 ≤ at → 1 ≤ k → k < 64 → line_at g at ≡ k → MayStand t (two_at g at) (size_at g at) p
        → Told t g p fuel (at + size_at g at) (bits + 2 ^ k) (k + 1) n → Told t g p (suc fuel) at bits k (suc n)
    unfolding run sum_of concat_of flag_of
    step inside start lo hi line fits w =
        let least = size_least t (two_at g at) in
        let big : 5 ≤ size_at g at = omega (arith, fits.whole) in
        let here : record_from g (suc fuel) at k ≡ part at (size_at g at) g = record_here g at k fuel (omega arith) (omega arith) (omega arith) line in
        let past : (j : ℕ) → j ≢ k → record_from g (suc fuel) at j ≡ record_from g fuel (at + size_at g at) j =
        λ j ne. record_past g at j fuel (omega arith) (omega arith) (λ e. ne (sym e ∙ line)) in
        let long-part : length (part at (size_at g at) g) ≡ size_at g at = length-take-le (size_at g at) (drop at g) (rw length-drop (omega arith)) in
        let e : suc k ≡ k + 1 = sym (add-one k) in
        let sums : sum_of (λ j. length (record_from g (suc fuel) at j)) (run (k + 1) n) ≡ sum_of (λ j. length (record_from g fuel (at + size_at g at) j)) (run (k + 1) n) =
        sum_of_same _ _ (k + 1) n (λ i lo hi. ap length (past i (λ e. omega arith))) in
        let bits-same : sum_of (λ j. flag_of (length (record_from g (suc fuel) at j)) (2 ^ j)) (run (k + 1) n)
        ≡ sum_of (λ j. flag_of (length (record_from g fuel (at + size_at g at) j)) (2 ^ j)) (run (k + 1) n) =
        sum_of_same _ _ (k + 1) n (λ i lo hi. ap (λ (b : List ℕ). flag_of (length b) (2 ^ i)) (past i (λ e. omega arith))) in
        let joins : concat_of (λ j. record_from g (suc fuel) at j) (run (k + 1) n) ≡ concat_of (λ j. record_from g fuel (at + size_at g at) j) (run (k + 1) n) =
        concat_of_same _ _ (k + 1) n (λ i lo hi. past i (λ e. omega arith)) in record {
          none = λ j lt. past j (λ e. omega arith) ∙ w.none j (omega arith);
          filled = rw (here, long-part, e, sums) (omega (arith, w.filled));
          flagged = rw (here, long-part, lt-ltb 0 (size_at g at) (omega arith), e, bits-same) (omega (arith, w.flagged));
          rest = rw (here, e, joins, append_assoc, ← w.rest, ← drop-drop (size_at g at) at g) (sym (take-append-drop (size_at g at) (drop at g)));
          each = λ j from to full. same_or_not j k
              (λ s. rw (s, here) (part_standing at k inside lo hi line fits))
              (λ s. rw (past j s) (w.each j (omega arith) to (rw (past j s) at full)));
        }

  -- after the last line
  lines_end : (at bits k fuel : ℕ) → k ≡ 64 → at ≤ 512 → ends g at bits ≡ true → Told t g p fuel at bits k zero
  unfolding ends sum_of concat_of run
  lines_end at bits k fuel e inside h =
      let (a, c) = both _ _ h in
      let (z, b) = both _ _ a in
      let room : two_at g 3 ≡ 512 - at = eqb-true _ _ b in
      let tail : drop at g ≡ replicate (512 - at) 0 = zeros_part g (512 - at) at z (omega arith) in
      let none : (j : ℕ) → record_from g fuel at j ≡ [] = λ j. record_stop g at j fuel (no_size g at (512 - at) tail) in record {
        none = λ j lt. none j;
        filled = omega arith;
        flagged = add-zero bits ∙ sym (eqb-true _ _ c);
        rest = rw room tail;
        each = λ j from to full. absurd (omega arith);
      }

  -- the lines that pass
  pub lines_told : (n at bits k fuel : ℕ) → k + n ≡ 64 → n ≤ fuel → 1 ≤ k → 1 ≤ at → at ≤ 512
      → lines_from t g p at bits k n ≡ true → Told t g p fuel at bits k n
  unfolding lines_from
  lines_told zero at bits k fuel e enough lo start inside h = lines_end at bits k fuel (omega arith) inside h
  lines_told (suc n) at bits k zero e enough lo start inside h = absurd (omega arith)
  lines_told (suc n) at bits k (suc fuel) e enough lo start inside h = same_or_not (line_at g at) k
      (λ line. by_cases (stands t (two_at g at) (size_at g at) p)
      (λ s.
      let fits = stands_may t (two_at g at) (size_at g at) p s in
      let on = lines_on t g p at bits k n (size_at g at) (taken_some t g p at k line s) h in
      let some : 0 < size_at g at = omega (arith, fits.whole, size_least t (two_at g at)) in
      step at bits k n fuel on.0 start lo (omega arith) line fits
      (lines_told n (at + size_at g at) (bits + 2 ^ k) (k + 1) fuel (omega arith) (omega arith) (omega arith) (omega arith) on.0
      (rw (flag_some (size_at g at) (2 ^ k) some) at on.1)))
      (λ s. absurd (omega (arith, (lines_on t g p at bits k n 65535 (taken_bad t g p at k line s) h).0))))
      (λ ne.
      let on = lines_on t g p at bits k n 0 (taken_none t g p at k ne) h in
      skip at bits k n (suc fuel)
      (lines_told n at bits (k + 1) (suc fuel) (omega arith) (omega arith) (omega arith) start inside
      (rw (flag_none (2 ^ k), add-zero at, add-zero bits) at on.1)))
