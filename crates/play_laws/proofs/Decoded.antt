-- A line is read as document 01 says: it is bad exactly where no well-made frame is found in it, else the frame that is found is the line's.
use Prim.Native.Nat.{ℕ, ◌+◌, ◌*◌, ◌≤◌, ◌<◌}
use mathlib.Core.Path.{◌≡◌, refl}
use mathlib.Core.Logic.{◌↔◌, ◌⊎◌, inl, inr}
use mathlib.Core.Bool.{true, false, not, ◌&&◌}
use mathlib.Core.List.{List, [], ◌∷◌, ◌++◌}
use mathlib.Core.Option.{Option, none, some, map}
use native.Mathlib.Omega.{arith}
use lib.ListN.{length, drop, replicate}
use lib.Seq.{take-append_seam}
use lib.Dec.{eqb, ltb}
use borrow.Author.Tests.{ltb-true, ltb-false, le-ltb}
use Rattle.ledger.specs.Numbers.{keep, part}
use Rattle.ledger.specs.Player.{digit_value, is_digit, pairs_of, frame_of, well_made, line_bad}
use Rattle.ledger.proofs.Lists.Tests.{by_cases, both, clash}
use Rattle.ledger.proofs.Lists.Sieves.{length_keep}
use Rattle.ledger.proofs.Lists.Digits.{Bytes, nil_bytes, cons_bytes}
use Rattle.std.proofs.Common.{Some, None}
use Rattle.frames_model.proofs.Texts.{decode_none, decode_some}
use Rattle.line_model.specs.Lines.{FrameIn, frame_in}

-- what a line's bytes are, in the player's buffer
abbrev pub held_in : List ℕ → FrameIn
held_in line = frame_in line (replicate 550 0)

-- pairs of digits: bytes, half as many
pub record Paired (cs bs : List ℕ) : Type 0 where
  pub half : 2 * length bs ≡ length cs
  pub small : Bytes bs

paired_more : (a b : ℕ) (cs bs : List ℕ) (o : Option (List ℕ)) → digit_value a < 16 → digit_value b < 16 → ((ds : List ℕ) → o ≡ some ds → Paired cs ds)
    → map (λ ds. (16 * digit_value a + digit_value b) ∷ ds) o ≡ some bs → Paired (a ∷ b ∷ cs) bs
paired_more a b cs bs none u v ih e = absurd (no_some e)
  where
    no_some : {xs : List ℕ} → ◌≡◌ {A = Option (List ℕ)} none (some xs) → ⊥
    no_some e = let z : ◌≡◌ {A = ℕ} 0 1 = cc in omega arith
paired_more a b cs bs (some ds) u v ih e =
    let q : (16 * digit_value a + digit_value b) ∷ ds ≡ bs = cc in
    let p = ih ds refl in
    rw (← q) (record { half = omega (arith, p.half); small = cons_bytes (omega arith) p.small })

paired : (cs bs : List ℕ) → pairs_of cs ≡ some bs → Paired cs bs
unfolding pairs_of
paired [] bs e = let q : [] ≡ bs = cc in rw (← q) (record { half = refl; small = nil_bytes })
paired (a ∷ []) bs e = let z : ◌≡◌ {A = ℕ} 0 1 = cc in absurd (omega arith)
paired (a ∷ b ∷ cs) bs e = by_cases (ltb (digit_value a) 16 && ltb (digit_value b) 16)
    (λ d.
    let (u, v) = both (is_digit a) (is_digit b) d in
    paired_more a b cs bs (pairs_of cs) (ltb-true (digit_value a) 16 u) (ltb-true (digit_value b) 16 v) (λ ds. paired cs ds) (rw d at e))
    (λ d. let f : none ≡ some bs = rw d at e in let z : ◌≡◌ {A = ℕ} 0 1 = cc in absurd (omega arith))

-- the frame that a line carries where it is not bad
pub record Carries (line fr : List ℕ) : Type 0 where
  pub framed : frame_of line ≡ some fr
  pub made : well_made fr ≡ true
  pub count : (held_in line).0 ≡ Some (length fr)
  pub held : part 0 (length fr) (held_in line).1 ≡ fr
  pub some_bytes : 0 < length fr
  pub fits : length fr ≤ 550
  pub small : Bytes fr

-- a line that is bad is held as no frame, one that is not as its own
abbrev Reads : List ℕ → Type 0
Reads line = ((line_bad line ≡ true) × ((held_in line).0 ≡ None)) ⊎ ((line_bad line ≡ false) × ((fr : List ℕ) × Carries line fr))

made_some : (fr : List ℕ) → well_made fr ≡ true → 0 < length fr
unfolding well_made
made_some [] e = clash false e refl
made_some (c ∷ fr) e = omega arith

module _ (line : List ℕ) (short : length line ≤ 1100) where
  room : length line ≤ 2 * length (replicate {A = ℕ} 550 0)
  room = short

  reads_none : frame_of line ≡ none → Reads line
  unfolding frame_in line_bad
  reads_none e = inl (rw (le-ltb 1100 (length line) short, e), rw (le-ltb 1100 (length line) short, decode_none line (replicate 550 0) room e))

  reads_some : (fr : List ℕ) → frame_of line ≡ some fr → Reads line
  unfolding frame_in line_bad
  reads_some fr e =
      let n = le-ltb 1100 (length line) short in
      let d = decode_some line (replicate 550 0) room fr e in
      let own : part 0 (length fr) (fr ++ drop (length fr) (replicate 550 0)) ≡ fr = take-append_seam fr _ in
      by_cases (well_made fr)
      (λ w.
      let h : held_in line ≡ (Some (length fr), fr ++ drop (length fr) (replicate 550 0)) = rw (n, d, own, w) in
      let p = paired (keep (λ c. not (eqb c 32)) line) fr (unfold frame_of in e) in
      inr (
        rw (n, e, w),
        (
          fr,
          record {
            framed = e;
            made = w;
            count = rw h;
            held = rw h own;
            some_bytes = made_some fr w;
            fits = omega (arith, p.half, length_keep (λ c. not (eqb c 32)) line);
            small = p.small;
          },
        ),
      ))
      (λ w. inl (rw (n, e, w), rw (n, d, own, w)))

reads_short : (line : List ℕ) → length line ≤ 1100 → (o : Option (List ℕ)) → frame_of line ≡ o → Reads line
reads_short line short none e = reads_none line short e
reads_short line short (some fr) e = reads_some line short fr e

pub line_reads : (line : List ℕ) → Reads line
unfolding frame_in line_bad
line_reads line = by_cases (ltb 1100 (length line))
    (λ e. inl (rw e, rw e))
    (λ e. reads_short line (ltb-false 1100 (length line) e) (frame_of line) refl)

-- no frame is held exactly where the line is bad
pub bad_exactly : (line : List ℕ) → ((held_in line).0 ≡ None) ↔ (line_bad line ≡ true)
bad_exactly line = elim (line_reads line) [
  | inl (b, z) ↦ ((λ e. b), λ e. z)
  | inr (b, c) ↦ ((λ e. let h = c.1.count in cc), λ e. clash _ e b)
]
