-- The bytes that a line's digits say, and where each stands in the journal.
use Prim.Native.Nat.{ℕ, zero, suc, ◌+◌, ◌*◌, ◌-◌, ◌≤◌, ◌<◌}
use mathlib.Core.Path.{◌≡◌, refl, ◌∙◌, ap}
use mathlib.Core.Logic.{◌≢◌, ◌⊎◌, inl, inr}
use mathlib.Core.Bool.{true, false}
use mathlib.Core.List.{List, [], ◌∷◌}
use mathlib.Core.Option.{none, some}
use native.Mathlib.Omega.{arith}
use lib.ListN.{length, get_or, drop}
use lib.Seq.{get_or-take, get_or-drop}
use borrow.Author.Tests.{ltb-true}
use Rattle.ledger.specs.Numbers.{all, part}
use Rattle.ledger.specs.Bytes.{two_at}
use Rattle.ledger.specs.Player.{digit_value, is_digit, pairs_of}
use Rattle.ledger.proofs.Lists.Tests.{by_cases}
use Rattle.restore_model.specs.Walks.{hex_at, page_said}

-- bytes that digits say
pub record Says (l bs : List ℕ) : Type 0 where
  pub long : length l ≡ 2 * length bs
  pub good : all (λ c. is_digit c) l ≡ true
  pub bytes : (k : ℕ) → k < length bs → get_or bs k 0 ≡ hex_at l (2 * k)

-- a line's bytes; it has none where a character is no digit, or their number is odd
abbrev pub Bad : List ℕ → Type 0
Bad l = (all (λ c. is_digit c) l ≡ false) ⊎ ((k : ℕ) → length l ≢ 2 * k)

pub pairs_read : (l : List ℕ) → ((bs : List ℕ) × (pairs_of l ≡ some bs) × Says l bs) ⊎ ((pairs_of l ≡ none) × Bad l)
unfolding pairs_of all hex_at
pairs_read [] = inl ([], refl, record { long = refl; good = refl; bytes = λ k h. absurd (omega arith) })
pairs_read (a ∷ []) = inr (refl, inr (λ k e. omega arith))
pairs_read (a ∷ b ∷ cs) = by_cases (is_digit a)
    (λ ea. by_cases (is_digit b)
    (λ eb. go ea eb (pairs_read cs))
    (λ eb. inr (rw (ea, eb), inl (rw (ea, eb)))))
    (λ ea. inr (rw ea, inl (rw ea)))
  where
    go : is_digit a ≡ true → is_digit b ≡ true → ((bs : List ℕ) × (pairs_of cs ≡ some bs) × Says cs bs) ⊎ ((pairs_of cs ≡ none) × Bad cs)
        → ((bs : List ℕ) × (pairs_of (a ∷ b ∷ cs) ≡ some bs) × Says (a ∷ b ∷ cs) bs) ⊎ ((pairs_of (a ∷ b ∷ cs) ≡ none) × Bad (a ∷ b ∷ cs))
    go ea eb (inl (bs, e, s)) =
        let u = ltb-true (digit_value a) 16 ea in
        let v = ltb-true (digit_value b) 16 eb in
        let at : (k : ℕ) → k < suc (length bs) → get_or ((16 * digit_value a + digit_value b) ∷ bs) k 0 ≡ hex_at (a ∷ b ∷ cs) (2 * k)
        = λ k. elim k as (λ k. k < suc (length bs) → get_or ((16 * digit_value a + digit_value b) ∷ bs) k 0 ≡ hex_at (a ∷ b ∷ cs) (2 * k)) [
          | zero ↦ λ h. omega arith
          | suc i ↦ λ h. let e2 : 2 * suc i ≡ suc (suc (2 * i)) = omega arith in let e3 : suc (suc (2 * i)) + 1 ≡ suc (suc (2 * i + 1)) = omega arith in rw (e2, e3) (s.bytes i (omega arith))
        ] in
        inl ((16 * digit_value a + digit_value b) ∷ bs, rw (ea, eb, e), record { long = let l = s.long in omega arith; good = rw (ea, eb) s.good; bytes = at })
    go ea eb (inr (e, inl f)) = inr (rw (ea, eb, e), inl (rw (ea, eb) f))
    go ea eb (inr (e, inr f)) = inr (rw (ea, eb, e), inr (λ k q. f (k - 1) (omega arith)))

pub hex_small : (j : List ℕ) (i : ℕ) → hex_at j i < 256
unfolding hex_at
hex_small j i = omega arith

-- a line that stands in the journal at `start`
module _ (j : List ℕ) (start : ℕ) (l : List ℕ) (stands : l ≡ part start (length l) j) where
  hex_there : (i : ℕ) → i + 1 < length l → hex_at l i ≡ hex_at j (start + i)
  unfolding hex_at
  hex_there i h =
      let at : (k : ℕ) → k < length l → get_or l k 0 ≡ get_or j (start + k) 0
      = λ k lt. ap (λ (x : List ℕ). get_or x k 0) stands ∙ get_or-take (length l) (drop start j) k 0 lt ∙ get_or-drop start j k 0 in
      let e : start + i + 1 ≡ start + (i + 1) = omega arith in
      rw (at i (omega arith), at (i + 1) h, e)

  pub byte_there : (bs : List ℕ) → Says l bs → (k : ℕ) → k < length bs → get_or bs k 0 ≡ hex_at j (start + 2 * k)
  byte_there bs s k h = let long = s.long in s.bytes k h ∙ hex_there (2 * k) (omega arith)

  pub page_there : (bs : List ℕ) → Says l bs → 2 ≤ length bs → two_at bs 0 ≡ page_said j start
  unfolding two_at page_said
  page_there bs s h =
      let e : start + 2 * 0 ≡ start = omega arith in
      rw (byte_there bs s 0 (omega arith), byte_there bs s 1 (omega arith), e)
