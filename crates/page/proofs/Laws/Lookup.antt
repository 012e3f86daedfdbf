-- A record looked up by its line in a page, and by its code in a file.
use Rattle.std.proofs.Common.{◌≡◌, ◌⊎◌, inl, inr, eqb, cond, ℕ, suc, ◌+◌, ◌-◌, ◌*◌, ◌/◌, ◌%◌, ◌<◌, ◌≤◌, List, length, take, drop, refl, sym, ◌∙◌, Option, Some, None, arith, le-ltb, lt-ltb, eq-eqb, ne_eqb}
use Rattle.ledger.specs.Bytes.{size_at, line_at, lookup}
use Rattle.ledger.specs.Numbers.{or_none}
use Rattle.ledger.proofs.Lists.Nones.{none_is, some_is, some_above, zero_of_none, value_of_some, some_not_zero}
use Rattle.ledger.proofs.Lists.Tests.{by_cases}
use Rattle.ledger.proofs.Bytes.Lookup.{lookup_stop, lookup_out, lookup_limit, lookup_here, lookup_past}
use Rattle.model.specs.Reads.{line_in, place_in}

-- find_line; n turns in all
module _ (p : List ℕ) (line at n i x : ℕ) (above : 0 < at) (inv : lookup 508 (n - i) p at line ≡ x) where
  pub line_out : n ≤ i → None ≡ or_none x
  line_out h = let z : n - i ≡ 0 = omega arith in none_is (sym (rw z at inv) ∙ lookup_out 508 p at line)

  pub line_limit : 508 ≤ at → None ≡ or_none x
  line_limit h = none_is (sym inv ∙ lookup_limit 508 p at line (n - i) h)

  pub line_end : size_at p at ≡ 0 → None ≡ or_none x
  line_end e = none_is (sym inv ∙ lookup_stop 508 p at line (n - i) e)

  module _ (more : i < n) (room : at < 508) (some : size_at p at ≡ 0 → ⊥) where
    fuel : n - i ≡ suc (n - (i + 1))
    fuel = omega arith

    pub line_here : line_at p at ≡ line → Some at ≡ or_none x
    line_here e =
        let found : x ≡ at = sym (rw fuel at inv) ∙ lookup_here 508 p at line (n - (i + 1)) room (omega arith) e in
        some_above (sym found) (omega arith)

    pub line_next : (line_at p at ≡ line → ⊥) → lookup 508 (n - (i + 1)) p (at + size_at p at) line ≡ x
    line_next ne = sym (lookup_past 508 p at line (n - (i + 1)) room (omega arith) ne) ∙ (rw fuel at inv)

-- find: the page starts at `start`, and o is what find_line gives in it
pub place_off : (f : List ℕ) (c : ℕ) → (c / 64 ≡ 0) ⊎ (length f < 512 * (c / 64 - 1) + 512) → None ≡ or_none (place_in f c)
unfolding place_in
place_off f c (inl z) = none_is (rw (eq-eqb (c / 64) 0 z) refl)
place_off f c (inr h) = none_is (by_cases (eqb (c / 64) 0)
    (λ e. rw e refl)
    (λ e. rw (e, lt-ltb (length f) (512 * (c / 64 - 1) + 512) h) refl))

module _ (f : List ℕ) (c start : ℕ) (o : Option ℕ) (es : start ≡ 512 * (c / 64 - 1)) (first : 1 ≤ c / 64) (fits : start + 512 ≤ length f)
    (eo : o ≡ or_none (line_in (take (start + 512 - start) (drop start f)) (c % 64))) where
  place_is : place_in f c ≡ (let at : ℕ = line_in (take (start + 512 - start) (drop start f)) (c % 64) in cond (eqb at 0) 0 (start + at))
  unfolding place_in
  place_is =
      let size : start + 512 - start ≡ 512 = omega arith in
      rw (← es, ne_eqb (c / 64) 0 (λ z. omega arith), le-ltb (length f) (start + 512) fits, size) refl

  pub place_none : o ≡ None → None ≡ or_none (place_in f c)
  place_none h = none_is (place_is ∙ rw (zero_of_none _ eo h) refl)

  pub place_some : (at : ℕ) → o ≡ Some at → Some (start + at) ≡ or_none (place_in f c)
  place_some at h =
      let e : line_in (take (start + 512 - start) (drop start f)) (c % 64) ≡ at = sym (value_of_some _ eo h) in
      let n : at ≡ 0 → ⊥ = λ z. some_not_zero _ eo h (e ∙ z) in
      let w : place_in f c ≡ start + at = place_is ∙ rw (e, ne_eqb at 0 n) refl in
      some_is (sym w) (λ z. n (omega arith))
