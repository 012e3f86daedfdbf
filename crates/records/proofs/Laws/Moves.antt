-- Records put into a page and taken out; fresh pages.
use Rattle.std.proofs.Common.{◌≡◌, ◌⊎◌, inl, inr, ℕ, zero, suc, ◌+◌, ◌-◌, ◌*◌, ◌/◌, ◌%◌, ◌^◌, ◌<◌, ◌≤◌, Option, Some, None, List, [], ◌∷◌, length, get_or, take, drop, set, replicate, eqb, sym, refl, ap, ◌∙◌, arith, drop-drop, length-set, le-ltb, lt-ltb, eq-eqb, ne_eqb}
use Rattle.std.proofs.lemmas.List.{same_lists, get_or_default, get_or-set_other, get_or-set_same, length-replicate}
use borrow.Author.Tests.{eqb-true, eqb-false}
use borrow.Rule.Slice.PartMut.{put_mid}
use lib.Seq.{get_or-drop}
use Rattle.ledger.specs.Numbers.{or_none}
use Rattle.ledger.proofs.Lists.Nones.{zero_of_none, value_of_some, some_not_zero}
use Rattle.ledger.proofs.Lists.Tests.{by_cases}
use Rattle.model.specs.Reads.{line_in}
use Rattle.model.specs.Moves.{two_put, part_put, fill, fill_from, flags_put, record_taken, line_taken, page_made, on_page, made_from}

-- closed_byte
pub rest_byte : (f : List ℕ) (i n : ℕ) → get_or (drop i f) n 0 ≡ get_or f (i + n) 0
rest_byte f i n = get_or-drop i f n 0

-- a page filled place by place
length-fill : (g : ℕ → ℕ) (n i : ℕ) (f : List ℕ) → length (fill_from g f i n) ≡ length f
unfolding fill_from
length-fill g zero i f = refl
length-fill g (suc n) i f = length-fill g n (i + 1) (set f i (g i)) ∙ length-set f i (g i)

fill-below : (g : ℕ → ℕ) (n i k : ℕ) (f : List ℕ) → k < i → get_or (fill_from g f i n) k 0 ≡ get_or f k 0
unfolding fill_from
fill-below g zero i k f low = refl
fill-below g (suc n) i k f low = fill-below g n (i + 1) k (set f i (g i)) (omega arith) ∙ get_or-set_other f i k (g i) 0 (λ z. omega arith)

fill-within : (g : ℕ → ℕ) (n i k : ℕ) (f : List ℕ) → i ≤ k → k < i + n → k < length f → get_or (fill_from g f i n) k 0 ≡ g k
unfolding fill_from
fill-within g zero i k f lo hi long = absurd (omega arith)
fill-within g (suc n) i k f lo hi long = by_cases (eqb k i)
    (λ e. let z : k ≡ i = eqb-true k i e in rw z (fill-below g n (i + 1) i (set f i (g i)) (omega arith) ∙ get_or-set_same f i (g i) 0 (omega arith)))
    (λ e. let apart : k ≡ i → ⊥ = eqb-false k i e in fill-within g n (i + 1) k (set f i (g i)) (omega arith) (omega arith) (rw length-set long))

pub fill_made : (g : ℕ → ℕ) (n : ℕ) (ys : List ℕ) → length ys ≡ n → ((k : ℕ) → k < n → get_or ys k 0 ≡ g k) → ys ≡ fill_from g (replicate n 0) 0 n
fill_made g n ys long at =
    let zeros : List ℕ = replicate n 0 in
    let long0 : length zeros ≡ n = length-replicate n 0 in
    let filled : length (fill_from g zeros 0 n) ≡ n = length-fill g n 0 zeros ∙ long0 in
    same_lists ys _ (omega arith)
    (λ k d low.
    get_or_default ys k d 0 low ∙ at k (omega arith)
    ∙ sym (fill-within g n 0 k zeros (omega arith) (omega arith) (omega arith))
    ∙ sym (get_or_default (fill_from g zeros 0 n) k d 0 (omega arith)))

-- put_flags
pub flags_put-part : (f d : List ℕ) (v : ℕ) → v < 2 ^ 64
    → d ≡ v / 256 ^ 7 % 256 ∷ v / 256 ^ 6 % 256 ∷ v / 256 ^ 5 % 256 ∷ v / 256 ^ 4 % 256 ∷ v / 256 ^ 3 % 256 ∷ v / 256 ^ 2 % 256 ∷ v / 256 ^ 1 % 256 ∷ v % 256 ∷ []
    → flags_put f v ≡ part_put f 5 d
unfolding flags_put two_put part_put
flags_put-part f d v small e =
    let a : v / 65536 / 65536 / 65536 / 256 % 256 ≡ v / 256 ^ 7 % 256 = omega arith in
    let b : v / 65536 / 65536 / 65536 % 256 ≡ v / 256 ^ 6 % 256 = omega arith in
    let c : v / 65536 / 65536 % 65536 / 256 % 256 ≡ v / 256 ^ 5 % 256 = omega arith in
    let p : v / 65536 / 65536 % 65536 % 256 ≡ v / 256 ^ 4 % 256 = omega arith in
    let q : v / 65536 % 65536 / 256 % 256 ≡ v / 256 ^ 3 % 256 = omega arith in
    let r : v / 65536 % 65536 % 256 ≡ v / 256 ^ 2 % 256 = omega arith in
    let s : v % 65536 / 256 % 256 ≡ v / 256 ^ 1 % 256 = omega arith in
    let t : v % 65536 % 256 ≡ v % 256 = omega arith in
    rw (e, a, b, c, p, q, r, s, t) refl

-- take_line; o is what `find_line` gives
module _ (f : List ℕ) (line : ℕ) (o : Option ℕ) (eo : o ≡ or_none (line_in f line)) where
  pub line_free : o ≡ None → line_taken f line ≡ f
  unfolding line_taken
  line_free h = rw (eq-eqb (line_in f line) 0 (zero_of_none _ eo h))

  pub line_used : (at : ℕ) → o ≡ Some at → line_taken f line ≡ record_taken f at
  unfolding line_taken
  line_used at h = let e : line_in f line ≡ at = sym (value_of_some _ eo h) in rw (ne_eqb (line_in f line) 0 (some_not_zero _ eo h), e)

-- put_in and take_out: page p, lent from its start, changed by `change`, and put back
module _ (change : List ℕ → List ℕ) (f : List ℕ) (p : ℕ) where
  pub page_off : (p ≡ 0) ⊎ (length f < 512 * (p - 1) + 512) → on_page change f p ≡ f
  unfolding on_page
  page_off (inl z) = rw (eq-eqb p 0 z)
  page_off (inr h) = by_cases (eqb p 0)
      (λ e. rw e)
      (λ e. rw (e, lt-ltb (length f) (512 * (p - 1) + 512) h))

  pub page_on : (start : ℕ) (g : List ℕ) → start ≡ 512 * (p - 1) → 1 ≤ p → start + 512 ≤ length f → change (take (start + 512 - start) (drop start f)) ≡ g
      → on_page change f p ≡ put_mid start (start + 512 - start) f g
  unfolding on_page
  page_on start g es first fits e =
      let size : start + 512 - start ≡ 512 = omega arith in
      rw (← es, ne_eqb p 0 (λ z. omega arith), le-ltb (length f) _ fits, ← e, size, drop-drop)

-- format_file; n pages may follow
module _ (f : List ℕ) (p : ℕ) (x : List ℕ) where
  pub made_all : (n : ℕ) → made_from f p n ≡ x → n ≡ 0 → x ≡ f
  unfolding made_from
  made_all zero inv h = sym inv
  made_all (suc n) inv h = absurd (omega arith)

  pub made_short : (n : ℕ) → made_from f p n ≡ x → length f < 512 * (p - 1) + 512 → x ≡ f
  unfolding made_from
  made_short zero inv h = sym inv
  made_short (suc n) inv h = sym (rw (lt-ltb (length f) _ h) at inv)

  pub made_next : (n m start : ℕ) (g : List ℕ) → made_from f p n ≡ x → n ≡ suc m → start ≡ 512 * (p - 1) → 1 ≤ p → start + 512 ≤ length f
      → page_made (take (start + 512 - start) (drop start f)) p ≡ g → made_from (put_mid start (start + 512 - start) f g) (p + 1) m ≡ x
  unfolding made_from
  made_next zero m start g inv h es first fits e = absurd (omega arith)
  made_next (suc n) m start g inv h es first fits e =
      let turn = page_on (λ page. page_made page p) f p start g es first fits e in
      let l : m ≡ n = omega arith in
      rw l (ap (λ (k : List ℕ). made_from k (p + 1) n) (sym turn) ∙ (rw (le-ltb (length f) (512 * (p - 1) + 512) (omega arith)) at inv))
