-- A page filled byte by byte is the list of its bytes; opened and closed up so, it is what the ledger's definitions say.
use Prim.Native.Nat.{ℕ, zero, suc, ◌+◌, ◌-◌, ◌≤◌, ◌<◌}
use mathlib.Core.Path.{◌≡◌, refl, sym, ap, ◌∙◌}
use mathlib.Core.List.{List, [], ◌∷◌, ◌++◌, append_assoc, append-nil}
use native.Mathlib.Omega.{arith}
use borrow.Author.Tests.{ltb-true, ltb-false}
use lib.ListN.{length, get_or, set, take, drop, replicate, length-set, length-replicate, length-append, length-drop, get_or-append, drop_of_length-le}
use lib.Seq.{length-take-le, get_or-set_same, get_or-set_other, get_or-append-add, get_or-take, get_or-drop, ext_get_or, sets-eq}
use lib.Dec.{ltb}
use Rattle.ledger.specs.Bytes.{opened, closed}
use Rattle.ledger.proofs.Lists.Tests.{by_cases, same_or_not}
use Rattle.ledger.proofs.Lists.Parts.{get_d_zeros}
use Rattle.model.specs.Moves.{part_put, opened_byte, closed_byte, fill, fill_from, opened_up, closed_up}

module _ (g : ℕ → ℕ) where
  filled_length : (f : List ℕ) (i n : ℕ) → length (fill_from g f i n) ≡ length f
  unfolding fill_from
  filled_length f i zero = refl
  filled_length f i (suc n) = filled_length (set f i (g i)) (i + 1) n ∙ length-set f i (g i)

  filled_before : (f : List ℕ) (i n k : ℕ) → k < i → get_or (fill_from g f i n) k 0 ≡ get_or f k 0
  unfolding fill_from
  filled_before f i zero k h = refl
  filled_before f i (suc n) k h =
      filled_before (set f i (g i)) (i + 1) n k (omega arith) ∙ get_or-set_other f i k (g i) 0 (λ e. omega arith)

  filled_at : (f : List ℕ) (i n k : ℕ) → i ≤ k → k < i + n → k < length f → get_or (fill_from g f i n) k 0 ≡ g k
  unfolding fill_from
  filled_at f i zero k low high h = absurd (omega arith)
  filled_at f i (suc n) k low high h = same_or_not k i
      (λ e. filled_before (set f i (g i)) (i + 1) n k (omega arith) ∙ rw e (get_or-set_same f i (g i) 0 (rw e at h)))
      (λ ne. filled_at (set f i (g i)) (i + 1) n k (omega (arith, ne)) (omega arith) (rw length-set h))

  pub fill_length : length (fill g) ≡ 512
  unfolding fill
  fill_length = filled_length (replicate 512 0) 0 512 ∙ length-replicate {A = ℕ} 512 0

  pub fill_at : (i : ℕ) → i < 512 → get_or (fill g) i 0 ≡ g i
  unfolding fill
  fill_at i h = filled_at (replicate 512 0) 0 512 i (omega arith) (omega arith) (rw (length-replicate {A = ℕ} 512 0) h)

  -- a list of 512 bytes that are g's is the fill
  pub fill_is : (f : List ℕ) → length f ≡ 512 → ((i : ℕ) → i < 512 → get_or f i 0 ≡ g i) → f ≡ fill g
  fill_is f l same = ext_get_or 0 f (fill g) (l ∙ sym fill_length) (λ i h. let k : i < 512 = rw l at h in same i k ∙ sym (fill_at i k))

-- a list joined of two, read before and from the place where they meet
joined_before : (a b : List ℕ) (s i : ℕ) → length a ≡ s → i < s → get_or (a ++ b) i 0 ≡ get_or a i 0
joined_before a b s i l h = get_or-append a b 0 i (rw l h)

joined_from : (a b : List ℕ) (s i : ℕ) → length a ≡ s → s ≤ i → get_or (a ++ b) i 0 ≡ get_or b (i - s) 0
joined_from a b s i l h =
    let e : i ≡ length a + (i - s) = omega arith in
    ap (λ (j : ℕ). get_or (a ++ b) j 0) e ∙ get_or-append-add a b (i - s) 0

-- zeros behind a list are what is read there already
zeros_behind : (a : List ℕ) (n k : ℕ) → get_or (a ++ replicate n 0) k 0 ≡ get_or a k 0
zeros_behind [] n k = get_d_zeros n k
zeros_behind (x ∷ a) n zero = refl
zeros_behind (x ∷ a) n (suc k) = zeros_behind a n k

-- bytes put over a whole page
pub put_whole : (f d : List ℕ) → length d ≡ length f → part_put f 0 d ≡ d
unfolding part_put
put_whole f d l =
    let none : length f ≤ 0 + length d = omega arith in
    sets-eq d f 0 (omega arith) ∙ rw (drop_of_length-le f none) (append-nil d)

module _ (f : List ℕ) (s n : ℕ) (whole : length f ≡ 512) (fits : s + n ≤ 512) where
  front : length (take s f) ≡ s
  front = length-take-le s f (omega arith)

  -- closed up
  closed_length : length (take s f ++ (drop (s + n) f ++ replicate n 0)) ≡ 512
  closed_length = simp (length-append, length-drop, length-replicate, front) (omega arith)

  closed_at : (i : ℕ) → i < 512 → get_or (take s f ++ (drop (s + n) f ++ replicate n 0)) i 0 ≡ closed_byte f s n i
  unfolding closed_byte
  closed_at i h = by_cases (ltb i s)
      (λ e. rw e (joined_before (take s f) _ s i front (ltb-true i s e) ∙ get_or-take s f i 0 (ltb-true i s e)))
      (λ e.
      let past = ltb-false i s e in
      let k : s + n + (i - s) ≡ i + n = omega arith in
      rw e (joined_from (take s f) _ s i front past ∙ zeros_behind (drop (s + n) f) n (i - s) ∙ get_or-drop (s + n) f (i - s) 0 ∙ rw k))

  pub closed_fill : closed f s n ≡ fill (closed_byte f s n)
  unfolding closed
  closed_fill = rw append_assoc (fill_is (closed_byte f s n) _ closed_length closed_at)

  -- opened
  opened_length : length (take s f ++ (replicate n 0 ++ take (512 - (s + n)) (drop s f))) ≡ 512
  opened_length =
      let l : length (take (512 - (s + n)) (drop s f)) ≡ 512 - (s + n) = length-take-le _ (drop s f) (rw length-drop (omega arith)) in
      simp (length-append, length-replicate, front, l) (omega arith)

  opened_at : (i : ℕ) → i < 512 → get_or (take s f ++ (replicate n 0 ++ take (512 - (s + n)) (drop s f))) i 0 ≡ opened_byte f s n i
  unfolding opened_byte
  opened_at i h = by_cases (ltb i s)
      (λ e. rw e (joined_before (take s f) _ s i front (ltb-true i s e) ∙ get_or-take s f i 0 (ltb-true i s e)))
      (λ e.
      let past = ltb-false i s e in
      rw e (joined_from (take s f) _ s i front past ∙ by_cases (ltb (i - s) n)
      (λ d. rw d (joined_before (replicate n 0) _ n (i - s) (length-replicate n 0) (ltb-true (i - s) n d) ∙ get_d_zeros n (i - s)))
      (λ d.
      let behind = ltb-false (i - s) n d in
      let k : s + (i - s - n) ≡ i - n = omega arith in
      rw d (joined_from (replicate n 0) _ n (i - s) (length-replicate n 0) behind ∙ get_or-take (512 - (s + n)) (drop s f) (i - s - n) 0 (omega arith)
      ∙ get_or-drop s f (i - s - n) 0 ∙ rw k))))

  pub opened_fill : opened f s (replicate n 0) ≡ fill (opened_byte f s n)
  unfolding opened
  opened_fill = rw (length-replicate, append_assoc) (fill_is (opened_byte f s n) _ opened_length opened_at)

  -- the page of scratch, put over the whole page
  pub closed_up_lem : closed_up f s n ≡ closed f s n
  unfolding closed_up
  closed_up_lem = put_whole f (fill (closed_byte f s n)) (fill_length (closed_byte f s n) ∙ sym whole) ∙ sym closed_fill

  pub opened_up_lem : opened_up f s n ≡ opened f s (replicate n 0)
  unfolding opened_up
  opened_up_lem = put_whole f (fill (opened_byte f s n)) (fill_length (opened_byte f s n) ∙ sym whole) ∙ sym opened_fill
