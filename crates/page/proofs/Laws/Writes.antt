-- Bytes written by place.
use Rattle.std.proofs.Common.{◌≡◌, ℕ, zero, suc, ◌+◌, ◌-◌, ◌/◌, ◌%◌, ◌^◌, ◌≤◌, ◌<◌, List, [], ◌∷◌, length, set, get_or, take, drop, min, ltb, ltb-true, ltb-false, refl, sym, ap, ◌∙◌, arith, length-set, append_assoc, take_all, drop-drop, add-zero, add-one, drop_of_length-le, drop-cons}
use Rattle.std.proofs.lemmas.Grind.{common_steps}
use Rattle.std.proofs.lemmas.List.Edits.{sets, sets-eq}
use borrow.Rule.Slice.PartMut.{put_mid}
use lib.ListN.{length-take}
use lib.Seq.{set_out}
use Rattle.ledger.proofs.Lists.Tests.{by_cases}
use Rattle.model.specs.Writes.{three_put}
use Rattle.model.specs.Moves.{part_put}

-- past the end nothing is written
pub three_put_past : (f : List ℕ) (i v : ℕ) → length f ≤ i → three_put f i v ≡ f
unfolding three_put
three_put_past f i v h =
    set_out _ (i + 2) _ (simp length-set (omega arith))
    ∙ set_out _ (i + 1) _ (simp length-set (omega arith))
    ∙ set_out f i _ h

pub three_put_past_by : (f : List ℕ) (o k v : ℕ) → length f - o ≤ k → three_put f (o + k) v ≡ f
three_put_past_by f o k v h = three_put_past f (o + k) v (omega arith)

pub part_put_past : {A : Type 0} (f : List A) (at : ℕ) (d : List A) → length f ≤ at → part_put f at d ≡ f
unfolding part_put
part_put_past f at [] h = refl
part_put_past f at (b ∷ d) h = rw (set_out f at b h) (part_put_past f (suc at) d (omega arith))

-- put_part: what is left to put once i elements of d are
unfoldable pub part_from : {A : Type 0} → List A → ℕ → List A → ℕ → List A
part_from f at d i = part_put f (at + i) (drop i d)

pub part_first : {A : Type 0} (f : List A) (at : ℕ) (d : List A) → part_from f at d 0 ≡ part_put f at d
unfolding part_from
part_first f at d = rw add-zero

module _ {A : Type 0} (f : List A) (at : ℕ) (d : List A) (i : ℕ) (x : List A) (inv : part_from f at d i ≡ x) where
  pub part_full : length f - at ≤ i → x ≡ f
  unfolding part_from
  part_full h = sym inv ∙ part_put_past f (at + i) (drop i d) (omega arith)

  pub part_none : length d ≤ i → x ≡ f
  unfolding part_from part_put
  part_none h = sym (rw (drop_of_length-le d h) at inv)

  pub part_done : (n : ℕ) → n ≡ min (length d) (length f - at) → n ≤ i → x ≡ f
  part_done n e h = by_cases (ltb (length d) (length f - at))
      (λ l. part_none (let z = ltb-true _ _ l in grind (arith, common_steps)))
      (λ l. part_full (let z = ltb-false _ _ l in grind (arith, common_steps)))

  pub part_next : (y : A) → i < length d → y ≡ get_or d i y → part_from (set f (at + i) y) at d (i + 1) ≡ x
  unfolding part_from part_put
  part_next y h e =
      let k : at + (i + 1) ≡ suc (at + i) = omega arith in
      let c : drop i d ≡ y ∷ drop (suc i) d = drop-cons d i y h ∙ ap (λ z. z ∷ drop (suc i) d) (sym e) in
      rw (k, add-one) (rw c at inv)

-- what has no room is not written
part_put-cut : {A : Type 0} (m : ℕ) (f : List A) (at : ℕ) (d : List A) → length f - at ≡ m → part_put f at d ≡ part_put f at (take m d)
unfolding part_put
part_put-cut zero f at d e = part_put_past f at d (omega arith)
part_put-cut (suc m) f at [] e = refl
part_put-cut (suc m) f at (b ∷ d) e = part_put-cut m (set f at b) (suc at) d (simp length-set (omega arith))

-- a part put is what the library's copy of its first n elements leaves
pub part_put-mid : {A : Type 0} (f d ys : List A) (at n k : ℕ) → n ≤ length d → at + n ≤ length f → (n < length d → at + n ≡ length f) → k ≡ n → ys ≡ take n d → part_put f at d ≡ put_mid at k f ys
unfolding part_put
part_put-mid f d ys at n k small within cut ek ey =
    let fits : sets f at d ≡ sets f at (take n d) = by_cases (ltb n (length d))
    (λ e. part_put-cut n f at d (let l = cut (ltb-true n (length d) e) in omega arith))
    (λ e. ap (λ t. sets f at t) (sym (take_all n d (ltb-false n (length d) e)))) in
    let long : length (take n d) ≡ n = simp length-take (omega arith) in
    let there = sets-eq (take n d) f at (omega arith) in
    rw (ek, ey) (fits ∙ there ∙ rw (long, append_assoc, drop-drop) refl)

-- three bytes put one by one are a part put
pub three_put-part : (f d : List ℕ) (i v : ℕ) → d ≡ v / 256 ^ 2 % 256 ∷ v / 256 ^ 1 % 256 ∷ v % 256 ∷ [] → three_put f i v ≡ part_put f i d
unfolding three_put part_put
three_put-part f d i v e =
    let a : v / 256 / 256 % 256 ≡ v / 256 ^ 2 % 256 = omega arith in
    let b : v / 256 % 256 ≡ v / 256 ^ 1 % 256 = omega arith in
    let j : i + 1 ≡ suc i = omega arith in
    let k : i + 2 ≡ suc (suc i) = omega arith in
    rw (e, a, b, j, k) refl
