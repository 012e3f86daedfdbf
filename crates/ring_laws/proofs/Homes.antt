-- Ways home along a ring's NEXT (`Home`): their parts, and what each walk of the models comes to on one.
use Prim.Native.Nat.{ℕ, zero, suc, ◌<◌}
use mathlib.Core.Path.{◌≡◌, refl, sym, ◌∙◌}
use mathlib.Core.Bool.{Bool, true, false, not}
use mathlib.Core.List.{List, [], ◌∷◌, ◌++◌, reverse}
use native.Mathlib.Omega.{arith}
use native.Mathlib.Numerals.{add-one}
use lib.Dec.{eqb}
use lib.ListN.{length, length-append}
use borrow.Author.Tests.{not-true}
use Rattle.ledger.specs.Numbers.{elem, once, first_of, place_from, last_or, follower}
use Rattle.ledger.specs.Pages.{round}
use Rattle.ledger.specs.Walks.{Agrees}
use Rattle.ledger.proofs.Lists.Tests.{by_cases, same_or_not, eqb_same}
use Rattle.ledger.proofs.Lists.Members.{others, elem_here, elem_there, elem_tail, elem_past, elem_append, split_at_member}
use Rattle.ledger.proofs.Lists.Pairs.{once_right}
use Rattle.ledger.proofs.Lists.Followers.{last_or_past, before_in_lem, before_first}
use Rattle.ledger.proofs.Audit.Walks.{Home, agrees_home}
use Rattle.model.specs.declared.Found.{Found}
use Rattle.ring_model.specs.Rings.{found_from, back_from}

-- the same way under another test that its members pass, by another NEXT that is the same at them
pub home_as : (nx nx' : ℕ → ℕ) (det det' : ℕ → Bool) (m x : ℕ) (xs : List ℕ)
    → ((y : ℕ) → elem y xs ≡ true → (nx' y ≡ nx y) × (det' y ≡ true)) → Home nx det m x xs → Home nx' det' m x xs
home_as nx nx' det det' m x [] own h = h
home_as nx nx' det det' m x (y ∷ ys) own h =
    let (e, d) = own y (elem_here y ys) in
    (h.0, d, rw e (home_as nx nx' det det' m (nx y) ys (λ z i. own z (elem_tail z y ys i)) h.2))

module _ (nx : ℕ → ℕ) (det : ℕ → Bool) where
  -- the way to a member, and from it on
  pub home_parts : (m x c : ℕ) (ys zs : List ℕ) → Home nx det m x (ys ++ c ∷ zs) → Home nx det c x ys × Home nx det m (nx c) zs
  home_parts m x c [] zs h = (h.0, h.2)
  home_parts m x c (y ∷ ys) zs h = let (p, q) = home_parts m (nx y) c ys zs h.2 in ((h.0, h.1, p), q)

  -- a way, and one on from its end
  pub home_join : (m c x : ℕ) (zs ys : List ℕ) → Home nx det m x zs → det m ≡ true → Home nx det c (nx m) ys → Home nx det c x (zs ++ m ∷ ys)
  home_join m c x [] ys h d k = (h, d, k)
  home_join m c x (z ∷ zs) ys h d k = (h.0, h.1, home_join m c (nx z) zs ys h.2 d k)

-- where NEXT agrees with a ring, it goes home round it
pub ring_home : (nx : ℕ → ℕ) (m : ℕ) (xs : List ℕ) → once xs ≡ true → elem m xs ≡ false → Agrees nx m xs → Home nx (λ y. not (eqb y m)) m (nx m) xs
ring_home nx m xs ones off agrees = agrees_home nx _ m xs (rw (eqb_same m)) ones (others m xs off) agrees

-- the walk to the one before c
pub back_home_lem : (nx : ℕ → ℕ) (c before at n : ℕ) (ys : List ℕ) → Home nx (λ y. not (eqb y c)) c at ys → length ys < n
    → back_from nx c before at n ≡ last_or before ys
unfolding back_from last_or
back_home_lem nx c before at zero ys h lt = absurd (omega arith)
back_home_lem nx c before at (suc n) [] h lt = rw (h, eqb_same c)
back_home_lem nx c before at (suc n) (y ∷ ys) h lt = rw (h.0, not-true (eqb y c) h.1) (back_home_lem nx c y (nx y) n ys h.2 (omega arith))

-- round a ring from a member, or from its master, to the one before it
pub back_round : (nx : ℕ → ℕ) (m : ℕ) (xs : List ℕ) (n : ℕ) → once xs ≡ true → elem m xs ≡ false → Agrees nx m xs → length xs < n
    → (x : ℕ) → elem x (m ∷ xs) ≡ true → back_from nx x x (nx x) n ≡ follower x (round m (reverse xs))
back_round nx m xs n ones off agrees lt x e = same_or_not x m
    (λ i. rw (i, before_first m xs) (back_home_lem nx m m (nx m) n xs (ring_home nx m xs ones off agrees) lt))
    (λ i.
    let (ys, zs, s, left) = split_at_member x xs (sym (elem_there x m xs i) ∙ e) in
    let apart : once (ys ++ x ∷ zs) ≡ true = rw s at ones in
    let right = once_right x ys zs apart in
    let free : Home nx (λ y. true) m (nx m) (ys ++ x ∷ zs) = rw s at (home_as nx nx _ (λ y. true) m (nx m) xs (λ y g. (refl, refl)) (ring_home nx m xs ones off agrees)) in
    let (to, on) = home_parts nx (λ y. true) m (nx m) x ys zs free in
    let turned = home_join nx (λ y. true) m x (nx x) zs ys on refl to in
    let off' : elem x (zs ++ m ∷ ys) ≡ false = elem_past x m zs ys i ∙ rw (elem_append x zs ys, right) left in
    let way = home_as nx nx _ (λ y. not (eqb y x)) x (nx x) (zs ++ m ∷ ys) (λ y g. (refl, others x _ off' y g)) turned in
    let size : length (ys ++ x ∷ zs) < n = rw s at lt in
    rw (s, before_in_lem m x ys zs i right)
    (back_home_lem nx x x (nx x) n (zs ++ m ∷ ys) way (rw length-append (omega (arith, rw length-append at size))) ∙ last_or_past x m zs ys))

-- the walk to the first that passes
pub found_home : (nx : ℕ → ℕ) (home passes q : ℕ → Bool) (m at place n : ℕ) (xs : List ℕ) → home m ≡ true → ((y : ℕ) → elem y xs ≡ true → passes y ≡ q y)
    → Home nx (λ y. not (home y)) m at xs → length xs < n
    → ◌≡◌ {A = Found} (found_from nx home passes at place n) (record { code = first_of q xs; place = place_from q place xs })
unfolding found_from first_of place_from
found_home nx home passes q m at place zero xs end same h lt = absurd (omega arith)
found_home nx home passes q m at place (suc n) [] end same h lt = rw (h, end)
found_home nx home passes q m at place (suc n) (y ∷ ys) end same h lt =
    rw (h.0, not-true (home y) h.1, same y (elem_here y ys), add-one)
    (by_cases (q y)
    (λ e. rw e)
    (λ e. rw e (found_home nx home passes q m (nx y) (suc place) n ys end (λ z i. same z (elem_tail z y ys i)) h.2 (omega arith))))
