-- What stands after and before a member once round a ring; the two parts of a ring.
use Prim.Native.Nat.{ℕ}
use mathlib.Core.Path.{◌≡◌, refl, sym, ◌∙◌, ap}
use mathlib.Core.Logic.{◌≢◌, inl, inr}
use mathlib.Core.Bool.{false, true}
use mathlib.Core.List.{List, [], ◌∷◌, ◌++◌, append_assoc, reverse, reverse-append, reverse-cons, reverse-reverse, append-nil}
use lib.Dec.{eqb}
use borrow.Author.Tests.{eqb-false, ne_eqb}
use Rattle.ledger.specs.Numbers.{elem, head_or, last_or, follower, once}
use Rattle.ledger.specs.Pages.{round}
use Rattle.ledger.proofs.Lists.Tests.{same_or_not, neither, eqb_same, clash}
use Rattle.ledger.proofs.Lists.Members.{elem_nil, elem_cases, elem_there, elem_reverse, elem_here, elem_tail, elem_put, Ended, empty, last, ended}
use Rattle.ledger.proofs.Lists.Pairs.{once_left, once_right}

pub follower_here : (x : ℕ) (ys : List ℕ) → follower x (x ∷ ys) ≡ head_or 0 ys
unfolding follower
follower_here x ys = rw (eqb_same x)

pub follower_there : (x y : ℕ) (ys : List ℕ) → x ≢ y → follower x (y ∷ ys) ≡ follower x ys
unfolding follower
follower_there x y ys n = rw (ne_eqb x y n)

pub follower_past : (x : ℕ) (ys zs : List ℕ) → elem x ys ≡ false → follower x (ys ++ zs) ≡ follower x zs
unfolding elem
follower_past x [] zs h = refl
follower_past x (y ∷ ys) zs h =
    let (a, b) = neither (eqb x y) (elem x ys) h in
    follower_there x y (ys ++ zs) (eqb-false x y a) ∙ follower_past x ys zs b

-- what comes after a member of a first part is told by that part and the next one
pub follower_front : (y z : ℕ) (xs zs : List ℕ) → elem y xs ≡ true → follower y (xs ++ z ∷ zs) ≡ follower y (xs ++ (z ∷ []))
unfolding head_or
follower_front y z [] zs e = elem_nil y e
follower_front y z (x ∷ []) zs e = elim (elem_cases y x [] e) [
  | inl q ↦ rw (q, follower_here x (z ∷ zs), follower_here x (z ∷ []))
  | inr q ↦ elem_nil y q
]
follower_front y z (x ∷ w ∷ xs) zs e = same_or_not y x
    (λ q. rw (q, follower_here x (w ∷ (xs ++ z ∷ zs)), follower_here x (w ∷ (xs ++ (z ∷ [])))))
    (λ n. rw (follower_there y x (w ∷ (xs ++ z ∷ zs)) n, follower_there y x (w ∷ (xs ++ (z ∷ []))) n)
    (follower_front y z (w ∷ xs) zs (rw (elem_there y x (w ∷ xs) n) at e)))

pub head_or_append : (d m : ℕ) (xs zs : List ℕ) → head_or d (xs ++ m ∷ zs) ≡ head_or m xs
unfolding head_or
head_or_append d m [] zs = refl
head_or_append d m (x ∷ xs) zs = refl

pub follower_first : (m : ℕ) (xs : List ℕ) → follower m (round m xs) ≡ head_or m xs
unfolding round
follower_first m xs = follower_here m _ ∙ head_or_append 0 m xs []

pub follower_in : (m x : ℕ) (ys zs : List ℕ) → x ≢ m → elem x ys ≡ false → follower x (round m (ys ++ x ∷ zs)) ≡ head_or m zs
unfolding round
follower_in m x ys zs n h =
    follower_there x m _ n ∙ rw (append_assoc ys, follower_past x ys _ h, follower_here x) (head_or_append 0 m zs [])

pub reverse_put : (x : ℕ) (ys zs : List ℕ) → reverse (ys ++ x ∷ zs) ≡ reverse zs ++ x ∷ reverse ys
reverse_put x ys zs = rw (reverse-append ys, reverse-cons x zs, append_assoc (reverse zs))

-- the last of a list is the first of it reversed
pub head_or_reverse : (d : ℕ) (xs : List ℕ) → head_or d (reverse xs) ≡ last_or d xs
unfolding last_or head_or
head_or_reverse d [] = refl
head_or_reverse d (x ∷ xs) = rw (reverse-cons x xs, head_or_append d x (reverse xs) []) (head_or_reverse x xs)

pub last_or_reverse : (d : ℕ) (xs : List ℕ) → last_or d (reverse xs) ≡ head_or d xs
last_or_reverse d xs = rw (← head_or_reverse d (reverse xs), reverse-reverse xs)

-- the last is that of the second part
pub last_or_past : (d x : ℕ) (xs ys : List ℕ) → last_or d (xs ++ x ∷ ys) ≡ last_or x ys
unfolding last_or
last_or_past d x [] ys = refl
last_or_past d x (z ∷ xs) ys = last_or_past z x xs ys

pub last_or_append : (d x : ℕ) (xs : List ℕ) → last_or d (xs ++ (x ∷ [])) ≡ x
unfolding last_or
last_or_append d x xs = last_or_past d x xs []

-- the element before
pub before_in_lem : (m x : ℕ) (ys zs : List ℕ) → x ≢ m → elem x zs ≡ false → follower x (round m (reverse (ys ++ x ∷ zs))) ≡ last_or m ys
before_in_lem m x ys zs n h =
    rw (reverse_put x ys zs, follower_in m x (reverse zs) (reverse ys) n (elem_reverse x zs ∙ h)) (head_or_reverse m ys)

pub before_first : (m : ℕ) (xs : List ℕ) → follower m (round m (reverse xs)) ≡ last_or m xs
before_first m xs = follower_first m (reverse xs) ∙ head_or_reverse m xs

-- one more member changes what follows only for the one before it
follower_between : (y x m : ℕ) (ys zs : List ℕ) → y ≢ x → y ≢ last_or m ys → follower y (m ∷ (ys ++ x ∷ zs)) ≡ follower y (m ∷ (ys ++ zs))
unfolding last_or head_or
follower_between y x m [] zs n h = follower_there y m _ h ∙ follower_there y x zs n ∙ sym (follower_there y m zs h)
follower_between y x m (z ∷ ys) zs n h =
    same_or_not y m
    (λ e. rw e (simp follower_here))
    (λ e. follower_there y m _ e ∙ follower_between y x z ys zs n h ∙ sym (follower_there y m _ e))

pub follower_else : (y x m : ℕ) (ys zs : List ℕ) → y ≢ x → y ≢ last_or m ys
    → follower y (round m (ys ++ x ∷ zs)) ≡ follower y (round m (ys ++ zs))
unfolding round
follower_else y x m ys zs n h = rw (append_assoc ys, append_assoc ys) (follower_between y x m ys _ n h)

pub before_else : (y x m : ℕ) (ys zs : List ℕ) → y ≢ x → y ≢ head_or m zs
    → follower y (round m (reverse (ys ++ x ∷ zs))) ≡ follower y (round m (reverse (ys ++ zs)))
before_else y x m ys zs n h =
    rw (reverse_put x ys zs, reverse-append ys zs) (follower_else y x m (reverse zs) (reverse ys) n (λ e. h (e ∙ last_or_reverse m zs)))

-- once round a ring that its master is not in: after the last of a first part comes the head of the second, and back
module _ (m : ℕ) (xs : List ℕ) (ones : once xs ≡ true) (off : elem m xs ≡ false) where
  other : (x : ℕ) (ys zs : List ℕ) → xs ≡ ys ++ x ∷ zs → x ≢ m
  other x ys zs e i = clash (elem m xs) (rw (e, ← i) (elem_put x ys zs)) off

  pub follower_seam : (ys zs : List ℕ) → xs ≡ ys ++ zs → follower (last_or m ys) (round m xs) ≡ head_or m zs
  unfolding last_or
  follower_seam ys zs e = go ys (ended ys) e
    where
      go : (ys : List ℕ) → Ended ys → xs ≡ ys ++ zs → follower (last_or m ys) (round m xs) ≡ head_or m zs
      go ys empty e = follower_first m xs ∙ ap (head_or m) e
      go ys (last ws w) e =
          let f : xs ≡ ws ++ w ∷ zs = e ∙ append_assoc ws (w ∷ []) zs in
          rw (last_or_append m w ws, f) (follower_in m w ws zs (other w ws zs f) (once_left w ws zs (rw f at ones)))

  pub before_seam : (ys zs : List ℕ) → xs ≡ ys ++ zs → follower (head_or m zs) (round m (reverse xs)) ≡ last_or m ys
  unfolding head_or
  before_seam ys [] e = before_first m xs ∙ ap (last_or m) (e ∙ append-nil ys)
  before_seam ys (z ∷ zs) e = rw e (before_in_lem m z ys zs (other z ys zs e) (once_right z ys zs (rw e at ones)))

-- the head of a second part, and the last of a first, are members of the ring
pub head_member : (m : ℕ) (ys zs : List ℕ) → elem (head_or m zs) (m ∷ (ys ++ zs)) ≡ true
unfolding head_or
head_member m ys [] = elem_here m _
head_member m ys (z ∷ zs) = elem_tail z m _ (elem_put z ys zs)

pub last_member : (m : ℕ) (ys zs : List ℕ) → elem (last_or m ys) (m ∷ (ys ++ zs)) ≡ true
unfolding last_or
last_member m ys zs = go ys (ended ys)
  where
    go : (ys : List ℕ) → Ended ys → elem (last_or m ys) (m ∷ (ys ++ zs)) ≡ true
    go ys empty = elem_here m zs
    go ys (last ws w) = rw (last_or_append m w ws, append_assoc ws) (elem_tail w m _ (elem_put w ws zs))
