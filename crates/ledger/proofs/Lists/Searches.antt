-- What a search finds: a member that passes, a small number; once round a ring, a member of it.
use Prim.Native.Nat.{ℕ, suc, ◌<◌}
use mathlib.Core.Path.{◌≡◌, refl, sym, ◌∙◌}
use mathlib.Core.Logic.{◌≢◌, inl, inr}
use mathlib.Core.Bool.{Bool, true}
use mathlib.Core.List.{List, [], ◌∷◌, ◌++◌, reverse, append_assoc}
use lib.Dec.{eqb}
use native.Mathlib.Omega.{arith}
use Rattle.ledger.specs.Numbers.{elem, first_of, head_or, follower, place_from}
use Rattle.ledger.specs.Pages.{round}
use Rattle.ledger.proofs.Lists.Tests.{by_cases, same_or_not, clash}
use Rattle.ledger.proofs.Lists.Members.{elem_here, elem_there, elem_tail, elem_cases, elem_append, split_at_member, elem_turned, elem_nil}
use Rattle.ledger.proofs.Lists.Followers.{follower_first, follower_in, head_member}

pub first_of_passes : (p : ℕ → Bool) (xs : List ℕ) → first_of p xs ≢ 0 → (elem (first_of p xs) xs ≡ true) × (p (first_of p xs) ≡ true)
unfolding first_of
first_of_passes p [] n = absurd (n refl)
first_of_passes p (x ∷ xs) n = by_cases (p x)
    (λ e. rw e (elem_here x xs, e))
    (λ e. let (h, g) = first_of_passes p xs (rw e at n) in rw e (elem_tail _ x xs h, g))

-- the only one that passes is the first
pub first_of_only : (p : ℕ → Bool) (m : ℕ) (xs : List ℕ) → elem m xs ≡ true → p m ≡ true → ((n : ℕ) → p n ≡ true → n ≡ m) → first_of p xs ≡ m
unfolding first_of
first_of_only p m [] h t only = elem_nil m h
first_of_only p m (x ∷ xs) h t only = by_cases (p x) (λ e. rw e (only x e)) λ e.
    rw e (first_of_only p m xs (sym (elem_there m x xs λ i. clash (p x) (rw i at t) e) ∙ h) t only)

-- tests that say the same of a list's members find the same
pub first_of_same : (p q : ℕ → Bool) (xs : List ℕ) → ((x : ℕ) → elem x xs ≡ true → p x ≡ q x) → first_of p xs ≡ first_of q xs
unfolding first_of
first_of_same p q [] h = refl
first_of_same p q (x ∷ xs) h = rw (h x (elem_here x xs), first_of_same p q xs (λ y e. h y (elem_tail y x xs e)))

pub place_from_found : (p : ℕ → Bool) (i : ℕ) (xs : List ℕ) → place_from p i xs ≢ 0 → elem (first_of p xs) xs ≡ true
unfolding first_of place_from
place_from_found p i [] n = absurd (n refl)
place_from_found p i (x ∷ xs) n = by_cases (p x)
    (λ e. rw e (elem_here x xs))
    (λ e. rw e (elem_tail _ x xs (place_from_found p (suc i) xs (rw e at n))))

-- what follows a member once round a ring is a member
pub follower_member : (x m : ℕ) (xs : List ℕ) → elem x (m ∷ xs) ≡ true → elem (follower x (round m xs)) (m ∷ xs) ≡ true
follower_member x m xs h = same_or_not x m
    (λ e. rw (e, follower_first m xs) (head_member m [] xs))
    (λ n.
    let (ys, zs, e, f) = split_at_member x xs (sym (elem_there x m xs n) ∙ h) in
    rw (e, follower_in m x ys zs n f) (rw append_assoc at (head_member m (ys ++ (x ∷ [])) zs)))

pub before_member : (x m : ℕ) (xs : List ℕ) → elem x (m ∷ xs) ≡ true → elem (follower x (round m (reverse xs))) (m ∷ xs) ≡ true
before_member x m xs h = sym (elem_turned _ m xs) ∙ follower_member x m (reverse xs) (elem_turned x m xs ∙ h)

-- what is found in a list of small numbers is small
pub first_of_small : (b : ℕ) (p : ℕ → Bool) (xs : List ℕ) → 0 < b → ((y : ℕ) → elem y xs ≡ true → y < b) → first_of p xs < b
unfolding first_of
first_of_small b p [] pos small = pos
first_of_small b p (x ∷ xs) pos small = by_cases (p x)
    (λ e. rw e (small x (elem_here x xs)))
    (λ e. rw e (first_of_small b p xs pos (λ y h. small y (elem_tail y x xs h))))

head_or_small : (b : ℕ) (xs : List ℕ) → 0 < b → ((y : ℕ) → elem y xs ≡ true → y < b) → head_or 0 xs < b
unfolding head_or
head_or_small b [] pos small = pos
head_or_small b (x ∷ xs) pos small = small x (elem_here x xs)

pub follower_small : (b x : ℕ) (xs : List ℕ) → 0 < b → ((y : ℕ) → elem y xs ≡ true → y < b) → follower x xs < b
unfolding follower
follower_small b x [] pos small = pos
follower_small b x (y ∷ ys) pos small =
    let later : (z : ℕ) → elem z ys ≡ true → z < b = λ z h. small z (elem_tail z y ys h) in
    by_cases (eqb x y) (λ e. rw e (head_or_small b ys pos later)) (λ e. rw e (follower_small b x ys pos later))

pub round_small : (b x m : ℕ) (xs : List ℕ) → m < b → ((y : ℕ) → elem y xs ≡ true → y < b) → follower x (round m xs) < b
unfolding round
round_small b x m xs top small = follower_small b x _ (omega arith) (λ y h.
    elim (elem_cases y m (xs ++ (m ∷ [])) h) [
      | inl e ↦ rw e top
      | inr h ↦ by_cases (elem y xs)
          (small y)
          (λ e. elim (elem_cases y m [] (rw (elem_append y xs, e) at h)) [ inl i ↦ rw i top | inr i ↦ elem_nil y i ])
    ])
