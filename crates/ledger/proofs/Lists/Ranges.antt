-- What an iterator's method over a range of numbers gives, in the ledger's words: `all`, `any` and `first_of` over a run.
use Prim.Native.Nat.{ℕ, zero, suc, ◌-◌, ◌<◌}
use Rattle.std.proofs.Common.{◌≡◌, refl, ap, Bool, true, false, cond, List, [], ◌∷◌, Option, Some, None, arith, add-one}
use Rattle.std.proofs.iter.Yields.{nat_range_steps}
use Rattle.std.proofs.lemmas.Iterator.{YieldsList-from_range}
use Rattle.std.proofs.lemmas.Iterator.Search.{all_from_yields_List, any_from_yields_List, find_from_yields_List}
use Rattle.std.specs.Bool.{⊤}
use Rattle.std.specs.Fn.{Called, CalledAt}
use Rattle.std.specs.Iterator.{YieldsThen}
use Rattle.std.specs.declared.ops.Range.{Range}
use Rattle.std.specs.List.{range_with_len, list_all, list_any, find, FoldsTo}
use Rattle.std.specs.Option.{MatchOption, option_map}
use denote.Param.Members.{Mut}
use denote.Ref.{Bor}
use Rattle.ledger.specs.Numbers.{all, any, run, first_of, or_none}

pub range_as_run : (a n : ℕ) → range_with_len a n ≡ run a n
unfolding run
range_as_run a zero = refl
range_as_run a (suc n) = ap (λ xs. a ∷ xs) (rw add-one (range_as_run (suc a) n))

pub list_all_as_all : (p : ℕ → Bool) (xs : List ℕ) → list_all p xs ≡ all p xs
unfolding all
list_all_as_all p [] = refl
list_all_as_all p (x ∷ xs) = rw (list_all_as_all p xs) refl

pub list_any_as_any : (p : ℕ → Bool) (xs : List ℕ) → list_any p xs ≡ any p xs
unfolding any
list_any_as_any p [] = refl
list_any_as_any p (x ∷ xs) = rw (list_any_as_any p xs) refl

option_map_plain : {o : Option ℕ} (r : Option ℕ) → option_map (λ x. x) r ≡ o → r ≡ o
option_map_plain None e = e
option_map_plain (Some x) e = e

-- `find` over numbers above 0
pub find_as_first : (p : ℕ → Bool) (a n : ℕ) → 0 < a → find p (run a n) ≡ or_none (first_of p (run a n))
unfolding run first_of or_none
find_as_first p a zero l = refl
find_as_first p zero (suc n) l = absurd (omega arith)
find_as_first p (suc a) (suc n) l = by_test (p (suc a)) (find_as_first p (suc (suc a)) n (omega arith))
  where
    by_test : (b : Bool) → find p (run (suc (suc a)) n) ≡ or_none (first_of p (run (suc (suc a)) n)) → cond b (Some (suc a)) (find p (run (suc (suc a)) n)) ≡ or_none (cond b (suc a) (first_of p (run (suc (suc a)) n)))
    by_test true e = refl
    by_test false e = e

module _ {F : Type 0} {g : Mut F (ℕ × Unit {0}) Bool} {s : Range ℕ} {f : F} (p : ℕ → Bool) (u : Range ℕ) (a b n : ℕ) (r : Bool) (es : s ≡ record { start = a; end = b }) (en : b - a ≡ n) where
  pub all_from_range : (xs : List ℕ) × (o : Option ℕ) × (j : F) × YieldsThen nat_range_steps s xs o u × FoldsTo (λ q x h. Called g q (x, tt) true h) f xs j × MatchOption o (r ≡ true) (λ x. (r ≡ false) × ((h : F) × Called g j (x, tt) false h)) → ((x : ℕ) (t : Bool) (q : F) → Called g f (x, tt) t q → (q ≡ f) × (t ≡ p x)) → r ≡ all p (run a n)
  all_from_range ran calls = rw (← range_as_run a n, ← list_all_as_all p (range_with_len a n)) (all_from_yields_List p u f r ran (YieldsList-from_range a b n es en) calls)

  pub any_from_range : (xs : List ℕ) × (o : Option ℕ) × (j : F) × YieldsThen nat_range_steps s xs o u × FoldsTo (λ q x h. Called g q (x, tt) false h) f xs j × MatchOption o (r ≡ false) (λ x. (r ≡ true) × ((h : F) × Called g j (x, tt) true h)) → ((x : ℕ) (t : Bool) (q : F) → Called g f (x, tt) t q → (q ≡ f) × (t ≡ p x)) → r ≡ any p (run a n)
  any_from_range ran calls = rw (← range_as_run a n, ← list_any_as_any p (range_with_len a n)) (any_from_yields_List p u f r ran (YieldsList-from_range a b n es en) calls)

module _ {F : Type 0} {g : Mut F (Bor ℕ × Unit {0}) Bool} {s : Range ℕ} {f : F} (p : ℕ → Bool) (u : Range ℕ) (a b n : ℕ) (r : Option ℕ) (l : 0 < a) (es : s ≡ record { start = a; end = b }) (en : b - a ≡ n) where
  pub first_from_range : (xs : List ℕ) × (j : F) × YieldsThen nat_range_steps s xs r u × FoldsTo (λ q x h. CalledAt g q x false h) f xs j × MatchOption r ⊤ (λ x. (h : F) × CalledAt g j x true h) → ((x : ℕ) (t : Bool) (q : F) → CalledAt g f x t q → (q ≡ f) × (t ≡ p x)) → r ≡ or_none (first_of p (run a n))
  first_from_range ran calls = rw (← find_as_first p a n l, ← range_as_run a n) (option_map_plain r (find_from_yields_List p u f r ran (YieldsList-from_range a b n es en) calls))

module _ {F : Type 0} {g : Mut F (Bor ℕ × Unit {0}) Bool} {s : Range ℕ} {f : F} (p : ℕ → Bool) (u : Range ℕ) (a b n : ℕ) (r : Option ℕ) (es : s ≡ record { start = a; end = b }) (en : b - a ≡ n) where
  pub find_from_range : (xs : List ℕ) × (j : F) × YieldsThen nat_range_steps s xs r u × FoldsTo (λ q x h. CalledAt g q x false h) f xs j × MatchOption r ⊤ (λ x. (h : F) × CalledAt g j x true h) → ((x : ℕ) (t : Bool) (q : F) → CalledAt g f x t q → (q ≡ f) × (t ≡ p x)) → r ≡ find p (run a n)
  find_from_range ran calls = rw (← range_as_run a n) (option_map_plain r (find_from_yields_List p u f r ran (YieldsList-from_range a b n es en) calls))
