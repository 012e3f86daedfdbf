-- Where STORE places a record.
use Prim.Native.Nat.{ℕ, zero, suc, ◌+◌, ◌-◌, ◌<◌}
use mathlib.Core.Path.{◌≡◌, refl, sym, ◌∙◌}
use mathlib.Core.Bool.{Bool, true, false}
use mathlib.Core.List.{List, [], ◌∷◌, ◌++◌}
use native.Mathlib.Omega.{arith}
use borrow.Author.Tests.{lt-leb}
use Rattle.ledger.specs.declared.Currency.{Currency}
use Rattle.ledger.specs.Numbers.{run, first_of, or_none}
use Rattle.ledger.specs.Table.{row, low, high}
use Rattle.ledger.specs.Pages.{calc_at, link_at, record_size}
use Rattle.ledger.specs.Bytes.{two_at, page_in}
use Rattle.ledger.specs.Calls.{tried}
use Rattle.ledger.proofs.Lists.Tests.{by_cases}
use Rattle.ledger.proofs.Lists.Ranges.{range_as_run}
use Rattle.std.proofs.Common.{Option, Some, None}
use Rattle.std.proofs.iter.Yields.{nat_range_steps}
use Rattle.std.proofs.lemmas.Iterator.{YieldsList-from_range}
use Rattle.std.proofs.lemmas.Iterator.Search.{find_from_yields_List}
use Rattle.std.specs.Bool.{⊤}
use Rattle.std.specs.Fn.{CalledAt}
use Rattle.std.specs.Iterator.{YieldsThen}
use Rattle.std.specs.declared.ops.Range.{Range}
use Rattle.std.specs.List.{find, FoldsTo}
use Rattle.std.specs.Option.{MatchOption, option_map}
use denote.Param.Members.{Mut}
use denote.Ref.{Bor}
use Rattle.act_model.specs.Placing.{base_page_in, takes_in, place_for_in}

-- first_taking
option_map_plain : {o : Option ℕ} (r : Option ℕ) → option_map (λ x. x) r ≡ o → r ≡ o
option_map_plain None e = e
option_map_plain (Some x) e = e

module _ {F : Type 0} {g : Mut F (Bor ℕ × Unit {0}) Bool} {s : Range ℕ} {f : F} (p : ℕ → Bool) (u : Range ℕ) (a b n : ℕ) (r : Option ℕ)
    (es : s ≡ record { start = a; end = b }) (en : b - a ≡ n) where
  pub find_from_range : (xs : List ℕ) × (j : F) × YieldsThen nat_range_steps s xs r u × FoldsTo (λ q x h. CalledAt g q x false h) f xs j × MatchOption r ⊤ (λ x. (h : F) × CalledAt g j x true h)
      → ((x : ℕ) (t : Bool) (q : F) → CalledAt g f x t q → (q ≡ f) × (t ≡ p x)) → r ≡ find p (run a n)
  find_from_range ran calls = rw (← range_as_run a n) (option_map_plain r (find_from_yields_List p u f r ran (YieldsList-from_range a b n es en) calls))

-- place_for: a search in two lists, of which none finds 0
module _ (q : ℕ → Bool) where
  pub find_first : (xs : List ℕ) → q 0 ≡ false → find q xs ≡ or_none (first_of q xs)
  unfolding first_of or_none
  find_first [] none = refl
  find_first (zero ∷ xs) none = rw none (find_first xs none)
  find_first (suc x ∷ xs) none = by_cases (q (suc x)) (λ e. rw e refl) (λ e. rw e (find_first xs none))

  find_front : (xs ys : List ℕ) (x : ℕ) → find q xs ≡ Some x → find q (xs ++ ys) ≡ Some x
  find_front [] ys x e = cc
  find_front (y ∷ xs) ys x e = by_cases (q y) (λ k. rw k (rw k at e)) (λ k. rw k (find_front xs ys x (rw k at e)))

  find_back : (xs ys : List ℕ) → find q xs ≡ None → find q (xs ++ ys) ≡ find q ys
  find_back [] ys e = refl
  find_back (y ∷ xs) ys e = by_cases (q y) (λ k. let w : Some y ≡ None = rw k at e in (cc)) (λ k. rw k (find_back xs ys (rw k at e)))

  find_or_else : (xs ys : List ℕ) (o r : Option ℕ) → o ≡ find q xs → {P : Type 0} → MatchOption o P (λ x. r ≡ Some x) → (P → r ≡ find q ys) → r ≡ find q (xs ++ ys)
  find_or_else xs ys None r e k h = h k ∙ sym (find_back xs ys (sym e))
  find_or_else xs ys (Some x) r e k h = k ∙ sym (find_front xs ys x (sym e))

-- a record has bytes, and page 0 none
some_bytes : (t : List ℕ) (n : ℕ) → 0 < record_size t n
unfolding record_size link_at calc_at
some_bytes t n = omega arith

no_page : (f : List ℕ) (size : ℕ) → 0 < size → takes_in f size 0 ≡ false
unfolding takes_in page_in two_at
no_page f size h = rw (lt-leb size 0 h)

module _ (t f : List ℕ) (cur : Currency) (n : ℕ) (d : List ℕ) (a b size base : ℕ) (up r : Option ℕ) (ea : a ≡ low t (row t n)) (eb : b ≡ high t (row t n))
    (es : size ≡ record_size t n) (ep : base ≡ base_page_in t f cur n d) (eu : up ≡ find (takes_in f size) (run base (b + 1 - base))) where
  pub place_found : {P : Type 0} → MatchOption up P (λ x. r ≡ Some x) → (P → r ≡ find (takes_in f size) (run a (base - a))) → r ≡ or_none (place_for_in t f cur n d)
  unfolding place_for_in tried
  place_found er low_one =
      rw (← find_first (takes_in f (record_size t n)) (run (base_page_in t f cur n d) (high t (row t n) + 1 - base_page_in t f cur n d) ++ run (low t (row t n)) (base_page_in t f cur n d - low t (row t n))) (no_page f _ (some_bytes t n)))
      (rw (← ep, ← ea, ← eb, ← es) (find_or_else (takes_in f size) _ _ up r eu er low_one))
