-- What is found and what is not: no code of a record is 0, so that a record was found just where a place was.
use Rattle.std.proofs.Common.{◌≡◌, ℕ, zero, suc, ◌+◌, ◌-◌, ◌<◌, ◌≤◌, max, Bool, false, List, Some, None, arith, refl, ltb, ltb-true, ltb-false}
use Rattle.std.proofs.lemmas.Grind.{common_steps}
use borrow.Author.Tests.{ne_eqb, eqb-true, lt-leb}
use lib.Dec.{eqb, leb}
use Rattle.ledger.specs.declared.Currency.{Currency}
use Rattle.ledger.specs.Numbers.{run, first_of}
use Rattle.ledger.specs.Answers.{refusal}
use Rattle.ledger.proofs.Lists.Tests.{by_cases, clash}
use Rattle.model.specs.declared.Found.{Found}
use Rattle.model.specs.Reads.{place_in, kind_from, kind_in}
use Rattle.ring_model.specs.Rings.{has_key_in, has_calc_key_in, found_from, found_or_none, key_found_in, calc_found_in}
use Rattle.look_model.specs.Currencies.{arrival}
use Rattle.look_model.specs.Looks.{there_in, first_in, found_on}

pub kind_none : (f : List ℕ) → kind_in f 0 ≡ 0
unfolding kind_in kind_from place_in
kind_none f = refl

-- where code 0 does not pass, the code found is 0 just where the place is
module _ (next : ℕ → ℕ) (home passes : ℕ → Bool) (none : passes 0 ≡ false) where
  found_some : (at place n : ℕ) → 0 < place → eqb (found_from next home passes at place n).code 0 ≡ eqb (found_from next home passes at place n).place 0
  unfolding found_from
  found_some at place zero lo = refl
  found_some at place (suc n) lo = by_cases (home at)
      (λ e. rw e refl)
      (λ e. by_cases (passes at)
      (λ h. by_cases (eqb at 0)
      (λ z. clash (passes at) h (rw (eqb-true at 0 z) none))
      (λ z. rw (e, h, z, ne_eqb place 0 (λ y. omega arith)) refl))
      (λ h. rw (e, h) (found_some (next at) (place + 1) n (omega arith))))

module _ (t f : List ℕ) (cur : Currency) (r : Found) (some : eqb r.code 0 ≡ eqb r.place 0) where
  lost : found_or_none r ≡ None → found_on t f cur r ≡ refusal 9 cur
  unfolding found_or_none found_on
  lost h = by_cases (eqb r.place 0)
      (λ e. rw (some, e) refl)
      (λ e. let k : Some r ≡ None = rw e at h in cc)

  found : (x : Found) → found_or_none r ≡ Some x → found_on t f cur r ≡ arrival t cur (kind_in f x.code) x.code x.place
  unfolding found_or_none found_on
  found x h = by_cases (eqb r.place 0)
      (λ e. let k : None ≡ Some x = rw e at h in cc)
      (λ e. let k : Some r ≡ Some x = rw e at h in let same : r ≡ x = cc in rw (some, e, same) refl)

module _ (t f : List ℕ) (cur : Currency) (j m : ℕ) (k : List ℕ) where
  key_some : eqb (key_found_in t f j m k 0).code 0 ≡ eqb (key_found_in t f j m k 0).place 0
  unfolding key_found_in has_key_in
  key_some = found_some _ _ _ refl _ 1 _ (omega arith)

  pub key_lost : found_or_none (key_found_in t f j m k 0) ≡ None → found_on t f cur (key_found_in t f j m k 0) ≡ refusal 9 cur
  key_lost = lost t f cur _ key_some

  pub key_found : (x : Found) → found_or_none (key_found_in t f j m k 0) ≡ Some x → found_on t f cur (key_found_in t f j m k 0) ≡ arrival t cur (kind_in f x.code) x.code x.place
  key_found = found t f cur _ key_some

module _ (t f : List ℕ) (cur : Currency) (p n : ℕ) (k : List ℕ) where
  calc_some : eqb (calc_found_in t f p n k 0).code 0 ≡ eqb (calc_found_in t f p n k 0).place 0
  unfolding calc_found_in has_calc_key_in
  calc_some = found_some _ _ _ refl _ 1 _ (omega arith)

  pub calc_lost : found_or_none (calc_found_in t f p n k 0) ≡ None → found_on t f cur (calc_found_in t f p n k 0) ≡ refusal 9 cur
  calc_lost = lost t f cur _ calc_some

  pub calc_found : (x : Found) → found_or_none (calc_found_in t f p n k 0) ≡ Some x → found_on t f cur (calc_found_in t f p n k 0) ≡ arrival t cur (kind_in f x.code) x.code x.place
  calc_found = found t f cur _ calc_some

-- EACH: nothing is found below where the search begins
first_of_past : (p : ℕ → Bool) (k m n : ℕ) → k ≤ m → ((x : ℕ) → k ≤ x → x < m → p x ≡ false) → first_of p (run k n) ≡ first_of p (run m (k + n - m))
unfolding first_of run
first_of_past p k m zero le none = let e : k + 0 - m ≡ 0 = omega arith in rw e refl
first_of_past p k m (suc n) le none = by_cases (ltb k m)
    (λ l. let lt = ltb-true k m l in
    let e : k + suc n - m ≡ suc k + n - m = omega arith in
    let past : p k ≡ false = none k (omega arith) lt in
    rw (past, e) (first_of_past p (suc k) m n (omega arith) (λ x h g. none x (omega arith) g)))
    (λ l. let ge = ltb-false k m l in
    let e : m ≡ k = omega arith in
    let f : k + suc n - k ≡ suc n = omega arith in rw (e, f) refl)

pub first_in_from : (f : List ℕ) (first last from : ℕ) → 64 ≤ from → from ≤ max first 64 → first_in f first last ≡ first_of (there_in f first last) (run from (8320 - from))
unfolding first_in there_in
first_in_from f first last from le high = first_of_past (there_in f first last) 64 from 8256 le
    (λ x h g. let below : x < first = grind (arith, common_steps) in let no : leb first x ≡ false = lt-leb first x (omega arith) in rw no refl)
