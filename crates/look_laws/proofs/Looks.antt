-- The calls that read, on a sound file with a currency in force, come to what they come to on its ledger.
use Prim.Native.Nat.{ℕ, suc, ◌+◌, ◌*◌, ◌-◌, ◌≤◌, ◌<◌}
use mathlib.Core.Path.{◌≡◌, refl, sym, ◌∙◌, ap}
use mathlib.Core.Logic.{◌≢◌, inl, inr}
use mathlib.Core.Bool.{Bool, true, false, cond, not, ◌&&◌, not-not}
use mathlib.Core.List.{List, [], ◌∷◌, ◌++◌}
use native.Mathlib.Omega.{arith}
use lib.ListN.{length}
use lib.Dec.{eqb, leb}
use borrow.Author.Tests.{ne_eqb, eqb-true, eqb-false, leb-false, not-false}
use Rattle.ledger.specs.declared.Currency.{Currency}
use Rattle.ledger.specs.Numbers.{elem, run, first_of, place_from, same_key}
use Rattle.ledger.specs.Table.{pages, chains, defined, in_chain, calc_key, Accepted}
use Rattle.ledger.specs.Pages.{Ledger, kind_at, bytes_at, present, codes, home, key_in, next_of, prior_of, master_of, Sound}
use Rattle.ledger.specs.Answers.{refusal}
use Rattle.ledger.specs.Currency.{type_current, chain_current, occurrence, InForce}
use Rattle.ledger.specs.Calls.{Turn, unless, arrive, no_chain, direct, found, key, current, find, along, next, prior, master, each, read}
use Rattle.ledger.specs.Promise.{told}
use Rattle.ledger.proofs.Lists.Tests.{by_cases, both, not_true_false}
use Rattle.ledger.proofs.Lists.Members.{elem_here, elem_tail}
use Rattle.ledger.proofs.Lists.Searches.{first_of_passes, first_of_same}
use Rattle.ledger.proofs.Lists.Runs.{run_append}
use Rattle.ledger.proofs.Lists.Members.{run_elem}
use Rattle.ledger.proofs.Ledger.Rows.{home_within, placed_within}
use Rattle.ledger.proofs.Ledger.Bounds.{present_some}
use Rattle.ledger.proofs.Keeps.Stored.{occurrence_there}
use Rattle.model.specs.Reads.{kind_in, next_in}
use Rattle.ring_model.specs.Rings.{master_in, before_in}
use Rattle.ring_laws.proofs.Masters.{sound_master, sound_occurrence}
use Rattle.ring_laws.proofs.Before.{sound_before}
use Rattle.ring_laws.proofs.Found.{found_of, sound_key_found, sound_calc_found}
use Rattle.look_model.specs.Currencies.{arrival}
use Rattle.look_model.specs.Looks.{direct_on, reached_on, found_on, key_on, current_on, find_on, along_on, next_on, prior_on, master_on, there_in, first_in, each_on}
use Rattle.place_laws.proofs.Sound.{sound_there, sound_next}
use Rattle.look_laws.proofs.Arrivals.{arrival_told}

-- a refusal that is due is told, else what is to be done
pub told_unless : (cur : Currency) (b : Bool) (n : ℕ) (r : Turn) → told cur (unless b n r) ≡ cond b (refusal n cur) (told cur r)
unfolding unless told
told_unless cur true n r = refl
told_unless cur false n r = refl

-- searches with tests that agree on a list; what is found stands at a place
pub place_same : (p q : ℕ → Bool) (i : ℕ) (xs : List ℕ) → ((y : ℕ) → elem y xs ≡ true → p y ≡ q y) → place_from p i xs ≡ place_from q i xs
unfolding place_from
place_same p q i [] h = refl
place_same p q i (x ∷ xs) h = rw (h x (elem_here x xs), place_same p q (suc i) xs (λ y e. h y (elem_tail y x xs e)))

pub first_place_lem : (p : ℕ → Bool) (i : ℕ) (xs : List ℕ) → 1 ≤ i → ((y : ℕ) → elem y xs ≡ true → y ≢ 0) → eqb (first_of p xs) 0 ≡ eqb (place_from p i xs) 0
unfolding first_of place_from
first_place_lem p i [] lo some = refl
first_place_lem p i (x ∷ xs) lo some = by_cases (p x)
    (λ e. rw (e, ne_eqb x 0 (some x (elem_here x xs)), ne_eqb i 0 (λ z. omega arith)))
    (λ e. rw e (first_place_lem p (suc i) xs (omega arith) (λ y h. some y (elem_tail y x xs h))))

-- none behind passes
pub first_front : (p : ℕ → Bool) (xs ys : List ℕ) → ((y : ℕ) → elem y ys ≡ true → p y ≡ false) → first_of p (xs ++ ys) ≡ first_of p xs
unfolding first_of
first_front p [] [] none = refl
first_front p [] (y ∷ ys) none = rw (none y (elem_here y ys)) (first_front p [] ys (λ z h. none z (elem_tail z y ys h)))
first_front p (x ∷ xs) ys none = rw (first_front p xs ys none)

module _ (t f : List ℕ) (l : Ledger) (cur : Currency) (a : Accepted t) (s : Sound t f l) (i : InForce t l cur) (ch : length cur.chains ≡ 16) where
  not_there : (x : ℕ) → eqb (kind_in f x) 0 ≡ not (present l x)
  not_there x = sym (not-not (eqb (kind_in f x) 0)) ∙ rw (sound_there t f l a s x)

  arrives : (x count : ℕ) → arrival t cur (kind_in f x) x count ≡ told cur (arrive t l cur x count)
  arrives x count = arrival_told t f l cur x count a s ch

  pub direct_told : (x : ℕ) → direct_on t f cur x ≡ told cur (direct t l cur x)
  unfolding direct_on direct
  direct_told x = rw (told_unless, not_there x, arrives x 0)

  pub current_told : (n : ℕ) → current_on t f cur n ≡ told cur (current t l cur n)
  unfolding current_on current reached_on
  current_told n = rw (told_unless, told_unless, arrives (type_current t cur n) 0)

  -- a chain's current record is in the chain
  in_chain_lem : (j : ℕ) → chain_current cur j ≢ 0 → in_chain t j (kind_at l (chain_current cur j)) ≡ true
  in_chain_lem j some = elim (i.chain_right j) [ inl z ↦ absurd (some z) | inr q ↦ q.1 ]

  -- from the chain's current record to another of its ring
  along_told : (read : List ℕ → List ℕ → ℕ → ℕ → ℕ) (step : List ℕ → Ledger → ℕ → ℕ → ℕ)
      → ((j x : ℕ) → j < chains t → in_chain t j (kind_at l x) ≡ true → read t f j x ≡ step t l j x) → (j : ℕ) → along_on read t f cur j ≡ told cur (along step t l cur j)
  unfolding along_on along reached_on
  along_told read step same j =
      rw (told_unless, told_unless)
      (by_cases (no_chain t j) (λ e. rw e) λ lt. by_cases (eqb (chain_current cur j) 0) (λ e. rw (lt, e)) λ some.
      rw (lt, some, same j (chain_current cur j) (leb-false _ _ lt) (in_chain_lem j (eqb-false _ _ some)), arrives (step t l j (chain_current cur j)) 0))

  pub next_told : (j : ℕ) → next_on t f cur j ≡ told cur (next t l cur j)
  unfolding next_on next
  next_told = along_told next_in next_of (sound_next t f l a s)

  pub prior_told : (j : ℕ) → prior_on t f cur j ≡ told cur (prior t l cur j)
  unfolding prior_on prior
  prior_told = along_told before_in prior_of (sound_before t f l a s)

  pub master_told_lem : (j : ℕ) → master_on t f cur j ≡ told cur (master t l cur j)
  unfolding master_on master
  master_told_lem = along_told master_in master_of (sound_master t f l a s)

  -- the first of a ring that passes, and its place
  found_told : (p q : ℕ → Bool) (xs : List ℕ) → ((y : ℕ) → elem y xs ≡ true → y ≢ 0) → ((y : ℕ) → elem y xs ≡ true → q y ≡ p y)
      → found_on t f cur (found_of q xs) ≡ told cur (found t l cur p xs)
  unfolding found_on found
  found_told p q xs some same =
      rw (told_unless, first_of_same q p xs same, place_same q p 1 xs same, first_place_lem p 1 xs (omega arith) some, arrives (first_of p xs) (place_from p 1 xs))

  pub key_told_lem : (n : ℕ) (k : List ℕ) → key_on t f cur n k ≡ told cur (key t l cur n k)
  unfolding key_on key
  key_told_lem n k =
      rw (told_unless, told_unless, told_unless)
      (by_cases (not (defined t n)) (λ e. rw e) λ d.
      let w = home_within t n k a (not-false _ d) in
      rw (
        d,
        sound_calc_found t f l a s (home t n k) n w.0 w.1 k 0,
        found_told (λ y. eqb (kind_at l y) n && same_key (calc_key t n (bytes_at l y)) k)
            (λ y. not (eqb y 0) && eqb (kind_at l y) n && same_key (calc_key t n (bytes_at l y)) k) (l.calc (home t n k))
            (λ y h. present_some t l y s.formed (s.formed.calc_own _ y h).0)
            (λ y h. rw (ne_eqb y 0 (present_some t l y s.formed (s.formed.calc_own _ y h).0))),
      ))

  pub find_told : (j : ℕ) (k : List ℕ) → find_on t f cur j k ≡ told cur (find t l cur j k)
  unfolding find_on find
  find_told j k =
      rw (told_unless, told_unless, told_unless, told_unless)
      (by_cases (no_chain t j) (λ e. rw e) λ lt. by_cases (eqb (chain_current cur j) 0) (λ e. rw (lt, e)) λ some.
      let m = occurrence_there t l cur a s.formed i j (eqb-false _ _ some) in
      rw (
        lt,
        some,
        sound_occurrence t f l cur a s i j (eqb-false _ _ some),
        sound_key_found t f l a s j (occurrence t l cur j) (leb-false _ _ lt) m.1 k 0,
        found_told (λ y. same_key (key_in t l j y) k) (λ y. not (eqb y 0) && same_key (key_in t l j y) k) (l.ring j (occurrence t l cur j))
            (λ y h. present_some t l y s.formed (s.formed.ring_own j _ y h).3)
            (λ y h. rw (ne_eqb y 0 (present_some t l y s.formed (s.formed.ring_own j _ y h).3))),
      ))

  -- the lowest code that has a record
  first_there : (first last : ℕ) → first_in f first last ≡ first_of (λ y. leb first y && leb y last && present l y) (codes t)
  unfolding first_in there_in codes
  first_there first last =
      let p : ℕ → Bool = λ y. leb first y && leb y last && present l y in
      let fits : 64 * pages t + (8256 - 64 * pages t) ≡ 8256 = omega (arith, a.page_count.1) in
      first_of_same _ p (run 64 8256) (λ y e. rw (sound_there t f l a s y))
      ∙ rw (← fits, run_append) (first_front p (run 64 (64 * pages t)) (run (64 + 64 * pages t) (8256 - 64 * pages t)) (λ y h.
      not_true_false _ λ e.
      let there = (both (leb first y && leb y last) (present l y) e).1 in
      let w = placed_within t l y a (s.formed.placed y there) in
      let (lo, hi) = run_elem y (64 + 64 * pages t) _ h in
      absurd (omega (arith, w.1))))

  pub each_told : (first last : ℕ) → each_on t f cur first last ≡ told cur (each t l cur first last)
  unfolding each_on each direct_on
  each_told first last =
      let p : ℕ → Bool = λ y. leb first y && leb y last && present l y in
      let x = first_of p (codes t) in
      let same : eqb (kind_in f x) 0 ≡ eqb x 0 = not_there x ∙ by_cases (eqb x 0)
      (λ z. rw (z, eqb-true x 0 z) (ap not (not_true_false (present l 0) (λ e. present_some t l 0 s.formed e refl))))
      (λ n. rw (n, (both (leb first x && leb x last) (present l x) (first_of_passes p (codes t) (eqb-false _ _ n)).1).1)) in
      rw (told_unless, first_there first last, arrives x 0, same)
