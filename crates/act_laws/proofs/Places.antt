-- Where STORE places a record in a sound file: the page and the line that the ledger says.
use Prim.Native.Nat.{ℕ, ◌%◌, ◌≤◌, ◌<◌}
use mathlib.Core.Path.{◌≡◌, ◌∙◌}
use mathlib.Core.Logic.{◌≢◌}
use mathlib.Core.Bool.{true, false, not}
use mathlib.Core.List.{List}
use native.Mathlib.Omega.{arith}
use lib.ListN.{length}
use lib.Dec.{eqb}
use borrow.Author.Tests.{eqb-true, eqb-false, eq-eqb, ne_eqb}
use Rattle.ledger.specs.declared.Currency.{Currency}
use Rattle.ledger.specs.Numbers.{run}
use Rattle.ledger.specs.Table.{pages, chains, via, class, row, defined, is_detail, Accepted}
use Rattle.ledger.specs.Pages.{code_of, record_size, Ledger, kind_at, present, record_bytes, Sound}
use Rattle.ledger.specs.Currency.{chain_current, InForce}
use Rattle.ledger.specs.Calls.{base_page, free_line, takes, tried, place_for}
use Rattle.ledger.proofs.Lists.Tests.{by_cases}
use Rattle.ledger.proofs.Lists.Members.{none_any}
use Rattle.ledger.proofs.Lists.Searches.{first_of_same}
use Rattle.ledger.proofs.Ledger.Rows.{row_number, type_row, size_least, Within, range_within, as_detail_lem}
use Rattle.ledger.proofs.Ledger.Records.{record_sized}
use Rattle.ledger.proofs.Image.Images.{sound_imaged}
use Rattle.ledger.proofs.Keeps.Placing.{Taking, tried_in_range, base_in_range, record_place, taking}
use Rattle.ledger.specs.Bytes.{page_in}
use Rattle.model.specs.Room.{first_gap}
use Rattle.place_laws.proofs.Room.{image_free, image_gap}
use Rattle.ring_laws.proofs.Masters.{sound_occurrence}
use Rattle.act_model.specs.Placing.{occurrence_in, in_range, base_page_in, takes_in, place_for_in}
use Rattle.act_model.specs.Storing.{lacks_current, stored_code}

-- a chain of which the type is detail has a current record, where none lacks it
pub has_current : (t : List ℕ) (cur : Currency) (n j : ℕ) → lacks_current t cur n ≡ false → j < chains t → is_detail t j n ≡ true → chain_current cur j ≢ 0
unfolding lacks_current
has_current t cur n j none lt e = eqb-false _ _ (none_any _ _ none j (as_detail_lem t n j lt e))

module _ (t f : List ℕ) (l : Ledger) (a : Accepted t) (s : Sound t f l) where
  -- a page's lowest free line, and whether it takes a record
  line_free_lem : (x : ℕ) → eqb (length (record_bytes t l x)) 0 ≡ not (present l x)
  line_free_lem x = rw (record_sized t l x (λ e. (s.formed.placed x e).full)) (by_cases (present l x)
      (λ e. rw (e, ne_eqb (record_size t (kind_at l x)) 0 (λ z. omega (arith, size_least t (kind_at l x)))))
      (λ e. rw e))

  pub sound_line : (p : ℕ) → 1 ≤ p → p ≤ pages t → (first_gap (page_in f p)).line ≡ free_line l p
  unfolding free_line
  sound_line p lo hi =
      image_gap t f _ _ a (sound_imaged t f l a s) p lo hi
      ∙ first_of_same (λ k. eqb (length (record_bytes t l (code_of p k))) 0) (λ k. not (present l (code_of p k))) (run 1 63) (λ k e. line_free_lem (code_of p k))

  pub sound_takes : (n p : ℕ) → 1 ≤ p → p ≤ pages t → takes_in f (record_size t n) p ≡ takes t l n p
  unfolding takes_in takes
  sound_takes n p lo hi = rw (image_free t f _ _ a (sound_imaged t f l a s) p lo hi, sound_line p lo hi)

  module _ (cur : Currency) (i : InForce t l cur) where
    module _ (n : ℕ) (d : List ℕ) (e : defined t n ≡ true) where
      module _ (none : lacks_current t cur n ≡ false) where
        via_current : class t (row t n) ≡ 1 → chain_current cur (via t (row t n)) ≢ 0
        via_current c =
            let (lt, own) = (type_row t n a e).secondary c in
            has_current t cur n (via t (row t n)) none lt (unfold is_detail in eq-eqb _ n (own ∙ row_number t n e))

        pub sound_base : base_page_in t f cur n d ≡ base_page t l cur n d
        unfolding base_page_in occurrence_in in_range base_page
        sound_base = by_cases (eqb (class t (row t n)) 2)
            (λ c. rw c)
            (λ c. by_cases (eqb (class t (row t n)) 1)
            (λ g. rw (c, g, sound_occurrence t f l cur a s i (via t (row t n)) (via_current (eqb-true _ _ g))))
            (λ g. rw (c, g)))

        -- the page that takes the record
        pub sound_place : place_for_in t f cur n d ≡ place_for t l cur n d
        unfolding place_for_in place_for
        sound_place = rw sound_base (first_of_same (takes_in f (record_size t n)) (takes t l n) (tried t n (base_page t l cur n d)) (λ p h.
            let (lo, hi) = range_within t n p a e (tried_in_range t n a e (base_page t l cur n d) p (base_in_range t n a e l cur s.formed i d) h) in
            sound_takes n p lo hi))

      -- it is in the type's range; its lowest free line is the record's
      pub sound_code : let p = place_for t l cur n d in p ≢ 0
          → Within t n p × Taking t l n p (free_line l p) × (stored_code p (first_gap (page_in f p)) ≡ code_of p (free_line l p))
      unfolding stored_code
      sound_code m =
          let p = place_for t l cur n d in
          let (w, y) = record_place t n a e l cur s.formed i d m in
          let (lo, hi) = range_within t n p a e w in
          let page : p % 65536 ≡ p = omega (arith, a.page_count.1) in
          (w, taking t l n p y, rw (page, sound_line p lo hi))
