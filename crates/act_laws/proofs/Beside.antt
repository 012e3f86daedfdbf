-- The links of the ledger that STORE leaves: in each chain of the new record those of the ledger before, but beside it.
use Prim.Native.Nat.{ℕ, ◌<◌}
use mathlib.Core.Path.{◌≡◌, ◌∙◌}
use mathlib.Core.Logic.{◌≢◌}
use mathlib.Core.Bool.{true, false, ◌&&◌, and-false, or-false}
use mathlib.Core.List.{List, []}
use lib.Dec.{ltb}
use Rattle.ledger.specs.declared.Currency.{Currency}
use Rattle.ledger.specs.Numbers.{head_or, last_or}
use Rattle.ledger.specs.Table.{chains, is_master, is_detail, in_chain, sort_key, Accepted}
use Rattle.ledger.specs.Pages.{code_of, Ledger, kind_at, present, next_of, prior_of, Sound}
use Rattle.ledger.specs.Currency.{occurrence, InForce}
use Rattle.ledger.specs.Calls.{stops, stored}
use Rattle.ledger.proofs.Lists.Tests.{by_cases, clash}
use Rattle.ledger.proofs.Lists.Members.{no_members}
use Rattle.ledger.proofs.Lists.Puts.{Stopped, stopped}
use Rattle.ledger.proofs.Lists.Followers.{head_member, last_member}
use Rattle.ledger.proofs.Ledger.Entries.{absent_kind}
use Rattle.ledger.proofs.Ledger.Rows.{code_listed, none_no_master}
use Rattle.ledger.proofs.Ledger.Rings.{chained, absent_no_ring, next_master, prior_master, next_same, prior_same}
use Rattle.ledger.proofs.Ledger.Inserted.{chained_in, next_new, prior_new, next_before, prior_after, next_else, prior_else}
use Rattle.ledger.proofs.Keeps.Stored.{occurrence_there, stored_at_else, stored_ring_else, stored_inserted}
use Rattle.place_laws.proofs.With.{with_chain}
use Rattle.ring_laws.proofs.Masters.{sound_occurrence}
use Rattle.ring_laws.proofs.Rounds.{master_chain, all_in_chain}
use Rattle.ring_laws.proofs.Between.{sound_between_new}
use Rattle.act_model.specs.Placing.{occurrence_in}
use Rattle.act_model.specs.Storing.{lacks_current, gap_in}
use Rattle.act_laws.proofs.Places.{has_current}
use Rattle.act_laws.proofs.Entered.{Fitting, new_kind}

-- chain j of l' is that of l, with x between b and c
pub record Beside (t : List ℕ) (l l' : Ledger) (x j b c : ℕ) : Type 0 where
  pub next_new : next_of t l' j x ≡ c
  pub prior_new : prior_of t l' j x ≡ b
  pub next_before : next_of t l' j b ≡ x
  pub prior_after : prior_of t l' j c ≡ x
  pub next_else : (y : ℕ) → y ≢ x → y ≢ b → next_of t l' j y ≡ next_of t l j y
  pub prior_else : (y : ℕ) → y ≢ x → y ≢ c → prior_of t l' j y ≡ prior_of t l j y
  pub before_in_lem : in_chain t j (kind_at l' b) ≡ true
  pub after_in : in_chain t j (kind_at l' c) ≡ true

module _ (t f : List ℕ) (l : Ledger) (a : Accepted t) (s : Sound t f l) (cur : Currency) (n : ℕ) (d : List ℕ) (p k : ℕ) (g : Fitting t l n d p k) where
  abbrev x : ℕ
  x = code_of p k

  abbrev after : Ledger
  after = stored t l cur n d x

  fresh : present l x ≡ false
  fresh = g.taking.fresh

  -- what was in a chain is in it
  still_in : (j y : ℕ) → j < chains t → in_chain t j (kind_at l y) ≡ true → in_chain t j (kind_at after y) ≡ true
  still_in j y lt e =
      let ne : y ≢ x = λ q. clash _ (rw q at (with_chain t l a j y lt e)) fresh in
      rw (stored_at_else t l cur n d x y ne) e

  -- a chain of which the new record is no detail keeps its links
  module _ (j : ℕ) (out : (ltb j (chains t) && is_detail t j n) ≡ false) (y : ℕ) (ne : y ≢ x) where
    pub next_kept : next_of t after j y ≡ next_of t l j y
    next_kept = next_same t l after j (λ m. stored_ring_else t l cur n d x j m out) y (rw (stored_at_else t l cur n d x y ne))

    pub prior_kept : prior_of t after j y ≡ prior_of t l j y
    prior_kept = prior_same t l after j (λ m. stored_ring_else t l cur n d x j m out) y (rw (stored_at_else t l cur n d x y ne))

  -- as a master it is alone in its ring
  beside_master : (j : ℕ) → is_master t j n ≡ true → is_detail t j n ≡ false → Beside t l after x j x x
  unfolding head_or last_or
  beside_master j top low =
      let out : (ltb j (chains t) && is_detail t j n) ≡ false = rw low (and-false (ltb j (chains t))) in
      let empty : l.ring j x ≡ [] = no_members (l.ring j x) (λ y h. clash _ (s.formed.ring_own j x y h).1 fresh) in
      let nothing : after.ring j x ≡ [] = stored_ring_else t l cur n d x j x out ∙ empty in
      let top' : is_master t j (kind_at after x) ≡ true = rw (new_kind t f l a s cur n d p k g) top in
      let next : next_of t after j x ≡ x = next_master t after j x top' ∙ rw nothing in
      let prior : prior_of t after j x ≡ x = prior_master t after j x top' ∙ rw nothing in record {
        next_new = next;
        prior_new = prior;
        next_before = next;
        prior_after = prior;
        next_else = λ y ne b. next_kept j out y ne;
        prior_else = λ y ne b. prior_kept j out y ne;
        before_in_lem = master_chain t j _ top';
        after_in = master_chain t j _ top';
      }

  module _ (force : InForce t l cur) (none : lacks_current t cur n ≡ false) where
    -- as a detail it is between two of its occurrence's ring
    beside_detail : (j : ℕ) → j < chains t → is_detail t j n ≡ true
        → let m = occurrence t l cur j in let q = stopped (stops t l j (sort_key t j n d)) x (l.ring j m) in
        Beside t l after x j (last_or m q.passed) (head_or m q.rest)
    beside_detail j lt low =
        let m = occurrence t l cur j in
        let q : Stopped (stops t l j (sort_key t j n d)) x (l.ring j m) = stopped (stops t l j (sort_key t j n d)) x (l.ring j m) in
        let (there, top) = occurrence_there t l cur a s.formed force j (has_current t cur n j none lt low) in
        let put = stored_inserted t l cur n d x a fresh j lt low in
        let listed = code_listed t l m a (s.formed.placed m there) in
        let under : is_master t j (kind_at l x) ≡ false = rw (absent_kind (l.at x) fresh) (none_no_master t j a lt) in
        let c = chained_in t l after j m x q.passed q.rest put (chained t l a s.formed j) (absent_no_ring t l s.formed x fresh j) listed top under in
        record {
          next_new = next_new t l after j m x q.passed q.rest put c;
          prior_new = prior_new t l after j m x q.passed q.rest put c;
          next_before = next_before t l after j m x q.passed q.rest put c;
          prior_after = prior_after t l after j m x q.passed q.rest put c;
          next_else = next_else t l after j m x q.passed q.rest put;
          prior_else = prior_else t l after j m x q.passed q.rest put;
          before_in_lem = still_in j _ lt (all_in_chain t l a s.formed j m top _ (rw (← q.whole) at (last_member m q.passed q.rest)));
          after_in = still_in j _ lt (all_in_chain t l a s.formed j m top _ (rw (← q.whole) at (head_member m q.passed q.rest)));
        }

    -- it is between the two that are found in the file
    pub beside : (j : ℕ) → j < chains t → in_chain t j n ≡ true → Beside t l after x j (gap_in t f cur n d x j).before (gap_in t f cur n d x j).after
    unfolding gap_in occurrence_in in_chain
    beside j lt own = by_cases (is_detail t j n)
        (λ low.
        let here = has_current t cur n j none lt low in
        let top = (occurrence_there t l cur a s.formed force j here).1 in
        rw (low, sound_occurrence t f l cur a s force j here, sound_between_new t f l a s j (occurrence t l cur j) lt top (sort_key t j n d) x)
        (beside_detail j lt low))
        (λ low. rw low (beside_master j (rw (low, or-false (is_master t j n)) at own) low))
