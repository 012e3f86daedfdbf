-- MODIFY's chains, one after another: below chain j the file has the links of the modified ledger, from j on those of the ledger before.
use Prim.Native.Nat.{ℕ, zero, suc, ◌+◌, ◌≤◌, ◌<◌}
use mathlib.Core.Path.{◌≡◌, sym, ◌∙◌}
use mathlib.Core.Logic.{◌≢◌}
use mathlib.Core.Bool.{true, false}
use mathlib.Core.List.{List}
use native.Mathlib.Omega.{arith}
use Rattle.ledger.specs.Table.{chains, is_master, is_detail, in_chain, sort_key, Accepted}
use Rattle.ledger.specs.Pages.{Ledger, kind_at, bytes_at, present, master_of, key_in, next_of, prior_of, file_with, WellFormed}
use Rattle.ledger.specs.Calls.{modified}
use Rattle.ledger.proofs.Lists.Tests.{by_cases, same_or_not}
use Rattle.model.specs.Reads.{kind_in, data_in}
use Rattle.model.specs.Keys.{sort_key_in}
use Rattle.place_laws.proofs.With.{Held, Small, own_held, with_kind, with_data, with_next, with_prior}
use Rattle.ring_laws.proofs.Rounds.{detail_in_chain, master_type_lem, detail_apart}
use Rattle.ring_laws.proofs.Shown.{Shows}
use Rattle.ring_laws.proofs.Masters.{shown_master}
use Rattle.ring_laws.proofs.Before.{shown_before}
use Rattle.ring_laws.proofs.Between.{shown_between}
use Rattle.act_model.specs.Relinking.{stands_in, moved_in}
use Rattle.act_model.specs.Modifying.{moves_in, afresh_in, rejoined_in, rejoined_from}
use Rattle.act_laws.proofs.Moved.{next_moved, prior_moved, next_moved_else, prior_moved_else, stands_at}
use Rattle.act_laws.proofs.Rejoined.{gap_for, rejoined_put, rejoined_small, rejoined_next, rejoined_prior}
use Rattle.act_laws.proofs.ModifiedLedger.{modified_kind, rejoins, rejoins_inside, rejoins_enters, rejoins_leaves, stays_next, stays_prior}

-- the records of l, in a file in which the chains below j are linked as l' says and the others as l says
pub record Upto (t : List ℕ) (l l' : Ledger) (cn hd : ℕ → ℕ) (f : List ℕ) (j : ℕ) : Type 0 where
  pub nx : ℕ → ℕ → ℕ
  pub pr : ℕ → ℕ → ℕ
  pub file : f ≡ file_with t l nx pr cn hd
  pub small : Small t l nx pr cn hd
  pub new_next : (i y : ℕ) → i < j → i < chains t → in_chain t i (kind_at l y) ≡ true → nx i y ≡ next_of t l' i y
  pub new_prior : (i y : ℕ) → i < j → i < chains t → in_chain t i (kind_at l y) ≡ true → pr i y ≡ prior_of t l' i y
  pub old_next : (i y : ℕ) → j ≤ i → i < chains t → in_chain t i (kind_at l y) ≡ true → nx i y ≡ next_of t l i y
  pub old_prior : (i y : ℕ) → j ≤ i → i < chains t → in_chain t i (kind_at l y) ≡ true → pr i y ≡ prior_of t l i y

module _ (t : List ℕ) (l : Ledger) (x : ℕ) (d : List ℕ) (a : Accepted t) (w : WellFormed t l) (there : present l x ≡ true) (cn hd : ℕ → ℕ) where
  abbrev l' : Ledger
  l' = modified t l x d

  module _ (f : List ℕ) (j : ℕ) (u : Upto t l l' cn hd f j) where
    abbrev h : Held t l
    h = own_held t l w

    -- what is read in the file
    pub upto_kind : (y : ℕ) → kind_in f y ≡ kind_at l y
    upto_kind y = rw u.file (with_kind t l u.nx u.pr cn hd a h u.small y)

    pub upto_data : (y : ℕ) → data_in t f y ≡ bytes_at l y
    upto_data y = rw u.file (with_data t l u.nx u.pr cn hd a h u.small y)

    shows : j < chains t → Shows t f l j
    shows lt = record {
      kinds = upto_kind;
      datas = upto_data;
      nexts = λ y c. rw u.file (with_next t l u.nx u.pr cn hd a h u.small j y lt c ∙ u.old_next j y (omega arith) lt c);
      priors = λ y c p. rw u.file (with_prior t l u.nx u.pr cn hd a h u.small j y lt c p ∙ u.old_prior j y (omega arith) lt c);
    }

    same_moves : moves_in t f (kind_at l x) d x j ≡ rejoins t l x d j
    unfolding moves_in rejoins sort_key_in key_in
    same_moves = rw (upto_kind x, upto_data x)

    -- x joins its ring of chain j afresh
    module _ (e : rejoins t l x d j ≡ true) where
      abbrev lt : j < chains t
      lt = (rejoins_inside t l x d a w there j e).0

      abbrev below : is_detail t j (kind_at l x) ≡ true
      below = (rejoins_inside t l x d a w there j e).1

      abbrev m : ℕ
      m = master_of t l j x

      abbrev key : List ℕ
      key = sort_key t j (kind_at l x) d

      top : is_master t j (kind_at l m) ≡ true
      top = master_type_lem t l a w j x lt (detail_in_chain t j _ below)

      kinds : (y : ℕ) → is_master t j (kind_at l' y) ≡ is_master t j (kind_at l y)
      kinds y = rw (modified_kind t l x d y)

      read_places : moved_in t f j x (stands_in t f j x) (afresh_in t f (kind_at l x) d x j) ≡ moved_in t f j x (stands_at t l j x) (gap_for t l j m key x)
      unfolding stands_in afresh_in
      read_places =
          let i = detail_in_chain t j _ below in
          rw (
            shown_before t f l j a w (shows lt) x lt i,
            (shows lt).nexts x i,
            shown_master t f l j a w (shows lt) x lt i,
            shown_between t f l j a w (shows lt) m top key x (detail_apart t l a w j m x lt top below),
          )

      moved_on : Upto t l l' cn hd (moved_in t f j x (stands_in t f j x) (afresh_in t f (kind_at l x) d x j)) (j + 1)
      moved_on =
          let enters = rejoins_enters t l x d a w there j e in
          let leaves = rejoins_leaves t l x d a w there j e in
          let gap = gap_for t l j m key x in
          let next = rejoined_next t l l' a w j x m key lt below top enters leaves kinds u.nx u.pr cn hd (λ y c. u.old_next j y (omega arith) lt c) in
          let prior = rejoined_prior t l l' a w j x m key lt below top enters leaves kinds u.nx u.pr cn hd (λ y c. u.old_prior j y (omega arith) lt c) in
          let next_else : (i y : ℕ) → i ≢ j → next_moved u.nx j x (stands_at t l j x) gap i y ≡ u.nx i y = next_moved_else u.nx j x (stands_at t l j x) gap in
          let prior_else : (i y : ℕ) → i ≢ j → prior_moved u.pr j x (stands_at t l j x) gap i y ≡ u.pr i y = prior_moved_else u.pr j x (stands_at t l j x) gap in record {
            nx = next_moved u.nx j x (stands_at t l j x) gap;
            pr = prior_moved u.pr j x (stands_at t l j x) gap;
            file = read_places ∙ rw u.file (rejoined_put t l l' a w j x m key lt below top enters leaves kinds u.nx u.pr cn hd h u.small);
            small = rejoined_small t l l' a w j x m key lt below top enters leaves kinds u.nx u.pr cn hd h u.small;
            new_next = λ i y b o c. same_or_not i j (λ q. rw q (next y (rw q at c))) (λ q. next_else i y q ∙ u.new_next i y (omega arith) o c);
            new_prior = λ i y b o c. same_or_not i j (λ q. rw q (prior y (rw q at c))) (λ q. prior_else i y q ∙ u.new_prior i y (omega arith) o c);
            old_next = λ i y b o c. next_else i y (λ q. omega arith) ∙ u.old_next i y (omega arith) o c;
            old_prior = λ i y b o c. prior_else i y (λ q. omega arith) ∙ u.old_prior i y (omega arith) o c;
          }

    -- the chain's rings stay
    stayed : rejoins t l x d j ≡ false → Upto t l l' cn hd f (j + 1)
    stayed e =
        let next = stays_next t l x d a w there j e in
        let prior = stays_prior t l x d a w there j e in record {
          nx = u.nx;
          pr = u.pr;
          file = u.file;
          small = u.small;
          new_next = λ i y b o c. same_or_not i j (λ q. rw q (u.old_next j y (omega arith) (rw q at o) (rw q at c) ∙ sym (next y))) (λ q. u.new_next i y (omega arith) o c);
          new_prior = λ i y b o c. same_or_not i j (λ q. rw q (u.old_prior j y (omega arith) (rw q at o) (rw q at c) ∙ sym (prior y))) (λ q. u.new_prior i y (omega arith) o c);
          old_next = λ i y b o c. u.old_next i y (omega arith) o c;
          old_prior = λ i y b o c. u.old_prior i y (omega arith) o c;
        }

    -- one chain
    pub rejoined_one : Upto t l l' cn hd (rejoined_in t f (kind_at l x) d x j) (j + 1)
    unfolding rejoined_in
    rejoined_one = rw same_moves (by_cases (rejoins t l x d j) (λ e. rw e (moved_on e)) (λ e. rw e (stayed e)))

  -- k chains from j on
  pub rejoined_from_lem : (k j e : ℕ) (f : List ℕ) → j + k ≡ e → Upto t l l' cn hd f j → Upto t l l' cn hd (rejoined_from t f (kind_at l x) d x j k) e
  unfolding rejoined_from
  rejoined_from_lem zero j e f sum u = let s : j ≡ e = omega arith in rw s at u
  rejoined_from_lem (suc k) j e f sum u = rejoined_from_lem k (j + 1) e _ (omega arith) (rejoined_one f j u)
