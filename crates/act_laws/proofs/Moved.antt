-- A record moved in one chain, from between two to between two others: which links are written, and that they are those of the ledger after it.
use Prim.Native.Nat.{ℕ, ◌<◌}
use mathlib.Core.Path.{◌≡◌, sym, ◌∙◌}
use mathlib.Core.Logic.{◌≢◌, inl, inr}
use mathlib.Core.Bool.{true}
use mathlib.Core.List.{List, ◌∷◌}
use Rattle.ledger.specs.Numbers.{elem, head_or, last_or}
use Rattle.ledger.specs.Table.{chains, is_master, in_chain, Accepted}
use Rattle.ledger.specs.Pages.{Ledger, kind_at, next_of, prior_of, file_with, WellFormed}
use Rattle.ledger.proofs.Lists.Tests.{same_or_not}
use Rattle.ledger.proofs.Lists.Members.{elem_cases}
use Rattle.ledger.proofs.Lists.Followers.{head_member, last_member}
use Rattle.ledger.proofs.Ledger.Rows.{code_listed}
use Rattle.ledger.proofs.Ledger.Rings.{Chained, chained}
use Rattle.ledger.proofs.Ledger.Inserted.{chained_in, Inserted, member_stays, member_new, next_else, prior_else, next_new, prior_new, next_before, prior_after, next_gap, prior_gap, chained_out, gone}
use Rattle.model.specs.declared.Between.{Between}
use Rattle.place_laws.proofs.With.{Held, Small, with_chain}
use Rattle.place_laws.proofs.Written.{put2, put2_here, put2_chain, put2_code, joined_put, joined_small, linked_put, linked_small}
use Rattle.ring_laws.proofs.Rounds.{master_chain, detail_in_chain}
use Rattle.act_model.specs.Relinking.{moved_in}

-- NEXT and PRIOR of all chains once x has left its old place in chain j and stands in its new one
unfoldable pub next_moved : (ℕ → ℕ → ℕ) → ℕ → ℕ → Between → Between → ℕ → ℕ → ℕ
next_moved nx j x old new = put2 (put2 (put2 nx j old.before old.after) j x new.after) j new.before x

unfoldable pub prior_moved : (ℕ → ℕ → ℕ) → ℕ → ℕ → Between → Between → ℕ → ℕ → ℕ
prior_moved pr j x old new = put2 (put2 (put2 pr j old.after old.before) j new.after x) j x new.before

-- the other chains keep theirs
module _ (g : ℕ → ℕ → ℕ) (j x : ℕ) (old new : Between) (i y : ℕ) (n : i ≢ j) where
  pub next_moved_else : next_moved g j x old new i y ≡ g i y
  unfolding next_moved
  next_moved_else = put2_chain _ j new.before x i y n ∙ put2_chain _ j x new.after i y n ∙ put2_chain g j old.before old.after i y n

  pub prior_moved_else : prior_moved g j x old new i y ≡ g i y
  unfolding prior_moved
  prior_moved_else = put2_chain _ j x new.before i y n ∙ put2_chain _ j new.after x i y n ∙ put2_chain g j old.after old.before i y n

-- the neighbours of x in its ring, and those of a gap between ys and zs in the ring of m
abbrev pub stands_at : List ℕ → Ledger → ℕ → ℕ → Between
stands_at t l j x = record { before = prior_of t l j x; after = next_of t l j x }

abbrev pub gap_at : ℕ → List ℕ → List ℕ → Between
gap_at m ys zs = record { before = last_or m ys; after = head_or m zs }

-- Between l and l' stands l⁻, in which x is in no ring of chain j: in l it is between ys⁻ and zs⁻ of m⁻, in l' between ys and zs of m.
module _ (t : List ℕ) (l⁻ l l' : Ledger) (a : Accepted t) (w : WellFormed t l) (j x m⁻ : ℕ) (ys⁻ zs⁻ : List ℕ) (m : ℕ) (ys zs : List ℕ)
    (out : Inserted t l⁻ l j m⁻ x ys⁻ zs⁻) (into : Inserted t l⁻ l' j m x ys zs) (lt : j < chains t) (top : is_master t j (kind_at l m) ≡ true) where
  c : Chained t l j
  c = chained t l a w j

  top⁻ : is_master t j (kind_at l m⁻) ≡ true
  top⁻ = c.above m⁻ x (member_new t l⁻ l j m⁻ x ys⁻ zs⁻ out)

  pub moved_chained : Chained t l' j
  moved_chained =
      chained_in t l⁻ l' j m x ys zs into (chained_out t l⁻ l j m⁻ x ys⁻ zs⁻ out c) (gone t l⁻ l j m⁻ x ys⁻ zs⁻ out c)
      (code_listed t l m a (w.placed m (with_chain t l a j m lt (master_chain t j _ top))))
      (sym (out.kinds m) ∙ top)
      (sym (out.kinds x) ∙ c.below m⁻ x (member_new t l⁻ l j m⁻ x ys⁻ zs⁻ out))

  -- those between whom x was, and will be, are in the chain
  ring_in : (k : ℕ) → is_master t j (kind_at l k) ≡ true → (y : ℕ) → elem y (k ∷ l⁻.ring j k) ≡ true → in_chain t j (kind_at l y) ≡ true
  ring_in k h y e = elim (elem_cases y k (l⁻.ring j k) e) [
    | inl i ↦ rw i (master_chain t j _ h)
    | inr i ↦ detail_in_chain t j _ (w.ring_own j k y (member_stays t l⁻ l j m⁻ x ys⁻ zs⁻ out y k i)).4
  ]

  own : in_chain t j (kind_at l x) ≡ true
  own = detail_in_chain t j _ (w.ring_own j m⁻ x (member_new t l⁻ l j m⁻ x ys⁻ zs⁻ out)).4

  old_before : in_chain t j (kind_at l (last_or m⁻ ys⁻)) ≡ true
  old_before = ring_in m⁻ top⁻ _ (rw out.before (last_member m⁻ ys⁻ zs⁻))

  old_after : in_chain t j (kind_at l (head_or m⁻ zs⁻)) ≡ true
  old_after = ring_in m⁻ top⁻ _ (rw out.before (head_member m⁻ ys⁻ zs⁻))

  new_before : in_chain t j (kind_at l (last_or m ys)) ≡ true
  new_before = ring_in m top _ (rw into.before (last_member m ys zs))

  new_after : in_chain t j (kind_at l (head_or m zs)) ≡ true
  new_after = ring_in m top _ (rw into.before (head_member m ys zs))

  before_it : prior_of t l j x ≡ last_or m⁻ ys⁻
  before_it = prior_new t l⁻ l j m⁻ x ys⁻ zs⁻ out c

  after_it : next_of t l j x ≡ head_or m⁻ zs⁻
  after_it = next_new t l⁻ l j m⁻ x ys⁻ zs⁻ out c

  module _ (nx pr : ℕ → ℕ → ℕ) (cn hd : ℕ → ℕ) where
    abbrev nx' : ℕ → ℕ → ℕ
    nx' = next_moved nx j x (stands_at t l j x) (gap_at m ys zs)

    abbrev pr' : ℕ → ℕ → ℕ
    pr' = prior_moved pr j x (stands_at t l j x) (gap_at m ys zs)

    -- what is written, whatever the links are
    module _ (h : Held t l) (z : Small t l nx pr cn hd) where
      pub moved_put : moved_in t (file_with t l nx pr cn hd) j x (stands_at t l j x) (gap_at m ys zs) ≡ file_with t l nx' pr' cn hd
      unfolding moved_in next_moved prior_moved
      moved_put =
          rw (before_it, after_it, joined_put t l nx pr cn hd a h z j _ _ lt old_before old_after)
          (linked_put t l _ _ cn hd a h (joined_small t l nx pr cn hd a h z j _ _ lt old_before old_after) j x _ _ lt own new_before new_after)

      pub moved_small : Small t l nx' pr' cn hd
      unfolding next_moved prior_moved
      moved_small =
          rw (before_it, after_it) (linked_small t l _ _ cn hd a h (joined_small t l nx pr cn hd a h z j _ _ lt old_before old_after) j x _ _ lt own new_before new_after)

    -- and where chain j had the links of l, it has those of l'
    pub moved_next : ((y : ℕ) → in_chain t j (kind_at l y) ≡ true → nx j y ≡ next_of t l j y)
        → (y : ℕ) → in_chain t j (kind_at l y) ≡ true → nx' j y ≡ next_of t l' j y
    unfolding next_moved
    moved_next agree y i =
        let b = last_or m ys in
        let b⁻ = last_or m⁻ ys⁻ in
        let left = put2 nx j b⁻ (head_or m⁻ zs⁻) in
        rw (before_it, after_it) (same_or_not y b
        (λ e. rw (e, put2_here (put2 left j x (head_or m zs)) j b x) (sym (next_before t l⁻ l' j m x ys zs into moved_chained)))
        (λ n. put2_code (put2 left j x (head_or m zs)) j b x j y n ∙ same_or_not y x
        (λ e. rw (e, put2_here left j x (head_or m zs)) (sym (next_new t l⁻ l' j m x ys zs into moved_chained)))
        (λ o. put2_code left j x (head_or m zs) j y o ∙ same_or_not y b⁻
        (λ e. rw (e, put2_here nx j b⁻ (head_or m⁻ zs⁻)) (sym (next_gap t l⁻ l j m⁻ x ys⁻ zs⁻ out c)))
        (λ q. put2_code nx j b⁻ (head_or m⁻ zs⁻) j y q ∙ agree y i ∙ next_else t l⁻ l j m⁻ x ys⁻ zs⁻ out y o q)
        ∙ sym (next_else t l⁻ l' j m x ys zs into y o n))))

    pub moved_prior : ((y : ℕ) → in_chain t j (kind_at l y) ≡ true → pr j y ≡ prior_of t l j y)
        → (y : ℕ) → in_chain t j (kind_at l y) ≡ true → pr' j y ≡ prior_of t l' j y
    unfolding prior_moved
    moved_prior agree y i =
        let b = head_or m zs in
        let b⁻ = head_or m⁻ zs⁻ in
        let left = put2 pr j b⁻ (last_or m⁻ ys⁻) in
        rw (before_it, after_it) (same_or_not y x
        (λ e. rw (e, put2_here (put2 left j b x) j x (last_or m ys)) (sym (prior_new t l⁻ l' j m x ys zs into moved_chained)))
        (λ o. put2_code (put2 left j b x) j x (last_or m ys) j y o ∙ same_or_not y b
        (λ e. rw (e, put2_here left j b x) (sym (prior_after t l⁻ l' j m x ys zs into moved_chained)))
        (λ n. put2_code left j b x j y n ∙ same_or_not y b⁻
        (λ e. rw (e, put2_here pr j b⁻ (last_or m⁻ ys⁻)) (sym (prior_gap t l⁻ l j m⁻ x ys⁻ zs⁻ out c)))
        (λ q. put2_code pr j b⁻ (last_or m⁻ ys⁻) j y q ∙ agree y i ∙ prior_else t l⁻ l j m⁻ x ys⁻ zs⁻ out y o q)
        ∙ sym (prior_else t l⁻ l' j m x ys zs into y o n))))
