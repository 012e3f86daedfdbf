-- How NEXT, PRIOR and the master change when a record is put into a ring or taken out.
use Prim.Native.Nat.{ℕ}
use mathlib.Core.Path.{◌≡◌, sym, ◌∙◌, ap}
use mathlib.Core.Logic.{◌≢◌}
use mathlib.Core.Bool.{true, false}
use mathlib.Core.List.{List, [], ◌∷◌, ◌++◌, append_assoc}
use Rattle.ledger.specs.Numbers.{elem, once, head_or, last_or, without}
use Rattle.ledger.specs.Table.{is_master}
use Rattle.ledger.specs.Pages.{Ledger, kind_at, codes, master_of, next_of, prior_of}
use Rattle.ledger.proofs.Lists.Tests.{same_or_not, clash, not_true_false}
use Rattle.ledger.proofs.Lists.Members.{elem_append, elem_put, elem_past, split_at_member}
use Rattle.ledger.proofs.Lists.Pairs.{once_left, once_right, once_put, once_out, without_none, without_once}
use Rattle.ledger.proofs.Lists.Followers.{follower_else, before_else, last_or_append}
use Rattle.ledger.proofs.Lists.Searches.{first_of_same}
use Rattle.ledger.proofs.Ledger.Rings.{Chained, next_in_lem, prior_in_lem, next_seam, prior_seam}

-- the rings of chain j in l' are those of l, with x put into that of m between ys and zs
pub record Inserted (t : List ℕ) (l l' : Ledger) (j m x : ℕ) (ys zs : List ℕ) : Type 0 where
  pub before : l.ring j m ≡ ys ++ zs
  pub after : l'.ring j m ≡ ys ++ x ∷ zs
  pub others : (k : ℕ) → k ≢ m → l'.ring j k ≡ l.ring j k
  pub kinds : (y : ℕ) → is_master t j (kind_at l' y) ≡ is_master t j (kind_at l y)

module _ (t : List ℕ) (l l' : Ledger) (j m x : ℕ) (ys zs : List ℕ) (s : Inserted t l l' j m x ys zs) where
  pub member_else : (y k : ℕ) → y ≢ x → elem y (l'.ring j k) ≡ elem y (l.ring j k)
  member_else y k n = same_or_not k m
      (λ e. rw (e, s.before, s.after) (elem_past y x ys zs n))
      (λ e. rw (s.others k e))

  pub master_else : (y : ℕ) → y ≢ x → master_of t l' j y ≡ master_of t l j y
  unfolding master_of
  master_else y n = rw (s.kinds y, first_of_same _ _ (codes t) (λ k e. member_else y k n))

  pub next_else : (y : ℕ) → y ≢ x → y ≢ last_or m ys → next_of t l' j y ≡ next_of t l j y
  unfolding next_of
  next_else y n h = rw (master_else y n) (same_or_not (master_of t l j y) m
      (λ e. rw (e, s.before, s.after) (follower_else y x m ys zs n h))
      (λ e. rw (s.others _ e)))

  pub prior_else : (y : ℕ) → y ≢ x → y ≢ head_or m zs → prior_of t l' j y ≡ prior_of t l j y
  unfolding prior_of
  prior_else y n h = rw (master_else y n) (same_or_not (master_of t l j y) m
      (λ e. rw (e, s.before, s.after) (before_else y x m ys zs n h))
      (λ e. rw (s.others _ e)))

  -- a member of l is one of l', and the one more is in the ring of m only
  pub member_stays : (y k : ℕ) → elem y (l.ring j k) ≡ true → elem y (l'.ring j k) ≡ true
  member_stays y k h = same_or_not y x
      (λ e. rw e (same_or_not k m (λ i. rw (i, s.after) (elem_put x ys zs)) (λ i. rw (s.others k i, ← e) h)))
      (λ n. member_else y k n ∙ h)

  pub member_new : elem x (l'.ring j m) ≡ true
  member_new = rw s.after (elem_put x ys zs)

  -- putting in a record that was in no ring
  module _ (c : Chained t l j) (off : (k : ℕ) → elem x (l.ring j k) ≡ false) (listed : elem m (codes t) ≡ true)
      (top : is_master t j (kind_at l m) ≡ true) (low : is_master t j (kind_at l x) ≡ false) where
    only_there : (k : ℕ) → elem x (l'.ring j k) ≡ true → k ≡ m
    only_there k h = same_or_not k m (λ e. e) (λ n. clash _ (rw (s.others k n) at h) (off k))

    was_member : (k y : ℕ) → y ≢ x → elem y (l'.ring j k) ≡ true → elem y (l.ring j k) ≡ true
    was_member k y n h = sym (member_else y k n) ∙ h

    pub chained_in : Chained t l' j
    chained_in = record {
      ones = λ k. same_or_not k m
          (λ e. rw (e, s.after) (once_put x ys zs (rw s.before at (off m)) (rw s.before at (c.ones m))))
          (λ n. rw (s.others k n) (c.ones k));
      listed = λ k y h. same_or_not y x
          (λ e. rw (only_there k (rw e at h)) listed)
          (λ n. c.listed k y (was_member k y n h));
      above = λ k y h. rw (s.kinds k) (same_or_not y x
          (λ e. rw (only_there k (rw e at h)) top)
          (λ n. c.above k y (was_member k y n h)));
      below = λ k y h. rw (s.kinds y) (same_or_not y x
          (λ e. rw e low)
          (λ n. c.below k y (was_member k y n h)));
      one = λ k k' y h h'. same_or_not y x
          (λ e. only_there k (rw e at h) ∙ sym (only_there k' (rw e at h')))
          (λ n. c.one k k' y (was_member k y n h) (was_member k' y n h'));
    }

  -- with x in its ring
  module _ (c : Chained t l' j) where
    pub next_new : next_of t l' j x ≡ head_or m zs
    next_new = next_in_lem t l' j m x ys zs c s.after

    pub prior_new : prior_of t l' j x ≡ last_or m ys
    prior_new = prior_in_lem t l' j m x ys zs c s.after

    pub next_before : next_of t l' j (last_or m ys) ≡ x
    unfolding head_or
    next_before = next_seam t l' j m c (c.above m x member_new) ys (x ∷ zs) s.after

    pub prior_after : prior_of t l' j (head_or m zs) ≡ x
    prior_after =
        prior_seam t l' j m c (c.above m x member_new) (ys ++ (x ∷ [])) zs (s.after ∙ sym (append_assoc ys (x ∷ []) zs)) ∙ last_or_append m x ys

    -- taking out
    pub chained_out : Chained t l j
    chained_out = record {
      ones = λ k. same_or_not k m
          (λ e. rw (e, s.before) (once_out x ys zs (rw s.after at (c.ones m))))
          (λ n. rw (← s.others k n) (c.ones k));
      listed = λ k y h. c.listed k y (member_stays y k h);
      above = λ k y h. sym (s.kinds k) ∙ c.above k y (member_stays y k h);
      below = λ k y h. sym (s.kinds y) ∙ c.below k y (member_stays y k h);
      one = λ k n y h g. c.one k n y (member_stays y k h) (member_stays y n g);
    }

    pub gone : (k : ℕ) → elem x (l.ring j k) ≡ false
    gone k = same_or_not k m
        (λ e. let o : once (ys ++ x ∷ zs) ≡ true = rw s.after at (c.ones m) in
        rw (e, s.before, elem_append x ys zs, once_left x ys zs o) (once_right x ys zs o))
        (λ n. not_true_false _ λ h. n (c.one k m x (member_stays x k h) member_new))

    pub next_gap : next_of t l j (last_or m ys) ≡ head_or m zs
    next_gap = next_seam t l j m chained_out (sym (s.kinds m) ∙ c.above m x member_new) ys zs s.before

    pub prior_gap : prior_of t l j (head_or m zs) ≡ last_or m ys
    prior_gap = prior_seam t l j m chained_out (sym (s.kinds m) ∙ c.above m x member_new) ys zs s.before

-- x taken out of every ring of chain j, of which it was in that of m
module _ (t : List ℕ) (l l' : Ledger) (j m x : ℕ) (c : Chained t l' j) (h : elem x (l'.ring j m) ≡ true) where
  pub inserted_without : ((k : ℕ) → l.ring j k ≡ without x (l'.ring j k)) → ((y : ℕ) → is_master t j (kind_at l' y) ≡ is_master t j (kind_at l y))
      → (ys : List ℕ) × (zs : List ℕ) × Inserted t l l' j m x ys zs
  inserted_without out kinds =
      let (ys, zs, e, f) = split_at_member x (l'.ring j m) h in
      let o : once (ys ++ x ∷ zs) ≡ true = rw e at (c.ones m) in (
        ys,
        zs,
        record {
          before = out m ∙ ap (without x) e ∙ without_once x ys zs o;
          after = e;
          others = λ k n. sym (out k ∙ without_none x _ (not_true_false _ λ g. n (c.one k m x g h)));
          kinds = kinds;
        },
      )
