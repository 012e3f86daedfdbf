-- What MODIFY makes of a ledger is what its event tells: no other master, and a fresh place where the key changes.
use Prim.Native.Nat.{ℕ, ◌<◌}
use mathlib.Core.Path.{◌≡◌, refl, sym, ◌∙◌, ap}
use mathlib.Core.Logic.{◌≢◌}
use mathlib.Core.Bool.{Bool, true, false, cond, not, ◌&&◌, and-false, and-true}
use mathlib.Core.List.{List, ◌∷◌}
use borrow.Author.Tests.{ne_eqb, not-false}
use Rattle.ledger.specs.Numbers.{elem, keep, same_key, without}
use Rattle.ledger.specs.Table.{chains, sort_key, Accepted}
use Rattle.ledger.specs.Pages.{Ledger, kind_of, bytes_of, kind_at, key_in, WellFormed}
use Rattle.ledger.specs.Calls.{modified}
use Rattle.ledger.specs.History.{Event, under, kind_told, data_told, key_told, newest, has_key}
use Rattle.ledger.proofs.Lists.Tests.{by_cases, same_or_not, clash, both, eqb_same, update_same, update_other}
use Rattle.ledger.proofs.Lists.Sieves.{keep_same}
use Rattle.ledger.proofs.Lists.Pairs.{elem_without, without_pairs}
use Rattle.ledger.proofs.Lists.Keys.{same_eq}
use Rattle.ledger.proofs.Ledger.Entries.{key_as}
use Rattle.ledger.proofs.Keeps.Changes.{written_key}
use Rattle.ledger.proofs.History.Equals.{by_order, side, join_equals, elem_joined}
use Rattle.ledger.proofs.History.Told.{Tells, newest_members, left}

module _ (t : List ℕ) (l : Ledger) (es : List Event) (a : Accepted t) (w : WellFormed t l) (h : Tells t l es) (x : ℕ) (d : List ℕ) where
  abbrev fresh_key : ℕ → List ℕ
  fresh_key j = sort_key t j (kind_at l x) d

  abbrev changed : ℕ → Bool
  changed j = not (same_key (key_in t l j x) (fresh_key j))

  -- the record joins its ring afresh where its event says so
  rejoins : (j m : ℕ) → j < chains t
      → (elem x (newest t es j m) && not (same_key (key_told t es j x) (sort_key t j (kind_told t es x) d))) ≡ (elem x (l.ring j m) && changed j)
  unfolding key_told key_in
  rejoins j m lt = rw (newest_members t l es h j m x lt, ← h.kinds x, ← h.contents x)

  module _ (j m : ℕ) (k : List ℕ) (lt : j < chains t) where
    abbrev now : ℕ → Bool
    now = has_key t (modified t l x d) j k

    key_now : key_in t (modified t l x d) j x ≡ fresh_key j
    unfolding modified
    key_now = written_key t (modified t l x d) x (kind_at l x) d (update_same l.at x _) j

    now_else : (y : ℕ) → y ≢ x → now y ≡ has_key t l j k y
    unfolding modified
    now_else y ne = ap (λ (v : List ℕ). same_key v k) (key_as t l (modified t l x d) j y (update_other l.at x _ y ne))

    now_out : (xs : List ℕ) (y : ℕ) → elem y (without x xs) ≡ true → now y ≡ has_key t l j k y
    now_out xs y e = now_else y (λ i. clash _ (rw (elem_without y x xs, i, eqb_same x) at e) (and-false (elem x xs)))

    -- where the key is unchanged, or the ring is another's
    now_same : (elem x (l.ring j m) && changed j) ≡ false → (xs : List ℕ) → elem x xs ≡ elem x (l.ring j m) → (y : ℕ) → elem y xs ≡ true → now y ≡ has_key t l j k y
    now_same c xs in_both y e = same_or_not y x
        (λ i.
        let here : elem x (l.ring j m) ≡ true = sym in_both ∙ (rw i at e) in
        let kept : changed j ≡ false = rw here at c in
        rw i (ap (λ (v : List ℕ). same_key v k) (key_now ∙ sym (same_eq (key_in t l j x) (fresh_key j) (not-false _ kept)))))
        (now_else y)

    modified_equals : keep now ((modified t l x d).ring j m)
        ≡ by_order (side t j) (keep now (cond (elem x (l.ring j m) && changed j) (x ∷ without x (newest t es j m)) (newest t es j m)))
    unfolding modified
    modified_equals = by_cases (elem x (l.ring j m) && changed j)
        (λ c. rw c (join_equals t l j a lt (fresh_key j) k x (without x (l.ring j m)) (without x (newest t es j m)) now
        (ap (λ (v : List ℕ). same_key v k) key_now) (now_out (l.ring j m)) (without_pairs _ x (l.ring j m) (w.in_order j m))
        (keep_same now _ _ (now_out (l.ring j m)) ∙ left t l es h x j m k lt ∙ ap (by_order (side t j)) (sym (keep_same now _ _ (now_out (newest t es j m)))))))
        (λ c. rw c (keep_same now _ _ (now_same c (l.ring j m) refl) ∙ h.equals j m k lt
        ∙ ap (by_order (side t j)) (sym (keep_same now _ _ (now_same c (newest t es j m) (newest_members t l es h j m x lt))))))

  pub tells_modified : Tells t (modified t l x d) (Event.changed d x ∷ es)
  unfolding modified under data_told newest kind_of bytes_of
  tells_modified = record {
    kinds = λ y. same_or_not y x
        (λ e. rw (e, update_same l.at x _) (h.kinds x))
        (λ i. rw (update_other l.at x _ y i) (h.kinds y));
    contents = λ y. same_or_not y x
        (λ e. rw (e, eqb_same x, update_same l.at x _))
        (λ i. rw (ne_eqb y x i, update_other l.at x _ y i) (h.contents y));
    members = λ j m y. by_cases (elem x (l.ring j m) && changed j)
        (λ e. rw (e, elem_joined t l j _ y x _, elem_without y x (l.ring j m)) (same_or_not y x
        (λ g. rw (g, eqb_same x) (sym (both (elem x (l.ring j m)) _ e).0 ∙ h.members j m x))
        (λ g. rw (ne_eqb y x g) (and-true (elem y (l.ring j m)) ∙ h.members j m y))))
        (λ e. rw e (h.members j m y));
    equals = λ j m k lt. rw (rejoins j m lt) (modified_equals j m k lt);
  }
