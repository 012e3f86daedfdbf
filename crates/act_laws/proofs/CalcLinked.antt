-- CALC NEXT of records and headers as one function of a code: what is written in it, and how it goes round rings that change.
use Prim.Native.Nat.{ℕ, ◌*◌, ◌≤◌, ◌<◌}
use mathlib.Core.Path.{◌≡◌, refl, sym, ◌∙◌}
use mathlib.Core.Logic.{◌≢◌, inl, inr}
use mathlib.Core.Bool.{true, false, cond}
use mathlib.Core.List.{List, [], ◌∷◌, ◌++◌}
use native.Mathlib.Omega.{arith}
use lib.Dec.{eqb}
use borrow.Author.Tests.{ne_eqb, eq-eqb}
use Rattle.ledger.specs.Numbers.{elem, once, head_or, last_or, update}
use Rattle.ledger.specs.Table.{pages, calculated, Accepted}
use Rattle.ledger.specs.Pages.{page_of, line_of, Ledger, kind_at, present, file_with, WellFormed}
use Rattle.ledger.specs.Walks.{Agrees}
use Rattle.ledger.proofs.Lists.Tests.{same_or_not, clash, update_same, update_other}
use Rattle.ledger.proofs.Lists.Members.{elem_here, elem_there, elem_tail, elem_cases, elem_append, elem_put, elem_past, elem_out}
use Rattle.ledger.proofs.Lists.Pairs.{once_left, once_right, once_out}
use Rattle.ledger.proofs.Lists.Followers.{follower_first, follower_in, follower_else, follower_seam}
use Rattle.model.specs.Reads.{head_next_in}
use Rattle.model.specs.Writes.{calc_next_put, head_put, calc_put}
use Rattle.place_laws.proofs.With.{Small, own_held, with_head}
use Rattle.place_laws.proofs.Written.{small_calc, small_head, calc_put_lem, head_put_lem}

-- the links g told by code in a file with the records of l: CALC NEXT of a record x as g x, of page p's header as g (64 * p)
pub record CalcLinked (t : List ℕ) (l : Ledger) (nx pr : ℕ → ℕ → ℕ) (f : List ℕ) (g : ℕ → ℕ) : Type 0 where
  pub cn : ℕ → ℕ
  pub hd : ℕ → ℕ
  pub file : f ≡ file_with t l nx pr cn hd
  pub small : Small t l nx pr cn hd
  pub calcs : (x : ℕ) → present l x ≡ true → calculated t (kind_at l x) ≡ true → cn x ≡ g x
  pub heads : (p : ℕ) → 1 ≤ p → p ≤ pages t → hd p ≡ g (64 * p)

-- CALC NEXT of records and of headers as one function
unfoldable pub by_code : (ℕ → ℕ) → (ℕ → ℕ) → ℕ → ℕ
by_code cn hd c = cond (eqb (line_of c) 0) (hd (page_of c)) (cn c)

pub by_line : (cn hd : ℕ → ℕ) (x : ℕ) → 1 ≤ line_of x → by_code cn hd x ≡ cn x
unfolding by_code
by_line cn hd x h = rw (ne_eqb (line_of x) 0 (λ z. omega arith))

pub by_head : (cn hd : ℕ → ℕ) (p : ℕ) → by_code cn hd (64 * p) ≡ hd p
unfolding by_code
by_head cn hd p =
    let line : line_of (64 * p) ≡ 0 = omega arith in
    let own : page_of (64 * p) ≡ p = omega arith in
    rw (eq-eqb (line_of (64 * p)) 0 line, own)

module _ (t : List ℕ) (l : Ledger) (a : Accepted t) (w : WellFormed t l) where
  pub no_head : (x p : ℕ) → present l x ≡ true → x ≢ 64 * p
  no_head x p e i = omega (arith, (w.placed x e).on_a_line)

  pub with_linked : (nx pr : ℕ → ℕ → ℕ) (cn hd : ℕ → ℕ) → Small t l nx pr cn hd → CalcLinked t l nx pr (file_with t l nx pr cn hd) (by_code cn hd)
  with_linked nx pr cn hd z = record {
    cn = cn;
    hd = hd;
    file = refl;
    small = z;
    calcs = λ x e c. sym (by_line cn hd x (w.placed x e).on_a_line);
    heads = λ p lo hi. sym (by_head cn hd p);
  }

  -- one of them written
  module _ (nx pr : ℕ → ℕ → ℕ) (f : List ℕ) (g : ℕ → ℕ) (u : CalcLinked t l nx pr f g) (v : ℕ) (small : v < 16777216) where
    pub record_linked : (x : ℕ) → present l x ≡ true → calculated t (kind_at l x) ≡ true → CalcLinked t l nx pr (calc_next_put t f x v) (update g x v)
    record_linked x e c = record {
      cn = update u.cn x v;
      hd = u.hd;
      file = rw u.file (calc_put_lem t l nx pr u.cn u.hd a (own_held t l w) u.small x v e c);
      small = small_calc t l nx pr u.cn u.hd u.small v small x;
      calcs = λ y b k. same_or_not y x
          (λ i. rw (i, update_same u.cn x v, update_same g x v))
          (λ n. rw (update_other u.cn x v y n, update_other g x v y n) (u.calcs y b k));
      heads = λ p lo hi. rw (update_other g x v (64 * p) (λ i. no_head x p e (sym i))) (u.heads p lo hi);
    }

    pub head_linked : (p : ℕ) → 1 ≤ p → p ≤ pages t → CalcLinked t l nx pr (head_put f p v) (update g (64 * p) v)
    head_linked p lo hi = record {
      cn = u.cn;
      hd = update u.hd p v;
      file = rw u.file (head_put_lem t l nx pr u.cn u.hd a (own_held t l w) u.small p v lo hi);
      small = small_head t l nx pr u.cn u.hd u.small v small p;
      calcs = λ y b k. rw (update_other g (64 * p) v y (no_head y p b)) (u.calcs y b k);
      heads = λ q b c. same_or_not q p
          (λ i. rw (i, update_same u.hd p v, update_same g (64 * p) v))
          (λ n. rw (update_other u.hd p v q n, update_other g (64 * p) v (64 * q) (λ i. n (omega arith))) (u.heads q b c));
    }

    -- after a code of page p's ring, be that a record or the header
    pub code_linked : (p : ℕ) → 1 ≤ p → p ≤ pages t → (c : ℕ) → elem c (64 * p ∷ l.calc p) ≡ true → CalcLinked t l nx pr (calc_put t f c v) (update g c v)
    unfolding calc_put
    code_linked p lo hi c e = elim (elem_cases c (64 * p) (l.calc p) e) [
      | inl i ↦ (
          let line : line_of (64 * p) ≡ 0 = omega arith in
          let own : page_of (64 * p) ≡ p = omega arith in
          rw (i, eq-eqb (line_of (64 * p)) 0 line, own) (head_linked p lo hi))
      | inr i ↦ (
          let o = w.calc_own p c i in
          rw (ne_eqb (line_of c) 0 (λ z. omega (arith, (w.placed c o.0).on_a_line))) (record_linked c o.0 o.1))
    ]

  -- the same links told otherwise
  pub linked_as : (nx pr : ℕ → ℕ → ℕ) (f : List ℕ) (g g' : ℕ → ℕ) → ((x : ℕ) → present l x ≡ true → calculated t (kind_at l x) ≡ true → g x ≡ g' x)
      → ((p : ℕ) → g (64 * p) ≡ g' (64 * p)) → CalcLinked t l nx pr f g → CalcLinked t l nx pr f g'
  linked_as nx pr f g g' same heads u = record {
    cn = u.cn;
    hd = u.hd;
    file = u.file;
    small = u.small;
    calcs = λ x e c. u.calcs x e c ∙ same x e c;
    heads = λ p lo hi. u.heads p lo hi ∙ heads p;
  }

  -- a header read
  pub head_shown : (nx pr : ℕ → ℕ → ℕ) (f : List ℕ) (g : ℕ → ℕ) → CalcLinked t l nx pr f g → (p : ℕ) → 1 ≤ p → p ≤ pages t → head_next_in f p ≡ g (64 * p)
  head_shown nx pr f g u p lo hi = rw u.file (with_head t l nx pr u.cn u.hd a (own_held t l w) u.small p lo hi ∙ u.heads p lo hi)

-- Rings that NEXT goes round: another ring's change leaves them; one leaves a ring, and one goes in first.
pub agrees_else : (g : ℕ → ℕ) (m : ℕ) (xs : List ℕ) (b v : ℕ) → elem b (m ∷ xs) ≡ false → Agrees g m xs → Agrees (update g b v) m xs
agrees_else g m xs b v off agrees c e = rw (update_other g b v c (λ i. clash _ e (rw i off))) (agrees c e)

pub agrees_out : (g : ℕ → ℕ) (m x : ℕ) (ys zs : List ℕ) → once (ys ++ x ∷ zs) ≡ true → elem m (ys ++ x ∷ zs) ≡ false → Agrees g m (ys ++ x ∷ zs)
    → Agrees (update g (last_or m ys) (head_or m zs)) m (ys ++ zs)
agrees_out g m x ys zs ones off agrees c e =
    let b = last_or m ys in
    let other : c ≢ x = λ i. elim (elem_cases c m (ys ++ zs) e) [
      | inl k ↦ clash (elem m (ys ++ x ∷ zs)) (rw (sym k ∙ i) (elem_put x ys zs)) off
      | inr k ↦ clash (elem x (ys ++ zs)) (rw i at k) (rw (elem_append x ys zs, once_left x ys zs ones) (once_right x ys zs ones))
    ] in
    let it : elem c (m ∷ (ys ++ x ∷ zs)) ≡ true = elim (elem_cases c m (ys ++ zs) e) [
      | inl k ↦ rw k (elem_here m _)
      | inr k ↦ elem_tail c m _ (elem_past c x ys zs other ∙ k)
    ] in
    same_or_not c b
    (λ i. rw (i, update_same g b (head_or m zs)) (sym (follower_seam m (ys ++ zs) (once_out x ys zs ones) (elem_out m x ys zs off) ys zs refl)))
    (λ n. update_other g b (head_or m zs) c n ∙ agrees c it ∙ follower_else c x m ys zs other n)

pub agrees_first : (g : ℕ → ℕ) (m x : ℕ) (xs : List ℕ) → x ≢ m → Agrees g m xs → Agrees (update (update g x (g m)) m x) m (x ∷ xs)
unfolding head_or last_or elem
agrees_first g m x xs n agrees c e = same_or_not c m
    (λ i. rw (i, update_same (update g x (g m)) m x) (sym (follower_first m (x ∷ xs))))
    (λ i. update_other (update g x (g m)) m x c i ∙ same_or_not c x
    (λ k. rw (k, update_same g x (g m)) (agrees m (elem_here m xs) ∙ follower_first m xs ∙ sym (follower_in m x [] xs n refl)))
    (λ k. update_other g x (g m) c k ∙ agrees c (elem_tail c m xs (sym (elem_there c x xs k) ∙ sym (elem_there c m (x ∷ xs) i) ∙ e)) ∙ sym (follower_else c x m [] xs k i)))
