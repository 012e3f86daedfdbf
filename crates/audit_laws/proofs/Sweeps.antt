-- Walks one after another over the same marks: they all come home exactly where there are rings that share no member, and what is marked
-- then is what lies in one of them. `ring c` is what c's walk meets, `Way c` says that it leads home.
use Prim.Native.Nat.{ℕ, ◌*◌, ◌<◌}
use mathlib.Core.Path.{◌≡◌, refl, sym, ◌∙◌, ap}
use mathlib.Core.Logic.{◌≢◌, ◌↔◌, inl, inr}
use mathlib.Core.Bool.{Bool, true, false, cond, not, false≢true}
use mathlib.Core.List.{List, [], ◌∷◌, ◌++◌}
use lib.Dec.{eqb}
use lib.ListN.{get_or}
use borrow.Author.Tests.{eqb-true, eqb-false}
use Rattle.ledger.specs.Numbers.{elem, any, once, concat_of, first_of}
use Rattle.ledger.specs.Table.{pages, Accepted}
use Rattle.ledger.specs.Pages.{codes}
use Rattle.ledger.proofs.Lists.Tests.{by_cases, clash, not_true_false}
use Rattle.ledger.proofs.Lists.Members.{elem_nil, elem_here, elem_tail, elem_cases, elem_put, elem_concat_of}
use Rattle.ledger.proofs.Lists.Pairs.{once_head, once_tail}
use Rattle.ledger.proofs.Lists.Searches.{first_of_passes}
use Rattle.audit_model.specs.Marks.{Walk, no_marks, sweep_on}
use Rattle.audit_laws.proofs.Firsts.{none_first, first_lowest}
use Rattle.audit_laws.proofs.Marked.{mark_all, Clear, marks_join, marks_else, marks_member, no_marks_lem, marks_room, codes_nonzero, code_within}

-- what each walk does on its own, and that two rings share no member
pub record Walks (walk : ℕ → List ℕ → Walk) (ring : ℕ → List ℕ) (Way : ℕ → Type 0) (cs : List ℕ) : Type 0 where
  pub comes : (c : ℕ) (g : List ℕ) → elem c cs ≡ true → (walk c g).0 ≡ true → Way c × ((walk c g).1 ≡ mark_all (ring c) g)
  pub goes : (c : ℕ) (g : List ℕ) → elem c cs ≡ true → Way c → Clear g (ring c) → (walk c g).0 ≡ true
  pub apart : (c d x : ℕ) → elem c cs ≡ true → elem d cs ≡ true → Way c → Way d → elem x (ring c) ≡ true → elem x (ring d) ≡ true → c ≡ d

-- a list up to the first member whose walk does not come home
pub record Lost (Way : ℕ → Type 0) (cs : List ℕ) (x : ℕ) : Type 0 where
  pub before : List ℕ
  pub after : List ℕ
  pub whole : cs ≡ before ++ x ∷ after
  pub home : (c : ℕ) → elem c before ≡ true → Way c
  pub astray : Way x → ⊥

pub lost_member : (Way : ℕ → Type 0) (cs : List ℕ) (x : ℕ) → Lost Way cs x → elem x cs ≡ true
lost_member Way cs x l = rw l.whole (elem_put x l.before l.after)

-- the lowest code that is to be met and lies in no ring
pub record Stray (t : List ℕ) (own lies : ℕ → Bool) (x : ℕ) : Type 0 where
  pub to_be_met : own x ≡ true
  pub outside : lies x ≡ false
  pub lowest : (y : ℕ) → elem y (codes t) ≡ true → own y ≡ true → y < x → lies y ≡ true

module _ (walk : ℕ → List ℕ → Walk) (ring : ℕ → List ℕ) (Way : ℕ → Type 0) where
  walks_tail : (c : ℕ) (cs : List ℕ) → Walks walk ring Way (c ∷ cs) → Walks walk ring Way cs
  walks_tail c cs w = record {
    comes = λ d g i. w.comes d g (elem_tail d c cs i);
    goes = λ d g i. w.goes d g (elem_tail d c cs i);
    apart = λ d e x i j. w.apart d e x (elem_tail d c cs i) (elem_tail e c cs j);
  }

  pub sweep_came : (cs g : List ℕ) → Walks walk ring Way cs → elem 0 cs ≡ false → (sweep_on walk cs g).0 ≡ 0
      → ((c : ℕ) → elem c cs ≡ true → Way c) × ((sweep_on walk cs g).1 ≡ mark_all (concat_of ring cs) g)
  unfolding sweep_on concat_of
  sweep_came [] g w z e = (λ c i. elem_nil c i, refl)
  sweep_came (c ∷ cs) g w z e = by_cases (walk c g).0
      (λ h.
      let here = w.comes c g (elem_here c cs) h in
      let later : elem 0 cs ≡ false = not_true_false _ (λ i. clash _ (elem_tail 0 c cs i) z) in
      let (ways, marks) = sweep_came cs (walk c g).1 (walks_tail c cs w) later (rw h at e) in
      let turn : (sweep_on walk (c ∷ cs) g).1 ≡ (sweep_on walk cs (walk c g).1).1 = rw h in (
        λ d i. elim (elem_cases d c cs i) [ inl q ↦ rw q here.0 | inr q ↦ ways d q ],
        turn ∙ marks ∙ ap (mark_all (concat_of ring cs)) here.1 ∙ sym (marks_join (ring c) (concat_of ring cs) g),
      ))
      (λ h. let q : c ≡ 0 = rw h at e in clash _ (elem_here c cs) (rw (← q) at z))

  pub sweep_lost : (cs g : List ℕ) → Walks walk ring Way cs → once cs ≡ true → ((c : ℕ) → elem c cs ≡ true → Way c → Clear g (ring c))
      → (sweep_on walk cs g).0 ≢ 0 → Lost Way cs (sweep_on walk cs g).0
  unfolding sweep_on
  sweep_lost [] g w o clear e = absurd (e refl)
  sweep_lost (c ∷ cs) g w o clear e = by_cases (walk c g).0
      (λ h.
      let (way, marks) = w.comes c g (elem_here c cs) h in
      let clear' : (d : ℕ) → elem d cs ≡ true → Way d → Clear (walk c g).1 (ring d) = λ d i v y q.
      let unmet : elem y (ring c) ≡ false = not_true_false _ (λ p.
      let same = w.apart c d y (elem_here c cs) (elem_tail d c cs i) way v p q in
      clash _ i (rw same at (once_head c cs o))) in
      ap (λ (k : List ℕ). get_or k y 0) marks ∙ marks_else (ring c) g y unmet ∙ clear d (elem_tail d c cs i) v y q in
      let turn : (sweep_on walk (c ∷ cs) g).0 ≡ (sweep_on walk cs (walk c g).1).0 = rw h in
      let l = sweep_lost cs (walk c g).1 (walks_tail c cs w) (once_tail c cs o) clear' (rw h at e) in
      rw turn (lost_more (sweep_on walk cs (walk c g).1).0 way l))
      (λ h.
      let turn : (sweep_on walk (c ∷ cs) g).0 ≡ c = rw h in
      let l : Lost Way (c ∷ cs) c = record {
        before = [];
        after = cs;
        whole = refl;
        home = λ d i. elem_nil d i;
        astray = λ v. clash _ (w.goes c g (elem_here c cs) v (clear c (elem_here c cs) v)) h;
      } in
      rw turn l)
    where
      lost_more : (x : ℕ) → Way c → Lost Way cs x → Lost Way (c ∷ cs) x
      lost_more x v l = record {
        before = c ∷ l.before;
        after = l.after;
        whole = ap (λ (k : List ℕ). c ∷ k) l.whole;
        home = λ d i. elim (elem_cases d c l.before i) [ inl q ↦ rw q v | inr q ↦ l.home d q ];
        astray = l.astray;
      }

  -- from no marks
  module _ (cs : List ℕ) (w : Walks walk ring Way cs) (nonzero : elem 0 cs ≡ false) (ones : once cs ≡ true) where
    pub sweep_fault : (sweep_on walk cs no_marks).0 ≢ 0 → Lost Way cs (sweep_on walk cs no_marks).0
    sweep_fault e = sweep_lost cs no_marks w ones (λ c i v y q. no_marks_lem y) e

    pub sweep_exactly : ((sweep_on walk cs no_marks).0 ≡ 0) ↔ ((c : ℕ) → elem c cs ≡ true → Way c)
    sweep_exactly = (
      λ e. (sweep_came cs no_marks w nonzero e).0,
      λ ways. by_cases (eqb (sweep_on walk cs no_marks).0 0)
          (λ e. eqb-true _ _ e)
          (λ e.
          let l = sweep_fault (eqb-false _ _ e) in
          absurd (l.astray (ways _ (lost_member Way cs _ l)))),
    )

    swept_unmet : (sweep_on walk cs no_marks).0 ≡ 0 → (y : ℕ) → y < 8256
        → eqb (get_or (sweep_on walk cs no_marks).1 y 0) 0 ≡ not (any (λ c. elem y (ring c)) cs)
    swept_unmet e y lt =
        let marks = (sweep_came cs no_marks w nonzero e).1 in
        rw (← elem_concat_of ring y cs)
        (by_cases (elem y (concat_of ring cs))
        (λ i. rw (marks, i, marks_member (concat_of ring cs) no_marks y i (rw marks_room lt)))
        (λ i. rw (marks, i, marks_else (concat_of ring cs) no_marks y i, no_marks_lem y)))

    -- whether a code lies in a ring; and whether one that is to be met bears no mark
    abbrev lies : ℕ → Bool
    lies x = any (λ c. elem x (ring c)) cs

    abbrev unmet : (ℕ → Bool) → ℕ → Bool
    unmet own x = cond (eqb (get_or (sweep_on walk cs no_marks).1 x 0) 0) (own x) false

    module _ (t : List ℕ) (a : Accepted t) (own : ℕ → Bool) (home : (sweep_on walk cs no_marks).0 ≡ 0) where
      met_lies : (x : ℕ) → elem x (codes t) ≡ true → own x ≡ true → unmet own x ≡ false → lies x ≡ true
      met_lies x c o e = by_cases (lies x) (λ q. q) (λ q. clash _ o (rw (swept_unmet home x (code_within t a x c).1, q) at e))

      -- none is left exactly where each lies in a ring
      pub all_met : (first_of (unmet own) (codes t) ≡ 0) ↔ ((x : ℕ) → elem x (codes t) ≡ true → own x ≡ true → lies x ≡ true)
      all_met = (
        λ z x c o. met_lies x c o ((none_first (unmet own) (codes t) (codes_nonzero t)).0 z x c),
        λ met. (none_first (unmet own) (codes t) (codes_nonzero t)).1 (λ x c.
            rw (swept_unmet home x (code_within t a x c).1)
            (by_cases (own x)
            (λ o. rw (met x c o))
            (λ o. by_cases (lies x) (λ q. rw q) (λ q. rw (q, o))))),
      )

      -- else the lowest that lies in none
      pub first_unmet : first_of (unmet own) (codes t) ≢ 0 → Stray t own lies (first_of (unmet own) (codes t))
      unfolding codes
      first_unmet e =
          let x = first_of (unmet own) (codes t) in
          let (c, u) = first_of_passes (unmet own) (codes t) e in
          let v : cond (not (lies x)) (own x) false ≡ true = rw (swept_unmet home x (code_within t a x c).1) at u in
          let out : lies x ≡ false = by_cases (lies x) (λ q. absurd (false≢true (rw q at v))) (λ q. q) in
          record {
            to_be_met = rw out at v;
            outside = out;
            lowest = λ y k o lt. met_lies y k o (first_lowest (unmet own) 64 (64 * pages t) e y (code_within t a y k).0 lt);
          }
