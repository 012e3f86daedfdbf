-- One page's CALC ring in a file, closed over what goes: what stays there, and its header, have the CALC NEXT of the ledger after the deletion.
use Prim.Native.Nat.{ℕ, ◌*◌, ◌%◌, ◌≤◌, ◌<◌}
use mathlib.Core.Path.{◌≡◌, refl, sym, ◌∙◌}
use mathlib.Core.Logic.{◌≢◌, inl, inr}
use mathlib.Core.Bool.{true, false, not}
use mathlib.Core.List.{List, ◌∷◌, ◌++◌}
use native.Mathlib.Omega.{arith}
use native.Mathlib.Nat.{mod-eq_of_lt}
use Rattle.ledger.specs.Numbers.{elem, keep, once, head_or, follower, update}
use Rattle.ledger.specs.Table.{pages, Accepted}
use Rattle.ledger.specs.Pages.{Ledger, home_of, round, calc_next_of, calc_next, head_next, file_with, Sound}
use Rattle.ledger.specs.Calls.{goes, deleted}
use Rattle.ledger.proofs.Lists.Tests.{same_or_not, clash, update_same, update_other}
use Rattle.ledger.proofs.Lists.Members.{elem_here, elem_tail, elem_cases, elem_put}
use Rattle.ledger.proofs.Lists.Sieves.{keep_same}
use Rattle.ledger.proofs.Lists.Pairs.{once_left, once_cons}
use Rattle.ledger.proofs.Lists.Followers.{follower_first, follower_in}
use Rattle.ledger.proofs.Ledger.Calcs.{head_no_member}
use Rattle.ledger.proofs.Delete.Deleted.{stays, home_left, deleted_calc}
use Rattle.model.specs.Reads.{calc_next_in, head_next_in}
use Rattle.model.specs.Writes.{calc_put}
use Rattle.place_laws.proofs.With.{Small, own_held, held_small, with_calc, with_head}
use Rattle.place_laws.proofs.Written.{small_calc, small_head, calc_record_put, calc_head_put}
use Rattle.ring_model.specs.Rings.{ring_fuel}
use Rattle.ring_laws.proofs.Rounds.{calc_few}
use Rattle.delete_model.specs.Marks.{goes_in}
use Rattle.delete_model.specs.Closing.{calc_closed}
use Rattle.delete_laws.proofs.Closed.{nexts, priors, nexts_in, rest_once, rest_member, close_from_lem}

module _ (t f : List ℕ) (l : Ledger) (a : Accepted t) (s : Sound t f l) (x : ℕ) (k : List ℕ) (same : (y : ℕ) → goes_in k y ≡ goes t l x y) (nx pr : ℕ → ℕ → ℕ) where
  -- file g is l's, with links cn and hd in its CALC rings
  pub record Homed (g : List ℕ) (cn hd : ℕ → ℕ) : Type 0 where
    pub file : g ≡ file_with t l nx pr cn hd
    pub small : Small t l nx pr cn hd

  -- The ring of page p.
  module _ (p : ℕ) (lo : 1 ≤ p) (hi : p ≤ pages t) (CN HD : ℕ → ℕ) where
    abbrev ring : List ℕ
    ring = l.calc p

    -- it has links cx, every other those that it had
    record InRing (g : List ℕ) (cx none : ℕ → ℕ) : Type 0 where
      cn : ℕ → ℕ
      hd : ℕ → ℕ
      homed : Homed g cn hd
      calc_here : (y : ℕ) → elem y ring ≡ true → cn y ≡ cx y
      head_here : hd p ≡ cx (64 * p)
      calc_there : (y : ℕ) → elem y ring ≡ false → cn y ≡ CN y
      head_there : (q : ℕ) → q ≢ p → hd q ≡ HD q

    head_out : elem (64 * p) ring ≡ false
    head_out = head_no_member t l s.formed p

    no_head : (y : ℕ) → elem y ring ≡ true → y ≢ 64 * p
    no_head y e q = clash _ (rw q at e) head_out

    reads : (g : List ℕ) (cx none : ℕ → ℕ) → InRing g cx none → (y : ℕ) → elem y ring ≡ true → calc_next_in t g y ≡ cx y
    reads g cx none r y e =
        let o = s.formed.calc_own p y e in
        rw r.homed.file (with_calc t l nx pr r.cn r.hd a (own_held t l s.formed) r.homed.small y o.0 o.1) ∙ r.calc_here y e

    code_small : (c : ℕ) → elem c (64 * p ∷ ring) ≡ true → c < 16777216
    code_small c e = elim (elem_cases c (64 * p) ring e) [
      | inl q ↦ omega (arith, a.page_count.1)
      | inr q ↦ held_small t l a (own_held t l s.formed) c (s.formed.calc_own p c q).0
    ]

    joins : (g : List ℕ) (cx none : ℕ → ℕ) → InRing g cx none → (b c : ℕ) → elem b (64 * p ∷ ring) ≡ true → elem c (64 * p ∷ ring) ≡ true
        → InRing (calc_put t g b c) (update cx b c) (update none c b)
    joins g cx none r b c i h =
        let held = own_held t l s.formed in
        let z = r.homed.small in
        elim (elem_cases b (64 * p) ring i) [
          | inl q ↦ record {
            cn = r.cn;
            hd = update r.hd p c;
            homed = record {
              file = rw (q, r.homed.file) (calc_head_put t l nx pr r.cn r.hd a held z p c lo hi);
              small = small_head t l nx pr r.cn r.hd z c (code_small c h) p;
            };
            calc_here = λ y e. r.calc_here y e ∙ rw q (sym (update_other cx (64 * p) c y (no_head y e)));
            head_here = update_same r.hd p c ∙ rw q (sym (update_same cx (64 * p) c));
            calc_there = r.calc_there;
            head_there = λ u n. update_other r.hd p c u n ∙ r.head_there u n;
          }
          | inr q ↦ (let o = s.formed.calc_own p b q in record {
            cn = update r.cn b c;
            hd = r.hd;
            homed = record {
              file = rw r.homed.file (calc_record_put t l nx pr r.cn r.hd a held z b c o.0 o.1);
              small = small_calc t l nx pr r.cn r.hd z c (code_small c h) b;
            };
            calc_here = λ y e. same_or_not y b
                (λ u. rw (u, update_same r.cn b c) (sym (update_same cx b c)))
                (λ n. rw (update_other r.cn b c y n, update_other cx b c y n) (r.calc_here y e));
            head_here = r.head_here ∙ sym (update_other cx b c (64 * p) (λ u. no_head b q (sym u)));
            calc_there = λ y e. update_other r.cn b c y (λ u. clash _ q (rw u at e)) ∙ r.calc_there y e;
            head_there = r.head_there;
          })
        ]

    -- what a closed ring is: those in it that stay, and its header, have the links of the ledger after the deletion, and no other link is changed
    pub record Shut (g : List ℕ) : Type 0 where
      pub cn : ℕ → ℕ
      pub hd : ℕ → ℕ
      pub homed : Homed g cn hd
      pub calc_in : (y : ℕ) → elem y ring ≡ true → goes t l x y ≡ false → cn y ≡ calc_next t (deleted t l x) y
      pub head_in : hd p ≡ head_next t (deleted t l x) p
      pub calc_else : (y : ℕ) → elem y ring ≡ false → cn y ≡ CN y
      pub head_else : (q : ℕ) → q ≢ p → hd q ≡ HD q

    -- those that stay
    abbrev rest : List ℕ
    rest = keep (λ y. not (goes_in k y)) ring

    rest_is : (deleted t l x).calc p ≡ rest
    rest_is = deleted_calc t l x p ∙ keep_same (stays t l x) (λ y. not (goes_in k y)) ring (λ y e. rw (same y))

    next_left : (y : ℕ) → calc_next_of t (deleted t l x) p y ≡ follower y (round (64 * p) rest)
    unfolding calc_next_of
    next_left y = rw rest_is

    shut : (g : List ℕ) (start : ℕ → ℕ) → InRing g (nexts (64 * p) (64 * p) rest start) (priors (64 * p) (64 * p) rest start) → Shut g
    unfolding round head_next
    shut g start r =
        let m : ℕ = 64 * p in
        let ones : once (m ∷ rest) ≡ true = rest_once (λ y. not (goes_in k y)) m ring head_out (s.formed.calc_once p) in
        record {
          cn = r.cn;
          hd = r.hd;
          homed = r.homed;
          calc_in = λ y e g.
              let i : elem y (m ∷ rest) ≡ true = rest_member (λ y. not (goes_in k y)) m ring y (elem_tail y m ring e) (rw (same y, g)) in
              let at : home_of t (deleted t l x) y ≡ p = home_left t l x y g ∙ (s.formed.calc_own p y e).2 in
              rw at (r.calc_here y e ∙ nexts_in m m rest start y ones i ∙ sym (next_left y));
          head_in = r.head_here ∙ nexts_in m m rest start m ones (elem_here m rest) ∙ sym (next_left m);
          calc_else = r.calc_there;
          head_else = r.head_there;
        }

    -- the ring closed, where the file has l's links in it
    pub ring_shut : (g : List ℕ) → Homed g CN HD → ((y : ℕ) → elem y ring ≡ true → CN y ≡ calc_next t l y) → HD p ≡ head_next t l p → Shut (calc_closed t g k p)
    unfolding calc_closed calc_next_of head_next
    ring_shut g z own top =
        let m : ℕ = 64 * p in
        let start : ℕ → ℕ = update CN m (HD p) in
        let is : InRing g start start = record {
          cn = CN;
          hd = HD;
          homed = z;
          calc_here = λ y e. sym (update_other CN m (HD p) y (no_head y e));
          head_here = sym (update_same CN m (HD p));
          calc_there = λ y e. refl;
          head_there = λ q n. refl;
        } in
        let along : (ys : List ℕ) (y : ℕ) (ws : List ℕ) → ring ≡ ys ++ y ∷ ws → start y ≡ head_or m ws =
        λ ys y ws e.
        let i : elem y ring ≡ true = rw e (elem_put y ys ws) in
        let o : once (ys ++ y ∷ ws) ≡ true = rw e at (s.formed.calc_once p) in
        update_other CN m (HD p) y (no_head y i) ∙ own y i
        ∙ rw ((s.formed.calc_own p y i).2, e) (follower_in m y ys ws (no_head y i) (once_left y ys ws o)) in
        let first : head_next_in g p ≡ head_or m ring =
        rw z.file (with_head t l nx pr CN HD a (own_held t l s.formed) z.small p lo hi) ∙ top ∙ follower_first m ring in
        let small : p % 65536 ≡ p = mod-eq_of_lt (omega (arith, a.page_count.1)) in
        shut _ start (rw (small, first)
        (close_from_lem (λ g at. calc_next_in t g at) (λ g b a. calc_put t g b a) k m ring InRing reads joins
        ring g start start m ring_fuel is (λ y e. e) (elem_here m ring) along head_out (once_cons m ring head_out (s.formed.calc_once p)) (calc_few t l a s.formed p)))
