-- A new data file and its table are put in place whole or not at all: after a cut anywhere, and after cuts of the starts that follow.
use Prim.Native.Nat.{ℕ, zero, suc, ◌-◌}
use mathlib.Core.Path.{◌≡◌, refl, sym, ◌∙◌, ap}
use mathlib.Core.Logic.{inl, inr}
use mathlib.Core.Bool.{true, false}
use mathlib.Core.List.{List, [], ◌∷◌, ◌++◌, append-nil}
use native.Mathlib.Omega.{arith}
use lib.ListN.{length, take, length-append}
use lib.Seq.{take_at}
use lib.Dec.{eqb}
use borrow.Author.Tests.{eqb-false, ne_eqb}
use Rattle.ledger.specs.Numbers.{elem}
use Rattle.ledger.proofs.Lists.Tests.{by_cases, neither}
use Rattle.ledger.specs.Journal.Fresh.{Place, place, Put, whole, rename, puts, puts_of, Cut, ended, line_in, start_puts, started, OneOf}

-- a line with its line end is whole and is read back; the first bytes of a line are not
ended_line : (l : List ℕ) → ended (l ++ (10 ∷ [])) ≡ true
unfolding ended
ended_line [] = refl
ended_line (c ∷ []) = refl
ended_line (c ∷ d ∷ cs) = ended_line (d ∷ cs)

line_read_lem : (l : List ℕ) → line_in (l ++ (10 ∷ [])) ≡ l
unfolding line_in
line_read_lem l =
    let e : length l ≡ length (l ++ (10 ∷ [])) - 1 = rw (length-append l (10 ∷ [])) (omega arith) in
    take_at l (10 ∷ []) (length (l ++ (10 ∷ [])) - 1) e

not_ended : (l : List ℕ) → elem 10 l ≡ false → ended l ≡ false
unfolding ended elem
not_ended [] h = refl
not_ended (c ∷ []) h = let (other, rest) = neither (eqb 10 c) false h in ne_eqb c 10 (λ e. eqb-false 10 c other (sym e))
not_ended (c ∷ d ∷ cs) h = let (other, rest) = neither (eqb 10 c) (elem 10 (d ∷ cs)) h in not_ended (d ∷ cs) rest

first_plain : (l : List ℕ) (k : ℕ) → elem 10 l ≡ false → elem 10 (take k l) ≡ false
unfolding elem
first_plain l zero h = refl
first_plain [] (suc k) h = refl
first_plain (c ∷ cs) (suc k) h = let (other, rest) = neither (eqb 10 c) (elem 10 cs) h in rw (other, first_plain cs k rest)

-- where nothing is written, nothing is cut
some_cut : {ws : List Put} {p q : Place} → Cut ws p q → ws ≡ [] → ⊥
some_cut (Cut.here {ws = ws} h) e = let z : suc (length ws) ≡ 0 = ap (λ (ws : List Put). length ws) e in omega arith
some_cut (Cut.later {ws = ws} c) e = let z : suc (length ws) ≡ 0 = ap (λ (ws : List Put). length ws) e in omega arith

-- what a start leaves
module _ (fresh : List ℕ → List ℕ) where
  starts_old : (p : Place) → ended p.next ≡ false → started fresh p ≡ p
  unfolding start_puts puts
  starts_old p e = rw e

  starts_new : (f t l : List ℕ) → started fresh (place f t (l ++ (10 ∷ []))) ≡ place (fresh l) (l ++ (10 ∷ [])) []
  unfolding start_puts puts
  starts_new f t l = rw (ended_line l, line_read_lem l)

  -- all done; and a cut anywhere, where what there was of a new line before was not whole
  pub put_whole : (l : List ℕ) (p : Place) → puts (puts_of fresh l) p ≡ place (fresh l) (l ++ (10 ∷ [])) []
  unfolding puts
  put_whole l p = refl

  module _ (l : List ℕ) (plain : elem 10 l ≡ false) (p : Place) (old : ended p.next ≡ false) where
    still : (q : Place) (n : List ℕ) → q ≡ place p.file p.table n → ended n ≡ false → OneOf fresh l p (started fresh q)
    still q n is e = rw (is, starts_old (place p.file p.table n) e) (inl (refl, refl, e))

    pub put_survives : (q : Place) → Cut (puts_of fresh l) p q → OneOf fresh l p (started fresh q)
    put_survives q (Cut.here (inl is)) = still q p.next is old
    put_survives q (Cut.here (inr is)) = still q [] is (unfold ended in refl)
    put_survives q (Cut.later (Cut.here (k, is))) = still q (take k l) is (not_ended (take k l) (first_plain l k plain))
    put_survives q (Cut.later (Cut.later (Cut.here (zero, is)))) = still q l (is ∙ rw (append-nil l)) (not_ended l plain)
    put_survives q (Cut.later (Cut.later (Cut.here (suc zero, is)))) = inr (rw is (starts_new p.file p.table l))
    put_survives q (Cut.later (Cut.later (Cut.here (suc (suc k), is)))) = inr (rw is (starts_new p.file p.table l))
    put_survives q (Cut.later (Cut.later (Cut.later (Cut.here (g, is))))) = inr (rw is (starts_new g p.table l))
    put_survives q (Cut.later (Cut.later (Cut.later (Cut.later (Cut.here (inl is)))))) = inr (rw is (starts_new (fresh l) p.table l))
    put_survives q (Cut.later (Cut.later (Cut.later (Cut.later (Cut.here (inr is)))))) =
        inr (rw is (starts_old (place (fresh l) (l ++ (10 ∷ [])) []) (unfold ended in refl)))
    put_survives q (Cut.later (Cut.later (Cut.later (Cut.later (Cut.later c))))) = elim c [ ]

  -- a start cut anywhere: the next one leaves the same
  pub start_survives : (q r : Place) → Cut (start_puts fresh q) q r → started fresh r ≡ started fresh q
  start_survives q r c = by_cases (ended q.next) (λ e. new e (rw (puts_new e) at c)) (λ e. absurd (some_cut c (puts_old e)))
    where
      puts_new : ended q.next ≡ true → start_puts fresh q ≡ whole (fresh (line_in q.next)) ∷ rename ∷ []
      puts_new e = unfold start_puts in rw e

      puts_old : ended q.next ≡ false → start_puts fresh q ≡ []
      puts_old e = unfold start_puts in rw e

      left_new : ended q.next ≡ true → (f : List ℕ) → started fresh (place f q.table q.next) ≡ place (fresh (line_in q.next)) q.next []
      left_new e f = unfold start_puts puts in rw e

      new : ended q.next ≡ true → Cut (whole (fresh (line_in q.next)) ∷ rename ∷ []) q r → started fresh r ≡ started fresh q
      new e (Cut.here (g, is)) = rw is (left_new e g ∙ sym (left_new e q.file))
      new e (Cut.later (Cut.here (inl is))) = rw is (left_new e (fresh (line_in q.next)) ∙ sym (left_new e q.file))
      new e (Cut.later (Cut.here (inr is))) =
          rw is (starts_old (place (fresh (line_in q.next)) q.next []) (unfold ended in refl) ∙ sym (left_new e q.file))
      new e (Cut.later (Cut.later c)) = elim c [ ]
