-- STORE's record linked chain by chain: the links of each chain that is done are those of the ledger that STORE leaves.
use Prim.Native.Nat.{ℕ, zero, suc, ◌+◌, ◌%◌, ◌≤◌, ◌<◌}
use mathlib.Core.Path.{◌≡◌, refl, sym, ◌∙◌}
use mathlib.Core.Logic.{◌≢◌}
use mathlib.Core.Bool.{true, false, ◌&&◌}
use mathlib.Core.List.{List}
use native.Mathlib.Omega.{arith}
use native.Mathlib.Numerals.{add-one}
use lib.Dec.{ltb}
use borrow.Author.Tests.{lt-ltb, ltb-true}
use Rattle.ledger.specs.declared.Currency.{Currency}
use Rattle.ledger.specs.Numbers.{update}
use Rattle.ledger.specs.Table.{chains, is_detail, in_chain, Accepted}
use Rattle.ledger.specs.Pages.{code_of, record_size, Ledger, kind_at, next_of, prior_of, calc_next, head_next, file_with, Sound}
use Rattle.ledger.specs.Currency.{InForce}
use Rattle.ledger.specs.Calls.{stored}
use Rattle.ledger.proofs.Lists.Tests.{by_cases, same_or_not, both, clash, not_true_false, update_other}
use Rattle.place_laws.proofs.With.{Small}
use Rattle.place_laws.proofs.Written.{put2, put2_here, put2_chain, put2_code, linked_put, linked_small}
use Rattle.ring_laws.proofs.Rounds.{detail_in_chain}
use Rattle.ledger.specs.Bytes.{page_in}
use Rattle.model.specs.Room.{first_gap}
use Rattle.model.specs.Moves.{put_in}
use Rattle.act_model.specs.Storing.{lacks_current, gap_in, entered_in, entered_from, entered_all}
use Rattle.act_laws.proofs.Entered.{Fitting, cleared, new_kind, after_held, after_small, record_entered}
use Rattle.act_laws.proofs.Beside.{Beside, next_kept, prior_kept, beside}

-- what is written where x is linked between b and c are the links of the ledger where it is between them
module _ (t : List ℕ) (l l' : Ledger) (x j b c : ℕ) (w : Beside t l l' x j b c) (g : ℕ → ℕ → ℕ) where
  next_linked : ((y : ℕ) → y ≢ x → g j y ≡ next_of t l j y) → (y : ℕ) → put2 (put2 g j x c) j b x j y ≡ next_of t l' j y
  next_linked old y = same_or_not y b
      (λ e. rw (e, put2_here (put2 g j x c) j b x) (sym w.next_before))
      (λ ne. rw (put2_code (put2 g j x c) j b x j y ne) (same_or_not y x
      (λ e. rw (e, put2_here g j x c) (sym w.next_new))
      (λ nx. rw (put2_code g j x c j y nx) (old y nx ∙ sym (w.next_else y nx ne)))))

  prior_linked : ((y : ℕ) → y ≢ x → g j y ≡ prior_of t l j y) → (y : ℕ) → put2 (put2 g j c x) j x b j y ≡ prior_of t l' j y
  prior_linked old y = same_or_not y x
      (λ e. rw (e, put2_here (put2 g j c x) j x b) (sym w.prior_new))
      (λ nx. rw (put2_code (put2 g j c x) j x b j y nx) (same_or_not y c
      (λ e. rw (e, put2_here g j c x) (sym w.prior_after))
      (λ ne. rw (put2_code g j c x j y ne) (old y nx ∙ sym (w.prior_else y nx ne)))))

put_apart : (g : ℕ → ℕ → ℕ) (j x v y u i z : ℕ) → i ≢ j → put2 (put2 g j x v) j y u i z ≡ g i z
put_apart g j x v y u i z ne = put2_chain (put2 g j x v) j y u i z ne ∙ put2_chain g j x v i z ne

-- a file in which the chains before j are done: theirs are the links of l', the others' are those of l but for x
pub record Linked (t : List ℕ) (l l' : Ledger) (cn hd : ℕ → ℕ) (x j : ℕ) (f : List ℕ) : Type 0 where
  pub nx : ℕ → ℕ → ℕ
  pub pr : ℕ → ℕ → ℕ
  pub file : f ≡ file_with t l' nx pr cn hd
  pub small : Small t l' nx pr cn hd
  pub next_done : (i y : ℕ) → i < j → i < chains t → in_chain t i (kind_at l' y) ≡ true → nx i y ≡ next_of t l' i y
  pub prior_done : (i y : ℕ) → i < j → i < chains t → in_chain t i (kind_at l' y) ≡ true → pr i y ≡ prior_of t l' i y
  pub next_left : (i y : ℕ) → j ≤ i → y ≢ x → nx i y ≡ next_of t l i y
  pub prior_left : (i y : ℕ) → j ≤ i → y ≢ x → pr i y ≡ prior_of t l i y

module _ (t f : List ℕ) (l : Ledger) (a : Accepted t) (s : Sound t f l) (cur : Currency) (n : ℕ) (d : List ℕ) (p k : ℕ) (g : Fitting t l n d p k)
    (force : InForce t l cur) (none : lacks_current t cur n ≡ false) where
  abbrev x : ℕ
  x = code_of p k

  abbrev after : Ledger
  after = stored t l cur n d x

  -- CALC NEXT is not yet linked
  abbrev cn : ℕ → ℕ
  cn = update (calc_next t l) x 0

  abbrev hd : ℕ → ℕ
  hd = head_next t l

  abbrev Done : ℕ → List ℕ → Type 0
  Done = Linked t l after cn hd x

  -- a chain of the record's type
  linked_in_lem : (j : ℕ) (h : List ℕ) → Done j h → j < chains t → in_chain t j n ≡ true → Done (suc j) (entered_in t h n x j (gap_in t f cur n d x j))
  unfolding entered_in
  linked_in_lem j h w lt own =
      let b = (gap_in t f cur n d x j).before in
      let c = (gap_in t f cur n d x j).after in
      let q : Beside t l after x j b c = beside t f l a s cur n d p k g force none j lt own in
      let held = after_held t f l a s cur n d p k g in
      let self : in_chain t j (kind_at after x) ≡ true = rw (new_kind t f l a s cur n d p k g) own in
      record {
        nx = put2 (put2 w.nx j x c) j b x;
        pr = put2 (put2 w.pr j c x) j x b;
        file = rw (lt-ltb j (chains t) lt, own, w.file) (linked_put t after w.nx w.pr cn hd a held w.small j x b c lt self q.before_in_lem q.after_in);
        small = linked_small t after w.nx w.pr cn hd a held w.small j x b c lt self q.before_in_lem q.after_in;
        next_done = λ i y under inside e. same_or_not i j
            (λ r. rw r (next_linked t l after x j b c q w.nx (λ y ne. w.next_left j y (omega arith) ne) y))
            (λ r. put_apart w.nx j x c b x i y r ∙ w.next_done i y (omega arith) inside e);
        prior_done = λ i y under inside e. same_or_not i j
            (λ r. rw r (prior_linked t l after x j b c q w.pr (λ y ne. w.prior_left j y (omega arith) ne) y))
            (λ r. put_apart w.pr j c x x b i y r ∙ w.prior_done i y (omega arith) inside e);
        next_left = λ i y over ne. put_apart w.nx j x c b x i y (λ r. omega arith) ∙ w.next_left i y (omega arith) ne;
        prior_left = λ i y over ne. put_apart w.pr j c x x b i y (λ r. omega arith) ∙ w.prior_left i y (omega arith) ne;
      }

  -- another chain
  linked_out : (j : ℕ) (h : List ℕ) → Done j h → (ltb j (chains t) && in_chain t j n) ≡ false → Done (suc j) (entered_in t h n x j (gap_in t f cur n d x j))
  unfolding entered_in
  linked_out j h w out =
      let other : (i y : ℕ) → i ≡ j → i < chains t → in_chain t i (kind_at after y) ≡ true → y ≢ x = λ i y r inside e q.
      clash (ltb j (chains t) && in_chain t j n) (rw (lt-ltb j (chains t) (rw r at inside)) (rw (r, q, new_kind t f l a s cur n d p k g) at e)) out in
      let no-detail : (ltb j (chains t) && is_detail t j n) ≡ false = not_true_false _ (λ e.
      let (lt, low) = both (ltb j (chains t)) _ e in
      clash (ltb j (chains t) && in_chain t j n) (rw (lt, detail_in_chain t j n low)) out) in
      record {
        nx = w.nx;
        pr = w.pr;
        file = rw out w.file;
        small = w.small;
        next_done = λ i y under inside e. same_or_not i j
            (λ r. let ne = other i y r inside e in rw r (w.next_left j y (omega arith) ne ∙ sym (next_kept t f l a s cur n d p k g j no-detail y ne)))
            (λ r. w.next_done i y (omega arith) inside e);
        prior_done = λ i y under inside e. same_or_not i j
            (λ r. let ne = other i y r inside e in rw r (w.prior_left j y (omega arith) ne ∙ sym (prior_kept t f l a s cur n d p k g j no-detail y ne)))
            (λ r. w.prior_done i y (omega arith) inside e);
        next_left = λ i y over. w.next_left i y (omega arith);
        prior_left = λ i y over. w.prior_left i y (omega arith);
      }

  linked_step : (j : ℕ) (h : List ℕ) → Done j h → Done (suc j) (entered_in t h n x j (gap_in t f cur n d x j))
  linked_step j h w = by_cases (ltb j (chains t) && in_chain t j n)
      (λ e. let (lt, own) = both (ltb j (chains t)) (in_chain t j n) e in linked_in_lem j h w (ltb-true j (chains t) lt) own)
      (linked_out j h w)

  linked_from : (r j : ℕ) (h : List ℕ) → j + r ≡ 16 → Done j h → Done 16 (entered_from t h n x (gap_in t f cur n d x) j r)
  unfolding entered_from
  linked_from zero j h e w = let last : j ≡ 16 = omega arith in rw last at w
  linked_from (suc r) j h e w = linked_from r (j + 1) _ (omega arith) (rw (← add-one j) at (linked_step j h w))

  -- all chains
  pub all_linked : Done 16 (entered_all t (put_in f p (first_gap (page_in f p)) n (record_size t n % 65536) d) n x (gap_in t f cur n d x))
  unfolding entered_all cleared
  all_linked = linked_from 16 0 _ refl (record {
    nx = cleared (next_of t l) x;
    pr = cleared (prior_of t l) x;
    file = record_entered t f l a s cur n d p k g;
    small = after_small t f l a s cur n d p k g;
    next_done = λ i y under. absurd (omega arith);
    prior_done = λ i y under. absurd (omega arith);
    next_left = λ i y over ne. update_other (next_of t l i) x 0 y ne;
    prior_left = λ i y over ne. update_other (prior_of t l i) x 0 y ne;
  })
