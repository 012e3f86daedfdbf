-- Recovery does what the order of a journal's lines tells.
use Prim.Native.Nat.{ℕ, ◌*◌}
use mathlib.Core.Path.{◌≡◌, refl, ◌∙◌, ap}
use mathlib.Core.Logic.{◌⊎◌, inl, inr}
use mathlib.Core.List.{List, [], ◌∷◌, ◌++◌, append_assoc, append-nil}
use lib.ListN.{length}
use lib.Dec.{ltb}
use borrow.Author.Tests.{eq-eqb, ne_eqb, lt-ltb, ltb-true}
use Rattle.ledger.proofs.Lists.Tests.{by_cases}
use Rattle.ledger.specs.Journal.Writes.{Write, store, clear, Disk, performed}
use Rattle.ledger.specs.Journal.Recovery.{Line, image, ready, done, malformed, lines_said, Group, finished, imaged, readied, wrong, next_group, group_from, last_group, restore, recovery_of, recovery}
use Rattle.ledger.specs.Journal.Order.{Rising, InOrder, Recovers}

-- lines in order are read so
read_rising : {q : ℕ} {is : List Line} {ws : List Write} (back : List Write) (ls : List Line) → Rising q is ws
    → (last : ℕ) × (group_from (imaged q back) (is ++ ls) ≡ group_from (imaged last (back ++ ws)) ls)
unfolding group_from
read_rising {q} back ls Rising.none = (q, rw append-nil)
read_rising {q} back ls (Rising.next {p = p} {bs = bs} {ls = is} lt r) =
    let step : next_group (imaged q back) (image p bs) ≡ imaged p (back ++ (store p bs ∷ [])) = rw (lt-ltb q p lt) in
    let (last, e) = read_rising (back ++ (store p bs ∷ [])) ls r in
    (last, ap (λ (g : Group). group_from g (is ++ ls)) step ∙ e ∙ rw append_assoc)

read_in_order : {ls : List Line} {back : List Write} → InOrder ls back → recovery_of (group_from finished ls) ≡ restore (back ++ (clear ∷ []))
unfolding group_from
read_in_order InOrder.none = refl
read_in_order (InOrder.images {p = p} {bs = bs} {is = is} r) =
    let (last, e) = read_rising (store p bs ∷ []) [] r in
    rw (← append-nil is, e)
read_in_order (InOrder.readied {p = p} {bs = bs} r) =
    let (last, e) = read_rising (store p bs ∷ []) (ready ∷ []) r in
    rw e
read_in_order (InOrder.group {p = p} {bs = bs} {ls = ls} r o) =
    let (last, e) = read_rising (store p bs ∷ []) (ready ∷ done ∷ ls) r in
    rw e (read_in_order o)

-- nothing that follows makes a wrong line right
wrong_stays : (ls : List Line) → group_from wrong ls ≡ wrong
unfolding group_from
wrong_stays [] = refl
wrong_stays (image p bs ∷ ls) = wrong_stays ls
wrong_stays (ready ∷ ls) = wrong_stays ls
wrong_stays (done ∷ ls) = wrong_stays ls
wrong_stays (malformed ∷ ls) = wrong_stays ls

-- lines that may stand after a group's ready, and after its images up to page q
abbrev Closes : List Line → Type 0
Closes ls = (ls ≡ []) ⊎ ((rest : List Line) × (back : List Write) × (ls ≡ done ∷ rest) × InOrder rest back)

record Follows (q : ℕ) (ls : List Line) : Type 0 where
  more : List Line
  rest : List Line
  ws : List Write
  splits : ls ≡ more ++ rest
  rising : Rising q more ws
  ends : (rest ≡ []) ⊎ ((after : List Line) × (rest ≡ ready ∷ after) × Closes after)

-- lines are in order, or some line is wrong
record Told (ls : List Line) : Type 0 where
  start : (group_from finished ls ≡ wrong) ⊎ ((back : List Write) × InOrder ls back)
  mid : (q : ℕ) (back : List Write) → (group_from (imaged q back) ls ≡ wrong) ⊎ Follows q ls
  end : (back : List Write) → (group_from (readied back) ls ≡ wrong) ⊎ Closes ls

followed : (p : ℕ) (bs : List ℕ) (ls : List Line) → Follows p ls → (back : List Write) × InOrder (image p bs ∷ ls) back
followed p bs ls f = rw f.splits (go f.rest f.ends)
  where
    go : (rest : List Line) → (rest ≡ []) ⊎ ((after : List Line) × (rest ≡ ready ∷ after) × Closes after) → (back : List Write) × InOrder (image p bs ∷ f.more ++ rest) back
    go rest (inl e) = ([], rw (e, append-nil f.more) (InOrder.images f.rising))
    go rest (inr (after, e, inl c)) = (store p bs ∷ f.ws, rw (e, c) (InOrder.readied f.rising))
    go rest (inr (after, e, inr (more, back, c, o))) = (back, rw (e, c) (InOrder.group f.rising o))

told : (ls : List Line) → Told ls
unfolding group_from
told [] = record {
  start = inr ([], InOrder.none);
  mid = λ q back. inr (record { more = []; rest = []; ws = []; splits = refl; rising = Rising.none; ends = inl refl });
  end = λ back. inr (inl refl);
}
told (image p bs ∷ ls) =
    let t = told ls in
    record {
      start =
          elim (t.mid p (store p bs ∷ [])) [
            | inl e ↦ inl e
            | inr f ↦ inr (followed p bs ls f)
          ];
      mid = λ q back. by_cases (ltb q p)
          (λ lt. rw lt
          (elim (t.mid p (back ++ (store p bs ∷ []))) [
            | inl e ↦ inl e
            | inr f ↦
                inr (record {
                  more = image p bs ∷ f.more;
                  rest = f.rest;
                  ws = store p bs ∷ f.ws;
                  splits = ap (λ (l : List Line). image p bs ∷ l) f.splits;
                  rising = Rising.next (ltb-true q p lt) f.rising;
                  ends = f.ends;
                })
          ]))
          (λ ge. rw ge (inl (wrong_stays ls)));
      end = λ back. inl (wrong_stays ls);
    }
told (ready ∷ ls) =
    let t = told ls in
    record {
      start = inl (wrong_stays ls);
      mid = λ q back.
          elim (t.end back) [
            | inl e ↦ inl e
            | inr c ↦ inr (record { more = []; rest = ready ∷ ls; ws = []; splits = refl; rising = Rising.none; ends = inr (ls, refl, c) })
          ];
      end = λ back. inl (wrong_stays ls);
    }
told (done ∷ ls) =
    let t = told ls in
    record {
      start = inl (wrong_stays ls);
      mid = λ q back. inl (wrong_stays ls);
      end = λ back.
          elim t.start [
            | inl e ↦ inl e
            | inr o ↦ inr (inr (ls, o.0, refl, o.1))
          ];
    }
told (malformed ∷ ls) = record { start = inl (wrong_stays ls); mid = λ q back. inl (wrong_stays ls); end = λ back. inl (wrong_stays ls) }

-- refusals exactly where due, and what is put back
pub recovers : (n : ℕ) (d : Disk) → Recovers n d
unfolding recovery last_group
recovers n d = record {
  size_refused = λ ne. rw (ne_eqb (length d.file) (512 * n) ne);
  order_refused = λ e bad. rw (eq-eqb (length d.file) (512 * n) e)
      (elim (told (lines_said n d.journal)).start [
        | inl w ↦ rw w
        | inr o ↦ absurd (bad o.0 o.1)
      ]);
  unchanged = λ number e. rw e (unfold performed in refl);
  put_back = λ e back o. rw (eq-eqb (length d.file) (512 * n) e) (read_in_order o);
}
