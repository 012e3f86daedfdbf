-- The images of a readied group put back are recovery's stores, and their pages are told.
use Prim.Native.Nat.{ℕ, zero, suc, ◌+◌, ◌*◌, ◌-◌, ◌≤◌, ◌<◌}
use mathlib.Core.Path.{◌≡◌, refl, sym, ◌∙◌, ap}
use mathlib.Core.Logic.{◌≢◌}
use mathlib.Core.Bool.{Bool, true, false, cond}
use mathlib.Core.List.{List, [], ◌∷◌, ◌++◌, map, append_assoc, append-nil}
use native.Mathlib.Omega.{arith}
use lib.ListN.{length, get_or, drop, set, length-set, length-append, length-drop, drop_of_length-le}
use lib.Seq.{sets, take_at, drop-append-add, drop-drop, get_or-set_same, get_or-set_other, drop-set-lt}
use lib.Dec.{leb}
use borrow.Author.Tests.{eq-eqb, ne_eqb, lt-leb, leb-true, leb-false}
use Rattle.ledger.specs.Numbers.{elem, part}
use Rattle.ledger.specs.Player.{pairs_of}
use Rattle.ledger.proofs.Lists.Tests.{by_cases, same_or_not, eqb_same}
use Rattle.model.specs.Moves.{part_put}
use Rattle.ledger.specs.Journal.Writes.{Write, append, store, clear, disk, performed}
use Rattle.ledger.specs.Journal.Recovery.{lines_of, Line, image, ready, line_read, lines_said}
use Rattle.restore_model.specs.Walks.{next_image, page_put, back_from}
use Rattle.ledger.specs.Journal.Promises.{stored_in}
use Rattle.restore_model.proofs.Lines.{image_read, ready_read}
use Rattle.restore_model.proofs.Steps.{Backs}

-- the first complete line of a text
first_line : (start xs l : List ℕ) (ls : List (List ℕ)) → lines_of start xs ≡ l ∷ ls
    → (ys : List ℕ) × (cs : List ℕ) × (xs ≡ ys ++ (10 ∷ cs)) × (l ≡ start ++ ys) × (lines_of [] cs ≡ ls)
unfolding lines_of
first_line start [] l ls h = absurd (let z : ◌≡◌ {A = ℕ} 0 1 = cc in omega arith)
first_line start (c ∷ xs) l ls h = same_or_not c 10
    (λ is.
    let q : start ∷ lines_of [] xs ≡ l ∷ ls = rw (eq-eqb 10 c (sym is)) at h in
    let head : l ≡ start = cc in
    let tail : lines_of [] xs ≡ ls = cc in
    ([], xs, rw is, head ∙ sym (append-nil start), tail))
    (λ ne.
    let (ys, cs, e, f, g) = first_line (start ++ (c ∷ [])) xs l ls (rw (ne_eqb 10 c (λ q. ne (sym q))) at h) in
    (c ∷ ys, cs, ap (λ (t : List ℕ). c ∷ t) e, f ∙ append_assoc start (c ∷ []) ys, g))

-- a line in its place in the journal
record Stood (n : ℕ) (j : List ℕ) (at : ℕ) (x : Line) (ls : List Line) : Type 0 where
  text : List ℕ
  stands : text ≡ part at (length text) j
  says : line_read n (pairs_of text) ≡ x
  rest : lines_said n (drop (at + length text + 1) j) ≡ ls
  inside : at + length text < length j

module _ (n : ℕ) (j : List ℕ) (at : ℕ) (x : Line) (ls : List Line) where
  placed : (l cs : List ℕ) → drop at j ≡ l ++ (10 ∷ cs) → line_read n (pairs_of l) ≡ x → lines_said n cs ≡ ls → Stood n j at x ls
  placed l cs whole says rest =
      let more : at + length l + 1 ≡ at + (length l + 1) = omega arith in
      let tail : drop (at + length l + 1) j ≡ cs
      = rw more (sym (drop-drop (length l + 1) at j) ∙ rw whole (drop-append-add l (10 ∷ cs) 1)) in
      let size : length j - at ≡ length l + suc (length cs)
      = sym (length-drop at j) ∙ ap (λ (t : List ℕ). length t) whole ∙ length-append l (10 ∷ cs) in
      record { text = l; stands = rw whole (sym (take_at l (10 ∷ cs) (length l) refl)); says = says; rest = rw tail rest; inside = omega arith }

  stood : lines_said n (drop at j) ≡ x ∷ ls → Stood n j at x ls
  stood h = go (lines_of [] (drop at j)) refl h
    where
      go : (ts : List (List ℕ)) → lines_of [] (drop at j) ≡ ts → map (λ l. line_read n (pairs_of l)) ts ≡ x ∷ ls → Stood n j at x ls
      go [] e q = absurd (let z : ◌≡◌ {A = ℕ} 0 1 = cc in omega arith)
      go (l ∷ ts) e q =
          let (ys, cs, e1, e2, e3) = first_line [] (drop at j) l ts e in
          let says : line_read n (pairs_of l) ≡ x = cc in
          let rest : map (λ l. line_read n (pairs_of l)) ts ≡ ls = cc in
          placed l cs (e1 ∙ ap (λ (t : List ℕ). t ++ (10 ∷ cs)) (sym e2)) says (ap (map (λ l. line_read n (pairs_of l))) e3 ∙ rest)

-- pages told
unfoldable pub marks : List Write → List ℕ → List ℕ
marks [] s = s
marks (append bs ∷ ws) s = marks ws s
marks (store p bs ∷ ws) s = marks ws (set s (p - 1) 1)
marks (clear ∷ ws) s = marks ws s

module _ (n : ℕ) (j : List ℕ) where
  some_inside : (at : ℕ) → lines_said n (drop at j) ≢ [] → at < length j
  unfolding lines_of
  some_inside at some = by_cases (leb (length j) at)
      (λ e. let past = leb-true (length j) at e in absurd (some (rw (drop_of_length-le j past))))
      (λ e. leb-false (length j) at e)

  some_lines : (is ls : List Line) (x : Line) → is ++ (x ∷ ls) ≢ []
  some_lines [] ls x e = let z : ◌≡◌ {A = ℕ} 0 1 = cc in omega arith
  some_lines (y ∷ is) ls x e = let z : ◌≡◌ {A = ℕ} 0 1 = cc in omega arith

  next_on_lem : (at : ℕ) → at + 1029 < length j → next_image j at ≡ at + 1029
  unfolding next_image
  next_on_lem at inside = rw (lt-leb (length j) (at + 1029) inside)

  pub back_is : {is : List Line} {ws : List Write} → Backs n is ws → (k at : ℕ) (f s x : List ℕ) (ls : List Line)
      → lines_said n (drop at j) ≡ is ++ (ready ∷ ls) → length j ≤ at + k → back_from j f s at k ≡ ((performed ws (disk f x)).file, marks ws s)
  unfolding back_from performed marks page_put part_put
  back_is Backs.none zero at f s x ls h long = absurd (let t = stood n j at ready ls h in let i = t.inside in omega arith)
  back_is Backs.none (suc k) at f s x ls h long =
      let t = stood n j at ready ls h in
      rw (ready_read n j at t.text t.stands t.says)
  back_is (Backs.next {p = p} {bs = bs} {is = is} low high b) zero at f s x ls h long =
      absurd (let t = stood n j at (image p bs) (is ++ (ready ∷ ls)) h in let i = t.inside in omega arith)
  back_is (Backs.next {p = p} {bs = bs} {is = is} {ws = ws} low high b) (suc k) at f s x ls h long =
      let t = stood n j at (image p bs) (is ++ (ready ∷ ls)) h in
      let i = image_read n j at t.text t.stands p bs t.says in
      let size = i.size in
      let next : at + length t.text + 1 ≡ at + 1029 = omega arith in
      let rest : lines_said n (drop (at + 1029) j) ≡ is ++ (ready ∷ ls) = rw next at t.rest in
      let inside = some_inside (at + 1029) (λ e. some_lines is ls ready (sym rest ∙ e)) in
      rw (i.page, ne_eqb p 0 (λ e. omega arith), i.bytes, next_on_lem at inside) (back_is b k (at + 1029) (sets f (512 * (p - 1)) bs) (set s (p - 1) 1) x ls rest (omega arith))

-- what is told
module _ (n : ℕ) where
  pub marks_at : {is : List Line} {ws : List Write} → Backs n is ws → (s : List ℕ) (q : ℕ) → 1 ≤ q → q ≤ length s
      → get_or (marks ws s) (q - 1) 0 ≡ cond (elem q (stored_in ws)) 1 (get_or s (q - 1) 0)
  unfolding marks stored_in elem
  marks_at Backs.none s q low high = refl
  marks_at (Backs.next {p = p} {ws = ws} pl ph b) s q low high =
      let ih = marks_at b (set s (p - 1) 1) q low (rw length-set high) in
      same_or_not q p
      (λ e. ih ∙ rw (e, eqb_same p, get_or-set_same s (p - 1) 1 0 (omega arith)) (cond_same (elem p (stored_in ws))))
      (λ ne. ih ∙ rw (ne_eqb q p ne, get_or-set_other s (p - 1) (q - 1) 1 0 (λ e. ne (omega arith))))
    where
      cond_same : (b : Bool) → ◌≡◌ {A = ℕ} (cond b 1 1) 1
      cond_same true = refl
      cond_same false = refl

  pub marks_rest : {is : List Line} {ws : List Write} → Backs n is ws → (s : List ℕ) → drop n (marks ws s) ≡ drop n s
  unfolding marks
  marks_rest Backs.none s = refl
  marks_rest (Backs.next {p = p} low high b) s = marks_rest b (set s (p - 1) 1) ∙ drop-set-lt n s (p - 1) 1 (omega arith)

  pub marks_length : {is : List Line} {ws : List Write} → Backs n is ws → (s : List ℕ) → length (marks ws s) ≡ length s
  unfolding marks
  marks_length Backs.none s = refl
  marks_length (Backs.next {p = p} low high b) s = marks_length b (set s (p - 1) 1) ∙ length-set s (p - 1) 1
