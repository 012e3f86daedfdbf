-- The text that is put is that of the images and the ready line.
use Prim.Native.Nat.{ℕ, zero, suc, ◌+◌, ◌*◌, ◌-◌, ◌≤◌}
use mathlib.Core.Path.{◌≡◌, refl, sym, ◌∙◌, ap}
use mathlib.Core.Logic.{◌≢◌}
use mathlib.Core.Bool.{Bool, not, cond}
use mathlib.Core.List.{List, [], ◌∷◌, ◌++◌, append_assoc, append-nil}
use native.Mathlib.Omega.{arith}
use native.Mathlib.Nat.{add-zero, zero-add}
use native.Mathlib.Numerals.{add-one}
use lib.ListN.{length, drop, length-append}
use lib.Seq.{sets, sets-eq, length-sets}
use lib.Dec.{eqb, ltb}
use borrow.Author.Tests.{eq-eqb, ne_eqb, lt-ltb, le-ltb}
use Rattle.std.proofs.Common.{Option, Some, None}
use Rattle.std.specs.Option.{unwrap_or}
use Rattle.ledger.specs.Numbers.{keep, run, concat_of, same_key}
use Rattle.ledger.proofs.Lists.Tests.{by_cases, same_or_not}
use Rattle.ledger.proofs.Lists.Members.{elem_run}
use Rattle.ledger.proofs.Lists.Sieves.{elem_keep_is}
use Rattle.ledger.proofs.Lists.Parts.{sets_append}
use Rattle.ledger.specs.Bytes.{page_in}
use Rattle.ledger.specs.Journal.Writes.{image_line, ready_line, done_line, append, changed, images, stores, writes, writes_of, Disk, disk, performed}
use Rattle.journal_laws.proofs.Cuts.{performed_append}
use Rattle.journal_laws.proofs.Places.{page_full}
use Rattle.restore_model.specs.Texts.{pages_in, apart, differs, count_from, count_of, image_put, changed_put, images_from, start_put, text_paged, text_on, images_on}
use Rattle.ledger.specs.Journal.Promises.{Paged, start_of, start_text, Tells, Starts}
use Rattle.restore_model.proofs.Sizes.{paged_pages, pages_paged}
use Rattle.restore_model.proofs.Puts.{length_line, length_image, image_put_lem, mark_put_lem}

-- the pages that differ, from p on
module _ (f g : List ℕ) where
  abbrev other : ℕ → Bool
  other p = not (same_key (page_in f p) (page_in g p))

  abbrev those : ℕ → ℕ → List ℕ
  those p k = keep other (run p k)

  count_is : (k p c : ℕ) → count_from f g p c k ≡ c + length (those p k)
  unfolding count_from keep run differs apart
  count_is zero p c = rw (add-zero c)
  count_is (suc k) p c = by_cases (other p)
      (λ e. rw (e, count_is k (p + 1) (c + 1), add-one p) (omega arith))
      (λ e. rw (e, count_is k (p + 1) (c + 0), add-one p) (omega arith))

  images_put : (k p at : ℕ) (out : List ℕ) → 1 ≤ p → 512 * (p + k - 1) ≤ length f → at + 1029 * length (those p k) ≤ length out
      → images_from out at f g p k ≡ (at + 1029 * length (those p k), sets out at (concat_of (image_line f) (those p k)))
  unfolding images_from changed_put keep run concat_of apart
  images_put zero p at out low fits room = rw (add-zero at)
  images_put (suc k) p at out low fits room = by_cases (other p)
      (λ e.
      let full : length (page_in f p) ≡ 512 = page_full f p low (omega arith) in
      let l = length (those (suc p) k) in
      let here : at + 1029 * suc l ≤ length out = rw e at room in
      let put = image_put_lem out at f p full (omega arith) in
      let ih = images_put k (suc p) (at + 1029) (image_put out at f p) (omega arith) (omega arith) (rw (put, length-sets) (omega arith)) in
      let size : at + 1029 + 1029 * l ≡ at + 1029 * suc l = omega arith in
      rw (e, add-one p)
      (ih ∙ rw (put, size, sets_append out at (image_line f p) (concat_of (image_line f) (those (suc p) k)), length_image f p full)))
      (λ e. rw (e, add-one p, add-zero at) (images_put k (suc p) at out (omega arith) (omega arith) (rw e at room)))

  images_length : (k p : ℕ) → 1 ≤ p → 512 * (p + k - 1) ≤ length f → length (concat_of (image_line f) (those p k)) ≡ 1029 * length (those p k)
  unfolding keep run concat_of
  images_length zero p low fits = refl
  images_length (suc k) p low fits = by_cases (other p)
      (λ e.
      let ih = images_length k (suc p) (omega arith) (omega arith) in
      rw (e, length-append, length_image f p (page_full f p low (omega arith)), ih) (omega arith))
      (λ e. rw e (images_length k (suc p) (omega arith) (omega arith)))

  -- images performed
  images_text : (ps h j : List ℕ) → performed (images f ps) (disk h j) ≡ disk h (j ++ concat_of (image_line f) ps)
  unfolding performed images concat_of
  images_text [] h j = rw append-nil
  images_text (p ∷ ps) h j = images_text ps h (j ++ image_line f p) ∙ rw append_assoc

  text_is : (n : ℕ) → start_text n f g ≡ concat_of (image_line f) (changed n f g) ++ ready_line
  unfolding performed
  text_is n =
      let ps = changed n f g in
      let whole : performed (start_of n f g) (disk f []) ≡ disk f (concat_of (image_line f) ps ++ ready_line)
      = performed_append (images f ps) (append ready_line ∷ []) (disk f []) ∙ ap (performed (append ready_line ∷ [])) (images_text ps f []) in
      ap (λ (d : Disk). d.journal) whole

  -- the start of a call's writes
  pub start_of_writes : (n : ℕ) → changed n f g ≢ [] → writes n f g ≡ start_of n f g ++ (stores g (changed n f g) ++ (append done_line ∷ []))
  unfolding writes_of
  start_of_writes n some = go (changed n f g) some
    where
      go : (ps : List ℕ) → ps ≢ [] → writes_of f g ps ≡ (images f ps ++ (append ready_line ∷ [])) ++ (stores g ps ++ (append done_line ∷ []))
      go [] some = absurd (some refl)
      go (p ∷ ps) some = rw append_assoc

  module _ (n : ℕ) (paged : Paged n f) where
    text_length : length (start_text n f g) ≡ 1029 * length (changed n f g) + 5
    unfolding changed
    text_length =
        let size = paged.size in
        rw (text_is n, length-append, images_length n 1 (omega arith) (omega arith), length_line (0 ∷ 0 ∷ []))

    start_is : (out : List ℕ) → length (start_text n f g) ≤ length out → start_put out f g n ≡ start_text n f g ++ drop (length (start_text n f g)) out
    unfolding start_put
    start_is out room =
        let size = paged.size in
        let l = length (changed n f g) in
        let long = text_length in
        let long2 : length (concat_of (image_line f) (changed n f g)) ≡ 1029 * l = unfold changed in images_length n 1 (omega arith) (omega arith) in
        let put : images_from out 0 f g 1 n ≡ (0 + 1029 * l, sets out 0 (concat_of (image_line f) (changed n f g)))
        = unfold changed in images_put n 1 0 out (omega arith) (omega arith) (omega arith) in
        rw (put, mark_put_lem (sets out 0 (concat_of (image_line f) (changed n f g))) (0 + 1029 * l) 0 (rw length-sets (omega arith)), ← long2)
        (sym (sets_append out 0 (concat_of (image_line f) (changed n f g)) ready_line)
        ∙ rw (← text_is n) (sets-eq (start_text n f g) out 0 (omega arith) ∙ rw zero-add))

    count_all : count_of f g n ≡ length (changed n f g)
    unfolding count_of changed
    count_all = count_is n 1 0 ∙ zero-add _

    sized : (out : List ℕ) → length f ≡ length g
        → images_on f g out ≡ cond (eqb (length (changed n f g)) 0) (0, out)
        (cond (ltb (length out) (length (start_text n f g))) (4294967295, out) (length (start_text n f g), start_put out f g n))
    unfolding images_on text_on
    sized out same =
        let c = length (changed n f g) in
        rw (eq-eqb (length f) (length g) same, paged_pages n f paged, count_all, text_length)
        (by_cases (eqb c 0) (λ e. rw e) (λ e. rw e (by_cases (ltb (length out) (1029 * c + 5)) (λ h. rw h) (λ h. rw h))))

-- both parts of a pair
parts : {p : ℕ × List ℕ} {r x : ℕ} {o y : List ℕ} → p ≡ (r, o) → p ≡ (x, y) → (r ≡ x) × (o ≡ y)
parts e q = (sym (ap (λ (p : ℕ × List ℕ). p.0) e) ∙ ap (λ (p : ℕ × List ℕ). p.0) q, sym (ap (λ (p : ℕ × List ℕ). p.1) e) ∙ ap (λ (p : ℕ × List ℕ). p.1) q)

some_length : (ps : List ℕ) → ps ≢ [] → length ps ≢ 0
some_length [] some e = some refl
some_length (p ∷ ps) some e = omega arith

pub starts : (f g out : List ℕ) (r : ℕ) (out' : List ℕ) → images_on f g out ≡ (r, out') → Starts f g out r out'
starts f g out r out' e = record {
  none = λ n paged same no. parts e (sized f g n paged out same ∙ rw no);
  text = λ n paged same some room.
      let l = length (start_text n f g) in
      let put : images_on f g out ≡ (l, start_put out f g n)
      = sized f g n paged out same ∙ rw (ne_eqb (length (changed n f g)) 0 (some_length _ some), le-ltb (length out) l room) in
      let (a, b) = parts e put in
      (a, b ∙ rw a (start_is f g n paged out room));
  no_room = λ n paged same some room. parts e (sized f g n paged out same
      ∙ rw (ne_eqb (length (changed n f g)) 0 (some_length _ some), lt-ltb (length out) (length (start_text n f g)) room));
  wrong_size = λ bad. parts e (unfold images_on text_on in same_or_not (length f) (length g)
      (λ same. rw (eq-eqb (length f) (length g) same) (unpaged (pages_in (length f)) (λ n h. bad n (pages_paged f n h) same)))
      (λ apart. rw (ne_eqb (length f) (length g) apart)));
}
  where
    unpaged : (o : Option ℕ) → ((n : ℕ) → o ≡ Some n → ⊥) → ◌≡◌ {A = ℕ × List ℕ} (unwrap_or (text_paged f g out o).0 4294967295, (text_paged f g out o).1) (4294967295, out)
    unpaged None bad = refl
    unpaged (Some n) bad = absurd (bad n refl)

-- a page of the file is told
pub tells : (f g : List ℕ) (p r : ℕ) → r ≡ differs f g p → Tells f g p r
tells f g p r e = record {
  told = λ n low high. e ∙ (unfold changed differs apart in rw (elem_keep_is _ p (run 1 n), elem_run p 1 n low (omega arith)));
}
