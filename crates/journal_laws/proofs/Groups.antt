-- Read-back: what calls wrote is read as it was written.
use Prim.Native.Nat.{ℕ, zero, suc, ◌*◌, ◌-◌, ◌≤◌, ◌<◌}
use mathlib.Core.Path.{◌≡◌, refl, ◌∙◌, ap}
use mathlib.Core.Logic.{inl, inr}
use mathlib.Core.Bool.{false}
use mathlib.Core.List.{List, [], ◌∷◌, ◌++◌, append_assoc, append-nil}
use native.Mathlib.Omega.{arith}
use lib.ListN.{length, take, length-append}
use lib.Seq.{take_at, drop_at}
use borrow.Author.Tests.{eq-eqb, le-leb, lt-ltb}
use Rattle.ledger.specs.Numbers.{digits, concat_of, same_key}
use Rattle.ledger.specs.Rules.{between}
use Rattle.ledger.specs.Bytes.{two_at, page_in}
use Rattle.ledger.proofs.Lists.Tests.{not_true_false}
use Rattle.ledger.proofs.Lists.Keys.{same_eq}
use Rattle.ledger.proofs.Lists.Parts.{part_bytes}
use Rattle.ledger.proofs.Lists.Digits.{Bytes, length_digits, digits_bytes, append_bytes, nil_bytes, cons_bytes, part_two}
use Rattle.ledger.specs.Journal.Writes.{image_line, ready_line, done_line, Write, store, clear, images, stores, disk, performed, cut_at}
use Rattle.ledger.specs.Journal.Recovery.{line_says, image, Group, finished, imaged, readied, next_group, group_from, lines_of, recovery_of, restore}
use Rattle.ledger.specs.Journal.Survival.{FileOf}
use Rattle.journal_laws.proofs.Texts.{read_on, read_line, line_cut}
use Rattle.journal_laws.proofs.Places.{page_full, page_is}
use Rattle.journal_laws.proofs.Cuts.{Rises}

ready_bytes : Bytes (0 ∷ 0 ∷ [])
ready_bytes = cons_bytes (omega arith) (cons_bytes (omega arith) nil_bytes)

done_bytes : Bytes (255 ∷ 255 ∷ [])
done_bytes = cons_bytes (omega arith) (cons_bytes (omega arith) nil_bytes)

pub read_ready : (n last : ℕ) (back : List Write) (j : List ℕ) → read_on n (imaged last back) (ready_line ++ j) ≡ read_on n (readied back) j
read_ready n last back j = read_line n (imaged last back) (0 ∷ 0 ∷ []) j ready_bytes ∙ unfold line_says same_key in refl

pub read_done : (n : ℕ) (back : List Write) (j : List ℕ) → read_on n (readied back) (done_line ++ j) ≡ read_on n finished j
read_done n back j = read_line n (readied back) (255 ∷ 255 ∷ []) j done_bytes ∙ unfold line_says same_key in refl

-- a group to which an image of a page past q can be added
pub record Open (g : Group) (q : ℕ) (back : List Write) : Type 0 where
  pub takes : (p : ℕ) (bs : List ℕ) → q < p → next_group g (image p bs) ≡ imaged p (back ++ (store p bs ∷ []))
  pub idle : recovery_of g ≡ restore (clear ∷ [])

pub open_finished : Open finished 0 []
open_finished = record { takes = λ p bs lt. refl; idle = refl }

open_imaged : (q : ℕ) (back : List Write) → Open (imaged q back) q back
open_imaged q back = record { takes = λ p bs lt. rw (lt-ltb q p lt); idle = refl }

module _ (n : ℕ) (f : List ℕ) (whole : FileOf n f) where
  abbrev bytes_of : ℕ → List ℕ
  bytes_of p = digits 2 p ++ page_in f p

  image_bytes : (p : ℕ) → 1 ≤ p → Bytes (bytes_of p)
  image_bytes p low = append_bytes (digits_bytes 2 p) (rw (page_is f p low) (record { small = part_bytes f (512 * (p - 1)) 512 whole.bytes }))

  image_says : (p : ℕ) → 1 ≤ p → p ≤ n → line_says n (bytes_of p) ≡ image p (page_in f p)
  unfolding line_says between
  image_says p low high =
      let few = whole.few in
      let size = whole.size in
      let long : length (bytes_of p) ≡ 514 = length-append (digits 2 p) (page_in f p) ∙ omega (arith, length_digits 2 p, page_full f p low (omega arith)) in
      let differs : (bs : List ℕ) → length bs ≡ 2 → same_key (bytes_of p) bs ≡ false
      = λ bs e. not_true_false _ (λ s. omega (arith, ap (λ (l : List ℕ). length l) (same_eq (bytes_of p) bs s))) in
      let number : two_at (bytes_of p) 0 ≡ p = part_two (bytes_of p) 0 p (take_at (digits 2 p) (page_in f p) 2 (length_digits 2 p)) (omega arith) in
      rw (differs (0 ∷ 0 ∷ []) refl, differs (255 ∷ 255 ∷ []) refl, eq-eqb (length (bytes_of p)) 514 long, number, le-leb 1 p low, le-leb p n high)
      (ap (λ (bs : List ℕ). image p bs) (drop_at (digits 2 p) (page_in f p) 2 (length_digits 2 p)))

  -- one image
  read_image : (g : Group) (q : ℕ) (back : List Write) (p : ℕ) (j : List ℕ) → Open g q back → q < p → p ≤ n
      → read_on n g (image_line f p ++ j) ≡ read_on n (imaged p (back ++ (store p (page_in f p) ∷ []))) j
  unfolding image_line
  read_image g q back p j o lt high = read_line n g (bytes_of p) j (image_bytes p (omega arith)) ∙ rw (image_says p (omega arith) high, o.takes p (page_in f p) lt)

  -- all images
  read_images : (ps : List ℕ) (q : ℕ) (back : List Write) (j : List ℕ) → Rises n q ps
      → (last : ℕ) × (read_on n (imaged q back) (concat_of (image_line f) ps ++ j) ≡ read_on n (imaged last (back ++ stores f ps)) j)
  unfolding concat_of stores
  read_images [] q back j r = (q, rw append-nil)
  read_images (p ∷ ps) q back j r =
      let (last, e) = read_images ps p (back ++ (store p (page_in f p) ∷ [])) j r.2 in
      (last, rw append_assoc (read_image (imaged q back) q back p _ (open_imaged q back) r.0 r.1 ∙ (rw append_assoc at e)))

  pub read_all_images : (p : ℕ) (ps j : List ℕ) → Rises n 0 (p ∷ ps)
      → (last : ℕ) × (read_on n finished (concat_of (image_line f) (p ∷ ps) ++ j) ≡ read_on n (imaged last (stores f (p ∷ ps))) j)
  unfolding concat_of stores
  read_all_images p ps j r =
      let (last, e) = read_images ps p (store p (page_in f p) ∷ []) j r.2 in
      (last, rw append_assoc (read_image finished 0 [] p _ open_finished r.0 r.1 ∙ e))

  -- images written, whole; and cut: no ready was read
  pub images_whole : (ps : List ℕ) (g j : List ℕ) → performed (images f ps) (disk g j) ≡ disk g (j ++ concat_of (image_line f) ps)
  unfolding performed images concat_of
  images_whole [] g j = rw append-nil
  images_whole (p ∷ ps) g j = images_whole ps g (j ++ image_line f p) ∙ rw append_assoc

  pub images_cut : (m k : ℕ) (ps : List ℕ) (h : Group) (q : ℕ) (back : List Write) (g j : List ℕ) → Open h q back → Rises n q ps
      → (x : List ℕ) × (performed (cut_at m k (images f ps)) (disk g j) ≡ disk g (j ++ x)) × (recovery_of (read_on n h x) ≡ restore (clear ∷ []))
  unfolding performed cut_at images group_from lines_of
  images_cut m k [] h q back g j o r = ([], rw append-nil, o.idle)
  images_cut zero k (p ∷ ps) h q back g j o r = (
    take k (image_line f p),
    refl,
    (unfold image_line in
        elim (line_cut k (bytes_of p)) [
          | inl e ↦ rw e (ap recovery_of (rw append-nil at (read_image h q back p [] o r.0 r.1)))
          | inr e ↦ rw (e n h) o.idle
        ]),
  )
  images_cut (suc m) k (p ∷ ps) h q back g j o r =
      let (x, e, i) = images_cut m k ps (imaged p (back ++ (store p (page_in f p) ∷ []))) p _ g (j ++ image_line f p) (open_imaged p _) r.2 in
      (image_line f p ++ x, e ∙ rw append_assoc, rw (read_image h q back p x o r.0 r.1) i)
