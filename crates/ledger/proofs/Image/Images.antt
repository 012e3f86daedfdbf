-- The file of an image is sound exactly where the image is audited, and for the image's ledger alone: a file has no second image.
use Prim.Native.Nat.{ℕ, ◌≤◌, ◌<◌}
use mathlib.Core.Path.{◌≡◌, sym, ◌∙◌, fun_ext, refl}
use mathlib.Core.Logic.{◌↔◌}
use mathlib.Core.Bool.{◌&&◌}
use mathlib.Core.List.{List}
use lib.ListN.{length}
use lib.Dec.{ltb, leb}
use borrow.Author.Tests.{ltb-true, ltb-false, leb-true}
use Rattle.ledger.specs.Table.{pages, Accepted}
use Rattle.ledger.specs.Pages.{page_of, line_of, Ledger, present, record_bytes, head_next, page, laid, layout, Sound}
use Rattle.ledger.specs.Image.{calc_next_read, ledger_of, Paged, Imaged}
use Rattle.ledger.specs.Audit.{Calced, Audited}
use Rattle.ledger.proofs.Lists.Tests.{by_cases, both}
use Rattle.ledger.proofs.Lists.Members.{no_length}
use Rattle.ledger.proofs.Bytes.Pages.{laid_page, head_number}
use Rattle.ledger.proofs.Bytes.Lookup.{code_told}
use Rattle.ledger.proofs.Ledger.Entries.{same_ledger}
use Rattle.ledger.proofs.Ledger.Rows.{placed_within}
use Rattle.ledger.proofs.Ledger.Bounds.{head_next_small}
use Rattle.ledger.proofs.Ledger.Records.{absent_bytes, bytes_formed}
use Rattle.ledger.proofs.Ledger.Fields.{file_page}
use Rattle.ledger.proofs.Image.Laid.{laid_paged}
use Rattle.ledger.proofs.Image.Unique.{sound_unique}
use Rattle.ledger.proofs.Image.Paged.{some_there, image_placed, image_calc, image_calc_out}
use Rattle.ledger.proofs.Image.ReadBack.{read_back, laid_audited}

-- a sound file is the image of its ledger's bytes
pub sound_imaged : (t f : List ℕ) (l : Ledger) → Accepted t → Sound t f l → Imaged t f (record_bytes t l) (head_next t l)
unfolding layout
sound_imaged t f l a s =
    record { bytes = s.bytes; paged = laid_paged t l a s.formed; heads = λ p lo hi. head_next_small t l a s.formed p hi }

-- heads that agree on the file's pages
module _ (t : List ℕ) (r : ℕ → List ℕ) (h h' : ℕ → ℕ) where
  next_alike : (p : ℕ) → h p ≡ h' p → calc_next_read t r h p ≡ calc_next_read t r h' p
  unfolding calc_next_read
  next_alike p e = fun_ext (λ x. rw e)

  calced_alike : (p : ℕ) → h p ≡ h' p → Calced t r h' p → Calced t r h p
  calced_alike p e c = record { rings = rw (next_alike p e) c.rings; nexts = rw (next_alike p e) c.nexts }

  module _ (same : (p : ℕ) → 1 ≤ p → p ≤ pages t → h p ≡ h' p) where
    calc_alike : (p : ℕ) → (ledger_of t r h).calc p ≡ (ledger_of t r h').calc p
    calc_alike p = by_cases (leb 1 p && leb p (pages t))
        (λ e.
        let (f, g) = both _ _ e in
        let lo = leb-true _ _ f in
        let hi = leb-true _ _ g in
        image_calc t r h p lo hi ∙ rw (next_alike p (same p lo hi)) (sym (image_calc t r h' p lo hi)))
        (λ e. image_calc_out t r h p e ∙ sym (image_calc_out t r h' p e))

    image_alike : ledger_of t r h ≡ ledger_of t r h'
    unfolding ledger_of
    image_alike = same_ledger _ _ (λ y. refl) (λ j m. refl) calc_alike

    audited_alike : Audited t r h' → Audited t r h
    audited_alike s = record {
      paged = s.paged;
      ringed = s.ringed;
      priors = s.priors;
      calced = λ p lo hi. calced_alike p (same p lo hi) (s.calced p lo hi);
      ordered = rw image_alike s.ordered;
    }

module _ (t : List ℕ) (r : ℕ → List ℕ) (h : ℕ → ℕ) (a : Accepted t) (g : Paged t r) (small : (p : ℕ) → 1 ≤ p → p ≤ pages t → h p < 16777216) where
  module _ (l : Ledger) (s : Sound t (laid (pages t) r h) l) where
    page_told : (p : ℕ) → 1 ≤ p → p ≤ pages t → page r h p ≡ page (record_bytes t l) (head_next t l) p
    page_told p lo hi = sym (laid_page (pages t) r h g.room p lo hi) ∙ file_page t (laid (pages t) r h) l a s p lo hi

    bytes_there : (x : ℕ) → 1 ≤ page_of x → page_of x ≤ pages t → 1 ≤ line_of x → r x ≡ record_bytes t l x
    bytes_there x lo hi line =
        code_told r (record_bytes t l) h (head_next t l) x (g.room (page_of x)) (s.formed.room (page_of x))
        (λ y full. (g.standing y full).head) (bytes_formed t l a s.formed) (page_told (page_of x) lo hi) line

    bytes_told : (x : ℕ) → r x ≡ record_bytes t l x
    bytes_told x = by_cases (ltb 0 (length (r x)))
        (λ e.
        let p = image_placed t r h g x (some_there t r h x (ltb-true _ _ e)) in
        let w = placed_within t (ledger_of t r h) x a p in
        bytes_there x w.0 w.1 p.on_a_line)
        (λ e. by_cases (present l x)
        (λ f. let p = s.formed.placed x f in let w = placed_within t l x a p in bytes_there x w.0 w.1 p.on_a_line)
        (λ f. no_length (r x) (ltb-false _ _ e) ∙ sym (absent_bytes t l x f)))

    head_told : (p : ℕ) → 1 ≤ p → p ≤ pages t → h p ≡ head_next t l p
    head_told p lo hi =
        sym (head_number r h p (small p lo hi))
        ∙ rw (page_told p lo hi) (head_number (record_bytes t l) (head_next t l) p (head_next_small t l a s.formed p hi))

    sound_audited : Audited t r h
    sound_audited = audited_alike t r h (head_next t l) head_told (rw (fun_ext bytes_told) (laid_audited t l a s.formed))

  pub image_exactly : ((l : Ledger) × Sound t (laid (pages t) r h) l) ↔ Audited t r h
  image_exactly = (λ q. sound_audited q.0 q.1, λ s. (ledger_of t r h, read_back t r h a s))

  pub image_ledger : (l : Ledger) → Sound t (laid (pages t) r h) l → l ≡ ledger_of t r h
  image_ledger l s = sound_unique t (laid (pages t) r h) l (ledger_of t r h) a s (read_back t r h a (sound_audited l s))
