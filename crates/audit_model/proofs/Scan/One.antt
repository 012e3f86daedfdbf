-- A file has one image: the one that the lookups show.
use Prim.Native.Nat.{ℕ, ◌*◌, ◌≤◌, ◌<◌}
use mathlib.Core.Path.{◌≡◌, sym, ◌∙◌}
use mathlib.Core.List.{List}
use lib.ListN.{length, get_or}
use lib.Dec.{ltb}
use borrow.Author.Tests.{ltb-true, ltb-false}
use Rattle.ledger.specs.Table.{pages, Accepted}
use Rattle.ledger.specs.Pages.{page_of, line_of, page}
use Rattle.ledger.specs.Bytes.{three_at}
use Rattle.ledger.specs.Image.{ledger_of, Imaged}
use Rattle.ledger.proofs.Lists.Tests.{by_cases}
use Rattle.ledger.proofs.Lists.Members.{no_length}
use Rattle.ledger.proofs.Bytes.Pages.{laid_page, head_number}
use Rattle.ledger.proofs.Bytes.Lookup.{code_told}
use Rattle.ledger.proofs.Ledger.Rows.{placed_within}
use Rattle.ledger.proofs.Image.Paged.{some_there, image_placed}
use Rattle.model.specs.Reads.{head_next_in}
use Rattle.audit_model.specs.Scan.{page_part, records_in}
use Rattle.audit_model.proofs.Scan.Pages.{head_there}
use Rattle.audit_model.proofs.Scan.Exact.{clean_imaged, imaged_clean}

module _ (t f : List ℕ) (a : Accepted t) (r : ℕ → List ℕ) (h : ℕ → ℕ) (i : Imaged t f r h) where
  pub imaged_page : (p : ℕ) → 1 ≤ p → p ≤ pages t → page_part f p ≡ page r h p
  imaged_page p lo hi = rw i.bytes (laid_page (pages t) r h i.paged.room p lo hi)

  within : (x : ℕ) → 0 < length (r x) → (1 ≤ page_of x) × (page_of x ≤ pages t) × (1 ≤ line_of x)
  within x full =
      let p = image_placed t r h i.paged x (some_there t r h x full) in
      let w = placed_within t (ledger_of t r h) x a p in
      (w.0, w.1, p.on_a_line)

module _ (t f : List ℕ) (a : Accepted t) (r r' : ℕ → List ℕ) (h h' : ℕ → ℕ) (i : Imaged t f r h) (j : Imaged t f r' h') where
  same_there : (x : ℕ) → 1 ≤ page_of x → page_of x ≤ pages t → 1 ≤ line_of x → r x ≡ r' x
  same_there x lo hi line =
      code_told r r' h h' x (i.paged.room (page_of x)) (j.paged.room (page_of x))
      (λ y full. (i.paged.standing y full).head) (λ y full. (j.paged.standing y full).head)
      (sym (imaged_page t f a r h i (page_of x) lo hi) ∙ imaged_page t f a r' h' j (page_of x) lo hi) line

  same_records : (x : ℕ) → r x ≡ r' x
  same_records x = by_cases (ltb 0 (length (r x)))
      (λ e. let w = within t f a r h i x (ltb-true _ _ e) in same_there x w.0 w.1 w.2)
      (λ e. by_cases (ltb 0 (length (r' x)))
      (λ g. let w = within t f a r' h' j x (ltb-true _ _ g) in same_there x w.0 w.1 w.2)
      (λ g. no_length (r x) (ltb-false _ _ e) ∙ sym (no_length (r' x) (ltb-false _ _ g))))

module _ (t f : List ℕ) (a : Accepted t) (small : (i : ℕ) → get_or f i 0 < 256) (long : length f ≡ 512 * pages t)
    (r : ℕ → List ℕ) (h : ℕ → ℕ) (i : Imaged t f r h) where
  pub image_records : (x : ℕ) → r x ≡ records_in t f x
  image_records = same_records t f a r (records_in t f) h (head_next_in f) i (clean_imaged t f small long (imaged_clean t f r h a.page_count.1 i))

  pub image_heads : (p : ℕ) → 1 ≤ p → p ≤ pages t → h p ≡ head_next_in f p
  unfolding three_at
  image_heads p lo hi = rw (head_there f p lo, imaged_page t f a r h i p lo hi) (sym (head_number r h p (i.heads p lo hi)))
