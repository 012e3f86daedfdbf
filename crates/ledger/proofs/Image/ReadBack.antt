-- A file is sound exactly where it is the pages of an audited image, and then for the ledger of that image.
use Prim.Native.Nat.{ℕ, ◌≤◌, ◌<◌}
use mathlib.Core.Path.{◌≡◌, sym, ◌∙◌, fun_ext}
use mathlib.Core.Logic.{◌↔◌}
use mathlib.Core.Bool.{true, ◌&&◌}
use mathlib.Core.List.{List}
use native.Mathlib.Omega.{arith}
use native.Mathlib.Nat.{zero-add}
use lib.ListN.{length}
use lib.Dec.{ltb, leb}
use borrow.Author.Tests.{ltb-true, ltb-false, leb-true}
use Rattle.ledger.specs.Numbers.{elem}
use Rattle.ledger.specs.Table.{pages, chains, Accepted}
use Rattle.ledger.specs.Pages.{Ledger, laid, record_bytes, head_next, layout, WellFormed, Sound}
use Rattle.ledger.specs.Bytes.{Fields}
use Rattle.ledger.specs.Image.{next_read, prior_read, ledger_of}
use Rattle.ledger.specs.Audit.{Audited}
use Rattle.ledger.proofs.Lists.Tests.{by_cases, clash, both}
use Rattle.ledger.proofs.Lists.Members.{elem_nil, no_members, no_length}
use Rattle.ledger.proofs.Lists.Pairs.{once_nil}
use Rattle.ledger.proofs.Lists.Runs.{concat_of_same}
use Rattle.ledger.proofs.Bytes.Writes.{page_same}
use Rattle.ledger.proofs.Ledger.Entries.{same_ledger}
use Rattle.ledger.proofs.Ledger.Calcs.{calc_within}
use Rattle.ledger.proofs.Ledger.Records.{absent_bytes}
use Rattle.ledger.proofs.Image.Paged.{home_bounds, image_kind, image_bytes, image_there, image_master, image_detail, image_home, there_some, some_there, image_ring, image_ring_out, image_calc, image_calc_out, image_placed}
use Rattle.ledger.proofs.Image.Laid.{laid_entry, laid_paged}
use Rattle.ledger.proofs.Image.ChainRings.{detail_some, master_some, image_own, image_one, image_once, next_read_lem, prior_read_lem, ring_back, laid_ringed, laid_priors}
use Rattle.ledger.proofs.Image.CalcRings.{homed, to_home, image_calc_once, image_calc_own, image_calc_all, calc_next_read_lem, head_read, calc_back, laid_calced}
use Rattle.ledger.proofs.Image.Retold.{fields_bytes}

module _ (t : List ℕ) (r : ℕ → List ℕ) (h : ℕ → ℕ) (a : Accepted t) (s : Audited t r h) where
  image_fields : (x : ℕ) → 0 < length (r x) → Fields t (ledger_of t r h) x (r x) 0
  unfolding next_read prior_read
  image_fields x full =
      let st = s.paged.standing x full in
      let k = image_kind t r h x in
      let p = home_bounds t r a s.paged x full in record {
        kind = sym k;
        size = rw k (st.head.size ∙ st.whole);
        line = st.head.line;
        data_part = rw (image_bytes t r h x, k);
        calc_next = λ c. rw (zero-add, k, image_home t r h x)
            (calc_next_read_lem t r h a s.paged _ p.0 p.1 (s.calced _ p.0 p.1) x (to_home t r x full (rw k at c)));
        next = λ j lt c. rw (zero-add, k) (next_read_lem t r a s.paged j lt h (s.ringed j lt) x (rw k at c));
        prior = λ j lt c i. rw (zero-add, k) (prior_read_lem t r a s.paged j lt h (s.ringed j lt) (s.priors j lt i) x (rw k at c));
      }

  -- the ledger's bytes are the image's
  pub bytes_read : (x : ℕ) → record_bytes t (ledger_of t r h) x ≡ r x
  bytes_read x = by_cases (ltb 0 (length (r x)))
      (λ e.
      let full = ltb-true _ _ e in
      let st = s.paged.standing x full in
      fields_bytes t (ledger_of t r h) x (r x) (some_there t r h x full) (rw (image_kind t r h x) st.whole) st.bytes (image_fields x full))
      (λ e. absent_bytes t (ledger_of t r h) x (image_there t r h x ∙ e) ∙ sym (no_length (r x) (ltb-false _ _ e)))

  laid_read : laid (pages t) r h ≡ layout t (ledger_of t r h)
  unfolding layout laid
  laid_read = concat_of_same _ _ 1 (pages t) (λ p lo hi.
      page_same (record_bytes t (ledger_of t r h)) r (head_next t (ledger_of t r h)) h p
      (head_read t r h a s.paged p lo (omega arith) (s.calced p lo (omega arith)))
      (λ k low high. sym (bytes_read _)))

  -- no chain and no page but the table's has members
  ring_of_chain : (j m x : ℕ) → elem x ((ledger_of t r h).ring j m) ≡ true → j < chains t
  ring_of_chain j m x e = by_cases (ltb j (chains t)) (ltb-true _ _) (λ f. elem_nil x (rw (image_ring_out t r h j m f) at e))

  calc_of_page : (p x : ℕ) → elem x ((ledger_of t r h).calc p) ≡ true → (1 ≤ p) × (p ≤ pages t)
  calc_of_page p x e = by_cases (leb 1 p && leb p (pages t))
      (λ f. let (lo, hi) = both _ _ f in (leb-true _ _ lo, leb-true _ _ hi))
      (λ f. elem_nil x (rw (image_calc_out t r h p f) at e))

  image_formed : WellFormed t (ledger_of t r h)
  image_formed = record {
    placed = image_placed t r h s.paged;
    room = λ p. rw (fun_ext bytes_read) (s.paged.room p);
    calc_once = λ p. by_cases (leb 1 p && leb p (pages t))
        (λ e.
        let (f, g) = both _ _ e in
        let lo = leb-true _ _ f in
        let hi = leb-true _ _ g in
        image_calc_once t r h a s.paged p lo hi (s.calced p lo hi))
        (λ e. rw (image_calc_out t r h p e) once_nil);
    calc_own = λ p x e.
        let (lo, hi) = calc_of_page p x e in
        let o = homed t r p x (image_calc_own t r h a s.paged p lo hi (s.calced p lo hi) x e) in
        (some_there t r h x o.0, rw (image_kind t r h x) o.1, image_home t r h x ∙ o.2);
    calc_all = λ x e c.
        let full = there_some t r h x e in
        let p = home_bounds t r a s.paged x full in
        rw (image_home t r h x) (image_calc_all t r h a s.paged _ p.0 p.1 (s.calced _ p.0 p.1) x (to_home t r x full (rw (image_kind t r h x) at c)));
    ring_once = λ j m. by_cases (ltb j (chains t))
        (λ e. let lt = ltb-true _ _ e in image_once t r a s.paged j lt h (s.ringed j lt) m)
        (λ e. rw (image_ring_out t r h j m e) once_nil);
    ring_own = λ j m x e. let lt = ring_of_chain j m x e in let o = image_own t r a s.paged j lt h (s.ringed j lt) m x e in (
      lt,
      some_there t r h m (master_some t r a s.paged j lt m o.0),
      image_master t r h j m ∙ o.0,
      some_there t r h x (detail_some t r a s.paged j lt x o.1),
      image_detail t r h j x ∙ o.1,
    );
    ring_all = λ j x lt e d.
        let q = (s.ringed j lt).rings.every x (sym (image_detail t r h j x) ∙ d) in
        (q.0, rw (image_ring t r h j q.0 lt) q.1);
    ring_one = λ j m n x e f. let lt = ring_of_chain j m x e in image_one t r a s.paged j lt h (s.ringed j lt) m n x e f;
    in_order = s.ordered.in_order;
    no_twins = s.ordered.no_twins;
    no_calc_twins = s.ordered.no_calc_twins;
  }

  pub read_back : Sound t (laid (pages t) r h) (ledger_of t r h)
  read_back = record { formed = image_formed; bytes = laid_read }

-- The converse.
module _ (t : List ℕ) (l : Ledger) (a : Accepted t) (w : WellFormed t l) where
  at_back : (x : ℕ) → (ledger_of t (record_bytes t l) (head_next t l)).at x ≡ l.at x
  unfolding ledger_of
  at_back x = laid_entry t l a w x

  rings_back : (j m : ℕ) → (ledger_of t (record_bytes t l) (head_next t l)).ring j m ≡ l.ring j m
  rings_back j m = by_cases (ltb j (chains t))
      (λ e. let lt = ltb-true _ _ e in image_ring t _ _ j m lt ∙ ring_back t l a w j lt m)
      (λ e. image_ring_out t _ _ j m e ∙ sym (no_members (l.ring j m) (λ x g. omega (arith, (w.ring_own j m x g).0, ltb-false j (chains t) e))))

  calcs_back : (p : ℕ) → (ledger_of t (record_bytes t l) (head_next t l)).calc p ≡ l.calc p
  calcs_back p = by_cases (leb 1 p && leb p (pages t))
      (λ e.
      let (f, g) = both _ _ e in
      let lo = leb-true _ _ f in
      let hi = leb-true _ _ g in
      image_calc t _ _ p lo hi ∙ calc_back t l a w p lo hi)
      (λ e. image_calc_out t _ _ p e ∙ sym (no_members (l.calc p) (λ x g. clash _ (calc_within t l a w p x g) e)))

  pub image_back : ledger_of t (record_bytes t l) (head_next t l) ≡ l
  image_back = same_ledger _ l at_back rings_back calcs_back

  pub laid_audited : Audited t (record_bytes t l) (head_next t l)
  laid_audited = record {
    paged = laid_paged t l a w;
    ringed = laid_ringed t l a w;
    priors = laid_priors t l a w;
    calced = laid_calced t l a w;
    ordered = rw image_back (record { in_order = w.in_order; no_twins = w.no_twins; no_calc_twins = w.no_calc_twins });
  }

pub sound_exactly : (t f : List ℕ) → Accepted t
    → ((l : Ledger) × Sound t f l) ↔ ((r : ℕ → List ℕ) × (h : ℕ → ℕ) × (f ≡ laid (pages t) r h) × Audited t r h)
sound_exactly t f a = (
  λ s. (record_bytes t s.0, head_next t s.0, unfold layout in s.1.bytes, laid_audited t s.0 a s.1.formed),
  λ q. (ledger_of t q.0 q.1, rw q.2 (read_back t q.0 q.1 a q.3)),
)
