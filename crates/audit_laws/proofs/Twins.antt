-- Twins in an image: none is found exactly where no two calculated records of one type have one key.
use Prim.Native.Nat.{ℕ}
use mathlib.Core.Path.{◌≡◌, sym, ◌∙◌}
use mathlib.Core.Logic.{◌↔◌}
use mathlib.Core.Bool.{true}
use mathlib.Core.List.{List}
use borrow.Author.Tests.{eqb-true, ne_eqb}
use Rattle.ledger.specs.Numbers.{elem, same_key}
use Rattle.ledger.specs.Table.{calculated, calc_key, Accepted}
use Rattle.ledger.specs.Pages.{kind_at, bytes_at, present, codes}
use Rattle.ledger.specs.Bytes.{two_at}
use Rattle.ledger.specs.Image.{ledger_of, Imaged}
use Rattle.ledger.proofs.Lists.Keys.{same_eq, same_self}
use Rattle.ledger.proofs.Ledger.Rows.{type_row}
use Rattle.ledger.proofs.Image.Paged.{there_some, image_placed, standing_listed}
use Rattle.model.specs.Reads.{place_in, kind_from, kind_in, data_in}
use Rattle.audit_model.specs.Sorting.{key_from}
use Rattle.audit_model.specs.Twins.{twin_fault}
use Rattle.audit_model.proofs.Gathered.{fault_codes, codes_fault, key_data}
use Rattle.audit_laws.proofs.Shown.{read_kind, read_data, there_place, place_there, no_head_place}

module _ (t f : List ℕ) (r : ℕ → List ℕ) (h : ℕ → ℕ) (a : Accepted t) (i : Imaged t f r h) where
  -- what stands where a record starts: its type and its CALC key; and its code is one of the file's
  module _ (x : ℕ) (there : present (ledger_of t r h) x ≡ true) where
    kind_there : two_at f (place_in f x) ≡ kind_at (ledger_of t r h) x
    unfolding kind_in kind_from
    kind_there = rw (ne_eqb (place_in f x) 0 (there_place t f r h a i x there)) at (read_kind t f r h a i x)

    key_there : calculated t (kind_at (ledger_of t r h) x) ≡ true
        → key_from t f (place_in f x) ≡ calc_key t (kind_at (ledger_of t r h) x) (bytes_at (ledger_of t r h) x)
    unfolding calculated data_in
    key_there c =
        let k = kind_there in
        let fits = ((type_row t _ a (image_placed t r h i.paged x there).typed).keyed (eqb-true _ 2 c)).1 in
        let shown = read_data t f r h a i x in
        let d = rw (ne_eqb (place_in f x) 0 (there_place t f r h a i x there), read_kind t f r h a i x) at shown in
        key_data t f (place_in f x) (rw k fits) ∙ rw k (rw d)

    code_there : elem x (codes t) ≡ true
    code_there = standing_listed t r a i.paged x (there_some t r h x there)

  -- no twin is found exactly where the ledger has none
  pub twin_fault_exactly : (twin_fault t f ≡ 0)
      ↔ ((x y : ℕ) → present (ledger_of t r h) x ≡ true → present (ledger_of t r h) y ≡ true → calculated t (kind_at (ledger_of t r h) x) ≡ true
      → kind_at (ledger_of t r h) x ≡ kind_at (ledger_of t r h) y
      → same_key (calc_key t (kind_at (ledger_of t r h) x) (bytes_at (ledger_of t r h) x)) (calc_key t (kind_at (ledger_of t r h) y) (bytes_at (ledger_of t r h) y)) ≡ true
      → x ≡ y)
  twin_fault_exactly = (
    λ z x y p q c k s.
        fault_codes t f (no_head_place t f r h a i) a.page_count.1 z x y (code_there x p) (code_there y q)
        (there_place t f r h a i x p) (there_place t f r h a i y q) (rw (kind_there x p) c) (kind_there x p ∙ k ∙ sym (kind_there y q))
        (key_there x p c ∙ same_eq _ _ s ∙ sym (key_there y q (rw k at c))),
    λ one. codes_fault t f (no_head_place t f r h a i) a.page_count.1 (λ x y lx ly px py c k e.
        let p = place_there t f r h a i x px in
        let q = place_there t f r h a i y py in
        let cx = rw (kind_there x p) at c in
        let kxy : kind_at (ledger_of t r h) x ≡ kind_at (ledger_of t r h) y = sym (kind_there x p) ∙ k ∙ kind_there y q in
        let same = sym (key_there x p cx) ∙ e ∙ key_there y q (rw kxy at cx) in
        one x y p q cx kxy (rw same (same_self _))),
  )
