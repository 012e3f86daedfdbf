-- A chain's fault and CALC's: a walk astray, else a record unmet.
use Prim.Native.Nat.{ℕ, ◌+◌, ◌*◌, ◌-◌, ◌%◌, ◌<◌, ◌≤◌}
use mathlib.Core.Path.{◌≡◌, refl}
use mathlib.Core.List.{List}
use native.Mathlib.Omega.{arith}
use borrow.Author.Tests.{eq-eqb, ne_eqb}
use lib.ListN.{replicate}
use Rattle.std.specs.Prelude.{Option, Some}
use Rattle.ledger.specs.Numbers.{or_none, run, first_of}
use Rattle.ledger.specs.Table.{pages, chains}
use Rattle.ledger.proofs.Lists.Nones.{some_above}
use Rattle.model.specs.declared.Ends.{Ends}
use Rattle.audit_model.specs.Marks.{no_marks, sweep_on, first_fault}
use Rattle.audit_model.specs.Chains.{ends_of, code_walks, unmet_in, chain_fault_in, ring_fault_in}
use Rattle.audit_model.specs.Calcs.{head_walks, calc_unmet_in, calc_fault_in}

module _ (t f : List ℕ) (n : ℕ) (en : n ≡ pages t) (lost : ℕ) (g : List ℕ) where
  module _ (j : ℕ) (e : Ends) (ee : e ≡ ends_of t j) (es : sweep_on (code_walks f e) (run 64 (64 + 64 * n - 64)) (replicate 8256 0) ≡ (lost, g)) where
    chain_swept : sweep_on (code_walks f (ends_of t j)) (run 64 (64 * pages t)) no_marks ≡ (lost, g)
    unfolding no_marks
    chain_swept = let same : 64 + 64 * n - 64 ≡ 64 * pages t = omega arith in rw (ee, same) at es

    pub chain_astray : 64 ≤ lost → Some lost ≡ or_none (chain_fault_in t f j)
    unfolding chain_fault_in
    chain_astray lo = rw (chain_swept, ne_eqb lost 0 (λ z. omega arith)) (some_above refl (omega arith))

    pub chain_unmet : (r : Option ℕ) → lost ≡ 0 → r ≡ or_none (first_of (unmet_in f e.detail g) (run 64 (64 * n))) → r ≡ or_none (chain_fault_in t f j)
    unfolding chain_fault_in ends_of
    chain_unmet r z er = rw (chain_swept, eq-eqb lost 0 z) (rw (ee, en) at er)

  module _ (es : sweep_on (head_walks t f) (run 1 (n + 1 - 1)) (replicate 8256 0) ≡ (lost, g)) where
    calc_swept : sweep_on (head_walks t f) (run 1 (pages t)) no_marks ≡ (lost, g)
    unfolding no_marks
    calc_swept = let same : n + 1 - 1 ≡ pages t = omega arith in rw same at es

    pub calc_astray : n < 65536 → 1 ≤ lost → lost < n + 1 → Some (64 * lost) ≡ or_none (calc_fault_in t f)
    unfolding calc_fault_in
    calc_astray few lo hi =
        let same : lost % 65536 ≡ lost = omega arith in
        rw (calc_swept, ne_eqb lost 0 (λ z. omega arith), same) (some_above refl (omega arith))

    pub calc_unmet : (r : Option ℕ) → lost ≡ 0 → r ≡ or_none (first_of (calc_unmet_in t f g) (run 64 (64 * n))) → r ≡ or_none (calc_fault_in t f)
    unfolding calc_fault_in
    calc_unmet r z er = rw (calc_swept, eq-eqb lost 0 z) (rw en at er)

-- the first fault of the chains in their order
pub ring_first : (t f : List ℕ) (n : ℕ) → n ≡ chains t → first_fault (chain_fault_in t f) (run 0 (n - 0)) ≡ ring_fault_in t f
unfolding ring_fault_in
ring_first t f n e = let same : n - 0 ≡ n = omega arith in rw (same, e)
