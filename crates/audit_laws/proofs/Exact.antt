-- Refusal 3, exactly: the audit finds no fault if and only if the file is sound for some ledger.
use Prim.Native.Nat.{ℕ, ◌*◌, ◌<◌}
use mathlib.Core.Path.{◌≡◌}
use mathlib.Core.Logic.{◌↔◌}
use mathlib.Core.List.{List}
use native.Mathlib.Omega.{arith}
use lib.ListN.{length, get_or}
use lib.Dec.{eqb}
use borrow.Author.Tests.{eqb-true}
use Rattle.ledger.specs.Table.{pages, Accepted}
use Rattle.ledger.specs.Pages.{Ledger, Sound}
use Rattle.ledger.specs.Image.{Imaged}
use Rattle.ledger.proofs.Lists.Tests.{by_cases}
use Rattle.model.specs.Reads.{head_next_in}
use Rattle.audit_model.specs.Scan.{scan, records_in}
use Rattle.audit_model.specs.Calcs.{calc_fault_in}
use Rattle.audit_model.specs.Chains.{ring_fault_in}
use Rattle.audit_model.specs.Faults.{ring_place, order_place, audit_on, fault_number}
use Rattle.audit_model.proofs.Scan.Exact.{clean_imaged, sound_scanned}
use Rattle.audit_laws.proofs.Firsts.{first_place_lem}
use Rattle.audit_laws.proofs.Chains.{ring_fault_exactly}
use Rattle.audit_laws.proofs.Calcs.{calc_fault_exactly}
use Rattle.audit_laws.proofs.OrderPhase.{order_phase_exactly}

-- no fault exactly where no phase finds one
pub none_found : (t f : List ℕ) → (fault_number (audit_on t f) ≡ 0) ↔ ((scan t f ≡ 0) × (ring_place t f ≡ 0) × (order_place t f ≡ 0))
unfolding audit_on
none_found t f = (
  λ e. by_cases (eqb (scan t f) 0)
      (λ s. by_cases (eqb (ring_place t f) 0)
      (λ r. by_cases (eqb (order_place t f) 0)
      (λ o. (eqb-true _ _ s, eqb-true _ _ r, eqb-true _ _ o))
      (λ o. let bad : 3 ≡ 0 = rw (s, r, o) at e in absurd (omega arith)))
      (λ r. let bad : 3 ≡ 0 = rw (s, r) at e in absurd (omega arith)))
      (λ s. let bad : 3 ≡ 0 = rw s at e in absurd (omega arith)),
  λ p. rw (p.0, p.1, p.2),
)

module _ (t f : List ℕ) (a : Accepted t) (small : (i : ℕ) → get_or f i 0 < 256) (long : length f ≡ 512 * pages t) where
  -- of the image that the scan shows
  shown : scan t f ≡ 0 → Imaged t f (records_in t f) (head_next_in f)
  shown e = clean_imaged t f small long e

  pub audit_exactly : (fault_number (audit_on t f) ≡ 0) ↔ ((l : Ledger) × Sound t f l)
  unfolding ring_place
  audit_exactly = (there, back)
    where
      there : fault_number (audit_on t f) ≡ 0 → (l : Ledger) × Sound t f l
      there e =
          let (s, r, o) = (none_found t f).0 e in
          let i = shown s in
          let (c, g) = (first_place_lem (calc_fault_in t f) (ring_fault_in t f)).0 r in
          let rings = (ring_fault_exactly t f _ _ a i).0 g in
          (sound_scanned t f a small long).1 (
            s,
            record {
              paged = i.paged;
              ringed = λ j lt. (rings j lt).0;
              priors = λ j lt. (rings j lt).1;
              calced = (calc_fault_exactly t f _ _ a i).0 c;
              ordered = (order_phase_exactly t f _ _ a i (λ j lt. (rings j lt).0)).0 o;
            },
          )

      back : ((l : Ledger) × Sound t f l) → fault_number (audit_on t f) ≡ 0
      back q =
          let (s, w) = (sound_scanned t f a small long).0 q in
          let i = shown s in
          (none_found t f).1 (
            s,
            (first_place_lem (calc_fault_in t f) (ring_fault_in t f)).1
                ((calc_fault_exactly t f _ _ a i).1 w.calced, (ring_fault_exactly t f _ _ a i).1 (λ j lt. (w.ringed j lt, w.priors j lt))),
            (order_phase_exactly t f _ _ a i w.ringed).1 w.ordered,
          )
