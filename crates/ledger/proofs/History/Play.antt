-- What FORMAT leaves keeps the rules.
use Prim.Native.Nat.{ℕ}
use mathlib.Core.Path.{refl}
use mathlib.Core.Logic.{inl}
use mathlib.Core.Bool.{false≢true}
use mathlib.Core.List.{List}
use native.Mathlib.Omega.{arith}
use Rattle.ledger.specs.Numbers.{pairs, once}
use Rattle.ledger.specs.Pages.{bytes_with, empty, is_some, used, record_bytes, WellFormed}
use Rattle.ledger.specs.Currency.{unset, InForce}
use Rattle.ledger.specs.Calls.{State, start}
use Rattle.ledger.proofs.Lists.Members.{elem_nil}
use Rattle.ledger.proofs.Lists.Runs.{sum_of_most}
use Rattle.ledger.proofs.Lists.Parts.{get_d_zeros}

-- the ledger is well formed and the currency in force
pub record Fit (t : List ℕ) (s : State) : Type 0 where
  pub formed : WellFormed t s.ledger
  pub in_force : InForce t s.ledger s.cur

-- a fresh file is well formed, and its currency in force
start_formed : (t : List ℕ) → WellFormed t empty
unfolding used record_bytes bytes_with once pairs is_some
start_formed t = record {
  placed = λ x h. absurd (false≢true h);
  room = λ p. omega (arith, sum_of_most (λ k. 0) 0 1 63 (λ i. omega arith));
  calc_once = λ p. refl;
  calc_own = λ p x h. elem_nil x h;
  calc_all = λ x h. absurd (false≢true h);
  ring_once = λ j m. refl;
  ring_own = λ j m x h. elem_nil x h;
  ring_all = λ j x lt h. absurd (false≢true h);
  ring_one = λ j m n x h. elem_nil x h;
  in_order = λ j m. refl;
  no_twins = λ j m h g. refl;
  no_calc_twins = λ x y h. absurd (false≢true h);
}

start_in_force : (t : List ℕ) → InForce t empty unset
start_in_force t = record {
  run_there = inl refl;
  type_there = λ i. inl (get_d_zeros 16 i);
  type_right = λ i. inl (get_d_zeros 16 i);
  chain_there = λ i. inl (get_d_zeros 16 i);
  chain_right = λ i. inl (get_d_zeros 16 i);
}

pub start_fit : (t : List ℕ) → Fit t start
start_fit t = record { formed = start_formed t; in_force = start_in_force t }
