-- A turn of each walk round a ring, and its end, after i of n turns.
use Rattle.std.proofs.Common.{◌≡◌, ℕ, suc, ◌+◌, ◌-◌, ◌<◌, ◌≤◌, Bool, cond, List, arith, refl}
use lib.Dec.{eqb}
use Rattle.ledger.specs.Table.{is_master}
use Rattle.model.specs.declared.Between.{Between}
use Rattle.model.specs.Reads.{kind_in, next_in}
use Rattle.ring_model.specs.Rings.{master_from, back_from, next_without_in, stops_in, between_from, found_from, not_found}

left : (n i : ℕ) → i < n → n - i ≡ suc (n - (i + 1))
left n i h = omega arith

spent : (n i : ℕ) → n ≤ i → n - i ≡ 0
spent n i h = omega arith

module _ (t f : List ℕ) (j at n i : ℕ) where
  pub master_turn : i < n → master_from t f j at (n - i) ≡ cond (is_master t j (kind_in f at)) at (master_from t f j (next_in t f j at) (n - (i + 1)))
  unfolding master_from
  master_turn h = rw (left n i h) refl

  pub master_end : n ≤ i → master_from t f j at (n - i) ≡ at
  unfolding master_from
  master_end h = rw (spent n i h) refl

module _ (next : ℕ → ℕ) (c last at n i : ℕ) where
  pub back_turn : i < n → back_from next c last at (n - i) ≡ cond (eqb at c) last (back_from next c at (next at) (n - (i + 1)))
  unfolding back_from
  back_turn h = rw (left n i h) refl

  pub back_end : n ≤ i → back_from next c last at (n - i) ≡ last
  unfolding back_from
  back_end h = rw (spent n i h) refl

module _ (t f : List ℕ) (j m : ℕ) (key : List ℕ) (x before n i : ℕ) where
  pub between_turn : i < n → between_from t f j m key x before (n - i) ≡
      (let after : ℕ = next_without_in t f j x before in
      let here : Between = record { before = before; after = after } in
      cond (eqb after m) here (cond (stops_in t f j key after) here (between_from t f j m key x after (n - (i + 1)))))
  unfolding between_from
  between_turn h = rw (left n i h) refl

  pub between_end : n ≤ i → between_from t f j m key x before (n - i) ≡ record { before = before; after = m }
  unfolding between_from
  between_end h = rw (spent n i h) refl

module _ (next : ℕ → ℕ) (home passes : ℕ → Bool) (at place n : ℕ) where
  pub found_turn : place < n → found_from next home passes at place (n - place) ≡
      cond (home at) not_found (cond (passes at) (record { code = at; place = place }) (found_from next home passes (next at) (place + 1) (n - (place + 1))))
  unfolding found_from
  found_turn h = rw (left n place h) refl

  pub found_end : n ≤ place → found_from next home passes at place (n - place) ≡ not_found
  unfolding found_from
  found_end h = rw (spent n place h) refl
