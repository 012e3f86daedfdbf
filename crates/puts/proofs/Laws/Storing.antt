-- STORE.
use Prim.Native.Nat.{ℕ, zero, suc, ◌+◌, ◌-◌, ◌<◌, ◌≤◌}
use mathlib.Core.Path.{◌≡◌, refl, sym, ap}
use mathlib.Core.List.{List, ◌∷◌}
use native.Mathlib.Omega.{arith}
use native.Mathlib.Numerals.{add-one}
use Rattle.std.specs.Prelude.{length, drop, map}
use Rattle.std.proofs.Math.ListN.{drop_of_length-le}
use Rattle.std.proofs.Math.Seq.{drop-cons}
use denote.Param.Members.{Mut}
use Rattle.std.specs.Array.{IsFromFnResult, IsFromFnResultFrom}
use Rattle.std.specs.Fn.{Called}
use Rattle.ledger.specs.declared.Currency.{Currency}
use Rattle.ledger.specs.Numbers.{run}
use Rattle.model.specs.declared.Gap.{Gap}
use Rattle.model.specs.declared.Between.{Between}
use Rattle.ledger.specs.Bytes.{page_in}
use Rattle.model.specs.Room.{first_gap}
use Rattle.act_model.specs.Storing.{gap_in, places_by, place_at, entered_in, entered_from, entered_all, stored_code, stored_with, stored_on}

-- gaps_of: an array of what a closure gives for each index, where no call changes it
module _ {F B : Type 0} {g : Mut F (ℕ × Unit {0}) B} (h : ℕ → B) (f : F) (calls : (x : ℕ) (y : B) (q : F) → Called g f (x, tt) y q → (q ≡ f) × (y ≡ h x)) (ys : List B) where
  made_from : (n i : ℕ) → i + n ≡ length ys → IsFromFnResultFrom g f ys i n → drop i ys ≡ map h (run i n)
  unfolding run
  made_from zero i e each = drop_of_length-le ys (omega arith)
  made_from (suc n) i e (q, y, is, call, rest) =
      let (same, ey) = calls i y q call in
      let lt : i < length ys = omega arith in
      rw (drop-cons ys i y lt, is.1 y, ey) (ap (λ zs. h i ∷ zs) (rw add-one at (made_from n (i + 1) (omega arith) (rw same at rest))))

  pub made_of : (n : ℕ) → IsFromFnResult g f ys n → ys ≡ map h (run 0 n)
  made_of n made = made_from n 0 (omega (arith, made.long)) made.each

-- link_all
module _ (t f g : List ℕ) (n x j : ℕ) (gaps : ℕ → Between) where
  pub enter_next : (gap : Between) (y : List ℕ) → entered_from t f n x gaps j (16 - j) ≡ y → j < 16 → gap ≡ gaps j
      → entered_in t f n x j gap ≡ g → entered_from t g n x gaps (j + 1) (16 - (j + 1)) ≡ y
  unfolding entered_from
  enter_next gap y inv h eg e = let k : 16 - j ≡ suc (16 - (j + 1)) = omega arith in rw (← e, eg) (rw k at inv)

pub enter_first : (t f : List ℕ) (n x : ℕ) (gaps : ℕ → Between) → entered_from t f n x gaps 0 16 ≡ entered_all t f n x gaps
unfolding entered_all
enter_first t f n x gaps = refl

pub enter_end : (t f : List ℕ) (n x j : ℕ) (gaps : ℕ → Between) (y : List ℕ) → entered_from t f n x gaps j (16 - j) ≡ y → 16 ≤ j → y ≡ f
unfolding entered_from
enter_end t f n x j gaps y inv h = let k : 16 - j ≡ 0 = omega arith in sym (rw k at inv)

-- store_act: the gaps kept in an array are those that were found
places_kept : (t f : List ℕ) (n x : ℕ) (g : ℕ → Between) → entered_all t f n x (place_at (places_by g)) ≡ entered_all t f n x g
unfolding entered_all entered_from place_at places_by run
places_kept t f n x g = refl

pub stored_is : (t f : List ℕ) (cur : Currency) (n : ℕ) (d page g : List ℕ) (p x : ℕ) (gap : Gap) (ps : List Between)
    → page ≡ page_in f p → gap ≡ first_gap page → x ≡ stored_code p gap → ps ≡ places_by (gap_in t f cur n d x)
    → stored_with t f n d p gap x (place_at ps) ≡ g → stored_on t f cur n d p ≡ (x, g)
unfolding stored_on stored_with
stored_is t f cur n d page g p x gap ps epage egap ex eps e =
    rw (← epage, ← egap, ← ex, ← places_kept t _ n x (gap_in t f cur n d x), ← eps, e)
