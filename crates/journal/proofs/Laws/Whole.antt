-- The ways out of the functions that C calls.
use Prim.Native.Nat.{ℕ, ◌+◌, ◌*◌, ◌≤◌, ◌<◌}
use mathlib.Core.Path.{◌≡◌}
use mathlib.Core.List.{List}
use borrow.Author.Tests.{eq-eqb, ne_eqb, lt-ltb, le-ltb}
use lib.ListN.{length}
use Rattle.std.proofs.Common.{Option, Some, None, Result}
use Rattle.std.specs.Bool.{⊤}
use Rattle.std.specs.Option.{unwrap_or}
use Rattle.restore_model.specs.declared.Refused.{Refused}
use Rattle.restore_model.specs.Texts.{pages_in, count_of, start_put, text_on, images_on}
use Rattle.restore_model.specs.Walks.{recovery_on, status, recover_on}

-- put_text
module _ (f g out : List ℕ) where
  pub text_apart : (length f ≡ length g → ⊥) → text_on f g out ≡ (None, out)
  unfolding text_on
  text_apart m = rw (ne_eqb (length f) (length g) m)

  module _ (e : length f ≡ length g) where
    pub text_unpaged : None ≡ pages_in (length f) → text_on f g out ≡ (None, out)
    unfolding text_on
    text_unpaged en = rw (eq-eqb (length f) (length g) e, ← en)

    module _ (n : ℕ) (en : Some n ≡ pages_in (length f)) (c : ℕ) (ec : c ≡ count_of f g n) where
      pub text_none : c ≡ 0 → text_on f g out ≡ (Some 0, out)
      unfolding text_on
      text_none z = rw (eq-eqb (length f) (length g) e, ← en, ← ec, eq-eqb c 0 z)

      module _ (cz : c ≡ 0 → ⊥) where
        pub text_room : length out < 1029 * c + 5 → text_on f g out ≡ (None, out)
        unfolding text_on
        text_room h = rw (eq-eqb (length f) (length g) e, ← en, ← ec, ne_eqb c 0 cz, lt-ltb (length out) (1029 * c + 5) h)

        pub text_put : (o : List ℕ) → 1029 * c + 5 ≤ length out → start_put out f g n ≡ o → text_on f g out ≡ (Some (1029 * c + 5), o)
        unfolding text_on
        text_put o h eo = rw (eq-eqb (length f) (length g) e, ← en, ← ec, ne_eqb c 0 cz, le-ltb (length out) (1029 * c + 5) h, eo)

-- gerunjap_images
pub images_numbered : (f g out : List ℕ) (t : Option ℕ) (o : List ℕ) (r : ℕ) → text_on f g out ≡ (t, o) → r ≡ unwrap_or t 4294967295 → images_on f g out ≡ (r, o)
unfolding images_on
images_numbered f g out t o r e er = rw (e, er)

-- gerunjap_recover
pub recovered_status : (f j s : List ℕ) (r : Result ⊤ Refused) (g u : List ℕ) → recovery_on f j s ≡ (r, g, u) → recover_on f j s ≡ (status r, g, u)
unfolding recover_on
recovered_status f j s r g u e = rw e
