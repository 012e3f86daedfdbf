-- A call's dues write what the call writes.
use Prim.Native.Nat.{ℕ}
use mathlib.Core.Path.{◌≡◌, refl, ap}
use mathlib.Core.List.{List, [], ◌∷◌, ◌++◌, map, map-append}
use Rattle.ledger.specs.Journal.Writes.{ready_line, done_line, Write, append, changed, images, stores, writes_of, writes}
use Rattle.ledger.specs.declared.Due.TheVariants.{Image, Ready, Store, Done}
use Rattle.ledger.specs.Journal.Dues.{call_dues, write_due}

-- images, stores, and with the lines between them
module _ (f g : List ℕ) where
  images_due : (ps : List ℕ) → map (write_due f g) (map Image ps) ≡ images f ps
  unfolding write_due images
  images_due [] = refl
  images_due (p ∷ ps) = ap (λ (ws : List Write). write_due f g (Image p) ∷ ws) (images_due ps)

  stores_due : (ps : List ℕ) → map (write_due f g) (map Store ps) ≡ stores g ps
  unfolding write_due stores
  stores_due [] = refl
  stores_due (p ∷ ps) = ap (λ (ws : List Write). write_due f g (Store p) ∷ ws) (stores_due ps)

  some_due : (ps : List ℕ) → map (write_due f g) (map Image ps ++ (Ready ∷ map Store ps ++ (Done ∷ [])))
      ≡ images f ps ++ (append ready_line ∷ stores g ps ++ (append done_line ∷ []))
  some_due ps =
      let ready : write_due f g Ready ≡ append ready_line = unfold write_due in refl in
      let done : write_due f g Done ≡ append done_line = unfold write_due in refl in
      rw (map-append (write_due f g) (map Image ps), images_due ps, map-append (write_due f g) (map Store ps), stores_due ps, ready, done)

  all_due : (ps : List ℕ) → map (write_due f g) (call_dues ps) ≡ writes_of f g ps
  unfolding call_dues writes_of
  all_due [] = refl
  all_due (p ∷ ps) = some_due (p ∷ ps)

-- the dues of a call write just what it writes
pub call_writes : (n : ℕ) (f g : List ℕ) → map (write_due f g) (call_dues (changed n f g)) ≡ writes n f g
call_writes n f g = all_due f g (changed n f g)
