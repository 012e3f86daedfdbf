-- A disk that recovery makes the file f: recovery leaves f and an empty journal, and recovery cut anywhere leaves such a disk.
use Prim.Native.Nat.{ℕ, zero, suc, ◌*◌}
use mathlib.Core.Path.{◌≡◌, refl, ◌∙◌, ap}
use mathlib.Core.Logic.{◌⊎◌, inl, inr}
use mathlib.Core.List.{List, [], ◌∷◌, ◌++◌, append-nil}
use lib.ListN.{length}
use borrow.Author.Tests.{eq-eqb}
use Rattle.ledger.specs.Journal.Writes.{clear, stores, Disk, disk, performed, cut_at}
use Rattle.ledger.specs.Journal.Recovery.{lines_of, readied, group_from, last_group, recovery_of, restore, recovery, recovery_writes, recovered, interrupted}
use Rattle.journal_laws.proofs.Places.{But, but_none}
use Rattle.journal_laws.proofs.Cuts.{performed_append, cut_append, Rises, stores_whole, stores_cut}

-- the file is f, and nothing is to be put back; or it is f but for pages whose images stand in the journal, with a ready and no done
pub data Mends (n : ℕ) (f : List ℕ) : Disk → Type 0 where
  idle : (j : List ℕ) → recovery_of (last_group n j) ≡ restore (clear ∷ []) → Mends n f (disk f j)
  torn : (g j ps : List ℕ) → Rises n 0 ps → But ps g f → last_group n j ≡ readied (stores f ps) → Mends n f (disk g j)

-- the journal emptied, whole or not at all
clear_cut : (m k : ℕ) (d : Disk) → (performed (cut_at m k (clear ∷ [])) d ≡ d) ⊎ (performed (cut_at m k (clear ∷ [])) d ≡ disk d.file [])
unfolding performed cut_at
clear_cut zero zero d = inl (ap (λ (j : List ℕ). disk d.file j) (append-nil d.journal))
clear_cut zero (suc k) d = inr refl
clear_cut (suc m) k d = inr refl

module _ (n : ℕ) (f : List ℕ) (size : length f ≡ 512 * n) where
  mends_empty : Mends n f (disk f [])
  unfolding last_group group_from lines_of
  mends_empty = idle [] refl

  sized : (g j : List ℕ) → length g ≡ length f → recovery n (disk g j) ≡ recovery_of (last_group n j)
  unfolding recovery
  sized g j e = rw (eq-eqb (length g) (512 * n) (e ∙ size))

  -- what recovery does
  idle_recovery : (j : List ℕ) → recovery_of (last_group n j) ≡ restore (clear ∷ []) → recovery n (disk f j) ≡ restore (clear ∷ [])
  idle_recovery j e = sized f j refl ∙ e

  torn_recovery : (g j ps : List ℕ) → But ps g f → last_group n j ≡ readied (stores f ps) → recovery n (disk g j) ≡ restore (stores f ps ++ (clear ∷ []))
  torn_recovery g j ps b e = sized g j b.size ∙ ap recovery_of e

  pub mends_restores : (d : Disk) → Mends n f d → recovery n d ≡ restore (recovery_writes n d)
  mends_restores d (idle j e) = rw (idle_recovery j e)
  mends_restores d (torn g j ps r b e) = rw (torn_recovery g j ps b e)

  pub mends_recovered : (d : Disk) → Mends n f d → recovered n d ≡ disk f []
  unfolding performed
  mends_recovered d (idle j e) = rw (idle_recovery j e)
  mends_recovered d (torn g j ps r b e) =
      rw (torn_recovery g j ps b e, performed_append (stores f ps) (clear ∷ []) (disk g j), stores_whole n ps g f j 0 r size b)

  pub mends_cut : (m k : ℕ) (d : Disk) → Mends n f d → Mends n f (performed (cut_at m k (recovery_writes n d)) d)
  mends_cut m k d (idle j e) =
      rw (idle_recovery j e)
      (elim (clear_cut m k (disk f j)) [
        | inl q ↦ rw q (idle j e)
        | inr q ↦ rw q mends_empty
      ])
  mends_cut m k d (torn g j ps r b e) =
      rw (torn_recovery g j ps b e)
      (elim (cut_append m k (stores f ps) (clear ∷ [])) [
        | inl q ↦ (
            let (g', s, b') = stores_cut n m k ps ps g f f j 0 r (λ p i. i) b in
            rw (q, s) (torn g' j ps r b' e))
        | inr q ↦
            rw (q.1, performed_append (stores f ps) (cut_at q.0 k (clear ∷ [])) (disk g j), stores_whole n ps g f j 0 r size b)
            (elim (clear_cut q.0 k (disk f j)) [
              | inl c ↦ rw c (torn f j ps r (but_none ps f) e)
              | inr c ↦ rw c mends_empty
            ])
      ])

  pub mends_interrupted : (cs : List (ℕ × ℕ)) (d : Disk) → Mends n f d → Mends n f (interrupted n cs d)
  unfolding interrupted
  mends_interrupted [] d h = h
  mends_interrupted (c ∷ cs) d h = mends_interrupted cs _ (mends_cut c.0 c.1 d h)
