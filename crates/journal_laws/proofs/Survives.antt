-- A call cut anywhere: recovery leaves the file before it, or after it where all was written.
use Prim.Native.Nat.{ℕ, zero, suc}
use mathlib.Core.Path.{◌≡◌, refl, ◌∙◌, ap}
use mathlib.Core.Logic.{◌⊎◌, inl, inr}
use mathlib.Core.List.{List, [], ◌∷◌, ◌++◌, append_assoc}
use lib.ListN.{take}
use Rattle.ledger.specs.Numbers.{concat_of}
use Rattle.ledger.specs.Journal.Writes.{image_line, ready_line, done_line, Write, append, clear, changed, images, stores, writes_of, writes, Disk, disk, performed, cut_at}
use Rattle.ledger.specs.Journal.Recovery.{Group, finished, imaged, readied, last_group, recovery_of, restore}
use Rattle.ledger.specs.Journal.Survival.{FileOf, Earlier, lost, Survives}
use Rattle.journal_laws.proofs.Texts.{read_on, line_cut}
use Rattle.journal_laws.proofs.Places.{But, but_none, but_turned}
use Rattle.journal_laws.proofs.Cuts.{performed_append, cut_append, Rises, changed_rise, changed_but, stores_whole, stores_cut}
use Rattle.journal_laws.proofs.Groups.{open_finished, read_all_images, images_whole, images_cut}
use Rattle.journal_laws.proofs.Mends.{Mends, idle, torn, mends_restores, mends_recovered, mends_interrupted}
use Rattle.journal_laws.proofs.Whole.{Settled, up_to_ready, read_back, ready_stands, call_written, settled_finished, earlier_settled}

module _ (n : ℕ) (f f' : List ℕ) (a : FileOf n f) (a' : FileOf n f') where
  -- A call that changes the pages p ∷ ps, cut anywhere: all was written, or recovery makes the file before.
  module _ (p : ℕ) (ps j : List ℕ) (r : Rises n 0 (p ∷ ps)) (b : But (p ∷ ps) f' f) (s : Settled n j) (k : ℕ) where
    abbrev All : List Write → ℕ → List ℕ → List ℕ → Type 0
    All ws m g h = (cut_at m k ws ≡ ws) ⊎ Mends n f (performed (cut_at m k ws) (disk g h))

    abbrev ready_journal : List ℕ
    ready_journal = up_to_ready f j (p ∷ ps)

    -- ready was read, and a done line was not
    ready_read : (x : List ℕ) → read_on n (readied (stores f (p ∷ ps))) x ≡ readied (stores f (p ∷ ps)) → last_group n (ready_journal ++ x) ≡ readied (stores f (p ∷ ps))
    unfolding last_group
    ready_read x e = read_back n f a p ps j x r s ∙ e

    -- images were read, and no ready
    images_idle : (x : List ℕ) → ((g : Group) → read_on n g x ≡ g) → recovery_of (last_group n ((j ++ concat_of (image_line f) (p ∷ ps)) ++ x)) ≡ restore (clear ∷ [])
    unfolding last_group
    images_idle x e =
        let (last, q) = read_all_images n f a p ps x r in
        rw (append_assoc, s, q, e (imaged last (stores f (p ∷ ps))))

    -- in the done line; in the stores; in the ready line; in the images
    done_cut : (m : ℕ) → All (append done_line ∷ []) m f' ready_journal
    unfolding cut_at performed
    done_cut zero =
        elim (line_cut k (255 ∷ 255 ∷ [])) [
          | inl e ↦ inl (ap (λ (bs : List ℕ). append bs ∷ []) e)
          | inr e ↦ inr (torn f' _ (p ∷ ps) r b (ready_read (take k done_line) (e n _)))
        ]
    done_cut (suc m) = inl refl

    stored_cut : (m : ℕ) → All (stores f' (p ∷ ps) ++ (append done_line ∷ [])) m f ready_journal
    stored_cut m =
        elim (cut_append m k (stores f' (p ∷ ps)) (append done_line ∷ [])) [
          | inl e ↦ (
              let (g, q, c) = stores_cut n m k (p ∷ ps) (p ∷ ps) f f' f ready_journal 0 r (λ x i. i) (but_none (p ∷ ps) f) in
              inr (rw (e, q) (torn g ready_journal (p ∷ ps) r c (ready_stands n f a p ps j r s))))
          | inr e ↦
              elim (done_cut e.0) [
                | inl q ↦ inl (e.1 ∙ ap (λ (ws : List Write). stores f' (p ∷ ps) ++ ws) q)
                | inr q ↦
                    inr (rw (e.1, performed_append (stores f' (p ∷ ps)), stores_whole n (p ∷ ps) f f' ready_journal 0 r a'.size (but_turned b)) q)
              ]
        ]

    ready_cut : (m : ℕ) → All (append ready_line ∷ stores f' (p ∷ ps) ++ (append done_line ∷ [])) m f (j ++ concat_of (image_line f) (p ∷ ps))
    unfolding cut_at performed
    ready_cut zero =
        elim (line_cut k (0 ∷ 0 ∷ [])) [
          | inl e ↦ inr (rw e (torn f ready_journal (p ∷ ps) r (but_none (p ∷ ps) f) (ready_stands n f a p ps j r s)))
          | inr e ↦ inr (idle _ (images_idle (take k ready_line) (e n)))
        ]
    ready_cut (suc m) =
        elim (stored_cut m) [
          | inl e ↦ inl (ap (λ (ws : List Write). append ready_line ∷ ws) e)
          | inr q ↦ inr q
        ]

    call_cut : (m : ℕ) → All (writes_of f f' (p ∷ ps)) m f j
    unfolding writes_of
    call_cut m =
        let rest = append ready_line ∷ stores f' (p ∷ ps) ++ (append done_line ∷ []) in
        elim (cut_append m k (images f (p ∷ ps)) rest) [
          | inl e ↦ (
              let (x, q, i) = images_cut n f a m k (p ∷ ps) finished 0 [] f j open_finished r in
              inr (rw (e, q) (idle (j ++ x) (unfold last_group in rw (s x) i))))
          | inr e ↦
              elim (ready_cut e.0) [
                | inl q ↦ inl (e.1 ∙ ap (λ (ws : List Write). images f (p ∷ ps) ++ ws) q)
                | inr q ↦ inr (rw (e.1, performed_append (images f (p ∷ ps)), images_whole n f a (p ∷ ps) f j) q)
              ]
        ]

  cut_or_all : (ps j : List ℕ) → Rises n 0 ps → But ps f' f → Settled n j → (m k : ℕ)
      → (cut_at m k (writes_of f f' ps) ≡ writes_of f f' ps) ⊎ Mends n f (performed (cut_at m k (writes_of f f' ps)) (disk f j))
  unfolding writes_of cut_at
  cut_or_all [] j r b s m k = inl refl
  cut_or_all (p ∷ ps) j r b s m k = call_cut p ps j r b s k m

pub settled_mends : (n : ℕ) (f j : List ℕ) → Settled n j → Mends n f (disk f j)
settled_mends n f j s = idle j (ap recovery_of (settled_finished n j s))

-- the theorem: what recovery leaves after a cut of a call, and cuts of recovery
pub survives : (n : ℕ) (f f' j : List ℕ) → FileOf n f → FileOf n f' → Earlier n j → (m k : ℕ) (cs : List (ℕ × ℕ)) → Survives n f f' j m k cs
survives n f f' j a a' e m k cs = record {
  restores =
      elim either [
        | inl w ↦ mends_restores n f' a'.size d (after w)
        | inr h ↦ mends_restores n f a.size d (before h)
      ];
  one_of =
      elim either [
        | inl w ↦ inr (mends_recovered n f' a'.size d (after w))
        | inr h ↦ inl (mends_recovered n f a.size d (before h))
      ];
  before = λ ne.
      elim either [
        | inl w ↦ absurd (ne w)
        | inr h ↦ mends_recovered n f a.size d (before h)
      ];
  after = λ w. mends_recovered n f' a'.size d (after w);
}
  where
    s : Settled n j
    s = earlier_settled n j e

    d : Disk
    d = lost n f f' j m k cs

    either : (cut_at m k (writes n f f') ≡ writes n f f') ⊎ Mends n f (performed (cut_at m k (writes n f f')) (disk f j))
    either = cut_or_all n f f' a a' (changed n f f') j (changed_rise n f f') (changed_but n f f' a.size a'.size) s m k

    before : Mends n f (performed (cut_at m k (writes n f f')) (disk f j)) → Mends n f d
    before h = mends_interrupted n f a.size cs _ h

    after : cut_at m k (writes n f f') ≡ writes n f f' → Mends n f' d
    after w =
        let (j', q, s') = call_written n f f' a a' j s in
        mends_interrupted n f' a'.size cs _ (rw (w, q) (settled_mends n f' j' s'))
