-- A whole call: the file after it, and its group in the journal is done; what calls wrote is read back.
use Prim.Native.Nat.{ℕ}
use mathlib.Core.Path.{◌≡◌, refl, sym, ◌∙◌, ap}
use mathlib.Core.Logic.{◌≢◌}
use mathlib.Core.List.{List, [], ◌∷◌, ◌++◌, append_assoc, append-nil}
use Rattle.ledger.specs.Numbers.{concat_of}
use Rattle.ledger.specs.Journal.Writes.{image_line, ready_line, done_line, append, changed, images, stores, writes_of, writes, disk, performed}
use Rattle.ledger.specs.Journal.Recovery.{lines_of, finished, readied, group_from, last_group}
use Rattle.ledger.specs.Journal.Survival.{FileOf, Earlier, none, call, ReadBack}
use Rattle.journal_laws.proofs.Texts.{read_on}
use Rattle.journal_laws.proofs.Places.{But, but_turned, but_all}
use Rattle.journal_laws.proofs.Cuts.{performed_append, Rises, changed_rise, changed_but, stores_whole}
use Rattle.journal_laws.proofs.Groups.{read_ready, read_done, read_all_images, images_whole}

-- a journal of groups that are done: reading goes on after it as from the start
abbrev pub Settled : ℕ → List ℕ → Type 0
Settled n j = (x : List ℕ) → read_on n finished (j ++ x) ≡ read_on n finished x

-- the journal j, images of f's pages, and a ready line
abbrev pub up_to_ready : List ℕ → List ℕ → List ℕ → List ℕ
up_to_ready f j ps = (j ++ concat_of (image_line f) ps) ++ ready_line

module _ (n : ℕ) (f : List ℕ) (a : FileOf n f) where
  -- read-back: after images and ready exactly these images are read, to be put back
  pub read_back : (p : ℕ) (ps j x : List ℕ) → Rises n 0 (p ∷ ps) → Settled n j → read_on n finished (up_to_ready f j (p ∷ ps) ++ x) ≡ read_on n (readied (stores f (p ∷ ps))) x
  read_back p ps j x r s =
      let (last, e) = read_all_images n f a p ps (ready_line ++ x) r in
      simp append_assoc (s _ ∙ e ∙ read_ready n last (stores f (p ∷ ps)) x)

  pub ready_stands : (p : ℕ) (ps j : List ℕ) → Rises n 0 (p ∷ ps) → Settled n j → last_group n (up_to_ready f j (p ∷ ps)) ≡ readied (stores f (p ∷ ps))
  unfolding last_group group_from lines_of
  ready_stands p ps j r s = rw append-nil at (read_back p ps j [] r s)

module _ (n : ℕ) (f f' : List ℕ) (a : FileOf n f) (a' : FileOf n f') where
  all_written : (p : ℕ) (ps j : List ℕ) → Rises n 0 (p ∷ ps) → But (p ∷ ps) f' f
      → performed (writes_of f f' (p ∷ ps)) (disk f j) ≡ disk f' (up_to_ready f j (p ∷ ps) ++ done_line)
  unfolding writes_of performed
  all_written p ps j r b =
      rw (
        performed_append (images f (p ∷ ps)),
        images_whole n f a (p ∷ ps) f j,
        performed_append (stores f' (p ∷ ps)),
        stores_whole n (p ∷ ps) f f' (up_to_ready f j (p ∷ ps)) 0 r a'.size (but_turned b),
      )

  -- a whole call: the file after it, and its group is done
  written : (ps j : List ℕ) → Rises n 0 ps → But ps f' f → Settled n j → (j' : List ℕ) × (performed (writes_of f f' ps) (disk f j) ≡ disk f' j') × Settled n j'
  unfolding writes_of performed
  written [] j r b s = (j, ap (λ (h : List ℕ). disk h j) (sym (but_all f' f b)), s)
  written (p ∷ ps) j r b s =
      (up_to_ready f j (p ∷ ps) ++ done_line, all_written p ps j r b, λ x. rw (append_assoc (up_to_ready f j (p ∷ ps))) (read_back n f a p ps j (done_line ++ x) r s ∙ read_done n (stores f (p ∷ ps)) x))

  -- the pages that differ, the file and the journal after a whole call
  pub call_written : (j : List ℕ) → Settled n j → (j' : List ℕ) × (performed (writes n f f') (disk f j) ≡ disk f' j') × Settled n j'
  call_written j s = written (changed n f f') j (changed_rise n f f') (changed_but n f f' a.size a'.size) s

pub settled_finished : (n : ℕ) (j : List ℕ) → Settled n j → last_group n j ≡ finished
unfolding last_group group_from lines_of
settled_finished n j s = rw append-nil at (s [])

-- earlier calls' lines are groups that are done
pub earlier_settled : (n : ℕ) (j : List ℕ) → Earlier n j → Settled n j
earlier_settled n j none = λ x. refl
earlier_settled n j (call {j = i} f f' a a' e) =
    let (j', q, s) = call_written n f f' a a' i (earlier_settled n i e) in
    rw q s

-- what was written is read
pub reads_back : (n : ℕ) (f f' j : List ℕ) → FileOf n f → FileOf n f' → Earlier n j → ReadBack n f f' j
reads_back n f f' j a a' e =
    let s = earlier_settled n j e in
    let (j', q, s') = call_written n f f' a a' j s in
    record {
      earlier_done = settled_finished n j s;
      images_read = λ some. images_stand (changed n f f') (changed_rise n f f') s some;
      call_done = rw q (settled_finished n j' s');
    }
  where
    images_stand : (ps : List ℕ) → Rises n 0 ps → Settled n j → ps ≢ []
        → last_group n (performed (images f ps ++ (append ready_line ∷ [])) (disk f j)).journal ≡ readied (stores f ps)
    images_stand [] r s some = absurd (some refl)
    images_stand (p ∷ ps) r s some = rw (performed_append (images f (p ∷ ps)), images_whole n f a (p ∷ ps) f j) (unfold performed in ready_stands n f a p ps j r s)
