-- Recovery twice, on any disk; and calls one after another, with a cut at any moment.
use Prim.Native.Nat.{ℕ, suc, ◌*◌, ◌≤◌}
use mathlib.Core.Path.{◌≡◌, refl, ◌∙◌, ap}
use mathlib.Core.Logic.{◌⊎◌, inl, inr}
use mathlib.Core.List.{List, [], ◌∷◌}
use native.Mathlib.Omega.{arith}
use lib.ListN.{length, get_or}
use lib.Dec.{eqb}
use Rattle.ledger.proofs.Lists.Tests.{by_cases}
use Rattle.ledger.specs.Journal.Writes.{clear, writes, Disk, disk, performed, cut_at, calls}
use Rattle.ledger.specs.Journal.Recovery.{lines_of, Group, finished, imaged, readied, wrong, group_from, last_group, recovery_of, writes_in, recovery, recovered, interrupted}
use Rattle.ledger.specs.Journal.Survival.{FileOf, Earlier, none, call, Survives, last_file, FilesOf}
use Rattle.journal_laws.proofs.Cuts.{performed_append, cut_append}
use Rattle.journal_laws.proofs.Mends.{Mends, mends_recovered, mends_interrupted}
use Rattle.journal_laws.proofs.Whole.{call_written, earlier_settled}
use Rattle.journal_laws.proofs.Survives.{settled_mends, survives}

-- recovery changes nothing, or empties the journal
left_by : (g : Group) (d : Disk) → (performed (writes_in (recovery_of g)) d ≡ d) ⊎ ((f : List ℕ) × (performed (writes_in (recovery_of g)) d ≡ disk f []))
unfolding performed
left_by finished d = inr (_, refl)
left_by (imaged last back) d = inr (_, refl)
left_by (readied back) d = inr (_, performed_append back (clear ∷ []) d)
left_by wrong d = inl refl

left : (n : ℕ) (d : Disk) → (recovered n d ≡ d) ⊎ ((f : List ℕ) × (recovered n d ≡ disk f []))
unfolding recovery
left n d = by_cases (eqb (length d.file) (512 * n))
    (λ e. rw e (left_by (last_group n d.journal) d))
    (λ e. rw e (inl (unfold performed in refl)))

-- where the journal is empty, nothing is changed
left_empty : (n : ℕ) (f : List ℕ) → recovered n (disk f []) ≡ disk f []
unfolding recovery last_group group_from lines_of performed
left_empty n f = by_cases (eqb (length f) (512 * n)) (λ e. rw e) (λ e. rw e)

-- "running recovery twice changes nothing more": on any disk, refused or not
pub recovered_twice : (n : ℕ) (d : Disk) → recovered n (recovered n d) ≡ recovered n d
recovered_twice n d =
    elim (left n d) [
      | inl e ↦ ap (recovered n) e
      | inr e ↦ rw e.1 (left_empty n e.0)
    ]

-- calls one after another, all whole: the last file, and groups that are done
calls_left : (n : ℕ) (f : List ℕ) (gs : List (List ℕ)) (j : List ℕ) → FileOf n f → FilesOf n gs → Earlier n j
    → (j' : List ℕ) × (performed (calls n f gs) (disk f j) ≡ disk (last_file f gs) j') × Earlier n j' × FileOf n (last_file f gs)
unfolding calls
calls_left n f [] j a b e = (j, unfold performed in refl, e, a)
calls_left n f (g ∷ gs) j a b e =
    let (i, q, _) = call_written n f g a b.0 j (earlier_settled n j e) in
    let (j', r, e', a') = calls_left n g gs i b.0 b.1 (rw q at (call f g a b.0 e)) in
    (j', performed_append (writes n f g) (calls n g gs) (disk f j) ∙ rw q r, e', a')

-- after any number of whole calls, from an empty journal: a cut in the next
pub next_survives : (n : ℕ) (f : List ℕ) (gs : List (List ℕ)) (f' : List ℕ) → FileOf n f → FilesOf n gs → FileOf n f' → (m k : ℕ) (cs : List (ℕ × ℕ))
    → ((performed (calls n f gs) (disk f [])).file ≡ last_file f gs) × Survives n (last_file f gs) f' (performed (calls n f gs) (disk f [])).journal m k cs
next_survives n f gs f' a b a' m k cs =
    let (j, q, e, last) = calls_left n f gs [] a b none in
    rw q (refl, survives n (last_file f gs) f' j last a' e m k cs)

-- "A cut at any moment" of any calls, also in recovery: one of the files before, between and after them
pub any_cut : (n : ℕ) (f : List ℕ) (gs : List (List ℕ)) (j : List ℕ) → FileOf n f → FilesOf n gs → Earlier n j → (m k : ℕ) (cs : List (ℕ × ℕ))
    → (i : ℕ) × (i ≤ length gs) × (recovered n (interrupted n cs (performed (cut_at m k (calls n f gs)) (disk f j))) ≡ disk (get_or (f ∷ gs) i []) [])
unfolding calls
any_cut n f [] j a b e m k cs =
    let h : Mends n f (performed (cut_at m k []) (disk f j)) = unfold cut_at performed in settled_mends n f j (earlier_settled n j e) in
    (0, omega arith, mends_recovered n f a.size _ (mends_interrupted n f a.size cs _ h))
any_cut n f (g ∷ gs) j a b e m k cs =
    elim (cut_append m k (writes n f g) (calls n g gs)) [
      | inl c ↦
          elim (survives n f g j a b.0 e m k cs).one_of [
            | inl q ↦ (0, omega arith, rw c q)
            | inr q ↦ (1, omega arith, rw c q)
          ]
      | inr c ↦ (
          let (h, q, _) = call_written n f g a b.0 j (earlier_settled n j e) in
          let (i, le, r) = any_cut n g gs h b.0 b.1 (rw q at (call f g a b.0 e)) c.0 k cs in
          (suc i, omega arith, rw (c.1, performed_append (writes n f g), q) r))
    ]
