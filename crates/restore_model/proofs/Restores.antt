-- What the journal's recovery computes is `recovery`.
use Prim.Native.Nat.{ℕ, ◌*◌, ◌-◌, ◌≤◌, ◌<◌}
use mathlib.Core.Path.{◌≡◌, refl, sym, ◌∙◌, ap}
use mathlib.Core.List.{List, [], ◌∷◌, ◌++◌}
use native.Mathlib.Omega.{arith}
use native.Mathlib.Nat.{zero-add}
use lib.ListN.{length, get_or, take, drop, replicate, length-replicate, get_or-replicate, get_or-append}
use lib.Seq.{length-sets, sets-eq, length-take-le, get_or-take, drop_at}
use lib.Dec.{ltb}
use borrow.Author.Tests.{eq-eqb, le-ltb, ltb-false}
use Rattle.std.proofs.Common.{Option, Some, None, Result}
use Rattle.std.specs.Bool.{⊤}
use Rattle.ledger.specs.Numbers.{elem}
use Rattle.ledger.proofs.Lists.Tests.{by_cases}
use Rattle.model.specs.Moves.{part_put}
use Rattle.ledger.specs.Journal.Writes.{Write, clear, disk, performed}
use Rattle.ledger.specs.Journal.Recovery.{Line, Group, finished, imaged, readied, wrong, last_group, Recovery, refuse, restore, recovery_of, recovery}
use Rattle.journal_laws.proofs.RecoveryWrites.{stored_clear, file_left}
use Rattle.restore_model.specs.Texts.{pages_in}
use Rattle.restore_model.specs.declared.Refused.{Refused}
use Rattle.restore_model.specs.Walks.{walk_on, untold, restored_on, walked, paged, recovery_on, status, recover_on}
use Rattle.ledger.specs.Journal.Promises.{Paged, stored_in, Told, Restores}
use Rattle.restore_model.proofs.Sizes.{paged_pages, pages_paged}
use Rattle.restore_model.proofs.Steps.{Backs}
use Rattle.restore_model.proofs.Walking.{Walked, walk_shows}
use Rattle.restore_model.proofs.PutBack.{back_is, marks, marks_at, marks_rest, marks_length}

abbrev zeros : ℕ → List ℕ
zeros n = take n (replicate 128 0)

-- no page told
module _ (n : ℕ) (s : List ℕ) (few : n ≤ 128) (room : n ≤ length s) where
  zeros_length : length (zeros n) ≡ n
  zeros_length = length-take-le n (replicate 128 0) (rw (length-replicate {A = ℕ} 128 0) few)

  untold_is : untold s n ≡ zeros n ++ drop n s
  unfolding untold part_put
  untold_is = sets-eq (zeros n) s 0 (rw zeros_length (omega arith)) ∙ rw (zero-add, zeros_length)

  untold_each : (i : ℕ) → i < n → get_or (untold s n) i 0 ≡ 0
  untold_each i h =
      rw (untold_is, get_or-append (zeros n) (drop n s) 0 i (rw zeros_length h), get_or-take {A = ℕ} n (replicate 128 0) i 0 h)
      (get_or-replicate {A = ℕ} 128 i 0 0 (omega arith))

  untold_rest : drop n (untold s n) ≡ drop n s
  untold_rest = rw untold_is (drop_at (zeros n) (drop n s) n zeros_length)

  untold_length : length (untold s n) ≡ length s
  unfolding untold part_put
  untold_length = length-sets s 0 (zeros n)

  -- and those of a group
  none_told : Told n (clear ∷ []) s (untold s n)
  none_told = record {
    each = λ p low high. unfold stored_in elem in untold_each (p - 1) (omega arith);
    rest = untold_rest;
    size = untold_length;
  }

  back_told : {is : List Line} {ws : List Write} → Backs n is ws → Told n (ws ++ (clear ∷ [])) s (marks ws (untold s n))
  back_told {ws = ws} b = record {
    each = λ p low high. marks_at n b (untold s n) p low (rw untold_length (omega arith)) ∙ rw (untold_each (p - 1) (omega arith), stored_clear ws);
    rest = marks_rest n b (untold s n) ∙ untold_rest;
    size = marks_length n b (untold s n) ∙ untold_length;
  }

-- the answer, the file and the pages told, as recovery says
abbrev Answers : ℕ → List ℕ → List ℕ → List ℕ → ℕ × List ℕ × List ℕ → Recovery → Type 0
Answers n f j s t (refuse number) = t ≡ (number, f, s)
Answers n f j s t (restore ws) = (u : List ℕ) × (t ≡ (0, (performed ws (disk f j)).file, u)) × Told n ws s u

module _ (n : ℕ) (f j s : List ℕ) (sizes : Paged n f) (room : n ≤ length s) where
  abbrev numbered : Result ⊤ Refused × List ℕ × List ℕ → ℕ × List ℕ × List ℕ
  numbered r = (status r.0, r.1, r.2)

  sized : recover_on f j s ≡ numbered (walked f s (walk_on n j).group (restored_on f j s n (walk_on n j)))
  unfolding recover_on recovery_on
  sized = rw (paged_pages n f sizes, le-ltb (length s) n room)

  comes : (g : Group) → Walked n j (walk_on n j) g → Answers n f j s (recover_on f j s) (recovery_of g)
  unfolding restored_on performed
  comes finished w = (untold s n, sized ∙ rw w.shown, none_told n s sizes.few room)
  comes (imaged last back) w = (untold s n, sized ∙ rw w.shown.0, none_told n s sizes.few room)
  comes (readied back) w =
      let (is2, is, b, lines) = w.shown in
      (marks back (untold s n), sized ∙ rw (is2, back_is n j b (length j) (walk_on n j).from f (untold s n) j _ lines (omega arith), file_left back (disk f j)), back_told n s sizes.few room b)
  comes wrong w = sized ∙ rw w.shown

  recovery_is : recovery n (disk f j) ≡ recovery_of (last_group n j)
  unfolding recovery
  recovery_is = rw (eq-eqb (length f) (512 * n) sizes.size)

  answers : Answers n f j s (recover_on f j s) (recovery n (disk f j))
  answers = rw recovery_is (comes (last_group n j) (walk_shows n sizes.few j))

-- the parts of an answer
parts : {t : ℕ × List ℕ × List ℕ} {r x : ℕ} {g u h v : List ℕ} → t ≡ (r, g, u) → t ≡ (x, h, v) → (r ≡ x) × (g ≡ h) × (u ≡ v)
parts e q =
    let w = sym e ∙ q in (
      ap (λ (t : ℕ × List ℕ × List ℕ). t.0) w,
      ap (λ (t : ℕ × List ℕ × List ℕ). t.1) w,
      ap (λ (t : ℕ × List ℕ × List ℕ). t.2) w,
    )

pub restores : (f j s : List ℕ) (r : ℕ) (f' s' : List ℕ) → recover_on f j s ≡ (r, f', s') → Restores f j s r f' s'
restores f j s r f' s' e = record {
  wrong_size = λ bad. parts e (unfold recover_on recovery_on in unpaged (pages_in (length f)) (λ n h. bad n (pages_paged f n h)));
  refused = λ n number paged room q. parts e (rw q at (answers n f j s paged room));
  restored = λ n ws paged room q.
      let (u, t, told) = rw q at (answers n f j s paged room) in
      let (a, b, c) = parts e t in
      (a, b, rw c told);
}
  where
    unpaged : (o : Option ℕ) → ((n : ℕ) → o ≡ Some n → n ≤ length s → ⊥) → ◌≡◌ {A = ℕ × List ℕ × List ℕ} (status (paged f j s o).0, (paged f j s o).1, (paged f j s o).2) (2, f, s)
    unpaged None bad = refl
    unpaged (Some n) bad = by_cases (ltb (length s) n) (λ h. rw h) (λ h. absurd (bad n refl (ltb-false (length s) n h)))

-- the same of what it comes to
pub recovered : (f j s : List ℕ) (r : Result ⊤ Refused) (f' s' : List ℕ) → recovery_on f j s ≡ (r, f', s') → Restores f j s (status r) f' s'
recovered f j s r f' s' e = restores f j s (status r) f' s' (unfold recover_on in rw e)
