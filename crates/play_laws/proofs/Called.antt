-- What any call's promise says besides: the file keeps its length, and READ's data stand at the front of the output.
use Prim.Native.Nat.{ℕ, ◌*◌, ◌≤◌}
use mathlib.Core.Path.{◌≡◌, refl, sym, ◌∙◌, ap}
use mathlib.Core.List.{List}
use native.Mathlib.Omega.{arith}
use lib.ListN.{length, take}
use lib.Seq.{take_all, take-append_seam}
use lib.Dec.{eqb, ltb}
use borrow.Author.Tests.{eqb-false, ltb-false}
use Rattle.ledger.specs.declared.Answer.{Answer}
use Rattle.ledger.specs.declared.Currency.{Currency}
use Rattle.ledger.specs.declared.Outcome.{Outcome}
use Rattle.ledger.specs.Numbers.{part, same_key}
use Rattle.ledger.specs.Table.{pages, row, data_len, Accepted}
use Rattle.ledger.specs.Pages.{Ledger, kind_at, bytes_at, Sound}
use Rattle.ledger.specs.Answers.{done_with}
use Rattle.ledger.specs.Currency.{InForce}
use Rattle.ledger.specs.Calls.{Turn, refuse, done, unless, read}
use Rattle.ledger.specs.Promise.{Refused, Plays, Reads}
use Rattle.ledger.proofs.Lists.Tests.{by_cases, same_or_not, clash}
use Rattle.ledger.proofs.Lists.Keys.{same_eq, same_self}
use Rattle.ledger.proofs.Ledger.Entries.{points_there}
use Rattle.ledger.proofs.Ledger.Fields.{file_length}

-- a file of the table's pages still has them after a call
module _ (call : Ledger → Turn) (t f f' : List ℕ) (cur : Currency) (r : Outcome) (p : Plays call t f f' cur r) (a : Accepted t) (long : length f ≡ 512 * pages t) where
  turn_length : (l : Ledger) → Sound t f l → InForce t l cur → (x : Turn) → call l ≡ x → length f' ≡ 512 * pages t
  turn_length l s i (refuse n) e = ap length (p.refused a l s i n e).same_file ∙ long
  turn_length l s i (done b l' c) e = file_length t f' l' a (p.played a l s i b l' c e).2

  pub plays_length : length f' ≡ 512 * pages t
  plays_length = same_or_not (length f') (512 * pages t) (λ e. e)
      (λ n. absurd (n (stays (p.file_refused a long
      (λ l s. n (stays (p.currency_refused a l s
      (λ i. n (turn_length l s i (call l) refl)))))))))
    where
      stays : {m : ℕ} → Refused m f f' cur r → length f' ≡ 512 * pages t
      stays q = ap length q.same_file ∙ long

-- READ done: as many bytes of the output as the answer's type has are the data
module _ (t f o o' : List ℕ) (cur : Currency) (r : Outcome) (p : Reads t f o o' cur r) (a : Accepted t) (small : length o ≤ 200) (ok : r.answer.code ≡ 0)
    (l : Ledger) (s : Sound t f l) where
  abbrev front : List ℕ
  front = take 200 (part 0 (data_len t (row t r.answer.kind)) o')

  refused_not : {A : Type 0} {n : ℕ} → Refused n f f cur r → (n ≡ 0 → ⊥) → A
  refused_not q nz = absurd (nz (sym (ap (λ (x : Answer). x.code) q.answered) ∙ ok))

  force_data : InForce t l cur → front ≡ bytes_at l cur.run
  unfolding read
  force_data i =
      let x = cur.run in
      let n = kind_at l x in
      by_cases (eqb x 0) (λ e. refused_not (p.plays.refused a l s i 6 (rw e (unfold unless in refl))) (λ z. omega arith)) (λ some.
      by_cases (ltb (length o) (data_len t (row t n)))
      (λ e. refused_not (p.plays.refused a l s i 12 (rw (some, e) (unfold unless in refl))) (λ z. omega arith))
      (λ fits.
      let told = (p.plays.played a l s i (done_with x n 0) l cur (rw (some, fits) (unfold unless in refl))).0 in
      let kind : r.answer.kind ≡ n = ap (λ (b : Answer). b.kind) told in
      let full = (s.formed.placed x (points_there l x i.run_there (eqb-false x 0 some))).full in
      let room = ltb-false (length o) (data_len t (row t n)) fits in
      rw (kind, ← full, p.filled ok l s, take-append_seam (bytes_at l x)) (take_all 200 (bytes_at l x) (omega (arith, full, room)))))

  pub read_data : front ≡ bytes_at l cur.run
  read_data = by_cases (same_key front (bytes_at l cur.run))
      (λ e. same_eq front (bytes_at l cur.run) e)
      (λ e. refused_not (p.plays.currency_refused a l s (λ i. clash _ (rw (force_data i) (same_self (bytes_at l cur.run))) e)) (λ z. omega arith))
