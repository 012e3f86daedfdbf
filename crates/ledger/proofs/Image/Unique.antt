-- A file is sound for at most one ledger.
use Prim.Native.Nat.{ℕ, ◌*◌, ◌≤◌, ◌<◌}
use mathlib.Core.Path.{◌≡◌, sym, ◌∙◌, ap}
use mathlib.Core.Logic.{inl, inr}
use mathlib.Core.Bool.{true, false, ◌&&◌, or-true}
use mathlib.Core.List.{List}
use native.Mathlib.Omega.{arith}
use lib.ListN.{length}
use lib.Dec.{ltb, leb}
use borrow.Author.Tests.{ltb-true, lt-ltb, leb-true}
use Rattle.ledger.specs.Numbers.{elem}
use Rattle.ledger.specs.Table.{pages, chains, calculated, is_master, in_chain, Accepted}
use Rattle.ledger.specs.Pages.{page_of, line_of, Ledger, kind_at, present, next_of, home_of, calc_next_of, record_bytes, head_next, Sound}
use Rattle.ledger.specs.Bytes.{Fields}
use Rattle.ledger.specs.Walks.{Agrees}
use Rattle.ledger.proofs.Lists.Tests.{by_cases, clash, both, not_true_false}
use Rattle.ledger.proofs.Lists.Members.{elem_cases, no_members}
use Rattle.ledger.proofs.Bytes.Lookup.{code_told}
use Rattle.ledger.proofs.Ledger.Entries.{absent_none, entry_same, same_ledger}
use Rattle.ledger.proofs.Ledger.Rows.{placed_within}
use Rattle.ledger.proofs.Ledger.Rings.{chained, ring_agrees, master_off}
use Rattle.ledger.proofs.Ledger.Calcs.{calc_agrees, head_no_member, calc_within}
use Rattle.ledger.proofs.Ledger.Records.{absent_bytes, record_formed, bytes_formed}
use Rattle.ledger.proofs.Ledger.Fields.{file_page, file_head, own_fields}
use Rattle.ledger.proofs.Audit.Walks.{agrees_one}

module _ (t f : List ℕ) (l m : Ledger) (a : Accepted t) (s : Sound t f l) (q : Sound t f m) where
  bytes_there : (x : ℕ) → 1 ≤ page_of x → page_of x ≤ pages t → 1 ≤ line_of x → record_bytes t l x ≡ record_bytes t m x
  bytes_there x low high line =
      code_told (record_bytes t l) (record_bytes t m) (head_next t l) (head_next t m) x
      (s.formed.room (page_of x)) (q.formed.room (page_of x)) (bytes_formed t l a s.formed) (bytes_formed t m a q.formed)
      (sym (file_page t f l a s (page_of x) low high) ∙ file_page t f m a q (page_of x) low high) line

  bytes_told : (x : ℕ) → record_bytes t l x ≡ record_bytes t m x
  bytes_told x = by_cases (present l x)
      (λ e. let p = s.formed.placed x e in let w = placed_within t l x a p in bytes_there x w.0 w.1 p.on_a_line)
      (λ e. by_cases (present m x)
      (λ g. let p = q.formed.placed x g in let w = placed_within t m x a p in bytes_there x w.0 w.1 p.on_a_line)
      (λ g. absent_bytes t l x e ∙ sym (absent_bytes t m x g)))

  -- a record of l is one of m
  here : (x : ℕ) → present l x ≡ true → present m x ≡ true
  here x e = by_cases (present m x) (λ g. g) (λ g.
      absurd (omega (arith, (record_formed t l a s.formed x e).long, ap length (bytes_told x ∙ absent_bytes t m x g))))

  gone : (x : ℕ) → present l x ≡ false → present m x ≡ false
  gone x e = not_true_false _ (λ g.
      omega (arith, (record_formed t m a q.formed x g).long, ap length (sym (bytes_told x) ∙ absent_bytes t l x e)))

  fields_m : (x : ℕ) → present l x ≡ true → Fields t m x (record_bytes t l x) 0
  fields_m x e = rw (bytes_told x) (own_fields t m a q.formed x (here x e))

  kind_told_lem : (x : ℕ) → present l x ≡ true → kind_at l x ≡ kind_at m x
  kind_told_lem x e = sym (own_fields t l a s.formed x e).kind ∙ (fields_m x e).kind

  at_told : (x : ℕ) → l.at x ≡ m.at x
  at_told x = by_cases (present l x)
      (λ e. entry_same (l.at x) (m.at x) e (here x e) (kind_told_lem x e)
      (sym (own_fields t l a s.formed x e).data_part ∙ rw (kind_told_lem x e) (fields_m x e).data_part))
      (λ e. absent_none (l.at x) e ∙ sym (absent_none (m.at x) (gone x e)))

  -- chains
  next_told : (j x : ℕ) → j < chains t → present l x ≡ true → in_chain t j (kind_at l x) ≡ true → next_of t l j x ≡ next_of t m j x
  next_told j x h e c =
      sym ((own_fields t l a s.formed x e).next j h c) ∙ rw (kind_told_lem x e) ((fields_m x e).next j h (rw (kind_told_lem x e) at c))

  ring_agrees_too : (j k : ℕ) → j < chains t → present l k ≡ true → is_master t j (kind_at l k) ≡ true → Agrees (next_of t l j) k (m.ring j k)
  unfolding in_chain
  ring_agrees_too j k h e top x i =
      let rest = ring_agrees t m a q.formed j k (rw (kind_told_lem k e) at top) x i in
      elim (elem_cases x k (m.ring j k) i) [
        | inl y ↦ next_told j x h (rw y e) (rw (y, top)) ∙ rest
        | inr y ↦ (
            let o = q.formed.ring_own j k x y in
            next_told j x h (rw (at_told x) o.3) (rw (at_told x, o.4) (or-true (is_master t j (kind_at m x)))) ∙ rest)
      ]

  ring_told : (j k : ℕ) → l.ring j k ≡ m.ring j k
  ring_told j k =
      let own : (x : ℕ) → elem x (l.ring j k) ≡ true → (ltb j (chains t) && present l k && is_master t j (kind_at l k)) ≡ true =
      λ x g. let o = s.formed.ring_own j k x g in rw (lt-ltb j (chains t) o.0, o.1, o.2) in
      let own' : (x : ℕ) → elem x (m.ring j k) ≡ true → (ltb j (chains t) && present l k && is_master t j (kind_at l k)) ≡ true =
      λ x g. let o = q.formed.ring_own j k x g in rw (lt-ltb j (chains t) o.0, at_told k, o.1, o.2) in
      by_cases (ltb j (chains t) && present l k && is_master t j (kind_at l k))
      (λ e.
      let (b, top) = both _ _ e in
      let (c, there) = both _ _ b in
      agrees_one (next_of t l j) k (l.ring j k) (m.ring j k) (s.formed.ring_once j k) (q.formed.ring_once j k)
      (master_off t l j k (chained t l a s.formed j) top)
      (master_off t m j k (chained t m a q.formed j) (rw (kind_told_lem k there) at top))
      (ring_agrees t l a s.formed j k top)
      (ring_agrees_too j k (ltb-true _ _ c) there top))
      (λ e. no_members (l.ring j k) (λ x g. clash _ (own x g) e) ∙ sym (no_members (m.ring j k) (λ x g. clash _ (own' x g) e)))

  -- CALC lists
  home_told : (x : ℕ) → home_of t l x ≡ home_of t m x
  unfolding home_of
  home_told x = rw (at_told x)

  calc_next_told : (p x : ℕ) → present l x ≡ true → calculated t (kind_at l x) ≡ true → home_of t l x ≡ p → calc_next_of t l p x ≡ calc_next_of t m p x
  calc_next_told p x e c h =
      rw (← h) (sym ((own_fields t l a s.formed x e).calc_next c) ∙ rw (kind_told_lem x e, home_told x) ((fields_m x e).calc_next (rw (kind_told_lem x e) at c)))

  calc_agrees_too : (p : ℕ) → 1 ≤ p → p ≤ pages t → Agrees (calc_next_of t l p) (64 * p) (m.calc p)
  calc_agrees_too p low high x i =
      elim (elem_cases x (64 * p) (m.calc p) i) [
        | inl y ↦ rw y (unfold head_next in (sym (file_head t f l a s p low high) ∙ file_head t f m a q p low high)) ∙ calc_agrees t m p x i
        | inr y ↦ (
            let o = q.formed.calc_own p x y in
            calc_next_told p x (rw (at_told x) o.0) (rw (at_told x) o.1) (home_told x ∙ o.2) ∙ calc_agrees t m p x i)
      ]

  calc_told : (p : ℕ) → l.calc p ≡ m.calc p
  calc_told p = by_cases (leb 1 p && leb p (pages t))
      (λ e.
      let (low, high) = both _ _ e in
      agrees_one (calc_next_of t l p) (64 * p) (l.calc p) (m.calc p) (s.formed.calc_once p) (q.formed.calc_once p)
      (head_no_member t l s.formed p) (head_no_member t m q.formed p)
      (calc_agrees t l p) (calc_agrees_too p (leb-true _ _ low) (leb-true _ _ high)))
      (λ e. no_members (l.calc p) (λ x g. clash _ (calc_within t l a s.formed p x g) e)
      ∙ sym (no_members (m.calc p) (λ x g. clash _ (calc_within t m a q.formed p x g) e)))

  pub sound_unique : l ≡ m
  sound_unique = same_ledger l m at_told ring_told calc_told
