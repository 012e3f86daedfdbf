-- The details of a record in a sound file, chain by chain and round each ring: what `mark_from` goes through.
use Prim.Native.Nat.{ℕ, zero, suc, ◌+◌, ◌%◌, ◌^◌, ◌≤◌, ◌<◌}
use mathlib.Core.Path.{◌≡◌, refl, ◌∙◌}
use mathlib.Core.Logic.{◌≢◌}
use mathlib.Core.Bool.{true, or-true}
use mathlib.Core.List.{List, [], ◌∷◌, ◌++◌, append_assoc}
use native.Mathlib.Omega.{arith}
use native.Mathlib.Numerals.{add-one}
use lib.ListN.{length}
use Rattle.std.proofs.Common.{Option, Some, None}
use borrow.Author.Tests.{ne_eqb, le-leb, lt-leb}
use Rattle.ledger.specs.Numbers.{elem, run, concat_of, head_or}
use Rattle.ledger.specs.Table.{chains, is_master, in_chain, Accepted}
use Rattle.ledger.specs.Pages.{Ledger, kind_at, Sound}
use Rattle.ledger.proofs.Lists.Tests.{by_cases, eqb_same}
use Rattle.ledger.proofs.Lists.Members.{elem_put, elem_here, elem_run, some_any, any_some, elem_concat_of}
use Rattle.ledger.proofs.Lists.Runs.{length_concat_of, sum_of_most}
use Rattle.ledger.proofs.Ledger.Bounds.{present_some}
use Rattle.ledger.proofs.Ledger.Rings.{chained, master_not_member, next_master, next_in_lem}
use Rattle.model.specs.declared.Below.{Below}
use Rattle.model.specs.Reads.{next_in}
use Rattle.place_laws.proofs.Sound.{sound_kind, sound_next}
use Rattle.ring_laws.proofs.Rounds.{ring_few}
use Rattle.delete_model.specs.Marks.{Marked, first_in, first_from, first_below_in, next_below_in, mark_from, below_on}

-- the details of a record: its rings from chain j on, n of them; and all
unfoldable pub rings_from : Ledger → ℕ → ℕ → ℕ → List ℕ
rings_from l c j n = concat_of (λ i. l.ring i c) (run j n)

abbrev pub details : List ℕ → Ledger → ℕ → List ℕ
details t l c = rings_from l c 0 (chains t)

-- records marked one after another by `rec`, `count` before them
unfoldable pub mark_all : (ℕ → List ℕ → Marked) → ℕ → List ℕ → List ℕ → Marked
mark_all rec count k [] = (count, k)
mark_all rec count k (y ∷ ys) = mark_all rec ((count + (rec y k).0) % 2 ^ 16) (rec y k).1 ys

-- from b on, the details that are gone through are ds
pub data Listed (t f : List ℕ) (c n : ℕ) : Option Below → List ℕ → Type 0 where
  none : Listed t f c n None []
  some : (b : Below) (ds : List ℕ) → Listed t f c n (next_below_in t f c n b) ds → Listed t f c n (Some b) (b.code ∷ ds)

pub mark_all_lem : (rec : ℕ → List ℕ → Marked) (t f : List ℕ) (c n count : ℕ) (at : Option Below) (ds k : List ℕ) (left : ℕ)
    → Listed t f c n at ds → length ds < left → mark_from rec t f c n count at k left ≡ mark_all rec count k ds
unfolding mark_from mark_all
mark_all_lem rec t f c n count at ds k zero p h = absurd (omega arith)
mark_all_lem rec t f c n count _ _ k (suc left) none h = refl
mark_all_lem rec t f c n count _ _ k (suc left) (some b ds p) h =
    mark_all_lem rec t f c n ((count + (rec b.code k).0) % 2 ^ 16) (next_below_in t f c n b) ds _ left p (omega arith)

module _ (t f : List ℕ) (l : Ledger) (a : Accepted t) (s : Sound t f l) (c : ℕ) where
  abbrev kind : ℕ
  kind = kind_at l c

  -- a detail is another record
  member_apart : (j y : ℕ) → elem y (l.ring j c) ≡ true → (y ≢ c) × (y ≢ 0)
  member_apart j y e =
      (master_not_member t l j c y (chained t l a s.formed j) e, present_some t l y s.formed (s.formed.ring_own j c y e).3)

  -- NEXT of a master and of a detail
  pub next_first : (j : ℕ) → j < chains t → is_master t j kind ≡ true → next_in t f j c ≡ head_or c (l.ring j c)
  unfolding in_chain
  next_first j lt h = sound_next t f l a s j c lt (rw h) ∙ next_master t l j c h

  pub next_member : (j y : ℕ) (ys zs : List ℕ) → l.ring j c ≡ ys ++ y ∷ zs → next_in t f j y ≡ head_or c zs
  unfolding in_chain
  next_member j y ys zs e =
      let o = s.formed.ring_own j c y (rw e (elem_put y ys zs)) in
      sound_next t f l a s j y o.0 (rw o.4 (or-true (is_master t j (kind_at l y)))) ∙ next_in_lem t l j c y ys zs (chained t l a s.formed j) e

  -- round a ring from y on, then through the later chains
  ring_listed : (j y : ℕ) (ys zs ds : List ℕ) → l.ring j c ≡ ys ++ y ∷ zs → Listed t f c kind (first_below_in t f c kind (j + 1)) ds
      → Listed t f c kind (Some (record { chain = j; code = y })) (y ∷ (zs ++ ds))
  unfolding next_below_in head_or
  ring_listed j y ys [] ds e p =
      let i : elem y (l.ring j c) ≡ true = rw e (elem_put y ys []) in
      let few : j < 16 = omega (arith, a.chain_count, (s.formed.ring_own j c y i).0) in
      some (record { chain = j; code = y }) ds (rw (next_member j y ys [] e, eqb_same c, lt-leb 16 j few) p)
  ring_listed j y ys (z ∷ zs) ds e p =
      let g : l.ring j c ≡ (ys ++ (y ∷ [])) ++ z ∷ zs = rw append_assoc e in
      let n : (z ≢ c) × (z ≢ 0) = member_apart j z (rw g (elem_put z (ys ++ (y ∷ [])) zs)) in
      some (record { chain = j; code = y }) (z ∷ (zs ++ ds))
      (rw (next_member j y ys (z ∷ zs) e, ne_eqb z c n.0, ne_eqb z 0 n.1) (ring_listed j z (ys ++ (y ∷ [])) zs ds g p))

  -- the first detail in chain j
  first_none : (j : ℕ) → j < chains t → l.ring j c ≡ [] → first_in t f c kind j ≡ None
  unfolding first_in head_or
  first_none j lt e = by_cases (is_master t j kind)
      (λ h. rw (h, next_first j lt h, e, eqb_same c))
      (λ h. rw h)

  first_some : (j y : ℕ) (ys : List ℕ) → l.ring j c ≡ y ∷ ys → first_in t f c kind j ≡ Some y
  unfolding first_in head_or
  first_some j y ys e =
      let i : elem y (l.ring j c) ≡ true = rw e (elem_here y ys) in
      let o = s.formed.ring_own j c y i in
      rw (o.2, next_first j o.0 o.2, e, ne_eqb y c (member_apart j y i).0, ne_eqb y 0 (member_apart j y i).1)

  -- chain j, then the later chains, which are gone through with any number of turns that is enough
  chain_listed : (m j left : ℕ) (ds ys : List ℕ) → j < chains t → m ≤ left → m ≤ 16
      → ((turns : ℕ) → m ≤ turns → Listed t f c kind (first_from t f c kind (j + 1) turns) ds) → l.ring j c ≡ ys
      → Listed t f c kind (first_from t f c kind j (suc left)) (ys ++ ds)
  unfolding first_from first_below_in
  chain_listed m j left ds [] lt h few rest e = rw (lt-leb (chains t) j lt, first_none j lt e) (rest left h)
  chain_listed m j left ds (y ∷ ys) lt h few rest e =
      rw (lt-leb (chains t) j lt, first_some j y ys e) (ring_listed j y [] ys ds e (rest 16 few))

  chains_listed : (m j left : ℕ) → j + m ≡ chains t → m ≤ left → Listed t f c kind (first_from t f c kind j left) (rings_from l c j m)
  unfolding first_from rings_from concat_of run
  chains_listed zero j zero e h = none
  chains_listed zero j (suc left) e h = rw (le-leb (chains t) j (omega arith)) none
  chains_listed (suc m) j zero e h = absurd (omega arith)
  chains_listed (suc m) j (suc left) e h =
      let few = a.chain_count in
      chain_listed m j left (rings_from l c (suc j) m) (l.ring j c) (omega arith) (omega arith) (omega arith)
      (λ turns g. rw (add-one j) (chains_listed m (suc j) turns (omega arith) g)) refl

  -- there are turns for all of them
  details_few : length (details t l c) < 200000
  unfolding rings_from
  details_few =
      omega (arith, length_concat_of (λ i. l.ring i c) (run 0 (chains t)), sum_of_most (λ i. length (l.ring i c)) 8256 0 (chains t) (λ i. omega (arith, ring_few t l a s.formed i c)), a.chain_count)

  -- all below a record, marked: its details, one after another
  pub below_all : (rec : ℕ → List ℕ → Marked) (k : List ℕ) → below_on rec t f c k ≡ mark_all rec 1 k (details t l c)
  unfolding below_on first_below_in
  below_all rec k =
      rw (sound_kind t f l a s c)
      (mark_all_lem rec t f c kind 1 _ (details t l c) k 200000 (chains_listed (chains t) 0 16 (omega arith) a.chain_count) details_few)

  -- they are the members of its rings
  pub detail_listed : (j y : ℕ) → elem y (l.ring j c) ≡ true → elem y (details t l c) ≡ true
  unfolding rings_from
  detail_listed j y e =
      elem_concat_of (λ i. l.ring i c) y (run 0 (chains t))
      ∙ some_any (λ i. elem y (l.ring i c)) j _ (elem_run j 0 (chains t) (omega arith) (omega (arith, (s.formed.ring_own j c y e).0))) e

  pub detail_ring : (y : ℕ) → elem y (details t l c) ≡ true → (j : ℕ) × (elem y (l.ring j c) ≡ true)
  unfolding rings_from
  detail_ring y e =
      let (j, listed, there) = any_some (λ i. elem y (l.ring i c)) _ (rw elem_concat_of at e) in
      (j, there)
