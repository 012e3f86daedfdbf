-- DELETE's currency: an entry that went backs up to the nearest survivor of its old ring; and what DELETE answers.
use Prim.Native.Nat.{ℕ, ◌<◌}
use mathlib.Core.Path.{◌≡◌, refl, sym, ◌∙◌, ap}
use mathlib.Core.Logic.{◌≢◌, ◌⊎◌, inl, inr}
use mathlib.Core.Bool.{Bool, true, false, cond, not, or-true}
use mathlib.Core.List.{List, [], ◌∷◌, ◌++◌}
use native.Mathlib.Omega.{arith}
use native.Mathlib.Nat.{zero-add}
use lib.ListN.{length, get_or}
use lib.Dec.{eqb}
use borrow.Author.Tests.{eqb-false, ne_eqb}
use Rattle.ledger.specs.declared.Answer.{Answer}
use Rattle.ledger.specs.declared.Currency.{Currency}
use Rattle.ledger.specs.Numbers.{elem, keep, once, last_or, by_index}
use Rattle.ledger.specs.Table.{types, chains, number, is_master, in_chain, Accepted}
use Rattle.ledger.specs.Pages.{Ledger, kind_at, present, master_of, WellFormed}
use Rattle.ledger.specs.Answers.{done_with}
use Rattle.ledger.specs.Currency.{Points, InForce}
use Rattle.ledger.specs.Calls.{refuse, done, unless, goes, deleted, last_before, backed, delete}
use Rattle.ledger.proofs.Lists.Tests.{by_cases, same_or_not, clash, neither, eqb_same}
use Rattle.ledger.proofs.Lists.Members.{elem_nil, elem_here, elem_tail, elem_append, elem_put, elem_cases, split_at_member}
use Rattle.ledger.proofs.Lists.Pairs.{once_left}
use Rattle.ledger.proofs.Lists.Parts.{get_d_by_index}
use Rattle.ledger.proofs.Ledger.Rings.{chained, master_self, master_in_lem, held}
use Rattle.ledger.proofs.Ledger.Bounds.{present_some}
use Rattle.ledger.proofs.Delete.Doomed.{going, goes_there}
use Rattle.ledger.proofs.Delete.Deleted.{stays, deleted_at, deleted_formed}

-- z is the nearest that stays before the end of m ∷ ys: those between went
pub record Behind (gone : ℕ → Bool) (m : ℕ) (ys : List ℕ) (z : ℕ) : Type 0 where
  pub passed : List ℕ
  pub between : List ℕ
  pub whole : m ∷ ys ≡ passed ++ z ∷ between
  pub stands : gone z ≡ false
  pub went : (v : ℕ) → elem v between ≡ true → gone v ≡ true

module _ (gone : ℕ → Bool) where
  behind_past : (m v : ℕ) (ys : List ℕ) (z : ℕ) → gone v ≡ true → Behind gone m ys z → Behind gone m (v ∷ ys) z
  behind_past m v ys z g b = go b.passed b.whole
    where
      go : (ps : List ℕ) → m ∷ ys ≡ ps ++ z ∷ b.between → Behind gone m (v ∷ ys) z
      go [] e = record {
        passed = [];
        between = v ∷ b.between;
        whole = cc;
        stands = b.stands;
        went = λ u h. elim (elem_cases u v b.between h) [ inl q ↦ rw q g | inr q ↦ b.went u q ];
      }
      go (p ∷ ps) e = record { passed = p ∷ v ∷ ps; between = b.between; whole = cc; stands = b.stands; went = b.went }

  behind_here : (m v : ℕ) (ys : List ℕ) (z : ℕ) → Behind gone v ys z → Behind gone m (v ∷ ys) z
  behind_here m v ys z b = record {
    passed = m ∷ b.passed;
    between = b.between;
    whole = ap (λ (l : List ℕ). m ∷ l) b.whole;
    stands = b.stands;
    went = b.went;
  }

  pub last_behind : (m : ℕ) (ys : List ℕ) → gone m ≡ false → Behind gone m ys (last_or m (keep (λ v. not (gone v)) ys))
  unfolding keep last_or
  last_behind m [] h = record { passed = []; between = []; whole = refl; stands = h; went = λ v e. elem_nil v e }
  last_behind m (v ∷ ys) h = by_cases (gone v)
      (λ g. rw g (behind_past m v ys _ g (last_behind m ys h)))
      (λ g. rw g (behind_here m v ys _ (last_behind v ys g)))

  pub last_before_lem : (y best : ℕ) (ys zs : List ℕ) → elem y ys ≡ false → last_before gone y best (ys ++ y ∷ zs) ≡ last_or best (keep (λ v. not (gone v)) ys)
  unfolding last_before keep last_or elem
  last_before_lem y best [] zs h = rw (eqb_same y)
  last_before_lem y best (z ∷ ys) zs h =
      let (a, b) = neither (eqb y z) (elem y ys) h in
      let n : eqb z y ≡ false = ne_eqb z y (λ e. eqb-false y z a (sym e)) in
      by_cases (gone z)
      (λ g. rw (n, g) (last_before_lem y best ys zs b))
      (λ g. rw (n, g) (last_before_lem y z ys zs b))

-- a chain's entry
abbrev pub Fits : List ℕ → Ledger → ℕ → ℕ → Type 0
Fits t l j y = (y ≡ 0) ⊎ ((present l y ≡ true) × (in_chain t j (kind_at l y) ≡ true))

-- An entry after DELETE.
module _ (t : List ℕ) (l : Ledger) (x j : ℕ) where
  pub backed_none : backed t l x j 0 ≡ 0
  unfolding backed
  backed_none = refl

  pub backed_stays : (y : ℕ) → goes t l x y ≡ false → backed t l x j y ≡ y
  unfolding backed
  backed_stays y g = same_or_not y 0 (λ e. rw e) (λ n. rw (ne_eqb y 0 n, g))

  pub backed_orphan : (y : ℕ) → goes t l x y ≡ true → goes t l x (master_of t l j y) ≡ true → backed t l x j y ≡ 0
  unfolding backed
  backed_orphan y g h = same_or_not y 0 (λ e. rw e) (λ n. rw (ne_eqb y 0 n, g, h))

  module _ (a : Accepted t) (w : WellFormed t l) where
    module _ (m y : ℕ) (ys zs : List ℕ) (e : l.ring j m ≡ ys ++ y ∷ zs) (g : goes t l x y ≡ true) (h : goes t l x m ≡ false) where
      pub backed_last : backed t l x j y ≡ last_or m (keep (stays t l x) ys)
      unfolding backed
      backed_last =
          let i : elem y (l.ring j m) ≡ true = rw e (elem_put y ys zs) in
          let o : once (ys ++ y ∷ zs) ≡ true = rw e at (w.ring_once j m) in
          rw (ne_eqb y 0 (present_some t l y w (w.ring_own j m y i).3), g, master_in_lem t l j m y (chained t l a w j) i, h, e)
          (last_before_lem (goes t l x) y m ys zs (once_left y ys zs o))

      -- the nearest survivor going backwards round the old ring
      pub backed_behind : Behind (goes t l x) m ys (backed t l x j y)
      backed_behind = rw backed_last (last_behind (goes t l x) m ys h)

      -- it is the master or one of its old details
      backed_member : elem (backed t l x j y) (m ∷ l.ring j m) ≡ true
      backed_member =
          let b = backed_behind in
          let i : elem (backed t l x j y) (m ∷ ys) ≡ true = rw b.whole (elem_put (backed t l x j y) b.passed b.between) in
          elim (elem_cases (backed t l x j y) m ys i) [
            | inl q ↦ rw (← q) (elem_here (backed t l x j y) _)
            | inr q ↦ elem_tail (backed t l x j y) m _ (rw (e, elem_append (backed t l x j y) ys, q))
          ]

    fits_survivor : (y : ℕ) → goes t l x y ≡ false → Fits t l j y → Fits t (deleted t l x) j y
    fits_survivor y g f = elim f [ inl e ↦ inl e | inr (p, i) ↦ inr (rw (deleted_at t l x y g) (p, i)) ]

    ring_fits : (m y z : ℕ) → elem y (l.ring j m) ≡ true → elem z (m ∷ l.ring j m) ≡ true → Fits t l j z
    unfolding in_chain
    ring_fits m y z i h =
        let o = w.ring_own j m y i in
        elim (elem_cases z m (l.ring j m) h) [
          | inl q ↦ rw q (inr (o.1, rw o.2))
          | inr q ↦ (let u = w.ring_own j m z q in inr (u.3, rw u.4 (or-true (is_master t j (kind_at l z)))))
        ]

    -- an entry that went: of a record that is a detail, or whose master went
    went_fits : (y : ℕ) → j < chains t → goes t l x y ≡ true → in_chain t j (kind_at l y) ≡ true → Fits t (deleted t l x) j (backed t l x j y)
    unfolding in_chain
    went_fits y lt g i =
        let m = master_of t l j y in
        by_cases (goes t l x m)
        (λ h. inl (backed_orphan y g h))
        (λ h. by_cases (is_master t j (kind_at l y))
        (λ q. clash _ g (rw (master_self t l j y q) at h))
        (λ q.
        let e = held t l w a j y lt (goes_there t l x a w y g) (rw q at i) in
        let (ys, zs, s, n) = split_at_member y (l.ring j m) e in
        fits_survivor _ (backed_behind m y ys zs s g h).stands (ring_fits m y _ e (backed_member m y ys zs s g h))))

    pub backed_fits : (y : ℕ) → j < chains t → Fits t l j y → Fits t (deleted t l x) j (backed t l x j y)
    backed_fits y lt f = by_cases (goes t l x y)
        (λ g. elim f [ inl e ↦ inl (rw e backed_none) | inr (p, i) ↦ went_fits y lt g i ])
        (λ g. rw (backed_stays y g) (fits_survivor y g f))

-- What DELETE gives.
abbrev pub currency_after : List ℕ → Ledger → Currency → Currency
currency_after t l cur =
    record {
      run = 0;
      types = by_index (λ i y. cond (goes t l cur.run y) 0 y) 0 cur.types;
      chains = by_index (λ j y. backed t l cur.run j y) 0 cur.chains;
    }

module _ (t : List ℕ) (l : Ledger) (cur : Currency) where
  pub type_after : (i : ℕ) → get_or (currency_after t l cur).types i 0 ≡ cond (goes t l cur.run (get_or cur.types i 0)) 0 (get_or cur.types i 0)
  type_after i =
      get_d_by_index (λ i y. cond (goes t l cur.run y) 0 y) (λ i. by_cases (goes t l cur.run 0) (λ g. rw g) (λ g. rw g)) 0 i cur.types

  pub chain_after : (j : ℕ) → get_or (currency_after t l cur).chains j 0 ≡ backed t l cur.run j (get_or cur.chains j 0)
  chain_after j = rw (zero-add j) at (get_d_by_index (λ j y. backed t l cur.run j y) (λ j. backed_none t l cur.run j) 0 j cur.chains)

  module _ (a : Accepted t) (w : WellFormed t l) (f : InForce t l cur) where
    abbrev after : Ledger
    after = deleted t l cur.run

    -- a type's entry: as it was, or 0
    type_fits : (i : ℕ) → (y : ℕ) → get_or cur.types i 0 ≡ y
        → Points after (cond (goes t l cur.run y) 0 y)
        × ((cond (goes t l cur.run y) 0 y ≡ 0) ⊎ ((i < types t) × (kind_at after (cond (goes t l cur.run y) 0 y) ≡ number t i)))
    type_fits i y e = by_cases (goes t l cur.run y)
        (λ g. rw g (inl refl, inl refl))
        (λ g. rw (g, deleted_at t l cur.run y g) (rw e at (f.type_there i), rw e at (f.type_right i)))

    chain_fits : (j : ℕ) → (get_or (currency_after t l cur).chains j 0 ≡ 0) ⊎ ((j < chains t) × Fits t after j (get_or (currency_after t l cur).chains j 0))
    chain_fits j = elim (f.chain_right j) [
      | inl e ↦ inl (chain_after j ∙ rw e (backed_none t l cur.run j))
      | inr (lt, i) ↦ inr (lt, rw (chain_after j) (backed_fits t l cur.run j a w _ lt (elim (f.chain_there j) [ inl e ↦ inl e | inr p ↦ inr (p, i) ])))
    ]

    pub deleted_in_force : InForce t after (currency_after t l cur)
    deleted_in_force = record {
      run_there = inl refl;
      type_there = λ i. rw (type_after i) (type_fits i _ refl).0;
      type_right = λ i. rw (type_after i) (type_fits i _ refl).1;
      chain_there = λ j. elim (chain_fits j) [ inl e ↦ inl e | inr (lt, inl e) ↦ inl e | inr (lt, inr (p, i)) ↦ inr p ];
      chain_right = λ j. elim (chain_fits j) [ inl e ↦ inl e | inr (lt, inl e) ↦ inl e | inr (lt, inr (p, i)) ↦ inr (lt, i) ];
    }

  pub delete_parts : (b : Answer) (l' : Ledger) (c : Currency) → delete t l cur ≡ done b l' c
      → (cur.run ≢ 0) × (b ≡ done_with cur.run (kind_at l cur.run) (length (going t l cur.run))) × (l' ≡ deleted t l cur.run) × (c ≡ currency_after t l cur)
  unfolding delete unless
  delete_parts b l' c e = by_cases (eqb cur.run 0)
      (λ z. let q : refuse 6 ≡ done b l' c = rw z at e in let r : ◌≡◌ {A = ℕ} 0 1 = cc in absurd (omega arith))
      (λ z.
      let q : done (done_with cur.run (kind_at l cur.run) (length (going t l cur.run))) (deleted t l cur.run) (currency_after t l cur) ≡ done b l' c = rw z at e in
      (eqb-false _ _ z, cc, cc, cc))

  -- what is left is well formed and in force, and the count is the size of the set
  pub delete_formed : Accepted t → WellFormed t l → InForce t l cur → (b : Answer) (l' : Ledger) (c : Currency) → delete t l cur ≡ done b l' c
      → WellFormed t l' × InForce t l' c × (b.count ≡ length (going t l cur.run))
  delete_formed a w f b l' c e =
      let (n, p, q, r) = delete_parts b l' c e in
      (rw q (deleted_formed t l cur.run a w), rw (q, r) (deleted_in_force a w f), ap (λ (b : Answer). b.count) p)
