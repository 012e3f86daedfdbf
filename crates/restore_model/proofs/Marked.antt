-- The write that is found due, from the pages told, is that of a call and of recovery.
use Prim.Native.Nat.{ℕ, zero, suc, ◌+◌, ◌-◌, ◌≤◌, ◌<◌}
use mathlib.Core.Path.{◌≡◌, refl, sym, ◌∙◌, ap}
use mathlib.Core.Logic.{◌⊎◌, inl, inr}
use mathlib.Core.Bool.{Bool}
use mathlib.Core.List.{List, [], ◌∷◌, ◌++◌, map}
use native.Mathlib.Omega.{arith}
use native.Mathlib.Nat.{sub-zero}
use native.Mathlib.Numerals.{add-one}
use lib.ListN.{length, get_or, drop, length-drop}
use lib.Seq.{drop-drop, get_or-drop}
use lib.Dec.{eqb}
use Rattle.std.proofs.Common.{Option, Some, None}
use Rattle.std.specs.Option.{option_map, unwrap_or}
use Rattle.ledger.specs.Numbers.{keep, run}
use Rattle.ledger.proofs.Lists.Tests.{by_cases}
use Rattle.ledger.specs.declared.Due.{Due}
use Rattle.ledger.specs.declared.Due.TheVariants.{Image, Ready, Store, Done, Back, Empty}
use Rattle.ledger.specs.Journal.Dues.{marked, call_dues, recovery_dues, first_of}
use Rattle.restore_model.specs.Plans.{marked_from, marked_after, due_after, call_first, recovery_first, due_next}
use Rattle.ledger.specs.Journal.Promises.{Follows}

-- a member of the part of a run that is kept, and those after it
abbrev After : (ℕ → Bool) → ℕ → ℕ → ℕ → List ℕ → Type 0
After p k n q ys = (k ≤ q) × (q < k + n) × (keep p (run (suc q) (k + n - suc q)) ≡ ys)

further : (p : ℕ → Bool) (k n q : ℕ) (ys : List ℕ) → After p (suc k) n q ys → After p k (suc n) q ys
further p k n q ys (low, high, rest) =
    let e : k + suc n - suc q ≡ suc k + n - suc q = omega arith in
    (omega arith, omega arith, rw e rest)

kept_split : (p : ℕ → Bool) (n k : ℕ) (xs : List ℕ) (q : ℕ) (ys : List ℕ) → keep p (run k n) ≡ xs ++ (q ∷ ys) → After p k n q ys
unfolding keep run
kept_split p zero k [] q ys h = absurd (let z : ◌≡◌ {A = ℕ} 0 1 = cc in omega arith)
kept_split p zero k (x ∷ xs) q ys h = absurd (let z : ◌≡◌ {A = ℕ} 0 1 = cc in omega arith)
kept_split p (suc n) k [] q ys h = by_cases (p k)
    (λ e.
    let g : k ∷ keep p (run (suc k) n) ≡ q ∷ ys = rw e at h in
    let is : q ≡ k = cc in
    let rest : keep p (run (suc k) n) ≡ ys = cc in
    let e2 : k + suc n - suc k ≡ n = omega arith in
    (omega arith, omega arith, rw (is, e2) rest))
    (λ e. further p k n q ys (kept_split p n (suc k) [] q ys (rw e at h)))
kept_split p (suc n) k (x ∷ xs) q ys h = by_cases (p k)
    (λ e.
    let g : k ∷ keep p (run (suc k) n) ≡ x ∷ (xs ++ (q ∷ ys)) = rw e at h in
    let rest : keep p (run (suc k) n) ≡ xs ++ (q ∷ ys) = cc in
    further p k n q ys (kept_split p n (suc k) xs q ys rest))
    (λ e. further p k n q ys (kept_split p n (suc k) (x ∷ xs) q ys (rw e at h)))

abbrev head : List ℕ → Option ℕ
head [] = None
head (q ∷ qs) = Some q

-- the pages told past page p
module _ (s : List ℕ) where
  abbrev told : ℕ → Bool
  told p = eqb (get_or s (p - 1) 0) 1

  abbrev past : ℕ → List ℕ
  past p = keep told (run (suc p) (length s - p))

  -- the first of them is what is looked for
  from_is : (ms : List ℕ) (i : ℕ) → drop i s ≡ ms → marked_from i ms ≡ head (keep told (run (suc i) (length ms)))
  unfolding marked_from keep run
  from_is [] i h = refl
  from_is (m ∷ ms) i h =
      let first : suc i - 1 ≡ i + 0 = omega arith in
      let here : get_or s (suc i - 1) 0 ≡ m = rw first (sym (get_or-drop i s 0 0) ∙ ap (λ (l : List ℕ). get_or l 0 0) h) in
      let rest : drop (suc i) s ≡ ms = ap (λ (j : ℕ). drop j s) (sym (add-one i)) ∙ sym (drop-drop 1 i s) ∙ ap (λ (l : List ℕ). drop 1 l) h in
      by_cases (eqb m 1)
      (λ e. rw (here, e, add-one i))
      (λ e. rw (here, e, add-one i) (from_is ms (suc i) rest))

  after_is : (p : ℕ) → marked_after s p ≡ head (past p)
  unfolding marked_after
  after_is p = from_is (drop p s) p refl ∙ rw length-drop

  -- the write due past page p, where `of` is done for the pages told, and l after them
  due_is : (of : ℕ → Due) (l : Due) (p : ℕ) (ds : List Due) → Some (due_after s of l p) ≡ first_of (map of (past p) ++ (l ∷ ds))
  due_is of l p ds = rw (after_is p) (go (past p))
    where
      go : (qs : List ℕ) → Some (unwrap_or (option_map of (head qs)) l) ≡ first_of (map of qs ++ (l ∷ ds))
      go [] = refl
      go (q ∷ qs) = refl

  all_told : past 0 ≡ marked s
  unfolding marked
  all_told = rw (sub-zero (length s))

  -- past one that is told
  due_past : (of : ℕ → Due) (l : Due) (p : ℕ) (xs ys : List ℕ) (ds : List Due) → marked s ≡ xs ++ (p ∷ ys)
      → Some (due_after s of l p) ≡ first_of (map of ys ++ (l ∷ ds))
  due_past of l p xs ys ds h =
      let (low, high, rest) = kept_split told (length s - 0) 1 xs p ys (all_told ∙ h) in
      let e : 1 + (length s - 0) - suc p ≡ length s - p = omega arith in
      due_is of l p ds ∙ rw (← rest, e)

pub call_first_lem : (s : List ℕ) → call_first s ≡ first_of (call_dues (marked s))
unfolding call_dues
call_first_lem s = rw (after_is s 0, all_told s) (go (marked s))
  where
    go : (ps : List ℕ) → option_map Image (head ps) ≡ first_of (call_dues ps)
    go [] = refl
    go (p ∷ ps) = refl

pub recovery_first_lem : (s : List ℕ) → recovery_first s ≡ first_of (recovery_dues (marked s))
unfolding recovery_dues
recovery_first_lem s = due_is s Back Empty 0 [] ∙ rw (all_told s)

-- where a write stands: among those of the pages `ps`, or after them
record Among (of : ℕ → Due) (ps : List ℕ) (rest : List Due) (d : Due) (es : List Due) : Type 0 where
  before : List ℕ
  page : ℕ
  after : List ℕ
  pages : ps ≡ before ++ (page ∷ after)
  is : d ≡ of page
  later : es ≡ map of after ++ rest

stands : (of : ℕ → Due) (ps : List ℕ) (rest ds : List Due) (d : Due) (es : List Due) → map of ps ++ rest ≡ ds ++ (d ∷ es)
    → Among of ps rest d es ⊎ ((cs : List Due) × (rest ≡ cs ++ (d ∷ es)))
stands of [] rest ds d es h = inr (ds, h)
stands of (p ∷ ps) rest [] d es h = inl (record { before = []; page = p; after = ps; pages = refl; is = cc; later = cc })
stands of (p ∷ ps) rest (c ∷ ds) d es h =
    let tail : map of ps ++ rest ≡ ds ++ (d ∷ es) = cc in
    elim (stands of ps rest ds d es tail) [
      | inl a ↦ inl (record {
        before = p ∷ a.before;
        page = a.page;
        after = a.after;
        pages = ap (λ (l : List ℕ). p ∷ l) a.pages;
        is = a.is;
        later = a.later;
      })
      | inr (cs, e) ↦ inr (cs, e)
    ]

-- the same of one write before others
first_or_later : (x : Due) (rest ds : List Due) (d : Due) (es : List Due) → x ∷ rest ≡ ds ++ (d ∷ es)
    → ((d ≡ x) × (es ≡ rest)) ⊎ ((cs : List Due) × (rest ≡ cs ++ (d ∷ es)))
first_or_later x rest [] d es h = inl (cc, cc)
first_or_later x rest (c ∷ ds) d es h = inr (ds, cc)

-- no write stands in an empty list
none_there : {A : Type 0} (ds : List Due) (d : Due) (es : List Due) → [] ≡ ds ++ (d ∷ es) → A
none_there [] d es h = absurd (let z : ◌≡◌ {A = ℕ} 0 1 = cc in omega arith)
none_there (c ∷ ds) d es h = absurd (let z : ◌≡◌ {A = ℕ} 0 1 = cc in omega arith)

-- what comes after a write, by where it stands
module _ (s : List ℕ) (d : Due) where
  after_image : (rest es : List Due) → Among Image (marked s) (Ready ∷ rest) d es → due_next s (Some d) ≡ first_of es
  after_image rest es a = rw (a.is, a.later) (due_past s Image Ready a.page a.before a.after rest a.pages)

  after_ready : (es : List Due) → d ≡ Ready → es ≡ map Store (marked s) ++ (Done ∷ []) → due_next s (Some d) ≡ first_of es
  after_ready es is later = rw (is, later) (due_is s Store Done 0 [] ∙ rw (all_told s))

  after_store : (es : List Due) → Among Store (marked s) (Done ∷ []) d es → due_next s (Some d) ≡ first_of es
  after_store es a = rw (a.is, a.later) (due_past s Store Done a.page a.before a.after [] a.pages)

  after_back : (es : List Due) → Among Back (marked s) (Empty ∷ []) d es → due_next s (Some d) ≡ first_of es
  after_back es a = rw (a.is, a.later) (due_past s Back Empty a.page a.before a.after [] a.pages)

  after_last : (l : Due) (es : List Due) → due_next s (Some l) ≡ None → (ds : List Due) → l ∷ [] ≡ ds ++ (d ∷ es) → due_next s (Some d) ≡ first_of es
  after_last l es none ds h =
      elim (first_or_later l [] ds d es h) [
        | inl (is, later) ↦ rw (is, later) none
        | inr (cs, e) ↦ none_there cs d es e
      ]

  -- after the ready line, or at it
  past_images : (ds es : List Due) → Ready ∷ (map Store (marked s) ++ (Done ∷ [])) ≡ ds ++ (d ∷ es) → due_next s (Some d) ≡ first_of es
  past_images ds es h =
      elim (first_or_later Ready (map Store (marked s) ++ (Done ∷ [])) ds d es h) [
        | inl (is, later) ↦ after_ready es is later
        | inr (cs, e) ↦ elim (stands Store (marked s) (Done ∷ []) cs d es e) [
          | inl a ↦ after_store es a
          | inr (bs, e2) ↦ after_last Done es refl bs e2
        ]
      ]

  call_some : (ds es : List Due) → map Image (marked s) ++ (Ready ∷ (map Store (marked s) ++ (Done ∷ []))) ≡ ds ++ (d ∷ es)
      → due_next s (Some d) ≡ first_of es
  call_some ds es h =
      elim (stands Image (marked s) (Ready ∷ (map Store (marked s) ++ (Done ∷ []))) ds d es h) [
        | inl a ↦ after_image _ es a
        | inr (cs, e) ↦ past_images cs es e
      ]

  call_follows : (ds es : List Due) (ps : List ℕ) → marked s ≡ ps → call_dues ps ≡ ds ++ (d ∷ es) → due_next s (Some d) ≡ first_of es
  unfolding call_dues
  call_follows ds es [] e h = none_there ds d es h
  call_follows ds es (p ∷ ps) e h = call_some ds es (rw e h)

  recovery_follows : (ds es : List Due) → recovery_dues (marked s) ≡ ds ++ (d ∷ es) → due_next s (Some d) ≡ first_of es
  unfolding recovery_dues
  recovery_follows ds es h =
      elim (stands Back (marked s) (Empty ∷ []) ds d es h) [
        | inl a ↦ after_back es a
        | inr (cs, e) ↦ after_last Empty es refl cs e
      ]

pub follows : (s : List ℕ) (d : Option Due) → Follows s d (due_next s d)
follows s d = record {
  in_call = λ w ds es is h. rw is (call_follows s w ds es (marked s) refl h);
  in_recovery = λ w ds es is h. rw is (recovery_follows s w ds es h);
  nothing = λ is. rw is;
}
