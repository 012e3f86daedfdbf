-- The walks of a chain's masters in an image: what they read, and that each comes home exactly where NEXT leads home along its ring.
use Prim.Native.Nat.{ℕ, suc, ◌+◌, ◌*◌, ◌<◌}
use mathlib.Core.Path.{◌≡◌, sym, ◌∙◌, ap}
use mathlib.Core.Logic.{◌≢◌}
use mathlib.Core.Bool.{true, false, or-true}
use mathlib.Core.List.{List}
use mathlib.Core.Option.{some}
use native.Mathlib.Omega.{arith}
use lib.Dec.{eqb}
use borrow.Author.Tests.{eqb-true, eq-eqb, ne_eqb}
use Rattle.ledger.specs.Numbers.{elem}
use Rattle.ledger.specs.Table.{pages, chains, master_type, detail_type, linked_prior, is_master, is_detail, in_chain, Accepted}
use Rattle.ledger.specs.Pages.{codes, link_at}
use Rattle.ledger.specs.Bytes.{two_at, three_at}
use Rattle.ledger.specs.Walks.{walk}
use Rattle.ledger.specs.Image.{kind_read, detail_read, master_read, next_read, prior_read, ring_read, Imaged}
use Rattle.ledger.proofs.Lists.Tests.{by_cases, clash, not_true_false, same_tests}
use Rattle.ledger.proofs.Audit.Walks.{Home, homes_apart, walked_is, walked_master, walked_out}
use Rattle.ledger.proofs.Audit.Audits.{home_short}
use Rattle.ledger.proofs.Image.ChainRings.{codes_few, details_listed, masters_listed, apart}
use Rattle.model.specs.Reads.{place_in, kind_from, link_from, kind_in, next_in, prior_in}
use Rattle.place_laws.proofs.Image.{image_there, image_kind, chain_some, image_next, image_prior}
use Rattle.audit_model.specs.Marks.{Walk, walk_on}
use Rattle.audit_model.specs.Chains.{ends_of, prior_is, back_home, met_in, walk_home, code_walks}
use Rattle.audit_laws.proofs.Marked.{mark_all, Clear, code_within, codes_short}
use Rattle.audit_laws.proofs.Walks.{Backed, step_of, walk_came, walk_exactly, prior_says}
use Rattle.audit_laws.proofs.Sweeps.{Walks}

pub eqb_turned : (a b : ℕ) → eqb a b ≡ eqb b a
eqb_turned a b = same_tests _ _ (λ e. eq-eqb b a (sym (eqb-true a b e))) (λ e. eq-eqb a b (sym (eqb-true b a e)))

-- a master's NEXT leads home along its ring, with the PRIORs right where there are any
abbrev pub WayHome : List ℕ → (ℕ → List ℕ) → ℕ → ℕ → Type 0
WayHome t r j c = master_read t r j c ≡ true
    → Home (next_read t r j) (detail_read t r j) c (next_read t r j c) (ring_read t r j c)
    × Backed (prior_says (eqb (linked_prior t j) 1) (prior_read t r j)) c c (ring_read t r j c)

module _ (t f : List ℕ) (r : ℕ → List ℕ) (h : ℕ → ℕ) (a : Accepted t) (i : Imaged t f r h) (j : ℕ) (within : j < chains t) where
  -- what the walks read: the types, and the links of a record of the chain
  pub detail_shown : (x : ℕ) → eqb (kind_in f x) (detail_type t j) ≡ detail_read t r j x
  unfolding detail_read is_detail
  detail_shown x = rw (image_kind t f r h a i x) (eqb_turned (kind_read (r x)) (detail_type t j))

  master_shown : (x : ℕ) → eqb (kind_in f x) (master_type t j) ≡ master_read t r j x
  unfolding master_read is_master
  master_shown x = rw (image_kind t f r h a i x) (eqb_turned (kind_read (r x)) (master_type t j))

  detail_kind : (x : ℕ) → detail_read t r j x ≡ true → (kind_read (r x) ≡ detail_type t j) × (in_chain t j (kind_read (r x)) ≡ true)
  unfolding detail_read in_chain is_detail
  detail_kind x d = (sym (eqb-true _ _ d), rw d (or-true (is_master t j (kind_read (r x)))))

  master_kind : (x : ℕ) → master_read t r j x ≡ true → (kind_read (r x) ≡ master_type t j) × (in_chain t j (kind_read (r x)) ≡ true)
  unfolding master_read in_chain is_master
  master_kind x d = (sym (eqb-true _ _ d), rw d)

  placed : (x : ℕ) → in_chain t j (kind_read (r x)) ≡ true → eqb (place_in f x) 0 ≡ false
  placed x c = ne_eqb (place_in f x) 0 (λ z. omega (arith, image_there t f r h a i x (chain_some t f r h a i j x within c)))

  next_shown : (x : ℕ) → in_chain t j (kind_read (r x)) ≡ true → three_at f (place_in f x + link_at t (kind_read (r x)) j) ≡ next_read t r j x
  next_shown x c =
      let e : next_in t f j x ≡ three_at f (place_in f x + link_at t (kind_read (r x)) j) = unfold next_in link_from in rw (image_kind t f r h a i x, placed x c) in
      sym e ∙ image_next t f r h a i j x within c

  says_shown : (x last : ℕ) → in_chain t j (kind_read (r x)) ≡ true
      → prior_is f (eqb (linked_prior t j) 1) (place_in f x) (link_at t (kind_read (r x)) j) last ≡ prior_says (eqb (linked_prior t j) 1) (prior_read t r j) last x
  unfolding prior_is
  says_shown x last c = by_cases (eqb (linked_prior t j) 1)
      (λ l.
      let e : prior_in t f j x ≡ three_at f (place_in f x + (link_at t (kind_read (r x)) j + 3)) = unfold prior_in link_from in rw (image_kind t f r h a i x, placed x c) in
      rw (l, sym e ∙ image_prior t f r h a i j x within c (eqb-true _ _ l)))
      (λ l. rw l)

  kind_shown : (x : ℕ) → eqb (place_in f x) 0 ≡ false → two_at f (place_in f x) ≡ kind_in f x
  unfolding kind_in kind_from
  kind_shown x z = rw z

  met_shown : (g : List ℕ) (last x : ℕ)
      → met_in f (ends_of t j) g last x ≡ step_of (next_read t r j) (detail_read t r j) (prior_says (eqb (linked_prior t j) 1) (prior_read t r j)) g last x
  unfolding met_in ends_of
  met_shown g last x = by_cases (detail_read t r j x)
      (λ d.
      let (k, c) = detail_kind x d in
      rw (placed x c, kind_shown x (placed x c), detail_shown x, d, ← k, says_shown x last c, next_shown x c))
      (λ d. by_cases (eqb (place_in f x) 0)
      (λ z. rw (z, d))
      (λ z. rw (z, kind_shown x z, detail_shown x, d)))

  -- each code's walk, by itself
  master_walk : (c : ℕ) (g : List ℕ) → master_read t r j c ≡ true
      → code_walks f (ends_of t j) c g ≡ walk_on 8256 (met_in f (ends_of t j)) (back_home f (ends_of t j) c) c c (next_read t r j c) g
  unfolding code_walks walk_home ends_of
  master_walk c g top = let (k, q) = master_kind c top in rw (master_shown c, top, ← k, next_shown c q)

  other_walk : (c : ℕ) (g : List ℕ) → master_read t r j c ≡ false → code_walks f (ends_of t j) c g ≡ (true, g)
  unfolding code_walks ends_of
  other_walk c g top = rw (master_shown c, top)

  at_home : (c last : ℕ) → master_read t r j c ≡ true → back_home f (ends_of t j) c last ≡ prior_says (eqb (linked_prior t j) 1) (prior_read t r j) last c
  unfolding back_home ends_of
  at_home c last top = let (k, q) = master_kind c top in rw (← k) (says_shown c last q)

  pub off : (c : ℕ) → master_read t r j c ≡ true → detail_read t r j c ≡ false
  off = apart t r a i.paged j within

  -- the way home of a master is its ring
  pub home_read_lem : (c : ℕ) (xs : List ℕ) → master_read t r j c ≡ true → Home (next_read t r j) (detail_read t r j) c (next_read t r j c) xs
      → walk (suc (64 * pages t)) (next_read t r j) (detail_read t r j) c (next_read t r j c) ≡ some xs
  home_read_lem c xs top way = home_short _ _ (master_read t r j) (codes t) off (details_listed t r a i.paged j within) (masters_listed t r a i.paged j within) _ (codes_few t) c xs (off c top) way

  pub ring_is : (c : ℕ) (xs : List ℕ) → master_read t r j c ≡ true → Home (next_read t r j) (detail_read t r j) c (next_read t r j c) xs → ring_read t r j c ≡ xs
  ring_is c xs top way = walked_is _ _ (master_read t r j) off _ c xs top (home_read_lem c xs top way)

  walk_comes : (c : ℕ) (g : List ℕ) → (code_walks f (ends_of t j) c g).0 ≡ true
      → WayHome t r j c × ((code_walks f (ends_of t j) c g).1 ≡ mark_all (ring_read t r j c) g)
  walk_comes c g e = by_cases (master_read t r j c)
      (λ top.
      let (xs, came, marks) = walk_came _ _ _ _ met_shown c _ (λ last. at_home c last top) 8256 c _ g (rw (master_walk c g top) at e) in
      let same = ring_is c xs top came.way in
      (λ z. rw same (came.way, came.backed), ap (λ (w : Walk). w.1) (master_walk c g top) ∙ marks ∙ ap (λ (v : List ℕ). mark_all v g) (sym same)))
      (λ top. (λ z. clash _ z top, ap (λ (w : Walk). w.1) (other_walk c g top) ∙ ap (λ (v : List ℕ). mark_all v g) (sym (walked_out _ _ (master_read t r j) off _ c top))))

  walk_goes : (c : ℕ) (g : List ℕ) → elem c (codes t) ≡ true → WayHome t r j c → Clear g (ring_read t r j c) → (code_walks f (ends_of t j) c g).0 ≡ true
  walk_goes c g e way clear = by_cases (master_read t r j c)
      (λ top.
      let (home, back) = way top in
      let none : detail_read t r j 0 ≡ false = not_true_false _ (λ d. omega (arith, (code_within t a 0 (details_listed t r a i.paged j within 0 d)).0)) in
      let some : c ≢ 0 = λ z. omega (arith, (code_within t a c e).0) in
      rw (master_walk c g top)
      ((walk_exactly _ _ _ _ met_shown c _ (λ last. at_home c last top) (off c top) none some (codes t) (details_listed t r a i.paged j within) 8256 (codes_short t a) c _ g).1
      (ring_read t r j c, record { way = home; backed = back; clear = clear })))
      (λ top. ap (λ (w : Walk). w.0) (other_walk c g top))

  rings_apart : (c d x : ℕ) → WayHome t r j c → WayHome t r j d → elem x (ring_read t r j c) ≡ true → elem x (ring_read t r j d) ≡ true → c ≡ d
  rings_apart c d x v w e q =
      let m = walked_master _ _ (master_read t r j) off _ c x e in
      let n = walked_master _ _ (master_read t r j) off _ d x q in
      homes_apart _ _ c d x _ _ (off c m) (off d n) (v m).0 (w n).0 e q

  pub chain_walks : Walks (code_walks f (ends_of t j)) (ring_read t r j) (WayHome t r j) (codes t)
  chain_walks = record {
    comes = λ c g e. walk_comes c g;
    goes = walk_goes;
    apart = λ c d x e q. rings_apart c d x;
  }
