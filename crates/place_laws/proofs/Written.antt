-- What is written in a file with any links: it is the file with the one link, or with the data, changed.
use Prim.Native.Nat.{ℕ, ◌+◌, ◌*◌, ◌≤◌, ◌<◌}
use mathlib.Core.Path.{◌≡◌, refl, sym, ◌∙◌}
use mathlib.Core.Logic.{◌≢◌}
use mathlib.Core.Bool.{true}
use mathlib.Core.List.{List}
use native.Mathlib.Omega.{arith}
use lib.Dec.{eqb}
use borrow.Author.Tests.{ne_eqb, eq-eqb, eqb-true, eqb-false}
use Rattle.ledger.specs.Numbers.{digits, update}
use Rattle.ledger.specs.Table.{pages, chains, calculated, in_chain, linked_prior, Accepted}
use Rattle.ledger.specs.Pages.{page_of, line_of, record_size, Ledger, kind_at, present, laid, bytes_with, file_with}
use Rattle.ledger.proofs.Lists.Tests.{by_cases, same_or_not, update_same, update_other}
use Rattle.ledger.proofs.Bytes.Writes.{laid_same}
use Rattle.ledger.proofs.Ledger.Fields.{calc_inside}
use Rattle.model.specs.Reads.{place_in}
use Rattle.model.specs.Writes.{link_put, next_put, prior_put, calc_next_put, head_put, calc_put, joined_in, linked_in}
use Rattle.model.specs.Moves.{part_put}
use Rattle.place_laws.proofs.Image.{next_inside, prior_inside}
use Rattle.place_laws.proofs.Links.{three_put_lem, image_link_put, image_head_put}
use Rattle.place_laws.proofs.Pieces.{bytes_same, calc_bytes, next_bytes, prior_bytes}
use Rattle.place_laws.proofs.With.{Held, Small, with_chain, held_small, with_same, bytes_length, bytes_some, with_imaged, with_kind}

-- links with another at chain j and code x
unfoldable pub put2 : (ℕ → ℕ → ℕ) → ℕ → ℕ → ℕ → ℕ → ℕ → ℕ
put2 g j x v = update g j (update (g j) x v)

module _ (g : ℕ → ℕ → ℕ) (j x v : ℕ) where
  pub put2_here : put2 g j x v j x ≡ v
  unfolding put2
  put2_here = rw (update_same g j (update (g j) x v)) (update_same (g j) x v)

  pub put2_chain : (i y : ℕ) → i ≢ j → put2 g j x v i y ≡ g i y
  unfolding put2
  put2_chain i y ne = rw (update_other g j (update (g j) x v) i ne)

  pub put2_code : (i y : ℕ) → y ≢ x → put2 g j x v i y ≡ g i y
  unfolding put2
  put2_code i y ne = same_or_not i j
      (λ e. rw (e, update_same g j (update (g j) x v)) (update_other (g j) x v y ne))
      (put2_chain i y)

  pub put2_keeps : (A : ℕ → Type 0) (i y : ℕ) → A v → A (g i y) → A (put2 g j x v i y)
  put2_keeps A i y new old = same_or_not i j
      (λ e. same_or_not y x (λ f. rw (e, f, put2_here) new) (λ f. rw (put2_code i y f) old))
      (λ e. rw (put2_chain i y e) old)

update_keeps : (A : ℕ → Type 0) (g : ℕ → ℕ) (x v y : ℕ) → A v → A (g y) → A (update g x v y)
unfolding update
update_keeps A g x v y new old = by_cases (eqb y x) (λ e. rw e new) (λ e. rw e old)

-- links stay small
module _ (t : List ℕ) (l : Ledger) (nx pr : ℕ → ℕ → ℕ) (cn hd : ℕ → ℕ) (z : Small t l nx pr cn hd) (v : ℕ) (small : v < 16777216) where
  pub small_next : (j x : ℕ) → Small t l (put2 nx j x v) pr cn hd
  small_next j x = record {
    nexts = λ i y e. put2_keeps nx j x v (λ n. n < 16777216) i y small (z.nexts i y e);
    priors = z.priors;
    calcs = z.calcs;
    heads = z.heads;
  }

  pub small_prior : (j x : ℕ) → Small t l nx (put2 pr j x v) cn hd
  small_prior j x = record {
    nexts = z.nexts;
    priors = λ i y e. put2_keeps pr j x v (λ n. n < 16777216) i y small (z.priors i y e);
    calcs = z.calcs;
    heads = z.heads;
  }

  pub small_calc : (x : ℕ) → Small t l nx pr (update cn x v) hd
  small_calc x = record {
    nexts = z.nexts;
    priors = z.priors;
    calcs = λ y e. update_keeps (λ n. n < 16777216) cn x v y small (z.calcs y e);
    heads = z.heads;
  }

  pub small_head : (p : ℕ) → Small t l nx pr cn (update hd p v)
  small_head p = record {
    nexts = z.nexts;
    priors = z.priors;
    calcs = z.calcs;
    heads = λ q lo hi. update_keeps (λ n. n < 16777216) hd p v q small (z.heads q lo hi);
  }

-- One link, or the data, of one record.
module _ (t : List ℕ) (l : Ledger) (nx pr : ℕ → ℕ → ℕ) (cn hd : ℕ → ℕ) (a : Accepted t) (w : Held t l) (z : Small t l nx pr cn hd) where
  -- the bytes of record x are b, all others stay
  pub one_changed : (l' : Ledger) (nx' pr' : ℕ → ℕ → ℕ) (cn' : ℕ → ℕ) (x : ℕ) (b : List ℕ) → b ≡ bytes_with t l' nx' pr' cn' x
      → ((y : ℕ) → y ≢ x → l.at y ≡ l'.at y) → ((j y : ℕ) → y ≢ x → nx j y ≡ nx' j y) → ((j y : ℕ) → y ≢ x → pr j y ≡ pr' j y)
      → ((y : ℕ) → y ≢ x → cn y ≡ cn' y)
      → laid (pages t) (update (bytes_with t l nx pr cn) x b) hd ≡ file_with t l' nx' pr' cn' hd
  unfolding file_with
  one_changed l' nx' pr' cn' x b new same next prior calc =
      laid_same (pages t) (update (bytes_with t l nx pr cn) x b) (bytes_with t l' nx' pr' cn') hd hd
      (λ y. same_or_not y x
      (λ e. rw (e, update_same (bytes_with t l nx pr cn) x b) new)
      (λ ne. update_other (bytes_with t l nx pr cn) x b y ne
      ∙ bytes_same t l l' nx nx' pr pr' cn cn' y (same y ne) (λ e c. calc y ne) (λ e j lt c. next j y ne) (λ e j lt c p. prior j y ne)))
      (λ p lo hi. refl)

  link_written : (x k v : ℕ) → present l x ≡ true → k + 3 ≤ record_size t (kind_at l x)
      → link_put (file_with t l nx pr cn hd) (place_in (file_with t l nx pr cn hd) x) k v
      ≡ laid (pages t) (update (bytes_with t l nx pr cn) x (part_put (bytes_with t l nx pr cn x) k (digits 3 v))) hd
  link_written x k v e inside =
      rw (three_put_lem (bytes_with t l nx pr cn x) k v)
      at (image_link_put t _ _ hd a (with_imaged t l nx pr cn hd a w z) x k v (bytes_some t l nx pr cn a w x e) (rw (bytes_length t l nx pr cn a w x e) inside))

  pub next_put_lem : (j x v : ℕ) → j < chains t → in_chain t j (kind_at l x) ≡ true
      → next_put t (file_with t l nx pr cn hd) j x v ≡ file_with t l (put2 nx j x v) pr cn hd
  unfolding next_put
  next_put_lem j x v lt c =
      let e = with_chain t l a j x lt c in
      let new = next_bytes t l nx pr cn x e (w.placed x e).full (put2 nx j x v) j lt c (λ i ne. sym (put2_chain nx j x v i x ne)) in
      rw (with_kind t l nx pr cn hd a w z x)
      (link_written x _ v e (next_inside t _ j lt c)
      ∙ one_changed l (put2 nx j x v) pr cn x _ (rw (put2_here nx j x v) at new) (λ y ne. refl) (λ i y ne. sym (put2_code nx j x v i y ne)) (λ i y ne. refl) (λ y ne. refl))

  -- a chain without PRIORs has none written and none told
  pub prior_put_lem : (j x v : ℕ) → j < chains t → in_chain t j (kind_at l x) ≡ true
      → prior_put t (file_with t l nx pr cn hd) j x v ≡ file_with t l nx (put2 pr j x v) cn hd
  unfolding prior_put
  prior_put_lem j x v lt c = by_cases (eqb (linked_prior t j) 1)
      (λ d.
      let e = with_chain t l a j x lt c in
      let p = eqb-true (linked_prior t j) 1 d in
      let new = prior_bytes t l nx pr cn x e (w.placed x e).full (put2 pr j x v) j lt c p (λ i ne. sym (put2_chain pr j x v i x ne)) in
      rw (d, with_kind t l nx pr cn hd a w z x)
      (link_written x _ v e (prior_inside t _ j lt c p)
      ∙ one_changed l nx (put2 pr j x v) cn x _ (rw (put2_here pr j x v) at new) (λ y ne. refl) (λ i y ne. refl) (λ i y ne. sym (put2_code pr j x v i y ne)) (λ y ne. refl)))
      (λ d. rw d
      (with_same t l l nx nx pr (put2 pr j x v) cn cn hd hd (λ y. refl) (λ i y h e b. refl)
      (λ i y h e b p. sym (put2_chain pr j x v i y (λ f. eqb-false (linked_prior t j) 1 d (rw f at p)))) (λ y e b. refl) (λ p lo hi. refl)))

  -- CALC NEXT of a record, and of a page
  pub calc_put_lem : (x v : ℕ) → present l x ≡ true → calculated t (kind_at l x) ≡ true
      → calc_next_put t (file_with t l nx pr cn hd) x v ≡ file_with t l nx pr (update cn x v) hd
  unfolding calc_next_put
  calc_put_lem x v e c =
      let new = calc_bytes t l nx pr cn x e (w.placed x e).full (update cn x v) c in
      rw (with_kind t l nx pr cn hd a w z x)
      (link_written x _ v e (calc_inside t _ c)
      ∙ one_changed l nx pr (update cn x v) x _ (rw (update_same cn x v) at new) (λ y ne. refl) (λ i y ne. refl) (λ i y ne. refl) (λ y ne. sym (update_other cn x v y ne)))

  pub head_put_lem : (p v : ℕ) → 1 ≤ p → p ≤ pages t → head_put (file_with t l nx pr cn hd) p v ≡ file_with t l nx pr cn (update hd p v)
  head_put_lem p v lo hi = image_head_put t _ _ hd a (with_imaged t l nx pr cn hd a w z) p v lo hi ∙ (unfold file_with in refl)

  -- after a code of a CALC ring, be that a record or a header
  pub calc_record_put : (x v : ℕ) → present l x ≡ true → calculated t (kind_at l x) ≡ true
      → calc_put t (file_with t l nx pr cn hd) x v ≡ file_with t l nx pr (update cn x v) hd
  unfolding calc_put
  calc_record_put x v e c = rw (ne_eqb (line_of x) 0 (λ n. omega (arith, (w.placed x e).on_a_line))) (calc_put_lem x v e c)

  pub calc_head_put : (p v : ℕ) → 1 ≤ p → p ≤ pages t → calc_put t (file_with t l nx pr cn hd) (64 * p) v ≡ file_with t l nx pr cn (update hd p v)
  unfolding calc_put
  calc_head_put p v lo hi =
      let line : line_of (64 * p) ≡ 0 = omega arith in
      let own : page_of (64 * p) ≡ p = omega arith in
      rw (eq-eqb (line_of (64 * p)) 0 line, own) (head_put_lem p v lo hi)

-- In a ring of chain j, c directly after b, and x between b and c.
module _ (t : List ℕ) (l : Ledger) (nx pr : ℕ → ℕ → ℕ) (cn hd : ℕ → ℕ) (a : Accepted t) (w : Held t l) (z : Small t l nx pr cn hd) where
  chain_small : (j x : ℕ) → j < chains t → in_chain t j (kind_at l x) ≡ true → x < 16777216
  chain_small j x lt c = held_small t l a w x (with_chain t l a j x lt c)

  pub joined_put : (j b c : ℕ) → j < chains t → in_chain t j (kind_at l b) ≡ true → in_chain t j (kind_at l c) ≡ true
      → joined_in t (file_with t l nx pr cn hd) j b c ≡ file_with t l (put2 nx j b c) (put2 pr j c b) cn hd
  unfolding joined_in
  joined_put j b c lt p q =
      rw (next_put_lem t l nx pr cn hd a w z j b c lt p)
      (prior_put_lem t l (put2 nx j b c) pr cn hd a w (small_next t l nx pr cn hd z c (chain_small j c lt q) j b) j c b lt q)

  pub joined_small : (j b c : ℕ) → j < chains t → in_chain t j (kind_at l b) ≡ true → in_chain t j (kind_at l c) ≡ true
      → Small t l (put2 nx j b c) (put2 pr j c b) cn hd
  joined_small j b c lt p q =
      small_prior t l (put2 nx j b c) pr cn hd (small_next t l nx pr cn hd z c (chain_small j c lt q) j b) b (chain_small j b lt p) j c

module _ (t : List ℕ) (l : Ledger) (nx pr : ℕ → ℕ → ℕ) (cn hd : ℕ → ℕ) (a : Accepted t) (w : Held t l) (z : Small t l nx pr cn hd)
    (j x b c : ℕ) (lt : j < chains t) (own : in_chain t j (kind_at l x) ≡ true) (prev : in_chain t j (kind_at l b) ≡ true) (next : in_chain t j (kind_at l c) ≡ true) where
  pub linked_put : linked_in t (file_with t l nx pr cn hd) j x b c ≡ file_with t l (put2 (put2 nx j x c) j b x) (put2 (put2 pr j c x) j x b) cn hd
  unfolding linked_in
  linked_put =
      rw (joined_put t l nx pr cn hd a w z j x c lt own next)
      (joined_put t l (put2 nx j x c) (put2 pr j c x) cn hd a w (joined_small t l nx pr cn hd a w z j x c lt own next) j b x lt prev own)

  pub linked_small : Small t l (put2 (put2 nx j x c) j b x) (put2 (put2 pr j c x) j x b) cn hd
  linked_small =
      joined_small t l (put2 nx j x c) (put2 pr j c x) cn hd a w (joined_small t l nx pr cn hd a w z j x c lt own next) j b x lt prev own
