-- One chain's ring in a file, closed over what goes: what stays there has the links of the ledger after the deletion.
use Prim.Native.Nat.{ℕ, ◌<◌}
use mathlib.Core.Path.{◌≡◌, refl, sym, ◌∙◌}
use mathlib.Core.Logic.{◌≢◌}
use mathlib.Core.Bool.{true, false, not}
use mathlib.Core.List.{List, ◌∷◌, ◌++◌, reverse}
use Rattle.ledger.specs.Numbers.{elem, keep, once, head_or, follower, update}
use Rattle.ledger.specs.Table.{chains, is_master, in_chain, Accepted}
use Rattle.ledger.specs.Pages.{Ledger, kind_at, round, next_of, prior_of, file_with, Sound}
use Rattle.ledger.specs.Calls.{goes, deleted}
use Rattle.ledger.proofs.Lists.Tests.{same_or_not, update_same}
use Rattle.ledger.proofs.Lists.Members.{elem_here, elem_tail, elem_put}
use Rattle.ledger.proofs.Lists.Sieves.{keep_same}
use Rattle.ledger.proofs.Lists.Pairs.{once_cons}
use Rattle.ledger.proofs.Ledger.Rings.{chained, next_master, next_in_lem, next_round, prior_round}
use Rattle.ledger.proofs.Delete.Deleted.{stays, deleted_at, deleted_ring, deleted_formed}
use Rattle.model.specs.Reads.{next_in}
use Rattle.model.specs.Writes.{joined_in}
use Rattle.place_laws.proofs.With.{Small, own_held, with_next}
use Rattle.place_laws.proofs.Written.{put2, put2_chain, joined_put, joined_small}
use Rattle.ring_model.specs.Rings.{ring_fuel}
use Rattle.ring_laws.proofs.Rounds.{all_in_chain, ring_few, master_outside}
use Rattle.delete_model.specs.Marks.{goes_in}
use Rattle.delete_model.specs.Closing.{ring_closed}
use Rattle.delete_laws.proofs.Closed.{nexts, priors, nexts_in, nexts_else, priors_in, priors_else, rest_once, rest_member, rest_other, close_from_lem}

-- the links of the chain that a link is put in
put2_row : (g : ℕ → ℕ → ℕ) (nx : ℕ → ℕ) (j b v y : ℕ) → ((z : ℕ) → g j z ≡ nx z) → put2 g j b v j y ≡ update nx b v y
unfolding put2 update
put2_row g nx j b v y h = rw (update_same g j (update (g j) b v), h y)

module _ (t f : List ℕ) (l : Ledger) (a : Accepted t) (s : Sound t f l) (x : ℕ) (k : List ℕ) (same : (y : ℕ) → goes_in k y ≡ goes t l x y) (cn hd : ℕ → ℕ) where
  -- file g is l's, with links nx and pr in its chains
  pub record Linked (g : List ℕ) (nx pr : ℕ → ℕ → ℕ) : Type 0 where
    pub file : g ≡ file_with t l nx pr cn hd
    pub small : Small t l nx pr cn hd

  module _ (j m : ℕ) (lt : j < chains t) (top : is_master t j (kind_at l m) ≡ true) (stay : goes t l x m ≡ false) (NX PR : ℕ → ℕ → ℕ) where
    abbrev ring : List ℕ
    ring = l.ring j m

    -- chain j has links nx and pr, every other those that it had
    record InRing (g : List ℕ) (nx pr : ℕ → ℕ) : Type 0 where
      all_next : ℕ → ℕ → ℕ
      all_prior : ℕ → ℕ → ℕ
      linked : Linked g all_next all_prior
      next_here : (y : ℕ) → all_next j y ≡ nx y
      prior_here : (y : ℕ) → all_prior j y ≡ pr y
      next_there : (i y : ℕ) → i ≢ j → all_next i y ≡ NX i y
      prior_there : (i y : ℕ) → i ≢ j → all_prior i y ≡ PR i y

    in_chain_lem : (y : ℕ) → elem y (m ∷ ring) ≡ true → in_chain t j (kind_at l y) ≡ true
    in_chain_lem y e = all_in_chain t l a s.formed j m top y e

    reads : (g : List ℕ) (nx pr : ℕ → ℕ) → InRing g nx pr → (y : ℕ) → elem y (m ∷ ring) ≡ true → next_in t g j y ≡ nx y
    reads g nx pr r y e =
        rw r.linked.file (with_next t l r.all_next r.all_prior cn hd a (own_held t l s.formed) r.linked.small j y lt (in_chain_lem y e)) ∙ r.next_here y

    joins : (g : List ℕ) (nx pr : ℕ → ℕ) → InRing g nx pr → (b c : ℕ) → elem b (m ∷ ring) ≡ true → elem c (m ∷ ring) ≡ true
        → InRing (joined_in t g j b c) (update nx b c) (update pr c b)
    joins g nx pr r b c p q =
        let held = own_held t l s.formed in
        let z = r.linked.small in
        record {
          all_next = put2 r.all_next j b c;
          all_prior = put2 r.all_prior j c b;
          linked = record {
            file = rw r.linked.file (joined_put t l r.all_next r.all_prior cn hd a held z j b c lt (in_chain_lem b p) (in_chain_lem c q));
            small = joined_small t l r.all_next r.all_prior cn hd a held z j b c lt (in_chain_lem b p) (in_chain_lem c q);
          };
          next_here = λ y. put2_row r.all_next nx j b c y r.next_here;
          prior_here = λ y. put2_row r.all_prior pr j c b y r.prior_here;
          next_there = λ i y n. put2_chain r.all_next j b c i y n ∙ r.next_there i y n;
          prior_there = λ i y n. put2_chain r.all_prior j c b i y n ∙ r.prior_there i y n;
        }

    -- what a closed ring is: those round it that stay have the links of the ledger after the deletion, and no other link is changed
    pub record Shut (g : List ℕ) : Type 0 where
      pub nx : ℕ → ℕ → ℕ
      pub pr : ℕ → ℕ → ℕ
      pub linked : Linked g nx pr
      pub next_in_lem : (y : ℕ) → elem y (m ∷ ring) ≡ true → goes t l x y ≡ false → nx j y ≡ next_of t (deleted t l x) j y
      pub prior_in_lem : (y : ℕ) → elem y (m ∷ ring) ≡ true → goes t l x y ≡ false → pr j y ≡ prior_of t (deleted t l x) j y
      pub next_else : (i y : ℕ) → (i ≡ j → elem y (m ∷ ring) ≡ false) → nx i y ≡ NX i y
      pub prior_else : (i y : ℕ) → (i ≡ j → elem y (m ∷ ring) ≡ false) → pr i y ≡ PR i y

    -- those that stay
    abbrev rest : List ℕ
    rest = keep (λ y. not (goes_in k y)) ring

    rest_is : (deleted t l x).ring j m ≡ rest
    rest_is = deleted_ring t l x j m stay ∙ keep_same (stays t l x) (λ y. not (goes_in k y)) ring (λ y e. rw (same y))

    stays_in : (y : ℕ) → elem y (m ∷ ring) ≡ true → goes t l x y ≡ false → elem y (m ∷ rest) ≡ true
    stays_in y e g = rest_member (λ y. not (goes_in k y)) m ring y e (rw (same y, g))

    -- round the ring of the ledger after the deletion
    next_left : (y : ℕ) → elem y (m ∷ rest) ≡ true → next_of t (deleted t l x) j y ≡ follower y (round m rest)
    next_left y e =
        let d = deleted t l x in
        rw rest_is at
        (next_round t d j (chained t d a (deleted_formed t l x a s.formed) j) m (rw (deleted_at t l x m stay) top) y (rw rest_is e))

    prior_left : (y : ℕ) → elem y (m ∷ rest) ≡ true → prior_of t (deleted t l x) j y ≡ follower y (round m (reverse rest))
    prior_left y e =
        let d = deleted t l x in
        rw rest_is at
        (prior_round t d j (chained t d a (deleted_formed t l x a s.formed) j) m (rw (deleted_at t l x m stay) top) y (rw rest_is e))

    shut : (g : List ℕ) → InRing g (nexts m m rest (NX j)) (priors m m rest (PR j)) → Shut g
    unfolding round
    shut g r =
        let ones : once (m ∷ rest) ≡ true = rest_once (λ y. not (goes_in k y)) m ring (master_outside t l a s.formed j m top) (s.formed.ring_once j m) in
        record {
          nx = r.all_next;
          pr = r.all_prior;
          linked = r.linked;
          next_in_lem = λ y e g. let i = stays_in y e g in r.next_here y ∙ nexts_in m m rest (NX j) y ones i ∙ sym (next_left y i);
          prior_in_lem = λ y e g. let i = stays_in y e g in r.prior_here y ∙ priors_in m m rest (PR j) y ones i ∙ sym (prior_left y i);
          next_else = λ i y n. same_or_not i j
              (λ q. rw q (r.next_here y ∙ nexts_else m m rest (NX j) y (rest_other (λ y. not (goes_in k y)) m ring y (n q))))
              (r.next_there i y);
          prior_else = λ i y n. same_or_not i j
              (λ q. rw q (r.prior_here y ∙ priors_else m m rest (PR j) y (rest_other (λ y. not (goes_in k y)) m ring y (n q))))
              (r.prior_there i y);
        }

    -- the ring closed, where the file has l's links round it
    pub ring_shut : (g : List ℕ) → Linked g NX PR → ((y : ℕ) → elem y (m ∷ ring) ≡ true → NX j y ≡ next_of t l j y) → Shut (ring_closed t g k j m)
    unfolding ring_closed
    ring_shut g z own =
        let start : InRing g (NX j) (PR j) = record {
          all_next = NX;
          all_prior = PR;
          linked = z;
          next_here = λ y. refl;
          prior_here = λ y. refl;
          next_there = λ i y n. refl;
          prior_there = λ i y n. refl;
        } in
        let along : (ys : List ℕ) (y : ℕ) (ws : List ℕ) → ring ≡ ys ++ y ∷ ws → NX j y ≡ head_or m ws =
        λ ys y ws e. own y (elem_tail y m ring (rw e (elem_put y ys ws))) ∙ next_in_lem t l j m y ys ws (chained t l a s.formed j) e in
        let first : next_in t g j m ≡ head_or m ring = reads g (NX j) (PR j) start m (elem_here m ring) ∙ own m (elem_here m ring) ∙ next_master t l j m top in
        let off = master_outside t l a s.formed j m top in
        shut _ (rw first
        (close_from_lem (λ g at. next_in t g j at) (λ g b a. joined_in t g j b a) k m ring InRing (λ g nx pr r y e. reads g nx pr r y (elem_tail y m ring e)) joins
        ring g (NX j) (PR j) m ring_fuel start (λ y e. e) (elem_here m ring) along off (once_cons m ring off (s.formed.ring_once j m)) (ring_few t l a s.formed j m)))
