-- What the audit looks for in an image, in the order of its phases: pages, then rings, then order and duplicates.
use Rattle.std.specs.Prelude.{ℕ, ◌*◌, ◌≤◌, ◌<◌, ◌≡◌, true, not, List, reverse}
use Rattle.ledger.specs.Numbers.{pairs, same_key}
use Rattle.ledger.specs.Table.{pages, chains, order, duplicates, linked_prior, calculated, calc_key}
use Rattle.ledger.specs.Pages.{Ledger, kind_at, bytes_at, present, key_in, may_precede}
use Rattle.ledger.specs.Walks.{Agrees, Rings}
use Rattle.ledger.specs.Image.{detail_read, master_read, next_read, prior_read, ring_read, homed_read, head_of, calc_next_read, calc_read, ledger_of, Paged}

-- what the audit of NEXT tells of chain j
pub record Ringed (t : List ℕ) (r : ℕ → List ℕ) (j : ℕ) : Type 0 where
  pub rings : Rings (detail_read t r j) (master_read t r j) (ring_read t r j)
  pub nexts : (m : ℕ) → master_read t r j m ≡ true → Agrees (next_read t r j) m (ring_read t r j m)

-- each of a ring has as PRIOR the one before it
abbrev pub Priors : List ℕ → (ℕ → List ℕ) → ℕ → Type 0
Priors t r j = (m : ℕ) → master_read t r j m ≡ true → Agrees (prior_read t r j) m (reverse (ring_read t r j m))

-- what the audit of page p's CALC ring tells
pub record Calced (t : List ℕ) (r : ℕ → List ℕ) (h : ℕ → ℕ) (p : ℕ) : Type 0 where
  pub rings : Rings (homed_read t r p) (head_of p) (calc_read t r h p)
  pub nexts : Agrees (calc_next_read t r h p) (64 * p) (calc_read t r h p (64 * p))

-- the rules of a well-formed ledger on keys
pub record Ordered (t : List ℕ) (l : Ledger) : Type 0 where
  pub in_order : (j m : ℕ) → pairs (may_precede t l j) (l.ring j m) ≡ true
  pub no_twins : (j m : ℕ) → 2 ≤ order t j → duplicates t j ≡ 2 → pairs (λ a b. not (same_key (key_in t l j a) (key_in t l j b))) (l.ring j m) ≡ true
  pub no_calc_twins : (x y : ℕ) → present l x ≡ true → present l y ≡ true → calculated t (kind_at l x) ≡ true → kind_at l x ≡ kind_at l y
      → same_key (calc_key t (kind_at l x) (bytes_at l x)) (calc_key t (kind_at l y) (bytes_at l y)) ≡ true → x ≡ y

-- all that an audit of an image looks for
pub record Audited (t : List ℕ) (r : ℕ → List ℕ) (h : ℕ → ℕ) : Type 0 where
  pub paged : Paged t r
  pub ringed : (j : ℕ) → j < chains t → Ringed t r j
  pub priors : (j : ℕ) → j < chains t → linked_prior t j ≡ 1 → Priors t r j
  pub calced : (p : ℕ) → 1 ≤ p → p ≤ pages t → Calced t r h p
  pub ordered : Ordered t (ledger_of t r h)
