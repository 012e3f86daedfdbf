-- The bytes of a record with any links: told by its type, data and links; with other data, or another link, put in.
use Prim.Native.Nat.{ℕ, suc, ◌+◌, ◌-◌, ◌≤◌, ◌<◌}
use mathlib.Core.Path.{◌≡◌, refl}
use mathlib.Core.Logic.{◌≢◌}
use mathlib.Core.Bool.{true}
use mathlib.Core.List.{List, ◌++◌, append_assoc}
use native.Mathlib.Omega.{arith}
use native.Mathlib.Nat.{add-zero}
use lib.ListN.{length, length-append}
use lib.Dec.{eqb}
use borrow.Author.Tests.{eqb-true, eq-eqb}
use Rattle.ledger.specs.Numbers.{digits, run, concat_of}
use Rattle.ledger.specs.Table.{chains, row, data_len, calculated, in_chain, linked_prior}
use Rattle.ledger.specs.Pages.{link_bytes, calc_at, link_at, Ledger, kind_at, bytes_at, present, chain_links, links, bytes_with}
use Rattle.ledger.proofs.Lists.Tests.{by_cases}
use Rattle.ledger.proofs.Lists.Runs.{concat_of_same}
use Rattle.ledger.proofs.Lists.Digits.{length_digits}
use Rattle.ledger.proofs.Ledger.Records.{chain_links_length, head, head_length, record_is, up_to, beyond, record_at, up_to_length}
use Rattle.model.specs.Moves.{part_put}
use Rattle.place_laws.proofs.Links.{put_within, put_here}

-- Two ledgers whose record x has one type, and links that agree where the record has them.
module _ (t : List ℕ) (l l' : Ledger) (nx nx' pr pr' : ℕ → ℕ → ℕ) (cn cn' : ℕ → ℕ) (x : ℕ) (kind : kind_at l x ≡ kind_at l' x) where
  pub chain_links_same : (j : ℕ) → (in_chain t j (kind_at l x) ≡ true → nx j x ≡ nx' j x)
      → (in_chain t j (kind_at l x) ≡ true → linked_prior t j ≡ 1 → pr j x ≡ pr' j x) → chain_links t l nx pr x j ≡ chain_links t l' nx' pr' x j
  unfolding chain_links
  chain_links_same j next prior = by_cases (in_chain t j (kind_at l x))
      (λ c. by_cases (eqb (linked_prior t j) 1)
      (λ e. rw (← kind, c, e, next c, prior c (eqb-true _ _ e)))
      (λ e. rw (← kind, c, e, next c)))
      (λ c. rw (← kind, c))

  pub links_same : (calculated t (kind_at l x) ≡ true → cn x ≡ cn' x) → ((j : ℕ) → j < chains t → in_chain t j (kind_at l x) ≡ true → nx j x ≡ nx' j x)
      → ((j : ℕ) → j < chains t → in_chain t j (kind_at l x) ≡ true → linked_prior t j ≡ 1 → pr j x ≡ pr' j x) → links t l nx pr cn x ≡ links t l' nx' pr' cn' x
  unfolding links
  links_same calc next prior =
      let chained = concat_of_same (chain_links t l' nx' pr' x) (chain_links t l nx pr x) 0 (chains t)
      (λ j lo hi. let lt : j < chains t = omega arith in chain_links_same j (next j lt) (prior j lt)) in
      by_cases (calculated t (kind_at l x)) (λ c. rw (← kind, c, calc c, chained)) (λ c. rw (← kind, c, chained))

-- So the whole record, where it has one type and one data.
pub bytes_same : (t : List ℕ) (l l' : Ledger) (nx nx' pr pr' : ℕ → ℕ → ℕ) (cn cn' : ℕ → ℕ) (x : ℕ) → l.at x ≡ l'.at x
    → (present l x ≡ true → calculated t (kind_at l x) ≡ true → cn x ≡ cn' x)
    → (present l x ≡ true → (j : ℕ) → j < chains t → in_chain t j (kind_at l x) ≡ true → nx j x ≡ nx' j x)
    → (present l x ≡ true → (j : ℕ) → j < chains t → in_chain t j (kind_at l x) ≡ true → linked_prior t j ≡ 1 → pr j x ≡ pr' j x)
    → bytes_with t l nx pr cn x ≡ bytes_with t l' nx' pr' cn' x
unfolding bytes_with
bytes_same t l l' nx nx' pr pr' cn cn' x same calc next prior = by_cases (present l x)
    (λ e. rw (← same, e, links_same t l l' nx nx' pr pr' cn cn' x (rw same) (calc e) (next e) (prior e)))
    (λ e. rw (← same, e))

module _ (t : List ℕ) (l : Ledger) (nx pr : ℕ → ℕ → ℕ) (cn : ℕ → ℕ) (x : ℕ)
    (there : present l x ≡ true) (full : length (bytes_at l x) ≡ data_len t (row t (kind_at l x))) where
  -- other data put in
  pub data_bytes : (l' : Ledger) → present l' x ≡ true → kind_at l x ≡ kind_at l' x → length (bytes_at l x) ≡ length (bytes_at l' x)
      → part_put (bytes_with t l nx pr cn x) 5 (bytes_at l' x) ≡ bytes_with t l' nx pr cn x
  data_bytes l' there' kind size =
      let same = links_same t l l' nx nx pr pr cn cn x kind (λ c. refl) (λ j lt c. refl) (λ j lt c e. refl) in
      rw (record_is t l nx pr cn x there, record_is t l' nx pr cn x there', append_assoc (head t l nx pr cn x), append_assoc (head t l' nx pr cn x), ← kind, ← same)
      (put_here (head t l nx pr cn x) (bytes_at l x) (links t l nx pr cn x) (bytes_at l' x) 5 (head_length t l nx pr cn x) size)

  -- another CALC NEXT
  pub calc_bytes : (cn' : ℕ → ℕ) → calculated t (kind_at l x) ≡ true
      → part_put (bytes_with t l nx pr cn x) (calc_at t (kind_at l x)) (digits 3 (cn' x)) ≡ bytes_with t l nx pr cn' x
  unfolding links calc_at
  calc_bytes cn' c =
      rw (record_is t l nx pr cn x there, record_is t l nx pr cn' x there, c)
      (put_here (head t l nx pr cn x ++ bytes_at l x) (digits 3 (cn x)) (concat_of (chain_links t l nx pr x) (run 0 (chains t))) (digits 3 (cn' x)) _
      (rw (length-append, head_length, full)) (rw (length_digits 3 (cn x), length_digits 3 (cn' x))))

  -- another link of chain j: what is put into its links is put into the record
  chain_bytes : (nx' pr' : ℕ → ℕ → ℕ) (j k : ℕ) (d : List ℕ) → j < chains t
      → ((i : ℕ) → i ≢ j → nx i x ≡ nx' i x) → ((i : ℕ) → i ≢ j → pr i x ≡ pr' i x)
      → k + length d ≤ link_bytes t (kind_at l x) j → part_put (chain_links t l nx pr x j) k d ≡ chain_links t l nx' pr' x j
      → part_put (bytes_with t l nx pr cn x) (link_at t (kind_at l x) j + k) d ≡ bytes_with t l nx' pr' cn x
  unfolding link_at calc_at
  chain_bytes nx' pr' j k d lt next prior inside new =
      let same : (i : ℕ) → i ≢ j → chain_links t l nx pr x i ≡ chain_links t l nx' pr' x i = λ i ne.
      chain_links_same t l l nx nx' pr pr' cn cn x refl i (λ c. next i ne) (λ c e. prior i ne) in
      let low = concat_of_same (chain_links t l nx' pr' x) (chain_links t l nx pr x) 0 j (λ i lo hi. same i (λ e. omega arith)) in
      let high = concat_of_same (chain_links t l nx' pr' x) (chain_links t l nx pr x) (suc j) (chains t - suc j) (λ i lo hi. same i (λ e. omega arith)) in
      rw (record_at t l nx pr cn x there j lt, record_at t l nx' pr' cn x there j lt, ← new, ← low, ← high)
      (put_within (up_to t l nx pr cn x j) (chain_links t l nx pr x j) (beyond t l nx pr cn x j) d _ k (up_to_length t l nx pr cn x full j) (rw chain_links_length inside))

  pub next_bytes : (nx' : ℕ → ℕ → ℕ) (j : ℕ) → j < chains t → in_chain t j (kind_at l x) ≡ true → ((i : ℕ) → i ≢ j → nx i x ≡ nx' i x)
      → part_put (bytes_with t l nx pr cn x) (link_at t (kind_at l x) j) (digits 3 (nx' j x)) ≡ bytes_with t l nx' pr cn x
  unfolding chain_links link_bytes part_put digits
  next_bytes nx' j lt c next =
      let inside : 3 ≤ link_bytes t (kind_at l x) j = by_cases (eqb (linked_prior t j) 1) (λ e. rw (c, e) (omega arith)) (λ e. rw (c, e) (omega arith)) in
      let new : part_put (chain_links t l nx pr x j) 0 (digits 3 (nx' j x)) ≡ chain_links t l nx' pr x j = rw c in
      rw (add-zero (link_at t (kind_at l x) j)) at (chain_bytes nx' pr j 0 (digits 3 (nx' j x)) lt next (λ i ne. refl) inside new)

  pub prior_bytes : (pr' : ℕ → ℕ → ℕ) (j : ℕ) → j < chains t → in_chain t j (kind_at l x) ≡ true → linked_prior t j ≡ 1 → ((i : ℕ) → i ≢ j → pr i x ≡ pr' i x)
      → part_put (bytes_with t l nx pr cn x) (link_at t (kind_at l x) j + 3) (digits 3 (pr' j x)) ≡ bytes_with t l nx pr' cn x
  unfolding chain_links link_bytes part_put digits
  prior_bytes pr' j lt c p prior =
      let e = eq-eqb (linked_prior t j) 1 p in
      let inside : 6 ≤ link_bytes t (kind_at l x) j = rw (c, e) (omega arith) in
      let new : part_put (chain_links t l nx pr x j) 3 (digits 3 (pr' j x)) ≡ chain_links t l nx pr' x j = rw (c, e) in
      chain_bytes nx pr' j 3 (digits 3 (pr' j x)) lt (λ i ne. refl) prior inside new
