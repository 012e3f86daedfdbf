-- What is read in a sound file is what its ledger says: it is the file of the ledger's records with its own links.
use Prim.Native.Nat.{ℕ, ◌≤◌, ◌<◌}
use mathlib.Core.Path.{◌≡◌, ◌∙◌}
use mathlib.Core.Bool.{true, not}
use mathlib.Core.List.{List}
use lib.Dec.{eqb}
use Rattle.ledger.specs.Table.{pages, chains, calculated, in_chain, linked_prior, Accepted}
use Rattle.ledger.specs.Pages.{Ledger, kind_at, bytes_at, present, key_in, next_of, prior_of, calc_next, head_next, file_with, Sound}
use Rattle.model.specs.Reads.{kind_in, next_in, prior_in, calc_next_in, head_next_in, data_in}
use Rattle.model.specs.Keys.{sort_key_in}
use Rattle.place_laws.proofs.With.{Held, Small, layout_with, own_held, own_small, with_kind, with_there, with_data, with_next, with_prior, with_calc, with_head}

module _ (t f : List ℕ) (l : Ledger) (a : Accepted t) (s : Sound t f l) where
  file : f ≡ file_with t l (next_of t l) (prior_of t l) (calc_next t l) (head_next t l)
  file = s.bytes ∙ layout_with t l

  held : Held t l
  held = own_held t l s.formed

  small : Small t l (next_of t l) (prior_of t l) (calc_next t l) (head_next t l)
  small = own_small t l a s.formed

  -- a record's type, 0 where there is none, and its data
  pub sound_kind : (x : ℕ) → kind_in f x ≡ kind_at l x
  sound_kind x = rw file (with_kind t l _ _ _ _ a held small x)

  pub sound_there : (x : ℕ) → not (eqb (kind_in f x) 0) ≡ present l x
  sound_there x = rw file (with_there t l _ _ _ _ a held small x)

  pub sound_data : (x : ℕ) → data_in t f x ≡ bytes_at l x
  sound_data x = rw file (with_data t l _ _ _ _ a held small x)

  -- its links
  pub sound_next : (j x : ℕ) → j < chains t → in_chain t j (kind_at l x) ≡ true → next_in t f j x ≡ next_of t l j x
  sound_next j x lt c = rw file (with_next t l _ _ _ _ a held small j x lt c)

  pub sound_prior : (j x : ℕ) → j < chains t → in_chain t j (kind_at l x) ≡ true → linked_prior t j ≡ 1 → prior_in t f j x ≡ prior_of t l j x
  sound_prior j x lt c e = rw file (with_prior t l _ _ _ _ a held small j x lt c e)

  pub sound_calc_next : (x : ℕ) → present l x ≡ true → calculated t (kind_at l x) ≡ true → calc_next_in t f x ≡ calc_next t l x
  sound_calc_next x e c = rw file (with_calc t l _ _ _ _ a held small x e c)

  pub sound_head : (p : ℕ) → 1 ≤ p → p ≤ pages t → head_next_in f p ≡ head_next t l p
  sound_head p lo hi = rw file (with_head t l _ _ _ _ a held small p lo hi)

  -- its key in a chain
  pub sound_sort_key : (j x : ℕ) → sort_key_in t f j x ≡ key_in t l j x
  unfolding sort_key_in key_in
  sound_sort_key j x = rw (sound_kind x, sound_data x)
