-- The bytes of a well-formed ledger are an image whose records stand as the table says, and it says the ledger's records.
use Prim.Native.Nat.{ℕ, ◌<◌}
use mathlib.Core.Path.{◌≡◌, refl, ◌∙◌, ap}
use mathlib.Core.Bool.{true}
use mathlib.Core.List.{List}
use native.Mathlib.Omega.{arith}
use lib.ListN.{length}
use lib.Seq.{take-nil}
use lib.Dec.{eqb}
use borrow.Author.Tests.{lt-ltb}
use Rattle.ledger.specs.Numbers.{run}
use Rattle.ledger.specs.Table.{chains, calculated, in_chain, linked_prior, Accepted}
use Rattle.ledger.specs.Pages.{Ledger, bytes_of, kind_at, bytes_at, present, home_of, chain_links, links, record_bytes, Placed, WellFormed, bytes_with, calc_next, next_of, prior_of}
use Rattle.ledger.specs.Image.{kind_read, data_read, entry_read, home_read, Paged}
use Rattle.ledger.specs.Bytes.{two_at}
use Rattle.ledger.proofs.Lists.Tests.{by_cases}
use Rattle.ledger.proofs.Lists.Digits.{Bytes, nil_bytes, append_bytes, digits_bytes, cond_bytes, concat_bytes}
use Rattle.ledger.proofs.Ledger.Entries.{absent_none, absent_kind, entry_same}
use Rattle.ledger.proofs.Ledger.Records.{own_length, absent_bytes, record_formed}
use Rattle.ledger.proofs.Ledger.Fields.{own_fields}
use Rattle.ledger.proofs.Image.Paged.{entry_kind, entry_bytes, entry_there}

-- with any links, its bytes are bytes
module _ (t : List ℕ) (l : Ledger) (nx pr : ℕ → ℕ → ℕ) (cn : ℕ → ℕ) (x : ℕ) where
  chain_links_bytes : (j : ℕ) → Bytes (chain_links t l nx pr x j)
  unfolding chain_links
  chain_links_bytes j =
      cond_bytes (in_chain t j (kind_at l x)) (append_bytes (digits_bytes 3 _) (cond_bytes (eqb (linked_prior t j) 1) (digits_bytes 3 _) nil_bytes)) nil_bytes

  links_bytes : Bytes (links t l nx pr cn x)
  unfolding links
  links_bytes =
      append_bytes (cond_bytes (calculated t (kind_at l x)) (digits_bytes 3 _) nil_bytes)
      (concat_bytes (chain_links t l nx pr x) (run 0 (chains t)) chain_links_bytes)

  pub with_bytes : present l x ≡ true → Placed t l x → Bytes (bytes_with t l nx pr cn x)
  unfolding bytes_with
  with_bytes e p =
      rw e (append_bytes (append_bytes (append_bytes (append_bytes (digits_bytes 2 _) (digits_bytes 2 _)) (digits_bytes 1 _))
      (record { small = p.bytes })) links_bytes)

module _ (t : List ℕ) (l : Ledger) (a : Accepted t) (w : WellFormed t l) where
  record_bytes_lem : (x : ℕ) → present l x ≡ true → Bytes (record_bytes t l x)
  unfolding record_bytes
  record_bytes_lem x e = with_bytes t l (next_of t l) (prior_of t l) (calc_next t l) x e (w.placed x e)

  pub laid_kind : (x : ℕ) → kind_read (record_bytes t l x) ≡ kind_at l x
  laid_kind x = by_cases (present l x)
      (λ e. (own_fields t l a w x e).kind)
      (λ e. rw (absent_bytes t l x e, absent_kind (l.at x) e) (unfold two_at in refl))

  pub laid_some : (x : ℕ) → 0 < length (record_bytes t l x) → present l x ≡ true
  laid_some x full = by_cases (present l x) (λ e. e) (λ e. absurd (omega (arith, ap length (absent_bytes t l x e))))

  pub laid_there : (x : ℕ) → present l x ≡ true → 0 < length (record_bytes t l x)
  laid_there x e = omega (arith, (record_formed t l a w x e).long)

  pub laid_data : (x : ℕ) → data_read t (record_bytes t l x) ≡ bytes_at l x
  laid_data x = by_cases (present l x)
      (λ e. rw (laid_kind x) (own_fields t l a w x e).data_part)
      (λ e. rw (absent_bytes t l x e, absent_none (l.at x) e, take-nil) (unfold bytes_of in refl))

  pub laid_entry : (x : ℕ) → entry_read t (record_bytes t l x) ≡ l.at x
  laid_entry x = by_cases (present l x)
      (λ e. entry_same _ (l.at x) (entry_there t (record_bytes t l x) ∙ lt-ltb _ _ (laid_there x e)) e
      (entry_kind t (record_bytes t l x) ∙ laid_kind x)
      (entry_bytes t (record_bytes t l x) ∙ laid_data x))
      (λ e. rw (absent_bytes t l x e, absent_none (l.at x) e) (unfold entry_read in refl))

  pub laid_home : (x : ℕ) → home_read t (record_bytes t l x) ≡ home_of t l x
  unfolding home_read home_of
  laid_home x = rw (laid_data x, laid_kind x)

  pub laid_paged : Paged t (record_bytes t l)
  laid_paged = record {
    standing = λ x full.
        let e = laid_some x full in
        let p = w.placed x e in record {
          head = record_formed t l a w x e;
          typed = rw (laid_kind x) p.typed;
          whole = rw (laid_kind x) (own_length t l x e p.full);
          low_page = rw (laid_kind x) p.low_page;
          high_page = rw (laid_kind x) p.high_page;
          on_a_line = p.on_a_line;
          bytes = (record_bytes_lem x e).small;
        };
    room = w.room;
  }
