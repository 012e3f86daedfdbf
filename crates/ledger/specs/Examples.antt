-- Document 01, "Examples at the edges": those marked P, computed by the checker from the definitions.
use Rattle.std.specs.Prelude.{ℕ, ◌+◌, ◌≡◌, refl, cond, ◌&&◌, List, [], ◌∷◌, replicate, ltb, leb}
use Rattle.std.proofs.Math.Option.{none, some}
use Rattle.ledger.specs.declared.Answer.{Answer}
use Rattle.ledger.specs.Numbers.{digits, elem, keep, run, first_of, sum_of, concat_of, any, all, put_before, head_or, last_or, follower, less_key, same_key, without, place_from, by_index, update}
use Rattle.ledger.specs.Table.{row_from, defined, calculated, is_master, is_detail, in_chain, calc_key, sort_key}
use Rattle.ledger.specs.Rules.{between, lies_in, counted, numbered, ranged, via_right, keyed, type_right, paired, sorted, chain_right, accepts}
use Rattle.ledger.specs.Pages.{Ledger, code_of, codes, link_bytes, calc_at, link_at, record_size, hash_from, home, kind_of, bytes_of, is_some, key_in, home_of, master_of, round, next_of, prior_of, calc_next_of, head_next, used, free, chain_links, links, bytes_with, record_bytes}
use Rattle.ledger.specs.Currency.{unset, occurrence, arrived}
use Rattle.ledger.specs.Calls.{Call, STORE, NEXT, unless, arrive, as_detail, stops, joined, twin_in, calc_twin, base_page, free_line, takes, tried, place_for, stored, store, along, next, master, State, start, turn, settle, answered, play}

-- the listing's racks of type 10 above boards of type 20, and tables that differ from it in a few words
abbrev racks : (low high key_at key_len boards : ℕ) → List ℕ
racks low high at len boards =
    high ∷ 2 ∷ 1
    ∷ 10 ∷ 2 ∷ 2 ∷ low ∷ high ∷ 65535 ∷ at ∷ len
    ∷ 20 ∷ 4 ∷ 1 ∷ 1 ∷ 1 ∷ 0 ∷ 0 ∷ 0
    ∷ 10 ∷ boards ∷ 2 ∷ 0 ∷ 2 ∷ 0 ∷ 2 ∷ []

abbrev listing : List ℕ
listing = racks 1 1 0 2 20

-- one type of records without links, of n data bytes, on some pages
abbrev plain : (pages n : ℕ) → List ℕ
plain pages n = pages ∷ 1 ∷ 0 ∷ 1 ∷ n ∷ 0 ∷ 1 ∷ pages ∷ 65535 ∷ 0 ∷ 0 ∷ []

-- the ledger of k such records, on the first lines of page 1
abbrev crowd : (k n : ℕ) → Ledger
crowd k n =
    record {
      at = λ x. cond (ltb 64 x && leb x (64 + k)) (some (record { kind = 1; bytes = replicate n 0 })) none;
      ring = λ j m. [];
      calc = λ p. [];
    }

-- the state after some calls on a fresh file, and what a call then answers
abbrev after : List ℕ → List Call → State
after t cs = play t start cs

abbrev asked : List ℕ → List Call → Call → Answer
asked t cs c = answered (turn t (after t cs) c)

abbrev free_after : List ℕ → List Call → ℕ
free_after t cs = free (record_bytes t (after t cs).ledger) 1

-- refusal 1 or none
abbrev refusal_of : List ℕ → ℕ
refusal_of t = cond (accepts t) 0 1

abbrev rack : Call
rack = STORE 10 (82 ∷ 49 ∷ [])

abbrev board : ℕ → Call
board slot = STORE 20 (0 ∷ slot ∷ 170 ∷ 1 ∷ [])

pub record Example : Type 0 where
  pub number : ℕ
  pub found : List ℕ
  pub expected : List ℕ

abbrev example : ℕ → List ℕ → List ℕ → Example
example n found expected = record { number = n; found = found; expected = expected }

abbrev pub examples : List Example
examples =
    example 1 (hash_from 0 (82 ∷ 49 ∷ []) ∷ home (racks 1 10 0 2 20) 10 (82 ∷ 49 ∷ []) ∷ []) (213 ∷ 4 ∷ [])
    ∷ example 2 (hash_from 0 (replicate 16 255) ∷ []) (65281 ∷ [])
    ∷ example 3 (code_of 1 1 ∷ code_of 128 0 ∷ []) (65 ∷ 8192 ∷ [])
    ∷ example 4 (refusal_of listing ∷ refusal_of (racks 1 1 65535 2 20) ∷ []) (0 ∷ 1 ∷ [])
    ∷ example 5 (record_size (plain 1 3) 1 ∷ free (record_bytes (plain 1 3) (crowd 62 3)) 1 ∷ []) (8 ∷ 0 ∷ [])
    ∷ example 6
    (record_size (plain 2 2) 1 ∷ free (record_bytes (plain 2 2) (crowd 63 2)) 1
    ∷ (answered (store (plain 2 2) (crowd 63 2) unset 1 (0 ∷ 0 ∷ []))).reference ∷ []) (7 ∷ 55 ∷ 129 ∷ [])
    ∷ example 7 ((asked listing (rack ∷ []) (NEXT 0)).reference ∷ []) (65 ∷ [])
    ∷ example 8 (record_size listing 10 ∷ record_size listing 20 ∷ free_after listing (rack ∷ board 7 ∷ board 3 ∷ []) ∷ []) (13 ∷ 12 ∷ 459 ∷ [])
    ∷ example 9 (refusal_of (racks 1 1 0 2 10) ∷ []) (1 ∷ [])
    ∷ []

unfoldable pub founds : List Example → List (List ℕ)
founds [] = []
founds (e ∷ es) = e.found ∷ founds es

unfoldable pub expecteds : List Example → List (List ℕ)
expecteds [] = []
expecteds (e ∷ es) = e.expected ∷ expecteds es

pub edges : founds examples ≡ expecteds examples
unfolding founds expecteds digits elem keep run first_of sum_of concat_of any all put_before head_or last_or follower less_key same_key without place_from by_index update row_from defined calculated is_master is_detail in_chain calc_key sort_key between lies_in counted numbered ranged via_right keyed type_right paired sorted chain_right accepts codes link_bytes calc_at link_at record_size hash_from home kind_of bytes_of is_some key_in home_of master_of round next_of prior_of calc_next_of head_next used free chain_links links bytes_with record_bytes occurrence arrived unless arrive as_detail stops joined twin_in calc_twin base_page free_line takes tried place_for stored store along next master turn settle answered play
edges = refl
