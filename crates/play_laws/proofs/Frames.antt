-- A frame played is the call that it carries: what any call promises holds of it.
use Prim.Native.Nat.{ℕ, ◌+◌, ◌<◌}
use mathlib.Core.Path.{◌≡◌, refl, sym, ◌∙◌, ap}
use mathlib.Core.Logic.{◌⊎◌, inl, inr}
use mathlib.Core.Bool.{Bool, true, false, cond, not, ◌||◌}
use mathlib.Core.List.{List}
use native.Mathlib.Omega.{arith}
use mir.Syntax.{w8}
use mir.Val.{Fits}
use lib.ListN.{length, get_or, drop}
use lib.Seq.{get_or-drop}
use lib.Dec.{eqb}
use borrow.Author.Tests.{ne_eqb, eqb-true}
use Rattle.ledger.specs.declared.Currency.{Currency}
use Rattle.ledger.specs.declared.Outcome.{Outcome}
use Rattle.ledger.specs.Numbers.{elem}
use Rattle.ledger.specs.Bytes.{two_at, three_at}
use Rattle.ledger.specs.Calls.{Call, FORMAT, STORE, DIRECT, KEY, NEXT, PRIOR, MASTER, EACH, MODIFY, DELETE, READ, CURRENT, FIND, RELINK, UNKNOWN, turn}
use Rattle.ledger.specs.Promise.{Checks, Plays, Promised, turn_of}
use Rattle.ledger.specs.Player.{call_in}
use Rattle.ledger.proofs.Lists.Tests.{by_cases, clash, same_or_not}
use Rattle.store_model.specs.Checks.{refusal_on}
use Rattle.store_model.specs.Calls.{format_call, read_call}
use Rattle.store_laws.proofs.Checked.{checks_all}
use Rattle.store_laws.proofs.Looked.{direct_plays, key_plays, next_plays, prior_plays, master_plays, each_plays, current_plays, find_plays, unknown_plays, read_reads}
use Rattle.store_laws.proofs.Formatted.{format_formats}
use Rattle.store_laws.proofs.Changed.{store_plays, modify_plays, delete_plays, relink_plays}
use Rattle.play_model.specs.Plays.{Played, played_on, play_on}

-- a call's number; 14 for any other
abbrev number : Call → ℕ
number FORMAT = 0
number (STORE n d) = 1
number (DIRECT x) = 2
number (KEY n k) = 3
number (NEXT j) = 4
number (PRIOR j) = 5
number (MASTER j) = 6
number (EACH low high) = 7
number (MODIFY d) = 8
number DELETE = 9
number (READ room) = 10
number (CURRENT n) = 11
number (FIND j k) = 12
number (RELINK j m) = 13
number UNKNOWN = 14

-- the calls that are neither FORMAT nor READ
abbrev other : Call → Bool
other c = not (eqb (number c) 0 || eqb (number c) 10)

-- the call in a frame has the number of its first byte
module _ (fr : List ℕ) (room : ℕ) where
  abbrev Numbered : Call → Type 0
  Numbered c = (number c ≡ get_or fr 0 0) ⊎ (number c ≡ 14)

  numbered : (k : ℕ) (c d : Call) → number c ≡ k → Numbered d → Numbered (cond (eqb (get_or fr 0 0) k) c d)
  numbered k c d e h = by_cases (eqb (get_or fr 0 0) k) (λ q. rw q (inl (e ∙ sym (eqb-true (get_or fr 0 0) k q)))) (λ q. rw q h)

  call_number : Numbered (call_in fr room)
  unfolding call_in
  call_number =
      numbered 0 _ _ refl (numbered 1 _ _ refl (numbered 2 _ _ refl (numbered 3 _ _ refl (numbered 4 _ _ refl
      (numbered 5 _ _ refl (numbered 6 _ _ refl (numbered 7 _ _ refl (numbered 8 _ _ refl (numbered 9 _ _ refl
      (numbered 10 _ _ refl (numbered 11 _ _ refl (numbered 12 _ _ refl (numbered 13 _ _ refl (inr refl))))))))))))))

  -- only frame 00 is FORMAT, and only 0A READ
  by_call : (c : Call) (k : ℕ) → number c ≡ k → k < 14 → call_in fr room ≡ c → get_or fr 0 0 ≡ k
  by_call c k e small same = elim call_number [
    | inl h ↦ sym h ∙ ap number same ∙ e
    | inr h ↦ absurd (omega (arith, sym h ∙ ap number same ∙ e))
  ]

  pub format_frame_lem : call_in fr room ≡ FORMAT → get_or fr 0 0 ≡ 0
  format_frame_lem e = by_call FORMAT 0 refl (omega arith) e

  pub read_frame : call_in fr room ≡ READ room → get_or fr 0 0 ≡ 10
  read_frame e = by_call (READ room) 10 refl (omega arith) e

-- the rest of a frame's bytes is bytes
drop_small : (n : ℕ) (fr : List ℕ) → ((i : ℕ) → Fits w8 (get_or fr i 0)) → (i : ℕ) → get_or (drop n fr) i 0 < 256
drop_small n fr small i = rw get_or-drop (omega (arith, small (n + i)))

module _ (t f : List ℕ) (cur : Currency) (small : (i : ℕ) → Fits w8 (get_or f i 0)) (ty : length cur.types ≡ 16) (ch : length cur.chains ≡ 16)
    (fr : List ℕ) (bytes : (i : ℕ) → Fits w8 (get_or fr i 0)) (o : List ℕ) where
  checks : Checks t f cur (refusal_on t f cur)
  checks = checks_all t f cur (λ i. omega (arith, small i)) ty ch

  -- what a frame's play promises of what it comes to
  abbrev Keeps : Call → Played → Type 0
  Keeps c p = Promised c t f p.1 o p.2 cur p.0

  abbrev Kept : Type 0
  Kept = Keeps (call_in fr (length o)) (play_on t f cur fr o)

  -- a call that is neither FORMAT nor READ, with what it hands back and the file
  changed : (c : Call) (m : Outcome) (g : List ℕ) → Plays (turn_of t cur c) t f g cur m → other c ≡ true
      → call_in fr (length o) ≡ c → play_on t f cur fr o ≡ (m, g, o) → Kept
  changed c m g h oth ec ep =
      let p : Keeps c (m, g, o) = record {
        formats = λ e. clash _ oth (ap other e);
        plays = λ n. h;
        reads = λ e. clash _ oth (ap other e);
        same_output = λ n. refl;
      } in rw (ec, ep) p

  looked : (c : Call) (m : Outcome) → Plays (turn_of t cur c) t f f cur m → other c ≡ true → call_in fr (length o) ≡ c → play_on t f cur fr o ≡ (m, f, o) → Kept
  looked c m = changed c m f

  -- the calls by their numbers
  formatted : get_or fr 0 0 ≡ 0 → Kept
  unfolding call_in play_on played_on
  formatted e =
      let m = format_call t f cur in
      let h = format_formats t f cur m.0 m.1 refl in
      let p : Keeps FORMAT (m.0, m.1, o) = record {
        formats = λ e. h;
        plays = λ n. absurd (n refl);
        reads = λ e. let z : ◌≡◌ {A = ℕ} 0 1 = cc in absurd (omega arith);
        same_output = λ n. refl;
      } in rw e p

  read : get_or fr 0 0 ≡ 10 → Kept
  unfolding call_in play_on played_on turn
  read e =
      let m = read_call t f cur o in
      let h = read_reads t f cur checks ch o in
      let p : Keeps (READ (length o)) (m.0, f, m.1) = record {
        formats = λ e. let z : ◌≡◌ {A = ℕ} 0 1 = cc in absurd (omega arith);
        plays = λ n. h.plays;
        reads = λ e. h;
        same_output = λ n. absurd (n (length o) refl);
      } in rw e p

  -- a frame's arguments
  abbrev kind : ℕ
  kind = two_at fr 1

  abbrev code : ℕ
  code = three_at fr 1

  abbrev chain : ℕ
  chain = get_or fr 1 0

  kept : Kept
  unfolding call_in play_on played_on
  kept =
      let n = get_or fr 0 0 in
      same_or_not n 0 formatted (λ n0.
      same_or_not n 1 (λ e. changed (STORE kind (drop 3 fr)) _ _ (store_plays t f cur checks ch _ _ kind (drop 3 fr) (drop_small 3 fr bytes) refl) refl (rw e) (rw e)) (λ n1.
      same_or_not n 2 (λ e. looked (DIRECT code) _ (direct_plays t f cur checks ch code) refl (rw e) (rw e)) (λ n2.
      same_or_not n 3 (λ e. looked (KEY kind (drop 3 fr)) _ (key_plays t f cur checks ch kind (drop 3 fr)) refl (rw e) (rw e)) (λ n3.
      same_or_not n 4 (λ e. looked (NEXT chain) _ (next_plays t f cur checks ch chain) refl (rw e) (rw e)) (λ n4.
      same_or_not n 5 (λ e. looked (PRIOR chain) _ (prior_plays t f cur checks ch chain) refl (rw e) (rw e)) (λ n5.
      same_or_not n 6 (λ e. looked (MASTER chain) _ (master_plays t f cur checks ch chain) refl (rw e) (rw e)) (λ n6.
      same_or_not n 7 (λ e. looked (EACH code (three_at fr 4)) _ (each_plays t f cur checks ch code (three_at fr 4)) refl (rw e) (rw e)) (λ n7.
      same_or_not n 8 (λ e. changed (MODIFY (drop 1 fr)) _ _ (modify_plays t f cur checks ch _ _ (drop 1 fr) (drop_small 1 fr bytes) refl) refl (rw e) (rw e)) (λ n8.
      same_or_not n 9 (λ e. changed DELETE _ _ (delete_plays t f cur checks ch _ _ refl) refl (rw e) (rw e)) (λ n9.
      same_or_not n 10 read (λ n10.
      same_or_not n 11 (λ e. looked (CURRENT kind) _ (current_plays t f cur checks ch kind) refl (rw e) (rw e)) (λ n11.
      same_or_not n 12 (λ e. looked (FIND chain (drop 2 fr)) _ (find_plays t f cur checks ch chain (drop 2 fr)) refl (rw e) (rw e)) (λ n12.
      same_or_not n 13 (λ e. changed (RELINK chain (three_at fr 2)) _ _ (relink_plays t f cur checks ch _ _ chain (three_at fr 2) refl) refl (rw e) (rw e)) (λ n13.
      let no : (k : ℕ) → (n ≡ k → ⊥) → eqb n k ≡ false = ne_eqb n in
      looked UNKNOWN _ (unknown_plays t f cur checks ch) refl
      (rw (no 0 n0, no 1 n1, no 2 n2, no 3 n3, no 4 n4, no 5 n5, no 6 n6, no 7 n7, no 8 n8, no 9 n9, no 10 n10, no 11 n11, no 12 n12, no 13 n13))
      (rw (no 0 n0, no 1 n1, no 2 n2, no 3 n3, no 4 n4, no 5 n5, no 6 n6, no 7 n7, no 8 n8, no 9 n9, no 10 n10, no 11 n11, no 12 n12, no 13 n13))))))))))))))))

  pub play_promised : (r : Outcome) (f' o' : List ℕ) → play_on t f cur fr o ≡ (r, f', o') → Promised (call_in fr (length o)) t f f' o o' cur r
  play_promised r f' o' e = rw e at kept
