-- The C interface does what it promises: what is lent is read as a currency, and the currency and the answer are put back whole.
use Prim.Native.Nat.{ℕ, suc, ◌+◌, ◌≤◌, ◌<◌}
use mathlib.Core.Path.{◌≡◌, refl, sym, ◌∙◌}
use mathlib.Core.Logic.{◌⊎◌, inl, inr}
use mathlib.Core.Bool.{true, false}
use mathlib.Core.List.{List, [], ◌∷◌, ◌++◌, append-nil}
use native.Mathlib.Omega.{arith}
use native.Mathlib.Nat.{zero-add}
use mir.Syntax.{w8}
use mir.Val.{Fits}
use lib.ListN.{length, get_or, set, take, drop, replicate, length-append, length-drop, take-append-drop, drop_of_length-le}
use lib.Seq.{sets, sets-eq, set_out, length-take-le, take_all}
use lib.Dec.{ltb}
use borrow.Author.Tests.{eq-eqb, ne_eqb, ltb-true, ltb-false}
use Rattle.ledger.specs.declared.Answer.{Answer}
use Rattle.ledger.specs.declared.Currency.{Currency}
use Rattle.ledger.specs.Numbers.{digits}
use Rattle.ledger.specs.Player.{call_made}
use Rattle.ledger.specs.Interface.{currency_in, words_of, eight_of, Lends}
use Rattle.ledger.proofs.Lists.Tests.{by_cases, same_or_not, clash}
use Rattle.ledger.proofs.Lists.Parts.{sets_append}
use Rattle.model.specs.Writes.{three_put}
use Rattle.model.specs.Moves.{two_put, part_put}
use Rattle.play_model.specs.Plays.{play_on}
use Rattle.gerunjap_model.specs.Lent.{sixteen_of, currency_of, currency_put, answer_put8, Called, answered, call_on}
use Rattle.play_laws.proofs.Frames.{play_promised}
use Rattle.play_laws.proofs.Sixteens.{Sixteen, play_sixteen}

-- a list put past the end, and over a whole list
sets_past : (v out : List ℕ) (i : ℕ) → length out ≤ i → sets out i v ≡ out
sets_past [] out i h = refl
sets_past (x ∷ v) out i h = rw (set_out out i x h) (sets_past v out (suc i) (omega arith))

sets_whole : (v out : List ℕ) (n : ℕ) → length out ≡ n → n ≤ length v → sets out 0 v ≡ take n v
sets_whole v out n e h =
    let size : length (take n v) ≡ n = length-take-le n v h in
    let front : sets out 0 (take n v) ≡ take n v = sets-eq (take n v) out 0 (omega arith) ∙ rw (zero-add, size, drop_of_length-le out {i = n} (omega arith), append-nil) in
    let split : sets out 0 (take n v ++ drop n v) ≡ sets (take n v) n (drop n v) = sets_append out 0 (take n v) (drop n v) ∙ rw (front, zero-add, size) in
    (rw take-append-drop at split) ∙ sets_past (drop n v) (take n v) n (omega arith)

-- 33 words are a currency
module _ (ws : List ℕ) (words : length ws ≡ 33) where
  currency_of_lem : currency_of ws ≡ currency_in ws
  unfolding currency_of currency_in sixteen_of part_put
  currency_of_lem = rw (
    sets_whole (drop 1 ws) (replicate 16 0) 16 refl (rw length-drop (omega arith)),
    sets_whole (drop 17 ws) (replicate 16 0) 16 refl (rw length-drop (omega arith)),
  )

  currency_sixteen : Sixteen (currency_in ws)
  unfolding currency_in
  currency_sixteen = record {
    types = length-take-le 16 (drop 1 ws) (rw length-drop (omega arith));
    chains = length-take-le 16 (drop 17 ws) (rw length-drop (omega arith));
  }

  currency_put_lem : (cur : Currency) → Sixteen cur → currency_put ws cur ≡ words_of cur
  unfolding currency_put words_of part_put
  currency_put_lem cur full =
      let size : length (cur.run ∷ (cur.types ++ cur.chains)) ≡ 33 = omega (arith, length-append cur.types cur.chains, full.types, full.chains) in
      let e : 1 + length cur.types ≡ 17 = omega (arith, full.types) in
      let one : sets ws 0 (cur.run ∷ (cur.types ++ cur.chains)) ≡ sets (sets (set ws 0 cur.run) 1 cur.types) 17 cur.chains =
      sets_append (set ws 0 cur.run) 1 cur.types cur.chains ∙ rw e in
      sym one ∙ sets_whole (cur.run ∷ (cur.types ++ cur.chains)) ws 33 words (omega arith)
      ∙ take_all 33 (cur.run ∷ (cur.types ++ cur.chains)) (omega arith)

-- an answer stands in the first 8 bytes
answer_put_lem : (b : List ℕ) (a : Answer) → 8 ≤ length b → answer_put8 b a ≡ eight_of a ++ drop 8 b
unfolding answer_put8 eight_of two_put three_put digits
answer_put_lem b a room = sets-eq (eight_of a) b 0 room

module _ (t f ws fr o b : List ℕ) where
  abbrev Holds : Called → Type 0
  Holds p = Lends t f p.1 ws p.2 fr o p.3 b p.4 p.0

  -- not enough is lent
  holds_bad : ((length ws ≡ 33 → ⊥) ⊎ (length b < 8)) → Holds (2, f, ws, o, b)
  holds_bad n = record {
    bad_lent = λ e. refl;
    ill_made = λ w r m. none w r;
    unchanged = λ e. (refl, refl, refl, refl);
    answered = λ w r m. none w r;
  }
    where
      none : {A : Type 0} → length ws ≡ 33 → 8 ≤ length b → A
      none w r = elim n [ inl h ↦ absurd (h w) | inr h ↦ absurd (omega arith) ]

  holds_ill : length ws ≡ 33 → 8 ≤ length b → call_made fr ≡ false → Holds (1, f, ws, o, b)
  holds_ill w r m = record {
    bad_lent = λ e. elim e [ inl h ↦ absurd (h w) | inr h ↦ absurd (omega arith) ];
    ill_made = λ w r m. refl;
    unchanged = λ e. (refl, refl, refl, refl);
    answered = λ w r n. clash _ n m;
  }

  -- the file's and the frame's bytes are bytes
  module _ (small : (i : ℕ) → Fits w8 (get_or f i 0)) (bytes : (i : ℕ) → Fits w8 (get_or fr i 0)) where
    holds_answered : length ws ≡ 33 → 8 ≤ length b → call_made fr ≡ true → Holds (answered ws b (play_on t f (currency_of ws) fr o))
    holds_answered w r m =
        let cur = currency_in ws in
        let full = currency_sixteen ws w in
        let p = play_on t f cur fr o in
        rw (currency_of_lem ws w) (record {
          bad_lent = λ e. elim e [ inl h ↦ absurd (h w) | inr h ↦ absurd (omega arith) ];
          ill_made = λ w r n. clash _ m n;
          unchanged = λ e. absurd (e refl);
          answered = λ w r m. (
            refl,
            (
              p.0,
              play_promised t f cur small full.types full.chains fr bytes o p.0 p.1 p.2 refl,
              currency_put_lem ws w p.0.currency (play_sixteen t f cur full fr o),
              answer_put_lem b p.0.answer r,
            ),
          );
        })

    lends : Holds (call_on t f ws fr o b)
    unfolding call_on
    lends = same_or_not (length ws) 33
        (λ w. by_cases (ltb (length b) 8)
        (λ e. rw (eq-eqb (length ws) 33 w, e) (holds_bad (inr (ltb-true (length b) 8 e))))
        (λ e.
        let r = ltb-false (length b) 8 e in
        by_cases (call_made fr)
        (λ m. rw (eq-eqb (length ws) 33 w, e, m) (holds_answered w r m))
        (λ m. rw (eq-eqb (length ws) 33 w, e, m) (holds_ill w r m))))
        (λ n. rw (ne_eqb (length ws) 33 n) (holds_bad (inl n)))

    pub call_lends : (status : ℕ) (f' ws' o' b' : List ℕ) → call_on t f ws fr o b ≡ (status, f', ws', o', b') → Lends t f f' ws ws' fr o o' b b' status
    call_lends status f' ws' o' b' e = rw e at lends
