-- What a line says, read by its digits' places in the journal, is what its bytes say.
use Prim.Native.Nat.{ℕ, ◌+◌, ◌*◌, ◌-◌, ◌≤◌, ◌<◌}
use mathlib.Core.Path.{◌≡◌, refl, sym, ◌∙◌, ap}
use mathlib.Core.Logic.{◌≢◌, inl, inr}
use mathlib.Core.Bool.{true, false, ◌&&◌}
use mathlib.Core.List.{List, [], ◌∷◌}
use native.Mathlib.Omega.{arith}
use lib.ListN.{length, get_or, drop, length-drop}
use lib.Seq.{get_or-drop}
use lib.Dec.{eqb, ltb, leb}
use borrow.Author.Tests.{eq-eqb, eqb-true, ne_eqb, ltb-true, ltb-false, lt-leb, le-leb, leb-true}
use Rattle.ledger.specs.Numbers.{all, part, same_key}
use Rattle.ledger.specs.Rules.{between}
use Rattle.ledger.specs.Bytes.{two_at}
use Rattle.ledger.specs.Player.{is_digit, pairs_of}
use Rattle.ledger.proofs.Lists.Tests.{by_cases, same_or_not, both, not_true_false}
use Rattle.ledger.proofs.Lists.Keys.{same_eq}
use Rattle.model.proofs.Fills.{fill_is}
use Rattle.ledger.specs.Journal.Recovery.{Line, image, ready, done, malformed, line_says, line_read}
use Rattle.restore_model.specs.declared.Said.{Said}
use Rattle.restore_model.specs.declared.Said.TheVariants.{Image, Ready, Done, Malformed}
use Rattle.restore_model.specs.Walks.{hex_at, page_said, mark_said, image_said, said_in, image_at}
use Rattle.restore_model.proofs.Pairs.{Says, Bad, pairs_read, hex_small, byte_there, page_there}

other_length : (bs cs : List ℕ) → length bs ≢ length cs → same_key bs cs ≡ false
other_length bs cs n = not_true_false _ (λ s. n (ap (λ (l : List ℕ). length l) (same_eq bs cs s)))

-- what a line says, but for an image's bytes
abbrev pub said_of : Line → Said
said_of (image p bs) = Image p
said_of ready = Ready
said_of done = Done
said_of malformed = Malformed

abbrev page_of : Line → ℕ
page_of (image p bs) = p
page_of ready = 0
page_of done = 0
page_of malformed = 0

abbrev bytes_of : Line → List ℕ
bytes_of (image p bs) = bs
bytes_of ready = []
bytes_of done = []
bytes_of malformed = []

-- lines of two kinds are not one
abbrev kind_of : Line → ℕ
kind_of (image p bs) = 0
kind_of ready = 1
kind_of done = 2
kind_of malformed = 3

no_image {ℓ} : {A : Type ℓ} {x : Line} {p : ℕ} {bs : List ℕ} → x ≡ image p bs → (kind_of x ≡ 0 → ⊥) → A
no_image e n = absurd (n (ap kind_of e))

no_ready {ℓ} : {A : Type ℓ} {x : Line} → x ≡ ready → (kind_of x ≡ 1 → ⊥) → A
no_ready e n = absurd (n (ap kind_of e))

-- of a line of two bytes
mark_is : (n a b : ℕ) → a < 256 → b < 256 → mark_said (a * 256 + b) ≡ said_of (line_says n (a ∷ b ∷ []))
unfolding mark_said line_says same_key
mark_is n a b ha hb = same_or_not (a * 256 + b) 0
    (λ z. rw (eq-eqb (a * 256 + b) 0 z, eq-eqb a 0 (omega arith), eq-eqb b 0 (omega arith)))
    (λ z. same_or_not (a * 256 + b) 65535
    (λ y.
    rw (ne_eqb (a * 256 + b) 0 z, eq-eqb (a * 256 + b) 65535 y, ne_eqb a 0 (omega arith), eq-eqb a 255 (omega arith), eq-eqb b 255 (omega arith)))
    (λ y.
    let no : (x : ℕ) → a * 256 + b ≢ x * 256 + x → same_key (a ∷ b ∷ []) (x ∷ x ∷ []) ≡ false
    = λ x m. not_true_false _ (λ s.
    let (ea, eb) = both (eqb a x) (same_key (b ∷ []) (x ∷ [])) s in
    let fb = (both (eqb b x) (same_key [] []) eb).0 in
    m (rw (eqb-true a x ea, eqb-true b x fb))) in
    rw (ne_eqb (a * 256 + b) 0 z, ne_eqb (a * 256 + b) 65535 y, no 0 z, no 255 y)))

-- of one of 514 bytes
image_is : (n : ℕ) (bs : List ℕ) → length bs ≡ 514 → image_said n (two_at bs 0) ≡ said_of (line_says n bs)
unfolding image_said line_says between
image_is n bs long =
    let p = two_at bs 0 in
    rw (other_length bs (0 ∷ 0 ∷ []) (λ e. omega arith), other_length bs (255 ∷ 255 ∷ []) (λ e. omega arith), eq-eqb (length bs) 514 long)
    (same_or_not p 0
    (λ z. rw (eq-eqb p 0 z, lt-leb 1 p (omega arith)))
    (λ z. by_cases (ltb n p)
    (λ h. let lt = ltb-true n p h in rw (ne_eqb p 0 z, h, lt-leb p n lt, le-leb 1 p (omega arith)))
    (λ h. let le = ltb-false n p h in rw (ne_eqb p 0 z, h, le-leb p n le, le-leb 1 p (omega arith)))))

-- of any other
other_is : (n : ℕ) (bs : List ℕ) → length bs ≢ 2 → length bs ≢ 514 → line_says n bs ≡ malformed
unfolding line_says
other_is n bs a b = rw (other_length bs (0 ∷ 0 ∷ []) a, other_length bs (255 ∷ 255 ∷ []) a, ne_eqb (length bs) 514 b)

two_is : (n : ℕ) (bs : List ℕ) → length bs ≡ 2 → ((k : ℕ) → k < 2 → get_or bs k 0 < 256) → mark_said (two_at bs 0) ≡ said_of (line_says n bs)
unfolding two_at
two_is n [] e small = absurd (omega arith)
two_is n (a ∷ []) e small = absurd (omega arith)
two_is n (a ∷ b ∷ []) e small = mark_is n a b (small 0 (omega arith)) (small 1 (omega arith))
two_is n (a ∷ b ∷ c ∷ bs) e small = absurd (omega arith)

module _ (n : ℕ) (j : List ℕ) (start : ℕ) (l : List ℕ) (stands : l ≡ part start (length l) j) where
  said_bytes : (bs : List ℕ) → Says l bs → said_in n j start (start + length l + 1) true ≡ said_of (line_says n bs)
  unfolding said_in
  said_bytes bs s =
      let long = s.long in
      let size : start + length l + 1 - start ≡ 2 * length bs + 1 = omega arith in
      rw size (same_or_not (length bs) 2
      (λ e.
      let small : (k : ℕ) → k < 2 → get_or bs k 0 < 256 = λ k h. rw (byte_there j start l stands bs s k (omega arith)) (hex_small j (start + 2 * k)) in
      rw (eq-eqb (2 * length bs + 1) 5 (omega arith), ← page_there j start l stands bs s (omega arith)) (two_is n bs e small))
      (λ a. same_or_not (length bs) 514
      (λ e.
      rw (
        ne_eqb (2 * length bs + 1) 5 (λ q. omega arith),
        eq-eqb (2 * length bs + 1) 1029 (omega arith),
        ← page_there j start l stands bs s (omega arith),
      )
      (image_is n bs e))
      (λ b. rw (ne_eqb (2 * length bs + 1) 5 (λ q. a (omega arith)), ne_eqb (2 * length bs + 1) 1029 (λ q. b (omega arith)), other_is n bs a b))))

  said_bad : Bad l → said_in n j start (start + length l + 1) (all (λ c. is_digit c) l) ≡ Malformed
  unfolding said_in
  said_bad (inl e) = rw e
  said_bad (inr odd) =
      let size : start + length l + 1 - start ≡ length l + 1 = omega arith in
      by_cases (all (λ c. is_digit c) l)
      (λ e. rw (e, size, ne_eqb (length l + 1) 5 (λ q. odd 2 (omega arith)), ne_eqb (length l + 1) 1029 (λ q. odd 514 (omega arith))))
      (λ e. rw e)

  pub said_is : said_in n j start (start + length l + 1) (all (λ c. is_digit c) l) ≡ said_of (line_read n (pairs_of l))
  said_is =
      elim (pairs_read l) [
        | inl (bs, e, s) ↦ rw (s.good, e) (said_bytes bs s)
        | inr (e, bad) ↦ said_bad bad ∙ rw e
      ]

  -- what an image in its place tells: its page, its bytes, its length
  pub record Imaged (p : ℕ) (bs : List ℕ) : Type 0 where
    pub size : length l ≡ 1028
    pub page : page_said j start ≡ p
    pub low : 1 ≤ p
    pub high : p ≤ n
    pub bytes : image_at j start ≡ bs

  image_bytes : (cs : List ℕ) → Says l cs → (p : ℕ) (bs : List ℕ) → line_says n cs ≡ image p bs → Imaged p bs
  unfolding line_says between image_at
  image_bytes cs s p bs h = by_cases (same_key cs (0 ∷ 0 ∷ []))
      (λ e. no_image (rw e at h) (λ q. omega arith))
      (λ e0. by_cases (same_key cs (255 ∷ 255 ∷ []))
      (λ e. no_image (rw (e0, e) at h) (λ q. omega arith))
      (λ e1. by_cases (eqb (length cs) 514 && between (two_at cs 0) 1 n)
      (λ e.
      let (e2, e3) = both (eqb (length cs) 514) (between (two_at cs 0) 1 n) e in
      let (low, high) = both (leb 1 (two_at cs 0)) (leb (two_at cs 0) n) e3 in
      let long = eqb-true (length cs) 514 e2 in
      let i : image (two_at cs 0) (drop 2 cs) ≡ image p bs = rw (e0, e1, e) at h in
      let page = ap page_of i in
      let at : (k : ℕ) → k < 512 → get_or (drop 2 cs) k 0 ≡ hex_at j (start + (4 + 2 * k))
      = λ k lt. let e4 : start + 2 * (2 + k) ≡ start + (4 + 2 * k) = omega arith in
      get_or-drop 2 cs k 0 ∙ rw e4 at (byte_there j start l stands cs s (2 + k) (omega arith)) in
      let size : length (drop 2 cs) ≡ 512 = rw length-drop (omega arith) in
      record {
        size = let l = s.long in omega arith;
        page = sym (page_there j start l stands cs s (omega arith)) ∙ page;
        low = rw page at (leb-true 1 (two_at cs 0) low);
        high = rw page at (leb-true (two_at cs 0) n high);
        bytes = sym (fill_is (λ k. hex_at j (start + (4 + 2 * k))) (drop 2 cs) size at) ∙ ap bytes_of i;
      })
      (λ e. no_image (rw (e0, e1, e) at h) (λ q. omega arith))))

  pub image_read : (p : ℕ) (bs : List ℕ) → line_read n (pairs_of l) ≡ image p bs → Imaged p bs
  image_read p bs h =
      elim (pairs_read l) [
        | inl (cs, e, s) ↦ image_bytes cs s p bs (rw e at h)
        | inr (e, bad) ↦ no_image (rw e at h) (λ q. omega arith)
      ]

  -- a ready line reads as page 0
  ready_bytes : (cs : List ℕ) → Says l cs → line_says n cs ≡ ready → page_said j start ≡ 0
  unfolding line_says
  ready_bytes cs s h = by_cases (same_key cs (0 ∷ 0 ∷ []))
      (λ e.
      let is = same_eq cs (0 ∷ 0 ∷ []) e in
      sym (page_there j start l stands cs s (rw is (omega arith))) ∙ rw is (unfold two_at in refl))
      (λ e0. by_cases (same_key cs (255 ∷ 255 ∷ []))
      (λ e. no_ready (rw (e0, e) at h) (λ q. omega arith))
      (λ e1. by_cases (eqb (length cs) 514 && between (two_at cs 0) 1 n)
      (λ e. no_ready (rw (e0, e1, e) at h) (λ q. omega arith))
      (λ e. no_ready (rw (e0, e1, e) at h) (λ q. omega arith))))

  pub ready_read : line_read n (pairs_of l) ≡ ready → page_said j start ≡ 0
  ready_read h =
      elim (pairs_read l) [
        | inl (cs, e, s) ↦ ready_bytes cs s (rw e at h)
        | inr (e, bad) ↦ no_ready (rw e at h) (λ q. omega arith)
      ]
