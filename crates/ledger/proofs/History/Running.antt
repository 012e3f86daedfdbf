-- A promised call on a sound file, beside a currency in force: it leaves such a file and such a currency, and a ledger that its event tells.
use Prim.Native.Nat.{ℕ}
use mathlib.Core.Path.{◌≡◌, refl}
use mathlib.Core.Logic.{◌≢◌, ◌⊎◌, inl, inr}
use mathlib.Core.Bool.{cond, true≢false}
use mathlib.Core.List.{List, [], ◌∷◌, ◌++◌, append_assoc}
use native.Mathlib.Omega.{arith}
use lib.Dec.{eqb}
use borrow.Author.Tests.{ne_eqb}
use Rattle.ledger.specs.declared.Answer.{Answer}
use Rattle.ledger.specs.declared.Currency.{Currency}
use Rattle.ledger.specs.declared.Outcome.{Outcome}
use Rattle.ledger.specs.Table.{Accepted}
use Rattle.ledger.specs.Pages.{Ledger, empty, Sound}
use Rattle.ledger.specs.Currency.{InForce}
use Rattle.ledger.specs.Calls.{Turn, refuse, done, Call, FORMAT, STORE, DIRECT, KEY, NEXT, PRIOR, MASTER, EACH, MODIFY, DELETE, READ, CURRENT, FIND, RELINK, UNKNOWN, turn}
use Rattle.ledger.specs.Promise.{Plays, Promised, turn_of}
use Rattle.ledger.specs.History.{Event, Step, event_of, events_told, Runs, Undamaged}
use Rattle.ledger.proofs.Ledger.Entries.{points_there}
use Rattle.ledger.proofs.Ledger.Fields.{file_length}
use Rattle.ledger.proofs.History.Play.{start_fit}
use Rattle.ledger.proofs.History.Turns.{Numbered, turn_numbered, store_done, modify_done, relink_done, delete_done, looks_direct, looks_key, looks_next, looks_prior, looks_master, looks_each, looks_read, looks_current, looks_find}
use Rattle.ledger.proofs.History.Told.{Tells, tells_fresh, tells_relinked}
use Rattle.ledger.proofs.History.Joined.{tells_stored}
use Rattle.ledger.proofs.History.Rejoined.{tells_modified}
use Rattle.ledger.proofs.History.Taken.{tells_deleted}

-- a file, a currency and events that go together
pub record Running (t f : List ℕ) (cur : Currency) (es : List Event) : Type 0 where
  pub ledger : Ledger
  pub sound : Sound t f ledger
  pub in_force : InForce t ledger cur
  pub tells : Tells t ledger es

-- the events of a call with this outcome
abbrev told : Currency → Call → Outcome → List Event
told cur c r = cond (eqb r.answer.code 0) (event_of cur r.answer.reference c) []

format_or_not : (c : Call) → (c ≡ FORMAT) ⊎ (c ≢ FORMAT)
format_or_not FORMAT = inl refl
format_or_not (STORE n d) = inr (λ e. true≢false cc)
format_or_not (DIRECT x) = inr (λ e. true≢false cc)
format_or_not (KEY n k) = inr (λ e. true≢false cc)
format_or_not (NEXT j) = inr (λ e. true≢false cc)
format_or_not (PRIOR j) = inr (λ e. true≢false cc)
format_or_not (MASTER j) = inr (λ e. true≢false cc)
format_or_not (EACH low high) = inr (λ e. true≢false cc)
format_or_not (MODIFY d) = inr (λ e. true≢false cc)
format_or_not DELETE = inr (λ e. true≢false cc)
format_or_not (READ room) = inr (λ e. true≢false cc)
format_or_not (CURRENT n) = inr (λ e. true≢false cc)
format_or_not (FIND j k) = inr (λ e. true≢false cc)
format_or_not (RELINK j m) = inr (λ e. true≢false cc)
format_or_not UNKNOWN = inr (λ e. true≢false cc)

module _ (t : List ℕ) (a : Accepted t) where
  module _ (f : List ℕ) (cur : Currency) (es : List Event) (s : Running t f cur es) where
    abbrev l : Ledger
    l = s.ledger

    looked : (l' : Ledger) → l' ≡ l → Tells t l' es
    looked l' e = rw e s.tells

    -- an accepted call
    accepted_tells : (c : Call) (r : Answer) (l' : Ledger) (c' : Currency) → turn_of t cur c l ≡ done r l' c' → Tells t l' (event_of cur r.reference c ++ es)
    unfolding turn event_of
    accepted_tells FORMAT r l' c' e = let q : l' ≡ empty = cc in rw q (tells_fresh t es)
    accepted_tells (STORE n d) r l' c' e =
        let (free, set, q) = store_done t l cur r l' c' n d e in
        rw q (tells_stored t l es a s.sound.formed s.tells cur n d r.reference free s.in_force set)
    accepted_tells (DIRECT x) r l' c' e = looked l' (looks_direct t l cur x r l' c' e)
    accepted_tells (KEY n k) r l' c' e = looked l' (looks_key t l cur n k r l' c' e)
    accepted_tells (NEXT j) r l' c' e = looked l' (looks_next t l cur j r l' c' e)
    accepted_tells (PRIOR j) r l' c' e = looked l' (looks_prior t l cur j r l' c' e)
    accepted_tells (MASTER j) r l' c' e = looked l' (looks_master t l cur j r l' c' e)
    accepted_tells (EACH low high) r l' c' e = looked l' (looks_each t l cur low high r l' c' e)
    accepted_tells (MODIFY d) r l' c' e = rw (modify_done t l cur r l' c' d e) (tells_modified t l es a s.sound.formed s.tells r.reference d)
    accepted_tells DELETE r l' c' e =
        let (there, run, q) = delete_done t l cur r l' c' e in
        rw q (tells_deleted t l es a s.sound.formed s.tells r.reference (points_there l r.reference (rw run s.in_force.run_there) there))
    accepted_tells (READ room) r l' c' e = looked l' (looks_read t l cur room r l' c' e)
    accepted_tells (CURRENT n) r l' c' e = looked l' (looks_current t l cur n r l' c' e)
    accepted_tells (FIND j k) r l' c' e = looked l' (looks_find t l cur j k r l' c' e)
    accepted_tells (RELINK j m) r l' c' e = rw (relink_done t l cur r l' c' j m e) (tells_relinked t l es s.tells a s.sound.formed j r.reference m)
    accepted_tells UNKNOWN r l' c' e = absurd (true≢false cc)

    -- what a call leaves: as a play on the ledger, or as FORMAT
    abbrev Leaves : Call → List ℕ → Outcome → Type 0
    Leaves c g r = Running t g r.currency (told cur c r ++ es) × (r.answer.code ≢ 3) × (r.answer.code ≢ 4)

    played : (c : Call) (g : List ℕ) (r : Outcome) → Plays (turn_of t cur c) t f g cur r → Leaves c g r
    played c g r p = go (turn_of t cur c l) (turn_numbered t (record { ledger = l; cur = cur }) c) refl
      where
        go : (u : Turn) → Numbered u → turn_of t cur c l ≡ u → Leaves c g r
        go (refuse n) low e =
            let q = p.refused a l s.sound s.in_force n e in
            rw (q.answered, q.same_currency, q.same_file, ne_eqb n 0 (λ z. omega arith)) (s, λ z. omega arith, λ z. omega arith)
        go (done b l' c') accepted e =
            let (answer, current, sound, force) = p.played a l s.sound s.in_force b l' c' e in
            rw (answer, current, accepted)
            (record { ledger = l'; sound = sound; in_force = force; tells = accepted_tells c b l' c' e }, λ z. omega arith, λ z. omega arith)

    pub call_leaves : (c : Call) (g o o' : List ℕ) (r : Outcome) → Promised c t f g o o' cur r → Leaves c g r
    unfolding event_of
    call_leaves c g o o' r p =
        elim (format_or_not c) [
          | inl e ↦ (
              let (answer, current, sound) = (p.formats e).formatted a (file_length t f l a s.sound) in
              rw (e, answer, current)
              (record { ledger = empty; sound = sound; in_force = (start_fit t).in_force; tells = tells_fresh t es }, λ z. omega arith, λ z. omega arith))
          | inr e ↦ played c g r (p.plays e)
        ]

  -- calls one after another: the first, then the others
  first_then : (c : Step) (cs : List Step) (f f' : List ℕ) (cur cur' : Currency) (es : List Event) → Running t f cur es → Runs t f cur (c ∷ cs) f' cur'
      → ((g : List ℕ) (now : Currency) (us : List Event) → Running t g now us → Runs t g now cs f' cur' → Running t f' cur' (events_told now cs ++ us) × Undamaged cs)
      → Running t f' cur' (events_told cur (c ∷ cs) ++ es) × Undamaged (c ∷ cs)
  unfolding events_told
  first_then c cs f f' cur cur' es s r rest =
      let v = call_leaves f cur es s c.call r.0 r.1 r.2 c.outcome r.3 in
      let n = rest r.0 c.outcome.currency _ v.0 r.4 in
      (rw (append_assoc (events_told c.outcome.currency cs)) n.0, (v.1, v.2, n.1))

  pub runs : (ss : List Step) (f f' : List ℕ) (cur cur' : Currency) (es : List Event) → Running t f cur es → Runs t f cur ss f' cur'
      → Running t f' cur' (events_told cur ss ++ es) × Undamaged ss
  unfolding events_told
  runs [] f f' cur cur' es s r = (rw (r.0, r.1) s, tt)
  runs (c ∷ cs) f f' cur cur' es s r = first_then c cs f f' cur cur' es s r (λ g now us. runs cs g f' now cur' us)
