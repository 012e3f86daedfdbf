-- What a frame's play, the interface and a line promise beside what their models compute.
use Prim.Native.Nat.{ℕ, ◌≤◌}
use mathlib.Core.Path.{◌≡◌}
use mathlib.Core.List.{List}
use mir.Syntax.{w8}
use mir.Val.{Fits}
use lib.ListN.{length, get_or}
use Rattle.ledger.specs.declared.Currency.{Currency}
use Rattle.ledger.specs.declared.Outcome.{Outcome}
use Rattle.ledger.specs.Promise.{Promised}
use Rattle.ledger.specs.Player.{call_in}
use Rattle.ledger.specs.Interface.{Lends}
use Rattle.play_model.specs.Plays.{play_on}
use Rattle.gerunjap_model.specs.Lent.{call_on}
use Rattle.line_model.specs.declared.Session.{Session}
use Rattle.line_model.specs.declared.Played.{Played}
use Rattle.line_model.specs.Lines.{line_on}
use Rattle.play_laws.specs.Buffers.{Stands, LinePlays}
use Rattle.play_laws.proofs.Frames.{play_promised}
use Rattle.play_laws.proofs.Interface.{call_lends}
use Rattle.play_laws.proofs.Lines.{line_plays}

pub played_both : (t f : List ℕ) (cur : Currency) → ((i : ℕ) → Fits w8 (get_or f i 0)) → length cur.types ≡ 16 → length cur.chains ≡ 16
    → (fr : List ℕ) → ((i : ℕ) → Fits w8 (get_or fr i 0)) → (o : List ℕ) (r : Outcome) (f' o' : List ℕ) → play_on t f cur fr o ≡ (r, f', o')
    → (play_on t f cur fr o ≡ (r, f', o')) × Promised (call_in fr (length o)) t f f' o o' cur r
played_both t f cur small ty ch fr bytes o r f' o' e = (e, play_promised t f cur small ty ch fr bytes o r f' o' e)

pub lent_both : (t f ws fr o b : List ℕ) → ((i : ℕ) → Fits w8 (get_or f i 0)) → ((i : ℕ) → Fits w8 (get_or fr i 0))
    → (status : ℕ) (f' ws' o' b' : List ℕ) → call_on t f ws fr o b ≡ (status, f', ws', o', b')
    → (call_on t f ws fr o b ≡ (status, f', ws', o', b')) × Lends t f f' ws ws' fr o o' b b' status
lent_both t f ws fr o b small bytes status f' ws' o' b' e = (e, call_lends t f ws fr o b small bytes status f' ws' o' b' e)

-- a line, where the buffers are the player's
pub lined_both : (t f : List ℕ) (w : Session) (line out : List ℕ) → ((i : ℕ) → Fits w8 (get_or f i 0))
    → (p : Played) (t' f' out' : List ℕ) → line_on t f w line out ≡ (p, t', f', out')
    → (line_on t f w line out ≡ (p, t', f', out')) × (Stands t f w → 417 ≤ length out → LinePlays t f w line out p t' f' out')
lined_both t f w line out small p t' f' out' e = (e, λ st room. line_plays t f small w st line out room p t' f' out' e)
