-- A line's characters read into a frame.
use Prim.Native.Nat.{ℕ, suc, ◌+◌, ◌≤◌, ◌<◌}
use mathlib.Core.Path.{◌≡◌, ◌∙◌, sym}
use mathlib.Core.List.{List}
use native.Mathlib.Numerals.{add-one}
use lib.ListN.{length, get_or, drop, drop_of_length-le}
use lib.Seq.{drop-cons}
use Rattle.std.specs.Prelude.{Option, Some, None, Err}
use Rattle.frames_model.specs.declared.Reading.{Reading}
use Rattle.frames_model.specs.Texts.{Decoded, by_option, bytes_read, step_on, decode_from}

-- decode, where i characters are read and x is what the whole line comes to
module _ (line f : List ℕ) (s : Reading) (i : ℕ) (x : Decoded) (inv : decode_from (drop i line) f s ≡ x) where
  pub decode_end : length line ≤ i → x ≡ (bytes_read s, f)
  unfolding decode_from
  decode_end h = sym inv ∙ rw (drop_of_length-le line h)

  module _ (r : Option Reading) (g : List ℕ) (h : i < length line) (e : step_on f s (get_or line i 0) ≡ (r, g)) where
    turn : by_option r (Err 0, g) (λ q. decode_from (drop (suc i) line) g q) ≡ x
    unfolding decode_from
    turn = rw (drop-cons line i 0 h, e) at inv

    pub decode_stop : r ≡ None → x ≡ (Err 0, g)
    decode_stop b = sym turn ∙ rw b

    pub decode_next : (q : Reading) → r ≡ Some q → decode_from (drop (i + 1) line) g q ≡ x
    decode_next q b = rw add-one (rw b at turn)
