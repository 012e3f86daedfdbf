-- Calculated records of one type with one key. A record is named by where it starts in the file.
use Rattle.std.specs.Prelude.{ℕ, zero, suc, ◌+◌, ◌*◌, ◌-◌, ◌/◌, ◌%◌, Bool, false, cond, List, [], ◌∷◌, ◌++◌, length, drop, eqb, ltb}
use Rattle.ledger.specs.Numbers.{same_key}
use Rattle.ledger.specs.Table.{pages, calculated}
use Rattle.ledger.specs.Bytes.{two_at, line_at}
use Rattle.model.specs.Reads.{place_in}
use Rattle.audit_model.specs.Sorting.{key_from, goes_before, sorted}

-- whether two records have one type and one key
unfoldable pub are_twins : List ℕ → List ℕ → ℕ → ℕ → Bool
are_twins t f a b = cond (eqb (two_at f a) (two_at f b)) (same_key (key_from t f a) (key_from t f b)) false

-- where code c's record starts if it is calculated, else 0
unfoldable pub calculated_at : List ℕ → List ℕ → ℕ → ℕ
calculated_at t f c =
    cond (eqb (place_in f c) 0) 0
    (cond (calculated t (two_at f (place_in f c))) (place_in f c % 65536) 0)

-- where the calculated records of n codes from c on start, at most `room` of them
unfoldable pub gather_from : List ℕ → List ℕ → ℕ → ℕ → ℕ → List ℕ
gather_from t f room c zero = []
gather_from t f room c (suc n) =
    cond (eqb (calculated_at t f c) 0)
    (gather_from t f room (c + 1) n)
    (cond (eqb room 0) (gather_from t f room (c + 1) n) (calculated_at t f c ∷ gather_from t f (room - 1) (c + 1) n))

-- those of all codes
unfoldable pub gathered : List ℕ → List ℕ → ℕ → List ℕ
gathered t f room = gather_from t f room 64 (64 * pages t)

-- how many they are, and a list with them at its front
unfoldable pub gather_on : List ℕ → List ℕ → List ℕ → ℕ × List ℕ
gather_on t f l = let g = gathered t f (length l) in (length g, g ++ drop (length g) l)

-- the code of the record that starts at s
unfoldable pub code_from : List ℕ → ℕ → ℕ
code_from f s = 64 * (s / 512 + 1) + line_at f s % 64

-- the lower of two codes, where 0 is none
unfoldable pub lower : ℕ → ℕ → ℕ
lower a b = cond (eqb a 0) b (cond (ltb b a) b a)

-- `lowest`, or a lower one of two codes if their records are twins
unfoldable pub lower_twin : List ℕ → List ℕ → ℕ → ℕ → ℕ → ℕ
lower_twin t f lowest a b = cond (are_twins t f a b) (lower (lower lowest (code_from f a)) (code_from f b)) lowest

-- the lowest code among twins that stand side by side in a list, and `lowest`
unfoldable pub lowest_from : List ℕ → List ℕ → ℕ → List ℕ → ℕ
lowest_from t f lowest [] = lowest
lowest_from t f lowest (a ∷ []) = lowest
lowest_from t f lowest (a ∷ b ∷ l) = lowest_from t f (lower_twin t f lowest a b) (b ∷ l)

-- the lowest code that has a twin among at most `room` calculated records, sorted with scratch room for `more`, or 0
unfoldable pub twin_among : List ℕ → List ℕ → ℕ → ℕ → ℕ
twin_among t f room more = lowest_from t f 0 (sorted (goes_before t f) more 13 (gathered t f room))

-- the lowest code that has a calculated twin, or 0; the largest file has 8064 lines
unfoldable pub twin_fault : List ℕ → List ℕ → ℕ
twin_fault t f = twin_among t f 8064 8064
