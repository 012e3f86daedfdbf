-- A loop that performs what is due until nothing is due performs the dues of a call, and of recovery, each once and in their order.
use mathlib.Core.Path.{◌≡◌, refl, sym, ◌∙◌, ap}
use mathlib.Core.List.{List, [], ◌∷◌, ◌++◌, append_assoc}
use Prim.Native.Nat.{ℕ}
use native.Mathlib.Omega.{arith}
use Rattle.std.proofs.Common.{Option, Some}
use Rattle.ledger.specs.declared.Due.{Due}
use Rattle.ledger.specs.Journal.Dues.{marked, call_dues, recovery_dues, first_of}
use Rattle.ledger.specs.Journal.Promises.{Follows, Performs}

-- a loop over a list that next goes along performs the list
loops : (s : List ℕ) (all done ds rest : List Due) → ((xs es : List Due) (d : Due) (r : Option Due) → Follows s (Some d) r → all ≡ xs ++ (d ∷ es) → r ≡ first_of es)
    → all ≡ done ++ rest → {d : Option Due} → d ≡ first_of rest → Performs s d ds → ds ≡ rest
loops s all done ds [] along e is Performs.ends = refl
loops s all done ds [] along e is (Performs.goes follows p) = absurd (let z : ◌≡◌ {A = ℕ} 0 1 = cc in omega arith)
loops s all done ds (d ∷ rest) along e is Performs.ends = absurd (let z : ◌≡◌ {A = ℕ} 0 1 = cc in omega arith)
loops s all done (x ∷ ds) (d ∷ rest) along e is (Performs.goes {r = r} follows p) =
    let same : x ≡ d = cc in
    let r-is : r ≡ first_of rest = along done rest x r follows (e ∙ ap (λ (y : Due). done ++ (y ∷ rest)) (sym same)) in
    let tail : ds ≡ rest = loops s all (done ++ (d ∷ [])) ds rest along (e ∙ sym (append_assoc done (d ∷ []) rest)) r-is p in
    rw (same, tail)

pub call_performed : (s : List ℕ) (ds : List Due) {d : Option Due} → d ≡ first_of (call_dues (marked s)) → Performs s d ds → ds ≡ call_dues (marked s)
call_performed s ds is p = loops s (call_dues (marked s)) [] ds (call_dues (marked s)) (λ xs es d r h e. h.in_call d xs es refl e) refl is p

pub recovery_performed : (s : List ℕ) (ds : List Due) {d : Option Due} → d ≡ first_of (recovery_dues (marked s)) → Performs s d ds → ds ≡ recovery_dues (marked s)
recovery_performed s ds is p = loops s (recovery_dues (marked s)) [] ds (recovery_dues (marked s)) (λ xs es d r h e. h.in_recovery d xs es refl e) refl is p
