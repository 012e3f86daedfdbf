-- Document 02 a, the writes of a call and of recovery one at a time: which write is due, and which after it.
-- `f` is the file before and `g` after; `ps` are the pages that are stored, and `s` tells them: its byte p - 1 is 1.
use Rattle.std.specs.Prelude.{ℕ, ◌-◌, Option, Some, None, cond, List, [], ◌∷◌, ◌++◌, map, length, get_or, eqb}
use Rattle.ledger.specs.Numbers.{keep, run}
use Rattle.ledger.specs.Bytes.{page_in}
use Rattle.ledger.specs.declared.Due.{Due}
use Rattle.ledger.specs.declared.Due.TheVariants.{Image, Ready, Store, Done, Back, Empty}
use Rattle.ledger.specs.Journal.Writes.{image_line, ready_line, done_line, Write, append, store, clear}

-- the write of a number: of a call 1 the image of a page, 2 ready, 3 a page stored, 4 done; of recovery 5 a page put back, 6 the journal emptied;
-- none of any other number
unfoldable pub due_of : ℕ → ℕ → Option Due
due_of phase p =
    cond (eqb phase 1) (Some (Image p))
    (cond (eqb phase 2) (Some Ready)
    (cond (eqb phase 3) (Some (Store p))
    (cond (eqb phase 4) (Some Done)
    (cond (eqb phase 5) (Some (Back p))
    (cond (eqb phase 6) (Some Empty) None)))))

-- the pages told
unfoldable pub marked : List ℕ → List ℕ
marked s = keep (λ p. eqb (get_or s (p - 1) 0) 1) (run 1 (length s))

-- a call's: its images, ready, its stores, done; none where no page differs
unfoldable pub call_dues : List ℕ → List Due
call_dues [] = []
call_dues (p ∷ ps) = map Image (p ∷ ps) ++ (Ready ∷ map Store (p ∷ ps) ++ (Done ∷ []))

-- recovery's: what it puts back, and the journal emptied last
unfoldable pub recovery_dues : List ℕ → List Due
recovery_dues ps = map Back ps ++ (Empty ∷ [])

abbrev pub first_of : List Due → Option Due
first_of [] = None
first_of (d ∷ ds) = Some d

-- what is then written
unfoldable pub write_due : List ℕ → List ℕ → Due → Write
write_due f g (Image p) = append (image_line f p)
write_due f g Ready = append ready_line
write_due f g (Store p) = store p (page_in g p)
write_due f g Done = append done_line
write_due f g (Back p) = store p (page_in g p)
write_due f g Empty = clear
