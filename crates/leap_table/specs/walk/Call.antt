-- What a call answers and what its lent list holds. Written from document 02, item 2: "Besides the offsets, the result carries the number of rows
-- compared", "spare places of a lent list stay", and document 01, "Refusals by number": a refused call changes nothing. Assumes nothing.
use Rattle.std.specs.Prelude.{◌≡◌, ℕ, List, ◌++◌, length, drop, Float, Result}
use Rattle.refusals.specs.declared.Refusal.{Refusal}
use Rattle.refusals.specs.Outcome.{Outcome, answer, refusal, onward, outcome}
use Rattle.leap_table.specs.walk.Walk.{Walked}

-- the offsets as floats are themselves
abbrev pub as_floats : List Float → List Float
as_floats l = l

-- the offsets, as `write` writes them, at the start of the lent list and the rest as it was; refused, all as it was
unfoldable pub list_after : {A : Type 0} → (List Float → List A) → Outcome Walked → List A → List A
list_after write (answer w) l = write w.offsets ++ drop (length (write w.offsets)) l
list_after write (refusal k) l = l

-- r is the number of rows compared, or the refusal, and the lent list, which held `before`, holds `after`
pub record WalkCall {A : Type 0} (write : List Float → List A) (o : Outcome Walked) (before : List A) (r : Result ℕ Refusal) (after : List A) : Type 0 where
  pub says : outcome r ≡ onward o (λ w. answer w.rows_compared)
  pub holds : after ≡ list_after write o before
