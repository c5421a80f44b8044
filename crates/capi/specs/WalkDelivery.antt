-- What a C caller gets of a walk through the table: the rows compared as a code, and the offsets in the lent bytes. Written from include/celestial_time.h and
-- docs/DECISIONS.md 24. Assumes nothing.
use Rattle.std.specs.Prelude.{◌≡◌, List, ℕ, ℤ}
use Rattle.refusals.specs.Outcome.{Outcome, answer, onward}
use Rattle.leap_table.specs.walk.Walk.{Walked}
use Rattle.leap_table.specs.walk.Lists.{in_eights}
use Rattle.leap_table.specs.walk.Call.{list_after}
use Rattle.c_answers.specs.Delivery.{code}

-- the call returned r, and the buffer, which held `before`, holds `after`: eight bytes an offset at its start and the rest as it was; refused, all as it was
pub record WalkDelivered (o : Outcome Walked) (before : List ℕ) (r : ℤ) (after : List ℕ) : Type 0 where
  pub returned : r ≡ code (onward o (λ w. answer w.rows_compared))
  pub holds : after ≡ list_after in_eights o before
