-- What a C caller gets of a lining up: the code, and the two slices that are written. Written from include/celestial_time.h and docs/DECISIONS.md 24. Assumes
-- nothing.
use Rattle.std.specs.Prelude.{◌≡◌, List, ℕ, ℤ}
use Rattle.c_answers.specs.Delivery.{code}
use Rattle.line_up.specs.LineUp.{LinedUp}

-- the call returned r, and the numbers and the places are as l says: all their bytes
pub record LineDelivered (l : LinedUp) (r : ℤ) (numbers out : List ℕ) : Type 0 where
  pub returned : r ≡ code l.answer
  pub numbered : numbers ≡ l.numbers
  pub placed : out ≡ l.out
