-- That none of the six operations of two-sum overflows. Written from document 02, item 9 ("wherever 01's two-sum doesn't overflow"), and the operations of
-- `exact_sum` in `julian`, one by one. Assumes nothing.
use Rattle.std.specs.Prelude.{◌≡◌, true, false, T, pos, Float}
use Rattle.std.specs.Float.{fin, binary64}
use Rattle.std.specs.Float.Ieee.{add, sub, fits, le}
use Rattle.std.specs.Float.Ieee.Scale.{finite}
use Rattle.floats.specs.Whole.{abs}

-- the sum, the second part as the sum has it, the first part as the sum has it, what each part lost, and both losses
pub record NoOverflow (a b : Float) : Type 0 where
  pub sum : finite (add binary64 a b) ≡ true
  pub second : finite (sub binary64 (add binary64 a b) a) ≡ true
  pub first : finite (sub binary64 (add binary64 a b) (sub binary64 (add binary64 a b) a)) ≡ true
  pub lost_first : finite (sub binary64 a (sub binary64 (add binary64 a b) (sub binary64 (add binary64 a b) a))) ≡ true
  pub lost_second : finite (sub binary64 b (sub binary64 (add binary64 a b) a)) ≡ true
  pub error : finite (add binary64 (sub binary64 a (sub binary64 (add binary64 a b) (sub binary64 (add binary64 a b) a)))
      (sub binary64 b (sub binary64 (add binary64 a b) a))) ≡ true

-- |x| ≤ 2 ^ 1021
pub record AtMost1021 (x : Float) : Type 0 where
  pub held : T (fits binary64 x)
  pub small : T (le (abs x) (fin false 1 (pos 1021)))
