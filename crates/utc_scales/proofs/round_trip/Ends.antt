-- The ranges of the theorems are not empty: both ends of request 14's, and a modified Julian date. Assumes nothing.
use mathlib.Core.Path.{refl}
use mathlib.Core.Bool.{false}
use native.Mathlib.Omega.{arith}
use lib.Ieee.{round, neg, fits, le, lt, eq}
use Rattle.floats.specs.Whole.{abs}
use Rattle.constants.specs.Constants.{decimal}
use Rattle.julian.specs.JulianDate.{julian}
use Rattle.utc_scales.specs.round_trip.Ranges.{HalfDaySplit, ModifiedSplit}

-- 1972-01-02 0h
pub first-end : HalfDaySplit (julian (decimal 24413195 1) (neg (decimal 1 0)))
unfolding round neg fits le lt eq abs
first-end = record {
  held = (tt, tt);
  halves = 4882639;
  first = record { sign = false; size = 4882639; has = (refl, refl); is = refl };
  low = omega arith;
  high = omega arith;
  second = tt;
}

-- 8977-06-09 0h
pub last_end : HalfDaySplit (julian (decimal 50000005 1) (decimal 1 0))
unfolding round fits le lt eq abs
last_end = record {
  held = (tt, tt);
  halves = 10000001;
  first = record { sign = false; size = 10000001; has = (refl, refl); is = refl };
  low = omega arith;
  high = omega arith;
  second = tt;
}

-- 2017-01-01 0h
pub modified_day : ModifiedSplit (julian (decimal 24000005 1) (decimal 57754 0))
unfolding round fits le lt eq abs
modified_day = record { held = (tt, tt); first = record { sign = false; size = 4800001; has = (refl, refl); is = refl }; from = tt; to = tt }
