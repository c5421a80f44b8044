-- The leap of a day whose offsets are whole seconds: exactly 0.0 where they stay, 1.0 where they are one more at its end, and -1.0 where they are one less; in
-- both orders. Assumes nothing.
use mathlib.Core.Path.{◌≡◌}
use mathlib.Core.Bool.{Bool}
use Prim.Native.Nat.{ℕ, suc, ◌<◌}
use lib.Dec.{T}
use lib.Ieee.{Float, round, add, sub, mul, of_int, of_bits}
use Rattle.floats.specs.Whole.{nought, one}
use Rattle.leap_table.specs.offsets.Leap.{offsets, leap_of, drift_rate, leap_amount}
use Rattle.leap_table.specs.declared.offsets.DayOffsets.{DayOffsets}
use Rattle.leap_table.specs.offsets.Offset.{whole_f}
use Rattle.time_of_day.specs.ExactTime.{minus_one_f}
use Rattle.leap_days.proofs.drift.Tests.{then, then_left, then_right, each, same_f, same_float}

abbrev pub Both : DayOffsets → Float → Type 0
Both o x = (leap_of o ≡ x) × (leap_amount o ≡ x)

-- ---- of k whole seconds all day, of k + 1 at its end, and of k + 1 with k at its end, for each k below 64: computed
stay_test : ℕ → Bool
unfolding leap_of leap_amount drift_rate round add sub mul of_int
stay_test k = then (same_f (leap_of (offsets (whole_f k) (whole_f k) (whole_f k))) nought)
    (same_f (leap_amount (offsets (whole_f k) (whole_f k) (whole_f k))) nought)

step_test : ℕ → Bool
unfolding leap_of leap_amount drift_rate round add sub mul of_int
step_test k = then (same_f (leap_of (offsets (whole_f k) (whole_f k) (whole_f (suc k)))) one)
    (same_f (leap_amount (offsets (whole_f k) (whole_f k) (whole_f (suc k)))) one)

both : (o : DayOffsets) (x : Float) → T (then (same_f (leap_of o) x) (same_f (leap_amount o) x)) → Both o x
both o x t = (
  same_float (leap_of o) x (then_left (same_f (leap_of o) x) (same_f (leap_amount o) x) t),
  same_float (leap_amount o) x (then_right (same_f (leap_of o) x) (same_f (leap_amount o) x) t),
)

pub stay : (k : ℕ) → k < 64 → Both (offsets (whole_f k) (whole_f k) (whole_f k)) nought
unfolding stay_test
stay k h = both (offsets (whole_f k) (whole_f k) (whole_f k)) nought (each stay_test 64 k h tt)

pub step-up : (k : ℕ) → k < 64 → Both (offsets (whole_f k) (whole_f k) (whole_f (suc k))) one
unfolding step_test
step-up k h = both (offsets (whole_f k) (whole_f k) (whole_f (suc k))) one (each step_test 64 k h tt)

down_test : ℕ → Bool
unfolding leap_of leap_amount drift_rate round add sub mul of_int of_bits
down_test k = then (same_f (leap_of (offsets (whole_f (suc k)) (whole_f (suc k)) (whole_f k))) minus_one_f)
    (same_f (leap_amount (offsets (whole_f (suc k)) (whole_f (suc k)) (whole_f k))) minus_one_f)

pub step_down : (k : ℕ) → k < 64 → Both (offsets (whole_f (suc k)) (whole_f (suc k)) (whole_f k)) minus_one_f
unfolding down_test
step_down k h = both (offsets (whole_f (suc k)) (whole_f (suc k)) (whole_f k)) minus_one_f (each down_test 64 k h tt)
