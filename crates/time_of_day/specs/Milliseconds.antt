-- The milliseconds of a fraction of a day, as the Rust computes them in `to_iso8601` (scales/utc/mod.rs): each operation rounded once, in its order.
-- Assumes nothing.
use Rattle.std.specs.Prelude.{ℕ, Bool, cond, ℤ, Float}
use Rattle.std.specs.Float.{binary64}
use Rattle.std.specs.Float.Ieee.{of_bits, add, mul, div, lt, to_signed}
use Rattle.floats.specs.Whole.{abs, half, nought, to_whole}

-- 1000.0 and 86400.0
abbrev pub thousand_f : Float
thousand_f = of_bits binary64 0x408f_4000_0000_0000

abbrev pub day_f : Float
day_f = of_bits binary64 0x40f5_1800_0000_0000

-- the leap that counts for the day's length: document 01's "plus leap if leap is over 0.5 in size"
unfoldable pub whole_leap : Float → Float
whole_leap leap = cond (lt half (abs leap)) leap nought

-- 86400.0 * (fraction + fraction * leap / 86400.0)
unfoldable pub fraction_seconds : Float → Float → Float
fraction_seconds fraction leap = mul binary64 day_f (add binary64 fraction (div binary64 (mul binary64 fraction leap) day_f))

-- 1000.0 times that, to a whole number by the rule `how` (specs/Whole of `floats`: the Rust's `round` is `away`, halves away from zero), and then
-- Rust's `as i64`
unfoldable pub millis_of : (Bool → ℕ → ℕ → ℕ) → Float → Float → ℤ
unfolding fraction_seconds
millis_of how fraction leap = to_signed 63 (to_whole how (mul binary64 thousand_f (fraction_seconds fraction leap)))
