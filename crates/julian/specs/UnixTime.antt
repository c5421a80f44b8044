-- The Julian date of a Unix time: whole days from 1970 in jd1, the time that is left in jd2. Written from the Rust's julian/mod.rs and from document 01,
-- "Julian date". Assumes nothing.
use Rattle.std.specs.Prelude.{ℕ, suc, ◌/◌, ◌%◌, ℤ, pos, negsuc, neg_ℤ, Float}
use Rattle.std.specs.Float.{binary64}
use Rattle.std.specs.Float.Ieee.{of_int, add, div}
use Rattle.constants.specs.Constants.{seconds_per_day, nanoseconds_per_second, unix_epoch_jd}
use Rattle.julian.specs.declared.JulianDate.{JulianDate}
use Rattle.julian.specs.JulianDate.{julian}

-- document 01: "`from_unix_time` divides toward zero"; `negsuc s` is -(s + 1)
abbrev pub days_toward_zero : ℤ → ℤ
days_toward_zero (pos s) = pos (s / 86400)
days_toward_zero (negsuc s) = neg_ℤ (pos (suc s / 86400))

-- the seconds that are left, with the sign of all
abbrev pub seconds_left : ℤ → ℤ
seconds_left (pos s) = pos (s % 86400)
seconds_left (negsuc s) = neg_ℤ (pos (suc s % 86400))

unfoldable pub second_of_day : ℤ → ℕ → Float
second_of_day seconds nanos = add binary64 (of_int binary64 (seconds_left seconds)) (div binary64 (of_int binary64 (pos nanos)) nanoseconds_per_second)

unfoldable pub from_unix_time : ℤ → ℕ → JulianDate
from_unix_time seconds nanos = julian (add binary64 unix_epoch_jd (of_int binary64 (days_toward_zero seconds)))
    (div binary64 (second_of_day seconds nanos) seconds_per_day)
