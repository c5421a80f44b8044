-- Worked cases of a half millisecond to the even one, beside document 01's rule, by computation. Assumes nothing.
use mathlib.Core.Path.{◌≡◌, refl}
use mathlib.Core.Bool.{false}
use lib.Ieee.{binary64, of_bits, of_int, round, add, mul, div, lt, eq, to_signed}
use Rattle.floats.specs.Whole.{abs, to_whole, away, nought, one}
use Rattle.time_of_day.specs.declared.TimeShown.TheVariants.{At, NextMidnight}
use Rattle.time_of_day.specs.Milliseconds.{whole_leap, fraction_seconds, millis_of}
use Rattle.time_of_day.specs.TimeShown.{time_of, day_end, from_zero, shown_at, count_by, shown_by, shown_of}
use Rattle.time_of_day.specs.ExactTime.{minus_one_f, leap1959}
use Rattle.time_of_day.specs.HalfEven.{nearest_even, grid_units, worth, day_is_whole, twice, half_millis, of_halves, float_count, in_whole, even_count}

-- document 02's: 3 / 2048 of 86,400 s are 126,562.5 ms
pub worked_even : shown_by even_count (of_bits binary64 0x3f58_0000_0000_0000) nought ≡ At (record { hour = 0; minute = 2; second = 6; milli = 562 })
unfolding shown_by even_count in_whole worth grid_units nearest_even float_count half_millis twice of_halves day_is_whole count_by shown_at from_zero time_of
    day_end
    whole_leap millis_of fraction_seconds of_bits of_int round add mul div lt eq to_signed to_whole abs
worked_even = refl

-- and by document 01's rule
pub worked_away : shown_of away (of_bits binary64 0x3f58_0000_0000_0000) nought ≡ At (record { hour = 0; minute = 2; second = 6; milli = 563 })
unfolding shown_by even_count in_whole worth grid_units nearest_even float_count half_millis twice of_halves day_is_whole count_by shown_at from_zero time_of
    day_end
    whole_leap millis_of fraction_seconds of_bits of_int round add mul div lt eq to_signed to_whole abs
worked_away = refl

-- a tie that goes up: 1 / 2048 are 42,187.5 ms
pub tie_up : shown_by even_count (of_bits binary64 0x3f40_0000_0000_0000) nought ≡ At (record { hour = 0; minute = 0; second = 42; milli = 188 })
unfolding shown_by even_count in_whole worth grid_units nearest_even float_count half_millis twice of_halves day_is_whole count_by shown_at from_zero time_of
    day_end
    whole_leap millis_of fraction_seconds of_bits of_int round add mul div lt eq to_signed to_whole abs
tie_up = refl

-- 3466112652650053 / 2 ^ 52 are 66,496,171.49999999.. ms: no tie, and yet document 01's float is one
pub just_below_even : shown_by even_count (of_bits binary64 0x3fe8_a0d2_7ad3_4c8a) nought ≡ At (record { hour = 18; minute = 28; second = 16; milli = 171 })
unfolding shown_by even_count in_whole worth grid_units nearest_even float_count half_millis twice of_halves day_is_whole count_by shown_at from_zero time_of
    day_end
    whole_leap millis_of fraction_seconds of_bits of_int round add mul div lt eq to_signed to_whole abs
just_below_even = refl

-- document 01's
pub just_below_away : shown_of away (of_bits binary64 0x3fe8_a0d2_7ad3_4c8a) nought ≡ At (record { hour = 18; minute = 28; second = 16; milli = 172 })
unfolding shown_by even_count in_whole worth grid_units nearest_even float_count half_millis twice of_halves day_is_whole count_by shown_at from_zero time_of
    day_end
    whole_leap millis_of fraction_seconds of_bits of_int round add mul div lt eq to_signed to_whole abs
just_below_away = refl

-- 3468751272056733 / 2 ^ 52 are just above 66,546,792.5 ms
pub just_above_even : shown_by even_count (of_bits binary64 0x3fe8_a59f_2ec5_2f3a) nought ≡ At (record { hour = 18; minute = 29; second = 6; milli = 793 })
unfolding shown_by even_count in_whole worth grid_units nearest_even float_count half_millis twice of_halves day_is_whole count_by shown_at from_zero time_of
    day_end
    whole_leap millis_of fraction_seconds of_bits of_int round add mul div lt eq to_signed to_whole abs
just_above_even = refl

-- document 01's
pub just_above_away : shown_of away (of_bits binary64 0x3fe8_a59f_2ec5_2f3a) nought ≡ At (record { hour = 18; minute = 29; second = 6; milli = 792 })
unfolding shown_by even_count in_whole worth grid_units nearest_even float_count half_millis twice of_halves day_is_whole count_by shown_at from_zero time_of
    day_end
    whole_leap millis_of fraction_seconds of_bits of_int round add mul div lt eq to_signed to_whole abs
just_above_away = refl

-- 1 / 16 of a day of 86,401 s: 5,400,062.5 ms
pub leap-day-tie : shown_by even_count (of_bits binary64 0x3fb0_0000_0000_0000) one ≡ At (record { hour = 1; minute = 30; second = 0; milli = 62 })
unfolding shown_by even_count in_whole worth grid_units nearest_even float_count half_millis twice of_halves day_is_whole count_by shown_at from_zero time_of
    day_end
    whole_leap millis_of fraction_seconds of_bits of_int round add mul div lt eq to_signed to_whole abs
leap-day-tie = refl

-- 1 / 16 of a day of 86,399 s: 5,399,937.5 ms
pub short-day-tie : shown_by even_count (of_bits binary64 0x3fb0_0000_0000_0000) minus_one_f ≡ At (record { hour = 1; minute = 29; second = 59; milli = 938 })
unfolding shown_by even_count in_whole worth grid_units nearest_even float_count half_millis twice of_halves day_is_whole count_by shown_at from_zero time_of
    day_end
    whole_leap millis_of fraction_seconds of_bits of_int round add mul div lt eq to_signed to_whole abs
short-day-tie = refl

-- the last fraction of the grid
pub last-units : shown_by even_count (of_bits binary64 0x3fef_ffff_ffff_fffe) nought ≡ NextMidnight
unfolding shown_by even_count in_whole worth grid_units nearest_even float_count half_millis twice of_halves day_is_whole count_by shown_at from_zero time_of
    day_end
    whole_leap millis_of fraction_seconds of_bits of_int round add mul div lt eq to_signed to_whole abs
last-units = refl

-- half of 1959-12-31, 86400.9434819999999 s, by the float
pub noon_1959 : shown_by even_count (of_bits binary64 0x3fe0_0000_0000_0000) leap1959 ≡ At (record { hour = 12; minute = 0; second = 0; milli = 472 })
unfolding shown_by even_count in_whole worth grid_units nearest_even float_count half_millis twice of_halves day_is_whole count_by shown_at from_zero time_of
    day_end
    whole_leap millis_of fraction_seconds of_bits of_int round add mul div lt eq to_signed to_whole abs
noon_1959 = refl

-- 1 / 2 + 2 ^ -53 is off the grid
pub off_grid : in_whole (of_bits binary64 0x3fe0_0000_0000_0001) nought ≡ false
unfolding in_whole worth grid_units from_zero day_is_whole of_bits of_int round mul eq to_signed abs
off_grid = refl
