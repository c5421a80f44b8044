-- Worked cases of document 01, and the edges of the definitions, by computation. Assumes nothing.
use mathlib.Core.Path.{◌≡◌, refl}
use mathlib.Core.Bool.{true}
use lib.IntN.{pos}
use lib.Ieee.{fin, binary64, of_bits, add, mul, div, lt, to_signed}
use Rattle.floats.specs.Whole.{abs, to_whole, away, nought, one}
use Rattle.time_of_day.specs.declared.TimeShown.TheVariants.{At, NextMidnight}
use Rattle.time_of_day.specs.Milliseconds.{whole_leap, fraction_seconds, millis_of}
use Rattle.time_of_day.specs.TimeShown.{time_of, day_end, from_zero, shown_at, count_by, shown_by, shown_of}
use Rattle.time_of_day.specs.ExactTime.{minus_one_f, leap1959}

-- 86400 / 86401, rounded once, of a day that ends in a leap second: 23:59:60.000
pub leap-second : shown_of away (of_bits binary64 0x3fef_ffe7_ba49_c869) one ≡ At (record { hour = 23; minute = 59; second = 60; milli = 0 })
unfolding shown_by count_by shown_at from_zero time_of day_end whole_leap millis_of fraction_seconds of_bits add mul div lt to_signed to_whole abs
leap-second = refl

-- 23:59:60.9996 of that day: 86400999.6 ms are the next day's midnight
pub leap-end : shown_of away (of_bits binary64 0x3fef_ffff_fd83_b746) one ≡ NextMidnight
unfolding shown_by count_by shown_at from_zero time_of day_end whole_leap millis_of fraction_seconds of_bits add mul div lt to_signed to_whole abs
leap-end = refl

-- the last fraction of a day with no leap: its 86400000 ms are the next day's midnight
pub day-end : shown_of away (of_bits binary64 0x3fef_ffff_ffff_ffff) nought ≡ NextMidnight
unfolding shown_by count_by shown_at from_zero time_of day_end whole_leap millis_of fraction_seconds of_bits add mul div lt to_signed to_whole abs
day-end = refl

-- 1959-12-31 has 86400.9434819999999 s: its last fraction is 23:59:60.943
pub last-1959 : shown_of away (of_bits binary64 0x3fef_ffff_ffff_ffff) leap1959 ≡ At (record { hour = 23; minute = 59; second = 60; milli = 943 })
unfolding shown_by count_by shown_at from_zero time_of day_end whole_leap millis_of fraction_seconds of_bits add mul div lt to_signed to_whole abs
last-1959 = refl

-- a day of 86,399 s: its last half second, and the count 86399000
pub short_day : shown_of away (of_bits binary64 0x3fef_fff3_dd12_7aef) minus_one_f ≡ At (record { hour = 23; minute = 59; second = 58; milli = 500 })
unfolding shown_by count_by shown_at from_zero time_of day_end whole_leap millis_of fraction_seconds of_bits add mul div lt to_signed to_whole abs
short_day = refl

pub short-end : shown_of away (of_bits binary64 0x3fef_ffff_ffff_ffff) minus_one_f ≡ NextMidnight
unfolding shown_by count_by shown_at from_zero time_of day_end whole_leap millis_of fraction_seconds of_bits add mul div lt to_signed to_whole abs
short-end = refl

-- -0.0
pub minus-zero : shown_of away (fin true 0 (pos 0)) one ≡ At (record { hour = 0; minute = 0; second = 0; milli = 0 })
unfolding shown_by count_by shown_at from_zero time_of day_end whole_leap millis_of fraction_seconds of_bits add mul div lt to_signed to_whole abs
minus-zero = refl
