-- What an analyst must look at, a number of bits: 1 a stamp is left out, 2 a named run has no stamp, 4 the UTC day of a run's last ordered stamp is later
-- than the day until which the table is known, 8 two runs begin and end apart as two scales do. Written from the request for a summary of three recorders'
-- runs. Assumes nothing.
use Rattle.std.specs.Prelude.{ℕ, ◌+◌, ◌-◌, ◌*◌, Bool, false, cond, not, ◌&&◌, ◌||◌, List, length, ◌==◌, nat_le, nat_lt}
use Rattle.std.specs.Float.Ieee.{lt}
use Rattle.refusals.specs.Outcome.{Outcome, answer, refusal, onward}
use Rattle.time_of_day.specs.TimeShown.{from_zero}
use Rattle.floats.specs.Whole.{nought}
use Rattle.julian.specs.declared.JulianDate.{JulianDate}
use Rattle.julian.specs.JulianDate.{rounded_sum}
use Rattle.julian.specs.declared.CalendarFields.{CalendarFields}
use Rattle.julian.specs.declared.day_number.DayNumber.{DayNumber}
use Rattle.julian.specs.day_number.Answer.{day_number_and_fraction}
use Rattle.julian.specs.Calendar.{julian_to_calendar}
use Rattle.leap_table.specs.rows.Table.{Row}
use Rattle.leap_table.specs.offsets.WholeSeconds.{whole_seconds}
use Rattle.utc_scales.specs.UtcTai.{tai_to_utc}
use Rattle.since_launch.specs.Millis.{millis_from_to}
use Rattle.line_listing.specs.declared.head.RunEnd.{RunEnd}
use Rattle.line_listing.specs.declared.summary.Ends.{Ends}
use Rattle.line_listing.specs.lines.StampLine.{Stamps}
use Rattle.line_listing.specs.head.Counts.{first_end, second_end}
use Rattle.line_listing.specs.summary.Seen.{seen_in, ends_of}
use Rattle.line_listing.specs.summary.Known.{known_until}

-- ---- 1: a stamp is left out
unfoldable pub left_out : Stamps → Bool
left_out all = not ((seen_in 17 all.numbers 0 (length all.numbers)).many == 0)

-- ---- 2: a named run of n stamps has none
unfoldable pub is_empty : RunEnd → ℕ → Bool
is_empty run n = cond run.named (n == 0) false

unfoldable pub no_stamp : RunEnd → RunEnd → RunEnd → Stamps → Bool
no_stamp gps tai utc all =
    is_empty gps (first_end all) || (is_empty tai (second_end all - first_end all) || is_empty utc (length all.numbers - second_end all))

-- ---- 4: a stamp after the day; Julian Day 2400001 is that of Modified Julian Date 0
unfoldable pub day_after : ℕ → Outcome DayNumber → Bool
day_after day (answer d) = nat_lt (day + 2400001) (from_zero d.day)
day_after day (refusal k) = false

-- by its UTC; a TAI that has none lies before all days or behind them, which the sign of its rounded sum tells
unfoldable pub after_by : ℕ → JulianDate → Outcome JulianDate → Bool
after_by day tai (answer utc) = day_after day (day_number_and_fraction utc.jd1 utc.jd2)
after_by day tai (refusal k) = lt nought (rounded_sum tai)

unfoldable pub is_after : List Row → ℕ → JulianDate → Bool
is_after rows day tai = after_by day tai (tai_to_utc rows tai)

-- the last ordered stamp of a run: its ordered stamps rise, so that no other is later
unfoldable pub last_after : List Row → ℕ → Ends → Bool
last_after rows day run = run.any && is_after rows day run.last

unfoldable pub any_after : List Row → ℕ → Ends → Ends → Ends → Bool
any_after rows day gps tai utc = last_after rows day gps || (last_after rows day tai || last_after rows day utc)

-- ---- 8: how far apart two numbers are
abbrev pub distance : ℕ → ℕ → ℕ
distance a b = (a - b) + (b - a)

-- x and y milliseconds are both a difference of v, within 500
abbrev pub near : ℕ → ℕ → Bool
near x v = nat_le (distance x v) 500

-- no difference is none of two scales
unfoldable pub both_near : ℕ → ℕ → ℕ → Bool
both_near x y v = not (v == 0) && (near x v && near y v)

-- two exchanged names put one run twice the difference from where it belongs
unfoldable pub once_or_twice : ℕ → ℕ → ℕ → Bool
once_or_twice x y d = both_near x y d || both_near x y (2 * d)

-- GPS and UTC, TAI and GPS, TAI and UTC: of 2017, and with s seconds of TAI-UTC
unfoldable pub as_scales : ℕ → ℕ → ℕ → Bool
as_scales x y s =
    once_or_twice x y 18000
    || (once_or_twice x y 19000 || (once_or_twice x y 37000 || (once_or_twice x y (1000 * s) || once_or_twice x y (1000 * distance s 19))))

-- TAI-UTC in whole seconds in the month of the stamp's UTC day; 0 before 1972 and where it has no day
unfoldable pub seconds_by : List Row → Outcome CalendarFields → ℕ
seconds_by rows (answer f) = whole_seconds rows f.date.year f.date.month
seconds_by rows (refusal k) = 0

unfoldable pub seconds_on_day : List Row → JulianDate → ℕ
seconds_on_day rows tai = seconds_by rows (onward (tai_to_utc rows tai) (λ utc. julian_to_calendar utc.jd1 utc.jd2))

unfoldable pub apart_by : ℕ → Outcome ℕ → Outcome ℕ → Bool
apart_by s (answer x) (answer y) = as_scales x y s
apart_by s (answer x) (refusal k) = false
apart_by s (refusal k) o = false

-- b begins and ends later than a
unfoldable pub run_later : List Row → Ends → Ends → Bool
run_later rows a b =
    (a.any && b.any) && apart_by (seconds_on_day rows a.first) (millis_from_to a.first b.first) (millis_from_to a.last b.last)

unfoldable pub runs_apart : List Row → Ends → Ends → Bool
runs_apart rows a b = run_later rows a b || run_later rows b a

unfoldable pub any_apart : List Row → Ends → Ends → Ends → Bool
any_apart rows gps tai utc = runs_apart rows gps tai || (runs_apart rows gps utc || runs_apart rows tai utc)

-- the ends of the three runs
abbrev pub gps_ends : Stamps → Ends
gps_ends all = ends_of all.jd1s all.jd2s all.numbers 0 (first_end all)

abbrev pub tai_ends : Stamps → Ends
tai_ends all = ends_of all.jd1s all.jd2s all.numbers (first_end all) (second_end all - first_end all)

abbrev pub utc_ends : Stamps → Ends
utc_ends all = ends_of all.jd1s all.jd2s all.numbers (second_end all) (length all.numbers - second_end all)

unfoldable pub after_known : List Row → ℕ → Stamps → Bool
after_known rows known all = any_after rows (known_until rows known) (gps_ends all) (tai_ends all) (utc_ends all)

unfoldable pub scales_apart : List Row → Stamps → Bool
scales_apart rows all = any_apart rows (gps_ends all) (tai_ends all) (utc_ends all)

-- ---- the bits
unfoldable pub bits : Bool → Bool → Bool → Bool → ℕ
bits a b c d = cond a 1 0 + cond b 2 0 + cond c 4 0 + cond d 8 0

unfoldable pub look_of : List Row → ℕ → RunEnd → RunEnd → RunEnd → Stamps → ℕ
look_of rows known gps tai utc all = bits (left_out all) (no_stamp gps tai utc all) (after_known rows known all) (scales_apart rows all)
