-- Worked cases of the table by day numbers: 1972-01-01, and the days about the leap second of 2016-12-31; 2029-12-31 by a made-up table that leaves a second
-- out there (ShortTable); and the exact relation on both days, in plain numbers. Assumes nothing.
use mathlib.Core.Path.{◌≡◌, refl, sym, ap, ◌∙◌}
use mathlib.Core.List.{List}
use Prim.Native.Nat.{ℕ, ◌+◌, ◌-◌, ◌*◌}
use native.Mathlib.Omega.{arith}
use lib.IntN.{pos}
use Rattle.refusals.specs.Outcome.{onward}
use Rattle.calendar.specs.declared.CalendarDate.{CalendarDate}
use Rattle.calendar.specs.Calendar.{date, date_of, leap_size, lengths, days_in_month}
use Rattle.calendar.specs.Refusals.{valid_date}
use Rattle.calendar.specs.DayCount.{mjd_of, mjd_number, civil_count}
use Rattle.calendar.proofs.Mjd.{date-of-mjd}
use Rattle.rounding.specs.Value.{L}
use Rattle.leap_table.specs.rows.Table.{Row, fixed, reached, month_number}
use Rattle.leap_table.specs.offsets.Offset.{seconds_in}
use Rattle.utc_scales.specs.round_trip.UtcDays.{H, month_on, seconds_on, leap_after, short_after}
use Rattle.utc_scales.specs.round_trip.Relation.{tai_over_utc}
use Rattle.utc_scales.specs.laws.ShortTable.{short_rows}
use Rattle.utc_scales.proofs.round_trip.DaySeconds.{date-of}

pub seconds-by : (rows : List Row) (n : ℕ) (t : CalendarDate) → date_of (pos n) ≡ t → seconds_on rows n ≡ seconds_in rows (month_number t.year t.month)
unfolding seconds_on month_on
seconds-by rows n t e = ap (λ (x : CalendarDate). seconds_in rows (month_number x.year x.month)) e

abbrev pub seconds-of : (n : ℕ) (t : CalendarDate) → date_of (pos n) ≡ t → seconds_on fixed n ≡ seconds_in fixed (month_number t.year t.month)
seconds-of n t e = seconds-by fixed n t e

new_year_1972 : date_of (pos 2441318) ≡ date (pos 1972) 1 1
unfolding mjd_of mjd_number civil_count valid_date days_in_month lengths leap_size onward
new_year_1972 = sym (date-of 2441318 (omega arith)) ∙ date-of-mjd (pos 1972) (pos 1) (pos 1) (pos 41317) refl refl

last-of-2016 : date_of (pos 2457754) ≡ date (pos 2016) 12 31
unfolding mjd_of mjd_number civil_count valid_date days_in_month lengths leap_size onward
last-of-2016 = sym (date-of 2457754 (omega arith)) ∙ date-of-mjd (pos 2016) (pos 12) (pos 31) (pos 57753) refl refl

new_year_2017 : date_of (pos 2457755) ≡ date (pos 2017) 1 1
unfolding mjd_of mjd_number civil_count valid_date days_in_month lengths leap_size onward
new_year_2017 = sym (date-of 2457755 (omega arith)) ∙ date-of-mjd (pos 2017) (pos 1) (pos 1) (pos 57754) refl refl

ten : seconds_on fixed 2441318 ≡ 10
unfolding fixed reached month_number
ten = seconds-of 2441318 (date (pos 1972) 1 1) new_year_1972

pub thirty_six : seconds_on fixed 2457754 ≡ 36
unfolding fixed reached month_number
thirty_six = seconds-of 2457754 (date (pos 2016) 12 31) last-of-2016

pub thirty_seven : seconds_on fixed 2457755 ≡ 37
unfolding fixed reached month_number
thirty_seven = seconds-of 2457755 (date (pos 2017) 1 1) new_year_2017

pub leap-second : leap_after fixed 2457754 ≡ 1
unfolding leap_after
leap-second = (λ i. thirty_seven i - thirty_six i)

pub none_out : short_after fixed 2457754 ≡ 0
unfolding short_after
none_out = (λ i. thirty_six i - thirty_seven i)

-- ---- a second left out at the end of 2029-12-31
last-of-2029 : date_of (pos 2462502) ≡ date (pos 2029) 12 31
unfolding mjd_of mjd_number civil_count valid_date days_in_month lengths leap_size onward
last-of-2029 = sym (date-of 2462502 (omega arith)) ∙ date-of-mjd (pos 2029) (pos 12) (pos 31) (pos 62501) refl refl

new_year_2030 : date_of (pos 2462503) ≡ date (pos 2030) 1 1
unfolding mjd_of mjd_number civil_count valid_date days_in_month lengths leap_size onward
new_year_2030 = sym (date-of 2462503 (omega arith)) ∙ date-of-mjd (pos 2030) (pos 1) (pos 1) (pos 62502) refl refl

short-start : seconds_on short_rows 2462502 ≡ 36 + 1
unfolding fixed reached month_number
short-start = seconds-by short_rows 2462502 (date (pos 2029) 12 31) last-of-2029

short-end : seconds_on short_rows 2462503 ≡ 36
unfolding fixed reached month_number
short-end = seconds-by short_rows 2462503 (date (pos 2030) 1 1) new_year_2030

pub left_out : short_after short_rows 2462502 ≡ 1
unfolding short_after
left_out = (λ i. short-start i - short-end i)

pub none_in : leap_after short_rows 2462502 ≡ 0
unfolding leap_after
none_in = (λ i. short-end i - short-start i)

-- ---- the relation on the two days: TAI = UTC + (36 + (UTC + 1/2 - 2457754)) / 86400, and TAI = UTC + (37 - (UTC + 1/2 - 2462502)) / 86400 days
long-num : (tai_over_utc fixed 2457754).num ≡ 86401
long-num = omega (arith, leap-second, none_out)

long-more : (tai_over_utc fixed 2457754).more ≡ 36 * L + H
long-more = omega (arith, ap (λ (z : ℕ). z * L) thirty_six, ap (λ (z : ℕ). z * H) leap-second, ap (λ (z : ℕ). z * (2457754 * L)) none_out)

long-less : (tai_over_utc fixed 2457754).less ≡ 2457754 * L
long-less = omega (arith, ap (λ (z : ℕ). z * (2457754 * L)) leap-second, ap (λ (z : ℕ). z * H) none_out)

short-num : (tai_over_utc short_rows 2462502).num ≡ 86399
short-num = omega (arith, left_out, none_in)

short-more : (tai_over_utc short_rows 2462502).more ≡ (36 + 1) * L + 2462502 * L
short-more = omega (arith, ap (λ (z : ℕ). z * L) short-start, ap (λ (z : ℕ). z * H) none_in, ap (λ (z : ℕ). z * (2462502 * L)) left_out)

short-less : (tai_over_utc short_rows 2462502).less ≡ H
short-less = omega (arith, ap (λ (z : ℕ). z * (2462502 * L)) none_in, ap (λ (z : ℕ). z * H) left_out)
