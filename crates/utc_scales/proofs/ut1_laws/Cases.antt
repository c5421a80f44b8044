-- Which days about the leap second of 2016-12-31 are near it: 2016-12-28 to 2017-01-02 are; 2016-12-27 and 2017-01-03 are not. Assumes nothing.
use mathlib.Core.Path.{◌≡◌, refl, sym, ◌∙◌, ap}
use Prim.Native.Nat.{ℕ, ◌+◌, ◌*◌}
use native.Mathlib.Omega.{arith}
use lib.Dec.{lit≤, lit<}
use lib.IntN.{pos}
use Rattle.refusals.specs.Outcome.{onward}
use Rattle.calendar.specs.Calendar.{date, date_of, leap_size, lengths, days_in_month}
use Rattle.calendar.specs.Refusals.{valid_date}
use Rattle.calendar.specs.DayCount.{mjd_of, mjd_number, civil_count}
use Rattle.calendar.proofs.Mjd.{date-of-mjd}
use Rattle.leap_table.specs.rows.Table.{fixed, reached, month_number}
use Rattle.utc_scales.specs.round_trip.UtcDays.{H, seconds_on}
use Rattle.utc_scales.proofs.round_trip.DaySeconds.{date-of}
use Rattle.utc_scales.proofs.round_trip.Cases.{seconds-of, thirty_six, thirty_seven, leap-second, none_out, left_out, none_in}
use Rattle.utc_scales.proofs.ut1_laws.Back.{by-both-ends}
use Rattle.rounding.specs.Value.{L}
use Rattle.utc_scales.specs.laws.ShortTable.{short_rows}
use Rattle.utc_scales.specs.ut1_laws.Ut1.{ut1_over_utc}
use Rattle.utc_scales.specs.ut1_laws.Back.{NoLeapNear}

december_25 : date_of (pos 2457748) ≡ date (pos 2016) 12 25
unfolding mjd_of mjd_number civil_count valid_date days_in_month lengths leap_size onward
december_25 = sym (date-of 2457748 (omega arith)) ∙ date-of-mjd (pos 2016) (pos 12) (pos 25) (pos 57747) refl refl

december_26 : date_of (pos 2457749) ≡ date (pos 2016) 12 26
unfolding mjd_of mjd_number civil_count valid_date days_in_month lengths leap_size onward
december_26 = sym (date-of 2457749 (omega arith)) ∙ date-of-mjd (pos 2016) (pos 12) (pos 26) (pos 57748) refl refl

january_6 : date_of (pos 2457760) ≡ date (pos 2017) 1 6
unfolding mjd_of mjd_number civil_count valid_date days_in_month lengths leap_size onward
january_6 = sym (date-of 2457760 (omega arith)) ∙ date-of-mjd (pos 2017) (pos 1) (pos 6) (pos 57759) refl refl

january_7 : date_of (pos 2457761) ≡ date (pos 2017) 1 7
unfolding mjd_of mjd_number civil_count valid_date days_in_month lengths leap_size onward
january_7 = sym (date-of 2457761 (omega arith)) ∙ date-of-mjd (pos 2017) (pos 1) (pos 7) (pos 57760) refl refl

on-december-25 : seconds_on fixed 2457748 ≡ 36
unfolding fixed reached month_number
on-december-25 = seconds-of 2457748 (date (pos 2016) 12 25) december_25

on-december-26 : seconds_on fixed 2457749 ≡ 36
unfolding fixed reached month_number
on-december-26 = seconds-of 2457749 (date (pos 2016) 12 26) december_26

on-january-6 : seconds_on fixed 2457760 ≡ 37
unfolding fixed reached month_number
on-january-6 = seconds-of 2457760 (date (pos 2017) 1 6) january_6

on-january-7 : seconds_on fixed 2457761 ≡ 37
unfolding fixed reached month_number
on-january-7 = seconds-of 2457761 (date (pos 2017) 1 7) january_7

december_27_is_far : NoLeapNear fixed 2457750
december_27_is_far = by-both-ends 2457750 (lit≤ tt) (lit< tt) (on-december-25 ∙ sym thirty_six)

differ : (x y : ℕ) → x ≡ 36 → y ≡ 37 → x ≡ y → ⊥
differ x y a b e = omega arith

december_28_is_near : NoLeapNear fixed 2457751 → ⊥
december_28_is_near s = differ (seconds_on fixed 2457749) (seconds_on fixed 2457755) on-december-26 thirty_seven (sym (s.same 6 (lit≤ tt)))

january_2_is_near : NoLeapNear fixed 2457756 → ⊥
january_2_is_near s = differ (seconds_on fixed 2457754) (seconds_on fixed 2457760) thirty_six on-january-6 (sym (s.same 6 (lit≤ tt)))

january_3_is_far : NoLeapNear fixed 2457757
january_3_is_far = by-both-ends 2457757 (lit≤ tt) (lit< tt) (thirty_seven ∙ sym on-january-7)

-- ---- the exact relation of UTC and UT1, DUT1 being x - y: on 2016-12-31, of 86,401 s, and on 2029-12-31 of a made-up table, of 86,399 s
long-num : (x y : ℕ) → (ut1_over_utc fixed 2457754 x y).num ≡ 86401
long-num x y = omega (arith, leap-second, none_out)

long-more : (x y : ℕ) → (ut1_over_utc fixed 2457754 x y).more ≡ x + H
long-more x y = omega (arith, ap (λ (z : ℕ). z * H) leap-second, ap (λ (z : ℕ). z * (2457754 * L)) none_out)

long-less : (x y : ℕ) → (ut1_over_utc fixed 2457754 x y).less ≡ y + 2457754 * L
long-less x y = omega (arith, ap (λ (z : ℕ). z * (2457754 * L)) leap-second, ap (λ (z : ℕ). z * H) none_out)

short-num : (x y : ℕ) → (ut1_over_utc short_rows 2462502 x y).num ≡ 86399
short-num x y = omega (arith, left_out, none_in)

short-more : (x y : ℕ) → (ut1_over_utc short_rows 2462502 x y).more ≡ x + 2462502 * L
short-more x y = omega (arith, ap (λ (z : ℕ). z * H) none_in, ap (λ (z : ℕ). z * (2462502 * L)) left_out)

short-less : (x y : ℕ) → (ut1_over_utc short_rows 2462502 x y).less ≡ y + H
short-less x y = omega (arith, ap (λ (z : ℕ). z * (2462502 * L)) none_in, ap (λ (z : ℕ). z * H) left_out)
