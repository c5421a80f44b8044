-- Days of the law of drift: a day whose next has the same row has no step, as all within a month; and so has 1961-12-31, whose
-- next day has another row, that begins where it ends. Its 6h UTC is a case of the law.
-- Assumes nothing.
use mathlib.Core.Path.{◌≡◌, refl, sym, ap, ◌∙◌, subst, subst₂}
use mathlib.Core.Bool.{false}
use Prim.Native.Nat.{ℕ, suc, ◌+◌, ◌-◌, ◌*◌}
use native.Mathlib.Omega.{arith}
use lib.IntN.{pos, negsuc}
use lib.Ieee.{fin, binary64, le, lt, of_bits}
use lib.Ieee.Bits.{of_bits-fits}
use Rattle.refusals.specs.Outcome.{answer, onward}
use Rattle.calendar.specs.declared.CalendarDate.{CalendarDate}
use Rattle.calendar.specs.Calendar.{date, date_of, leap_size, lengths, days_in_month}
use Rattle.calendar.specs.Refusals.{valid_date}
use Rattle.calendar.specs.DayCount.{mjd_of, mjd_number, civil_count}
use Rattle.calendar.proofs.Mjd.{date-of-mjd}
use Rattle.julian.specs.declared.JulianDate.{JulianDate}
use Rattle.julian.specs.JulianDate.{julian}
use Rattle.leap_table.specs.rows.Table.{Row, row, fixed, starts, reached, month_number}
use Rattle.leap_table.specs.offsets.Offset.{row_at}
use Rattle.utc_scales.specs.drift.Drift.{row_on, NoStep, DriftDate, drift_ps, OnLine}
use Rattle.utc_scales.proofs.round_trip.DaySeconds.{date-of}
use Rattle.utc_scales.proofs.drift.Drift.{utc-to-tai-on-line}

pub same_row : (n : ℕ) → row_on (suc n) ≡ row_on n → NoStep n
same_row n e = record {
  same = subst
      (λ (r : Row). r.units * 1000 + (n - 2400000) * r.rate + (row_on n).start * (row_on n).rate ≡ (row_on n).units * 1000 + (n - 2400000) *
      (row_on n).rate + r.start * r.rate) (sym e) refl;
}

-- ---- the row of a date
by-date : (n : ℕ) (t : CalendarDate) → date_of (pos n) ≡ t → row_on n ≡ row_at (reached (starts fixed) (month_number t.year t.month))
unfolding row_on
by-date n t e = ap (λ (x : CalendarDate). row_at (reached (starts fixed) (month_number x.year x.month))) e

mjd-first : mjd_of (pos 1961) (pos 12) (pos 31) ≡ answer (pos 37664)
unfolding mjd_of mjd_number civil_count valid_date days_in_month lengths leap_size onward
mjd-first = refl

mjd-next : mjd_of (pos 1962) (pos 1) (pos 1) ≡ answer (pos 37665)
unfolding mjd_of mjd_number civil_count valid_date days_in_month lengths leap_size onward
mjd-next = refl

date-first : date_of (pos 2437665) ≡ date (pos 1961) 12 31
date-first = sym (date-of 2437665 (omega arith)) ∙ date-of-mjd (pos 1961) (pos 12) (pos 31) (pos 37664) mjd-first refl

date-next : date_of (pos 2437666) ≡ date (pos 1962) 1 1
date-next = sym (date-of 2437666 (omega arith)) ∙ date-of-mjd (pos 1962) (pos 1) (pos 1) (pos 37665) mjd-next refl

row_first : row_on 2437665 ≡ row 1961 8 13728180 37300 12960000
unfolding month_number reached fixed
row_first = by-date 2437665 (date (pos 1961) 12 31) date-first

row_next : row_on 2437666 ≡ row 1962 1 18458580 37665 11232000
unfolding month_number reached fixed
row_next = by-date 2437666 (date (pos 1962) 1 1) date-next

-- two rows, and no step between them
pub last-of-1961 : NoStep 2437665
last-of-1961 = record {
  same = subst₂
      (λ (r s : Row). s.units * 1000 + 37665 * s.rate + r.start * r.rate ≡ r.units * 1000 + 37665 * r.rate + s.start * s.rate) (sym row_first)
      (sym row_next) refl;
}

-- its 6h UTC: 2437664.5 and 0.25
abbrev six : JulianDate
six = julian (fin false 4875329 (negsuc 0)) (fin false 1 (negsuc 1))

six-date : DriftDate 2437665 six
unfolding le lt of_bits
six-date = record {
  first_held = of_bits-fits binary64 0x4142_9910_4000_0000;
  second_held = of_bits-fits binary64 0x3fd0_0000_0000_0000;
  midnight = record { sign = false; size = 4875329; has = (refl, refl); is = refl };
  inside = record { low = tt; high = tt };
  low = omega arith;
  high = omega arith;
}

pub at_six : OnLine drift_ps 2437665 six
at_six = utc-to-tai-on-line 2437665 six-date last-of-1961
