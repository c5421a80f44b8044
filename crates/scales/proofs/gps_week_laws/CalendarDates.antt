-- Every week's date on the calendar: its day is exact, for every week and millisecond. Assumes nothing.
use Rattle.std.proofs.Common.{◌≡◌, ℕ, zero, suc, ◌+◌, ◌-◌, ◌*◌, ◌/◌, ◌%◌, ◌^◌, ◌<◌, ◌≤◌, false, ℤ, pos, ◌+ℤ◌, sym, refl, ap, ◌∙◌, subst, arith, lit<, lit≤}
use Rattle.std.proofs.Common.{le-ltb}
use lib.Ieee.{Float, binary64, round}
use lib.Ieee.Fits.{round-fits}
use Rattle.refusals.specs.Outcome.{answer, onward}
use Rattle.floats.specs.Whole.{nought}
use Rattle.rounding.proofs.Value.{val-move, val-scale}
use Rattle.calendar.specs.declared.CalendarDate.{CalendarDate}
use Rattle.calendar.specs.Calendar.{date_of}
use Rattle.calendar.specs.Gregorian.{gregorian_date}
use Rattle.calendar.proofs.Gregorian.{gregorian_is_date_of_day}
use Rattle.julian.specs.declared.day_number.DayNumber.{DayNumber}
use Rattle.julian.specs.day_number.Answer.{day_number_and_fraction}
use Rattle.julian.specs.day_number.ExactDay.{OnGrid, whole_days, exact_day, exact_day_number}
use Rattle.julian.proofs.day_number.ExactDay.{exact}
use Rattle.julian.proofs.day_number.Ends.{nought-grid, nought-fits}
use Rattle.julian.specs.declared.JulianDate.{JulianDate}
use Rattle.julian.specs.Calendar.{fields, julian_to_calendar}
use Rattle.scales.specs.gps_weeks.WeekDate.{week_midnight, part_of_day, day_in, week_date}
use Rattle.scales.specs.gps_weeks.WeekOf.{day_millis}
use Rattle.scales.proofs.gps_weeks.Parts.{midnight-val}
use Rattle.scales.specs.gps_week_laws.OnCalendar.{OnCalendar}
use Rattle.scales.proofs.gps_week_laws.RoundTrip as R

-- ---- midnight itself, which is on the grid
no_part : part_of_day 0 ≡ nought
unfolding part_of_day round
no_part = refl

midnight-grid : (n : ℕ) → 0 < n → n ≤ 3144252 → OnGrid (week_midnight n)
midnight-grid n h k =
    record {
      units = pos ((2 * n - 1) * 2 ^ 51);
      val = val-move (val-scale (2 ^ 51) (midnight-val n h (omega arith))) (omega arith);
      high = omega arith;
      low = lit< tt;
    }

module _ (n : ℕ) (h : 0 < n) (k : n ≤ 3144252) where
  at_midnight : day_number_and_fraction (week_midnight n) nought ≡ answer (exact_day_number (pos ((2 * n - 1) * 2 ^ 51) +ℤ pos 0))
  unfolding midnight-grid nought-grid week_midnight
  at_midnight = exact (week_midnight n) nought (round-fits binary64 false (2 * n - 1) 2) nought-fits (midnight-grid n h k) nought-grid
      (record { low = lit≤ tt; high = omega arith })

  day-there : exact_day (pos ((2 * n - 1) * 2 ^ 51) +ℤ pos 0) ≡ pos n
  unfolding whole_days
  day-there = ap pos (go ((2 * n - 1) * 2 ^ 51) refl)
    where
      go : (a : ℕ) → a ≡ (2 * n - 1) * 2 ^ 51 → (a + 0 + 2 ^ 51) / 2 ^ 52 ≡ n
      go a e = omega arith

module _ (n r : ℕ) (early : 2444245 ≤ n) (late : n ≤ 3144252) (short : r < 86400000) where
  number : DayNumber
  number = R.number n r early late short

  -- at midnight by the grid; after it, because no fraction has more milliseconds than a day
  exact-day : number.day ≡ pos n
  unfolding number
  exact-day = go r refl
    where
      go : (s : ℕ) → r ≡ s → number.day ≡ pos n
      go zero e =
          let s = pos ((2 * n - 1) * 2 ^ 51) +ℤ pos 0 in
          let q : answer number ≡ answer (exact_day_number s) = sym (R.given n r early late short)
          ∙ ap (λ (x : Float). day_number_and_fraction (week_midnight n) x) (ap part_of_day e ∙ no_part) ∙ at_midnight n (omega arith) late in
          let w : number ≡ exact_day_number s = cc in
          ap (λ (x : DayNumber). x.day) w ∙ day-there n (omega arith) late
      go (suc s) e =
          let k : (R.day n r early late short).0 ≡ n = omega (arith, R.count n r early late short, R.within-a-day n r early late short) in
          (R.day n r early late short).1 ∙ ap pos k

  exact-millis : day_millis number.fraction ≡ r
  unfolding number
  exact-millis =
      let q : pos (R.day n r early late short).0 ≡ pos n = sym (R.day n r early late short).1 ∙ exact-day in
      let k : (R.day n r early late short).0 ≡ n = cc in
      omega (arith, R.count n r early late short)

  on-day : julian_to_calendar (week_midnight n) (part_of_day r) ≡ answer (fields (date_of (pos n)) number.fraction)
  unfolding julian_to_calendar onward number
  on-day =
      rw (R.given n r early late short)
      (ap (λ (z : ℤ). answer (fields (gregorian_date z) number.fraction)) exact-day
      ∙ ap (λ (t : CalendarDate). answer (fields t number.fraction)) (gregorian_is_date_of_day (pos n) refl (le-ltb 1000000000 n (omega arith))))

-- every week's date is on its day of the calendar, with its milliseconds
pub on-calendar : (week ms : ℕ) (d : JulianDate) → week_date week ms ≡ answer d → OnCalendar week ms d
on-calendar week ms d e =
    let w = R.in-weeks week ms d e in
    let a = w.week-most in
    let b = w.below in
    let n = day_in week ms in
    let r = ms % 86400000 in
    subst (OnCalendar week ms) (sym w.is)
    (record {
      fraction = (number n r (omega arith) (omega arith) (omega arith)).fraction;
      given = on-day n r (omega arith) (omega arith) (omega arith);
      millis = exact-millis n r (omega arith) (omega arith) (omega arith);
    })
