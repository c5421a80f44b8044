-- What document 02, item 7, asks of GPS weeks: the way to a date and back, the week of its ten bits, and the refusals. Assumes nothing.
use Rattle.std.specs.Prelude.{◌≡◌, ℕ, ◌+◌, ◌*◌, ◌^◌, ◌<◌, ◌≤◌, ◌⊎◌, pos, from_bits}
use Rattle.std.specs.Float.{binary64}
use Rattle.std.specs.Float.Ieee.{div, of_int}
use Rattle.refusals.specs.Outcome.{answer, refusal}
use Rattle.constants.specs.Constants.{decimal}
use Rattle.calendar.specs.Calendar.{date, date_of}
use Rattle.julian.specs.declared.JulianDate.{JulianDate}
use Rattle.julian.specs.declared.day_number.DayNumber.{DayNumber}
use Rattle.julian.specs.JulianDate.{julian}
use Rattle.julian.specs.day_number.Answer.{day_number_and_fraction}
use Rattle.scales.specs.declared.gps_weeks.WeekTime.{WeekTime}
use Rattle.scales.specs.gps_weeks.FullWeek.{NearestWeek, Tie, full_week}
use Rattle.scales.specs.gps_weeks.WeekDate.{day_in, part_of_day, week_date}
use Rattle.scales.specs.gps_weeks.WeekOf.{day_millis, week_of, week_time}
use Rattle.scales.specs.gps_week_laws.NearDate.{OfCount}
use Rattle.scales.specs.gps_week_laws.OnCalendar.{OnCalendar}
use Rattle.scales.specs.gps_week_laws.Decisions.{FromWeek, ToWeek}

-- counted from 1980-01-06 0h: jd1 is the day's midnight, jd2 the day's milliseconds / 86,400,000, rounded once
pub record WeekToDate (week ms : ℕ) (d : JulianDate) : Type 0 where
  pub first-day : date_of (pos (day_in 0 0)) ≡ date (pos 1980) 1 6
  pub to_date : FromWeek week ms (week_date week ms)
  pub on_its_day : week_date week ms ≡ answer d → OnCalendar week ms d
  pub rounded_once : ms ≤ 2 ^ 53 → div binary64 (of_int binary64 (pos ms)) (decimal 86400000 0) ≡ part_of_day ms

-- by document 01's day and fraction, whose milliseconds are rounded halves up, as half a millisecond after the first midnight is, and carry into the next day
pub record DateToWeek (d : JulianDate) : Type 0 where
  pub way_back : (t : WeekTime) → week_of d ≡ answer t
      → (n : DayNumber) × (k : ℕ) × (day_number_and_fraction d.jd1 d.jd2 ≡ answer n) × (n.day ≡ pos k) × OfCount (k * 86400000 + day_millis n.fraction) t
  pub halves_up : week_of (julian (from_bits binary64 0x4142_a5ea_4000_0000) (from_bits binary64 0x3e38_daea_1d7f_4cf7)) ≡ answer (week_time 0 1)

-- w is answered exactly where it is the week with the ten bits that lies nearest the reference
pub record NearestGiven (bits reference w : ℕ) : Type 0 where
  pub nearest : full_week bits reference ≡ answer w → NearestWeek bits reference w × (w ≤ 99511)
  pub given : bits < 1024 → reference ≤ 99000 → NearestWeek bits reference w → full_week bits reference ≡ answer w

-- the pair of a date that was made of it
abbrev pub SamePairBack : ℕ → ℕ → JulianDate → Type 0
SamePairBack week ms d = week_date week ms ≡ answer d → week_of d ≡ answer (week_time week ms)

-- 9, then 6, then 18 for a date; 18 for a ten-bit week over its limits, and then 19 exactly where two weeks are equally near
pub record WeeksRefused (d : JulianDate) (bits reference : ℕ) : Type 0 where
  pub to_week : ToWeek d (week_of d)
  pub over : (1024 ≤ bits) ⊎ (99000 < reference) → full_week bits reference ≡ refusal 18
  pub tied : bits < 1024 → reference ≤ 99000 → Tie bits reference → full_week bits reference ≡ refusal 19
  pub ties_only : full_week bits reference ≡ refusal 19 → Tie bits reference
