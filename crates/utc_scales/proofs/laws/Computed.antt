-- The four conversions that read the table, in a form that a check computes: the date of a day number by the Rust's divisions, where the calendar's definition
-- counts day by day. The same answers. Assumes nothing.
use mathlib.Core.Path.{◌≡◌, refl, sym, ◌∙◌}
use mathlib.Core.Bool.{cond}
use mathlib.Core.List.{List}
use Prim.Native.Nat.{ℕ, zero, suc, ◌+◌}
use lib.IntN.{pos, negsuc}
use lib.Ieee.{Float, binary64, round, of_bits, of_int, add, sub, mul, div, neg, lt, le, eq}
use Rattle.refusals.specs.Outcome.{Outcome, answer, onward}
use Rattle.floats.specs.Whole.{abs, half}
use Rattle.constants.specs.Constants.{seconds_per_day, mjd_zero_point}
use Rattle.calendar.specs.Calendar.{next, leap_size, lengths, days_in_month}
use Rattle.calendar.specs.Refusals.{valid_date, next_of}
use Rattle.calendar.specs.DayCount.{civil_count, mjd_number, mjd_of}
use Rattle.julian.specs.day_number.Answer.{day_number_and_fraction}
use Rattle.julian.specs.declared.JulianDate.{JulianDate}
use Rattle.julian.specs.declared.CalendarFields.{CalendarFields}
use Rattle.julian.specs.JulianDate.{julian}
use Rattle.julian.specs.Finite.{finite_jd, finite_arg}
use Rattle.julian.specs.Calendar.{fields, calendar_to_julian, julian_to_calendar}
use Rattle.julian.proofs.laws.Divisions.{divided_date, divided-date}
use Rattle.julian.proofs.laws.Literals.{literal_date, literal_date_is}
use Rattle.leap_table.specs.rows.Table.{Row, fixed, month_number, reached}
use Rattle.leap_table.specs.offsets.Offset.{seconds_of, start_of, rate_of, by_row, offset_by, offset_at, in_day, tai_utc_offset}
use Rattle.leap_table.specs.offsets.Leap.{day_offsets, drift_rate, leap_amount}
use Rattle.julian.specs.shifts.SmallerPart as Shifts
use Rattle.julian.specs.shifts.Shifts.{plus, minus, days_of, changed, converted_by, finite_both, finite_offset}
use Rattle.scales.specs.Conversions.{answer_of, tai-ut1}
use Rattle.utc_scales.specs.days.LargerPart.{first_is_kept, kept_parts, put_beside, placed, change_smaller}
use Rattle.utc_scales.specs.days.Dates.{offset_at0h, offsets_of, midnight_of, offset_of_date}
use Rattle.utc_scales.specs.UtcTai.{stretch_day_fraction, tai_from_midnight, tai_fraction, utc_to_tai, moved, refined, rounds, refine_utc_fraction, tai_to_utc}
use Rattle.utc_scales.specs.from_ut1.Ut1Utc.{Scanned, noStep, step, before_step, time_past_leap, at_most_one, after_step, near_step, scan_day, until_step}
use Rattle.utc_scales.specs.from_ut1.Ut1Utc.{scan, adjust_dut1, utc_fraction, ut1_to_utc}
use Rattle.utc_scales.specs.to_ut1.UtcUt1.{utc_to_ut1}
use Rattle.utc_scales.specs.laws.Twenty.{Twenty, by-formula, utc_tai, tai_utc, utc-ut1, ut1-utc, answer_of_any}

-- a calendar: what `julian_to_calendar` is
abbrev Calendar : Type 0
Calendar = Float → Float → Outcome CalendarFields

unfoldable by_division : Calendar
by_division x y = onward (day_number_and_fraction x y) (λ n. answer (fields (divided_date n.day) n.fraction))

divided_is : (x y : Float) → julian_to_calendar x y ≡ by_division x y
unfolding julian_to_calendar by_division
divided_is x y = (λ i. onward (day_number_and_fraction x y) (λ n. answer (fields (divided-date n.day i) n.fraction)))

-- ---- the definitions of utc_scales, by rows and a calendar
module _ (rows : List Row) where
  unfoldable tai_by : Calendar → Float → Float → Outcome Float
  tai_by cal big small =
      onward (cal big small) (λ c.
      onward (offsets_of rows c.date) (λ o.
      onward (midnight_of c.date) (λ z.
      answer (tai_from_midnight big z o c.fraction))))

  unfoldable utc_to_tai_by : Calendar → JulianDate → Outcome JulianDate
  utc_to_tai_by cal d = change_smaller (tai_by cal) d

  unfoldable rounds_by : Calendar → Float → Float → ℕ → Float → Outcome Float
  rounds_by cal big small zero guess = answer guess
  rounds_by cal big small (suc k) guess =
      onward (onward (utc_to_tai_by cal (julian big guess)) (λ tai. answer (moved big small guess tai))) (rounds_by cal big small k)

  unfoldable offset_in : Calendar → Float → Float → Outcome Float
  offset_in cal jd1 jd2 = onward (cal jd1 jd2) (λ c. offset_at0h rows c.date)

  unfoldable scan_day_by : Calendar → Float → Float → Float → Float → Float → Outcome Scanned
  scan_day_by cal big small dut1 i before =
      onward (cal big (add binary64 small i)) (λ c.
      onward (offset_at0h rows c.date) (λ x.
      cond (lt (abs (sub binary64 x before)) half) (answer (noStep x))
      (onward (midnight_of c.date) (λ z. answer (step (near_step big small dut1 (sub binary64 x before) z))))))

  unfoldable scan_by : Calendar → Float → Float → Float → ℕ → ℕ → Float → Outcome Float
  scan_by cal big small dut1 zero i before = answer dut1
  scan_by cal big small dut1 (suc k) i before =
      onward (scan_day_by cal big small dut1 (of_int binary64 (pos i)) before) (until_step (scan_by cal big small dut1 k (i + 1)))

  unfoldable utc_by : Calendar → Float → Float → Float → Outcome Float
  utc_by cal dut1 big small =
      onward (onward (offset_in cal big (add binary64 small (of_int binary64 (negsuc 0)))) (scan_by cal big small dut1 4 0))
      (λ x. answer (sub binary64 small (div binary64 x seconds_per_day)))

  unfoldable answer_by : Calendar → Twenty → JulianDate → Outcome JulianDate
  answer_by cal (by-formula k) d = answer_of k d
  answer_by cal utc_tai d = utc_to_tai_by cal d
  answer_by cal tai_utc d = change_smaller (λ big small. rounds_by cal big small 3 small) d
  answer_by cal (utc-ut1 dut1) d =
      onward (finite_arg dut1) (λ _.
      onward (utc_to_tai_by cal d) (λ tai.
      onward (offset_in cal d.jd1 d.jd2) (λ x.
      answer_of (tai-ut1 (sub binary64 dut1 x)) tai)))
  answer_by cal (ut1-utc dut1) d = onward (finite_arg dut1) (λ _. onward (finite_jd d) (change_smaller (utc_by cal dut1)))

  -- by the calendar's own function they are the calls' answers
  by_calendar : (c : Twenty) (d : JulianDate) → answer_of_any rows c d ≡ answer_by julian_to_calendar c d
  unfolding answer_of_any answer_by utc_to_tai_by tai_by rounds_by offset_in scan_day_by scan_by utc_by utc_to_tai tai_fraction tai_to_utc refine_utc_fraction
      rounds refined
      utc_to_ut1 offset_of_date ut1_to_utc utc_fraction adjust_dut1 scan scan_day
  by_calendar (by-formula k) d = refl
  by_calendar utc_tai d = refl
  by_calendar tai_utc d = refl
  by_calendar (utc-ut1 dut1) d = refl
  by_calendar (ut1-utc dut1) d = refl

  -- ---- as a check computes them
  unfoldable pub computed : Twenty → JulianDate → Outcome JulianDate
  unfolding answer_by by_division utc_to_tai_by tai_by rounds_by offset_in scan_day_by scan_by utc_by divided_date day_number_and_fraction onward
      fixed month_number reached seconds_of start_of rate_of by_row offset_by offset_at in_day tai_utc_offset day_offsets drift_rate leap_amount mjd_of
      mjd_number civil_count
      valid_date next_of next days_in_month leap_size lengths
      offset_at0h offsets_of midnight_of calendar_to_julian first_is_kept kept_parts put_beside placed change_smaller stretch_day_fraction tai_from_midnight
      moved
      before_step time_past_leap at_most_one after_step near_step until_step
      finite_jd finite_arg answer_of converted_by finite_both finite_offset changed Shifts.first_is_larger Shifts.parts_of Shifts.put_back
      Shifts.map_smaller_part plus
      minus days_of seconds_per_day mjd_zero_point
      abs round of_bits of_int add sub mul div neg lt le eq
  computed c d = literal_date (answer_by by_division c d)

  pub as_computed : (c : Twenty) (d : JulianDate) → answer_of_any rows c d ≡ computed c d
  unfolding computed
  as_computed c d = by_calendar c d ∙ (λ i. answer_by (λ x y. divided_is x y i) c d) ∙ sym (literal_date_is (answer_by by_division c d))
