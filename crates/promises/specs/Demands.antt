-- The three demands, sentence by sentence. `rows` are those of a table that is taken, the fixed ones and the announced. Written from the mission. Assumes
-- nothing.
use Rattle.std.specs.Prelude.{ℕ, ◌≤◌, ◌&&◌, false, true, List, ◌≡◌, T, Float, nat_abs, negsuc, pos, ℤ, length, Result, Err}
use Rattle.std.specs.Float.{binary64}
use Rattle.std.specs.Float.Ieee.{fits}
use Rattle.std.specs.Float.Ieee.Scale.{finite}
use Rattle.std.proofs.Math.IntN.{suc_ℤ}
use Rattle.std.specs.Int.Signed.{le_z, lt_z}
use Rattle.std.specs.Int.{w64}
use Rattle.std.proofs.Common.{SFits}
use Rattle.refusals.specs.declared.Refusal.{Refusal}
use Rattle.refusals.specs.Outcome.{Outcome, answer, onward, refusal, outcome}
use Rattle.floats.specs.Whole.{nought}
use Rattle.calendar.specs.Calendar.{Counted, date, date_of, next}
use Rattle.calendar.specs.DayCount.{MjdMeaning, mjd_of}
use Rattle.calendar.specs.Gregorian.{gregorian_date}
use Rattle.calendar.specs.InCalendar.{InCalendar}
use Rattle.calendar.specs.Refusals.{valid_date}
use Rattle.calendar.specs.declared.CalendarDate.{CalendarDate}
use Rattle.julian.specs.Calendar.{calendar_to_julian, fields, julian_to_calendar}
use Rattle.julian.specs.Finite.{finite_parts}
use Rattle.julian.specs.Worth.{SmallParts}
use Rattle.julian.specs.day_number.ExactDay.{GridSumInRange, OnGrid, exact_day, exact_fraction, fraction_of, grid_sum}
use Rattle.julian.specs.declared.JulianDate.{JulianDate}
use Rattle.leap_table.specs.declared.offsets.Rule.{Rule}
use Rattle.leap_table.specs.declared.rows.AnnouncedRows.{AnnouncedRows}
use Rattle.leap_table.specs.offsets.Leap.{leap_at_end_of_day}
use Rattle.leap_table.specs.offsets.Offset.{row_at, tai_utc_offset}
use Rattle.leap_table.specs.offsets.Rule.{offset_by_rule}
use Rattle.leap_table.specs.rows.Announced.{table_of}
use Rattle.leap_table.specs.rows.Table.{Row, fixed, month_of, reached, starts}
use Rattle.leap_days.specs.Formula.{NearFormula}
use Rattle.leap_days.specs.Tables.{EveryTable}
use Rattle.scales.specs.Conversions.{Conversion, offset_of}
use Rattle.scales.specs.laws.Meaning.{Right}
use Rattle.scales.specs.laws.Ranges.{Billion, FiniteParts, HalfDay, Held, Practical}
use Rattle.utc_scales.specs.laws.Claims.{Any, Holds, SixOrOne, WithTable}
use Rattle.utc_scales.specs.laws.Twenty.{Twenty, announced_answer, given_offset, numbers_of, reads_table}
use Rattle.utc_scales.specs.round_trip.Ranges.{HalfDaySplit}
use Rattle.utc_scales.specs.round_trip.Relation.{RightTai, RightUtc}
use Rattle.utc_scales.specs.round_trip.Steps.{published_rates, published_steps, rates, steps}
use Rattle.utc_scales.specs.round_trip.UtcDays.{ExactDay}
use Rattle.utc_scales.specs.ut1_laws.Back.{NoLeapNear, RightUtcOfUt1}
use Rattle.utc_scales.specs.ut1_laws.Ut1.{RightUt1}
use Rattle.utc.specs.FromCalendar.{utc_from_calendar}
use Rattle.utc.specs.UnixTime.{utc_new}
use Rattle.utc.specs.iso_texts.ByRule.{TextRuleCall, text_by_rule}
use Rattle.utc.specs.iso_texts.IsoText.{standard_form}
use Rattle.utc.specs.iso_texts.TextForm.{TextForm}
use Rattle.utc.specs.laws.Ladder.{Decided}
use Rattle.utc.specs.laws.Ladders.{from_calendar_ladder, leap_ladder, new_ladder, offset_ladder, text_call_ladder}
use Rattle.utc.specs.laws.OneText.{OneText}
use Rattle.utc.specs.laws.Shows.{promise01}
use Rattle.worked_cases.specs.Cases.{answers, expectations, starred}
use Rattle.promises.specs.Terms.{EachText, SmallDut1}

-- 1. refused by number, and always an end
pub record Demand1 (t : AnnouncedRows) (rows : List Row) : Type 0 where
  -- "If a date's part or an offset is not finite, every scale conversion, calendar call and text call refuses it by number."
  pub conversions_refuse : (k : Twenty) (d : JulianDate) → Held d → finite_parts d && finite (given_offset k) ≡ false
      → (n : ℕ) × (announced_answer t k d ≡ refusal n)
  pub calendar_refuses : (x y : Float) → finite x && finite y ≡ false → julian_to_calendar x y ≡ refusal 6
  pub texts_refuse : (d : JulianDate) → finite d.jd1 && finite d.jd2 ≡ false → EachText rows (λ text. text d ≡ refusal 6)
  -- "For all other input too, each call ends with an answer or with document 01's refusal": that it ends is part of each contract; by which number, exactly
  pub conversions_answer : (k : Twenty) (d : JulianDate) → Held d → Holds Any (WithTable (reads_table k) (numbers_of k)) (announced_answer t k d)
  pub calendar_answers : (x y : Float) (n : ℕ) → julian_to_calendar x y ≡ refusal n → n ≡ 6
  pub texts_answer : (form : TextForm) (d : JulianDate) (before after : List ℕ) (r : Result (ℕ × Rule) Refusal)
      → TextRuleCall (onward (table_of t) (λ l. text_by_rule form l d)) before r after → Decided (outcome r)
      (text_call_ladder form t d (length before))
  pub offset_answers : (y m d : ℤ) (f : Float) → Decided (onward (table_of t) (λ l. offset_by_rule l y m d f)) (offset_ladder t y m d f)
  pub leap_answers : (y m d : ℤ) → Decided (onward (table_of t) (λ l. leap_at_end_of_day l y m d)) (leap_ladder t y m d)
  pub fields_answer : (y : ℤ) (m d hour minute : ℕ) (second : Float)
      → Decided (onward (table_of t) (λ l. utc_from_calendar l y m d hour minute second)) (from_calendar_ladder t y m d hour minute second)
  pub unix_answers : (z : ℤ) (nanos : ℕ) → SFits w64 z → Decided (onward (table_of t) (λ l. utc_new l z nanos)) (new_ladder t z nanos)
  -- "and a refused text call changes no byte of its buffer."
  pub text_stays : (o : Outcome (List ℕ × Rule)) (before after : List ℕ) (k : Refusal) → TextRuleCall o before (Err k) after → after ≡ before
  -- "Where both parts are under 2^52 in size and offsets at most 10^9 s in size, no conversion hands out a NaN or an infinity."
  pub finite_answers : (k : Twenty) (d : JulianDate) → SmallParts d → Billion (given_offset k)
      → Holds FiniteParts (WithTable (reads_table k) SixOrOne) (announced_answer t k d)

-- 2. against ISO 8601, the IERS table and SOFA. That each answer equals the Rust's bit for bit is said by the contracts, whose definitions are the Rust's
-- expressions, operation by operation, and by comparing the two by running.
pub record Demand2 (t : AnnouncedRows) (rows : List Row) : Type 0 where
  -- "calendar, TAI-UTC and scale formulas are proved against definitions from ISO 8601": day 2451545 is 2000-01-01, each number one more is the next date, no
  -- other sequence is so, and both ways of the library are that count
  pub anchor : date_of (pos 2451545) ≡ date (pos 2000) 1 1
  pub step : (n : ℤ) → Counted n → date_of (suc_ℤ n) ≡ next (date_of n)
  pub no_other : (f : ℤ → CalendarDate) → ((n : ℤ) → Counted n → InCalendar (f n)) → ((n : ℤ) → Counted n → f (suc_ℤ n) ≡ next (f n))
      → f (pos 2451545) ≡ date (pos 2000) 1 1 → (n : ℤ) → Counted n → f n ≡ date_of n
  pub to_date : (n : ℤ) → lt_z n (negsuc 68568) ≡ false → lt_z (pos 1000000000) n ≡ false → gregorian_date n ≡ date_of n
  pub to_day : (y m d : ℤ) → valid_date y m d ≡ answer tt → MjdMeaning y m d
  -- "the IERS table": its steps and rates; the fixed rows, then the announced; the drift to 10^-12 s, from 1972 whole seconds; each leap the step of the row
  -- that begins on the next day
  pub steps_told : steps fixed ≡ published_steps
  pub rates_told : rates fixed ≡ published_rates
  pub table : EveryTable t rows
  pub drift : (y : ℕ) (m d : ℤ) (f x : Float) → 1960 ≤ y → y ≤ 1971 → T (fits binary64 f) → tai_utc_offset fixed (pos y) m d f ≡ answer x
      → (j : ℕ) × (mjd_of (pos y) m d ≡ answer (pos j)) × NearFormula (row_at (reached (starts fixed) (month_of y (nat_abs m)))) j f x
  -- "and SOFA": to picoseconds of SOFA's relations in exact fractions; those that read the table from 1972 on, UT1 to UTC where no leap second is near
  pub formulas : (k : Conversion) (d : JulianDate) → Practical d → HalfDay (offset_of k) → Right k d
  pub utc-to-tai : {d : JulianDate} → HalfDaySplit d → RightTai rows 77 d
  pub tai-to-utc : {d : JulianDate} → HalfDaySplit d → RightUtc rows 173 d
  pub utc-to-ut1 : {d : JulianDate} → HalfDaySplit d → (dut1 : Float) → SmallDut1 dut1 → RightUt1 rows 87 d dut1
  pub ut1-to-utc : {d : JulianDate} {n : ℕ} → HalfDaySplit d → ExactDay d n → NoLeapNear rows n → (dut1 : Float) → SmallDut1 dut1
      → RightUtcOfUt1 rows 10 d dut1
  -- "A date up to Julian date 10^9 turned into a Julian date and back is the same date with fraction exactly 0.0."
  pub there_and_back : (y m d n : ℤ) → mjd_of y m d ≡ answer n → le_z n (pos 997599999) ≡ true
      → onward (calendar_to_julian y m d) (λ j. julian_to_calendar j.jd1 j.jd2) ≡ answer (fields (date y (nat_abs m) (nat_abs d)) nought)

-- 3. one answer for all divisions of a date
pub record Demand3 (rows : List Row) : Type 0 where
  -- "Whichever two parts a Julian date is divided into, if both are multiples of 2^-52 day under 2^52 in size and their exact sum is from -68569.5 to 10^9, the
  -- calendar answer is that sum's exact day and exact fraction."
  pub calendar : (x y : Float) → T (fits binary64 x) → T (fits binary64 y) → (a : OnGrid x) (b : OnGrid y) → GridSumInRange (grid_sum a b)
      → julian_to_calendar x y ≡ answer (fields (date_of (exact_day (grid_sum a b))) (fraction_of (exact_fraction (grid_sum a b))))
  -- "All such divisions of one date are alike in UTC text for buffers of one length: the same text, or the same refusal, which is 1 exactly when the exact
  -- day's year is before -4799, otherwise 11 exactly when the text is longer than the buffer, and none other of document 01's numbers. The text shows the exact
  -- day or the next day's midnight, and the time shown is within 0.501 ms of the exact one, counted on document 01's day length."
  pub text : (sum : ℤ) → GridSumInRange sum → OneText standard_form promise01 rows sum

-- document 01's sixteen starred cases: what each call answers is what the paper says
pub record StarredCases : Type 0 where
  pub sixteen : length starred ≡ 16
  pub answered : answers starred ≡ expectations starred
