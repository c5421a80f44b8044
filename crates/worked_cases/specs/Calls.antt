-- The calls that document 01's worked cases make, and the answer of each by the definitions that the contracts cite: what holds of these answers holds of the
-- program, since the `ensures` of each call says that its answer is this one. Written from document 01, "Stamps on each side" and "Refusals by number".
-- Assumes nothing.
use Rattle.std.specs.Prelude.{ℕ, List, replicate, ℤ, Float}
use Rattle.refusals.specs.Outcome.{Outcome, answer, onward}
use Rattle.floats.specs.Whole.{nearest_int}
use Rattle.julian.specs.declared.JulianDate.{JulianDate}
use Rattle.julian.specs.declared.CalendarFields.{CalendarFields}
use Rattle.julian.specs.JulianDate.{julian}
use Rattle.julian.specs.Calendar.{calendar_to_julian, julian_to_calendar}
use Rattle.leap_table.specs.rows.Table.{fixed}
use Rattle.leap_table.specs.offsets.Offset.{tai_utc_offset}
use Rattle.scales.specs.Conversions.{Conversion}
use Rattle.scales.specs.Conversions as Scales
use Rattle.utc_scales.specs.to_ut1.UtcUt1.{utc_to_ut1}
use Rattle.utc.specs.FromCalendar.{utc_from_calendar}
use Rattle.utc.specs.UnixTime.{utc_new}
use Rattle.utc.specs.iso_texts.IsoText.{iso_text}
use Rattle.utc.specs.iso_texts.TextCall.{written, buffer_holds}
use Rattle.stamps.specs.Block.{block_of}

-- the calls that answer a UTC date: `utc_from_calendar` (year, month, day, hour, minute, second) and `UTC::new` (seconds, nanos); and a date given by its parts
pub data UtcCall : Type 0 where
  utc-from-calendar : ℤ → ℕ → ℕ → ℕ → ℕ → Float → UtcCall
  utc-new : ℤ → ℕ → UtcCall
  utc_parts : Float → Float → UtcCall

-- `calendar_to_julian` (year, month, day); `julian_to_calendar` (jd1, jd2); `get_tai_utc_offset` (year, month, day, fraction); a call that answers a UTC date;
-- `to_iso8601` of that date, into a buffer of so many zero bytes; `nearest_int`; a conversion that reads no table (jd1, jd2); `utc_to_ut1_with_dut1` (jd1, jd2,
-- DUT1); `block_stamps`
pub data Call : Type 0 where
  calendar-to-julian : ℤ → ℤ → ℤ → Call
  julian-to-calendar : Float → Float → Call
  get_tai_utc_offset : ℤ → ℤ → ℤ → Float → Call
  utc : UtcCall → Call
  to_iso8601 : UtcCall → ℕ → Call
  nearest-int : Float → Call
  convert : Conversion → Float → Float → Call
  utc-to-ut1 : Float → Float → Float → Call
  block_stamps : List ℕ → Call

-- what a call that does not refuse answers: jd1 and jd2; year, month, day and fraction; a float; what the buffer holds; or a count
pub data Value : Type 0 where
  parts : Float → Float → Value
  date_fields : ℤ → ℕ → ℕ → Float → Value
  float : Float → Value
  bytes : List ℕ → Value
  stamp_count : ℕ → Value

abbrev pub parts_value : JulianDate → Outcome Value
parts_value t = answer (parts t.jd1 t.jd2)

abbrev pub fields_value : CalendarFields → Outcome Value
fields_value c = answer (date_fields c.date.year c.date.month c.date.day c.fraction)

-- a text, or a refusal, into a buffer of n zero bytes
abbrev pub put : ℕ → Outcome (List ℕ) → Outcome Value
put n t = onward (written t n) (λ _. answer (bytes (buffer_holds t (replicate n 0))))

unfoldable pub utc_of : UtcCall → Outcome JulianDate
utc_of (utc-from-calendar y m d hour minute second) = utc_from_calendar fixed y m d hour minute second
utc_of (utc-new seconds nanos) = utc_new fixed seconds nanos
utc_of (utc_parts jd1 jd2) = answer (julian jd1 jd2)

unfoldable pub call_outcome : Call → Outcome Value
call_outcome (calendar-to-julian y m d) = onward (calendar_to_julian y m d) (λ t. parts_value t)
call_outcome (julian-to-calendar jd1 jd2) = onward (julian_to_calendar jd1 jd2) (λ c. fields_value c)
call_outcome (get_tai_utc_offset y m d fraction) = onward (tai_utc_offset fixed y m d fraction) (λ x. answer (float x))
call_outcome (utc u) = onward (utc_of u) (λ t. parts_value t)
call_outcome (to_iso8601 u n) = onward (utc_of u) (λ t. put n (iso_text fixed t))
call_outcome (nearest-int x) = answer (float (nearest_int x))
call_outcome (convert c jd1 jd2) = onward (Scales.answer_of c (julian jd1 jd2)) (λ t. parts_value t)
call_outcome (utc-to-ut1 jd1 jd2 dut1) = onward (utc_to_ut1 fixed (julian jd1 jd2) dut1) (λ t. parts_value t)
call_outcome (block_stamps block) = onward (block_of block) (λ n. answer (stamp_count n))
