-- What the digits of a text that we write say, as the reader is to answer it. Written from document 02, item 1: "Every UTC text that we write and whose shown
-- year is 1972 to 9999 reads back as its fields"; the digits are read by `read_year` and its like (utc::text, specs/ReadBack.antt), which know nothing of this
-- reader. Assumes nothing.
use Rattle.std.specs.Prelude.{◌≡◌, false, List, ℕ, ◌+◌, ◌*◌, ◌≤◌, pos}
use Rattle.std.specs.Int.Signed.{lt_z}
use Rattle.refusals.specs.Outcome.{answer}
use Rattle.constants.specs.Constants.{decimal}
use Rattle.calendar.specs.declared.CalendarDate.{CalendarDate}
use Rattle.julian.specs.declared.JulianDate.{JulianDate}
use Rattle.leap_table.specs.rows.Table.{Row}
use Rattle.time_of_day.specs.declared.TimeOfDay.{TimeOfDay}
use Rattle.utc.specs.text.Text.{utc_text}
use Rattle.utc.specs.text.ReadBack.{read_year, read_month, read_day, read_hour, read_minute, read_second, read_milli}
use Rattle.utc.specs.iso_texts.TextForm.{TextForm}
use Rattle.utc.specs.FromCalendar.{utc_from_calendar}
use Rattle.parsing.specs.declared.ParsedDateTime.{ParsedDateTime}
use Rattle.parsing.specs.declared.ParsedUtc.{ParsedUtc}
use Rattle.parsing.specs.Parsed.{parsed_utc}

-- the six fields that the text s shows; the second and the milliseconds are one decimal, rounded once
abbrev pub fields_shown : List ℕ → ParsedDateTime
fields_shown s = record {
  year = read_year s;
  month = read_month s;
  day = read_day s;
  hour = read_hour s;
  minute = read_minute s;
  second = decimal (1000 * read_second s + read_milli s) 3;
}

-- fields and the date that they name
abbrev pub with_date : ParsedDateTime → JulianDate → ParsedUtc
with_date f jd = record { fields = f; date = record { 0 = jd } }

-- "whose shown year is 1972 to 9999"
pub record YearShown (s : List ℕ) : Type 0 where
  pub from : lt_z (read_year s) (pos 1972) ≡ false
  pub to : lt_z (pos 9999) (read_year s) ≡ false

-- in a table of rows the text s is read as the fields that it shows, with the date that `utc_from_calendar` has for them
pub record ReadsBack (rows : List Row) (s : List ℕ) : Type 0 where
  pub date : JulianDate
  pub accepted : utc_from_calendar rows (read_year s) (read_month s) (read_day s) (read_hour s) (read_minute s)
      (decimal (1000 * read_second s + read_milli s) 3) ≡
      answer date
  pub read : parsed_utc rows s ≡ answer (with_date (fields_shown s) date)

-- a form of text that writes the years of four digits as document 01's does
abbrev pub FourDigits : TextForm → Type 0
FourDigits textForm = (d : CalendarDate) (u : TimeOfDay) (y : ℕ) → d.year ≡ pos y → y ≤ 9999 → textForm.write d u ≡ utc_text d u
