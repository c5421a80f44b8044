-- The values of an answer as bytes, little-endian, in the order of its fields. Written from docs/DECISIONS.md 24: floats as the 8 bytes of their bits, a NaN as
-- 7ff8000000000000; year, month and day as 4 bytes each, in two's complement. Assumes nothing.
use Rattle.std.specs.Prelude.{ℕ, List, ◌++◌, Float}
use Rattle.std.specs.Float.{binary64}
use Rattle.std.specs.Float.Ieee.{to_bits}
use Rattle.numerals.specs.little_endian.LittleEndian.{eight_bytes, pattern_of}
pub use Rattle.numerals.specs.little_endian.LittleEndian.{four_bytes}
use Rattle.calendar.specs.declared.CalendarDate.{CalendarDate}
use Rattle.julian.specs.declared.JulianDate.{JulianDate}
use Rattle.julian.specs.declared.CalendarFields.{CalendarFields}

abbrev pub float_bytes : Float → List ℕ
float_bytes x = eight_bytes (to_bits binary64 x)

unfoldable pub date_bytes : CalendarDate → List ℕ
date_bytes t = four_bytes (pattern_of t.year) ++ (four_bytes t.month ++ four_bytes t.day)

unfoldable pub julian_bytes : JulianDate → List ℕ
julian_bytes d = float_bytes d.jd1 ++ float_bytes d.jd2

unfoldable pub calendar_bytes : CalendarFields → List ℕ
calendar_bytes f = date_bytes f.date ++ float_bytes f.fraction
