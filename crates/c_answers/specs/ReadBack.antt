-- The fields of an answer, read back by a C caller at the offsets of include/celestial_time.h, from which it is written: whole numbers as 4 bytes, a year with
-- its sign, floats as 8 bytes. Assumes nothing.
use Rattle.std.specs.Prelude.{ℕ, ◌+◌, ◌≡◌, List, Float}
use Rattle.std.specs.Float.{binary64}
use Rattle.std.specs.Float.Ieee.{of_bits}
use Rattle.numerals.specs.little_endian.LittleEndian.{u32_at, u64_at, i32_at}
use Rattle.calendar.specs.declared.CalendarDate.{CalendarDate}
use Rattle.julian.specs.declared.JulianDate.{JulianDate}
use Rattle.julian.specs.declared.CalendarFields.{CalendarFields}

-- the float in the eight bytes from `at` on
abbrev pub float_at : List ℕ → ℕ → Float
float_at s at = of_bits binary64 (u64_at s at)

pub record DateBack (t : CalendarDate) (bytes : List ℕ) : Type 0 where
  pub year : i32_at bytes 0 ≡ t.year
  pub month : u32_at bytes 4 ≡ t.month
  pub day : u32_at bytes 8 ≡ t.day

-- from `at` on
pub record JulianBack (d : JulianDate) (bytes : List ℕ) (at : ℕ) : Type 0 where
  pub jd1 : float_at bytes at ≡ d.jd1
  pub jd2 : float_at bytes (at + 8) ≡ d.jd2

pub record CalendarBack (f : CalendarFields) (bytes : List ℕ) : Type 0 where
  pub date : DateBack f.date bytes
  pub fraction : float_at bytes 12 ≡ f.fraction
