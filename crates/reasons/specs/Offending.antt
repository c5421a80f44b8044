-- Which field a refusal's number names, of the values that document 01's test of that number reads. Written from document 02, item 13 ("It names the offending
-- field where there is one: 1 to 3 the wrong one, 4 the first wrong one, 6 the rounded sum, 7 the fraction, 8 the nanos, 9 the first bad part, 10 the offset,
-- 12 the second size, 13 the size, 14 the whole length; other numbers, and values that pass, name none"), and document 01's "Refusals by number". Each number
-- goes by its own test alone (docs/DECISIONS.md 69). That the tests are those of the calls that refuse is proved (stamps::reason_laws). Assumes nothing.
use Rattle.std.specs.Prelude.{ℕ, ◌+◌, ◌*◌, Bool, cond, not, ◌||◌, eqb, ltb, leb, ℤ, pos, negsuc, Float}
use Rattle.std.specs.Int.Signed.{lt_z}
use Rattle.std.specs.Float.Ieee.Scale.{finite}
use Rattle.calendar.specs.Calendar.{days_in_month}
use Rattle.julian.specs.day_number.DayNumber.{in_julian_range}
use Rattle.julian.specs.JulianDate.{julian, rounded_sum}
use Rattle.julian.specs.DayFraction.{time_in_day}
use Rattle.leap_table.specs.offsets.Offset.{in_day}
use Rattle.reasons.specs.declared.sentences.Named.{Named}
use Rattle.reasons.specs.declared.sentences.Named.TheVariants.{NoField, Year, Month, Day, Hour, Minute, Second, Sum, Fraction, Nanos, FirstPart}
use Rattle.reasons.specs.declared.sentences.Named.TheVariants.{SecondPart, Offset, SecondSize, Size, WholeLength}
use Rattle.reasons.specs.declared.Values.{Values}
use Rattle.reasons.specs.declared.Values.TheVariants.{NoValues, Date, Time, Parts, Number, Count, Block}

-- the field where its test fails
abbrev pub only_if : Bool → Named → Named
only_if wrong field = cond wrong field NoField

-- ---- a date: 1, 2, 3
unfoldable pub year_field : ℤ → Named
year_field y = only_if (lt_z y (negsuc 4798)) (Year y)

unfoldable pub month_field : ℤ → Named
month_field m = only_if (lt_z m (pos 1) || lt_z (pos 12) m) (Month m)

-- a month that is none has no day
unfoldable pub day_field : ℤ → ℤ → ℤ → Named
day_field y m d = only_if (lt_z d (pos 1) || lt_z (pos (days_in_month y m)) d) (Day d)

unfoldable pub date_field : ℕ → ℤ → ℤ → ℤ → Named
date_field k y m d = cond (eqb k 1) (year_field y) (cond (eqb k 2) (month_field m) (only_if (eqb k 3) (day_field y m d)))

-- ---- a time: 4, by the first of hour, minute and second that is wrong. `leap` is the day's length less 86,400 s
unfoldable pub time_field : ℕ → ℕ → Float → Float → Named
time_field hour minute second leap =
    cond (leb hour 23) (cond (leb minute 59) (only_if (not (time_in_day hour minute second leap)) (Second second)) (Minute minute)) (Hour hour)

-- ---- the two parts of a date: 6 by their rounded sum, 9 by the first that is not finite
unfoldable pub sum_field : Float → Float → Named
sum_field a b = only_if (not (in_julian_range (rounded_sum (julian a b)))) (Sum (rounded_sum (julian a b)))

unfoldable pub part_field : Float → Float → Named
part_field a b = cond (finite a) (only_if (not (finite b)) (SecondPart b)) (FirstPart a)

unfoldable pub parts_field : ℕ → Float → Float → Named
parts_field k a b = cond (eqb k 6) (sum_field a b) (only_if (eqb k 9) (part_field a b))

-- ---- one float: 7 a fraction of a day, 10 an offset
unfoldable pub float_field : ℕ → Float → Named
float_field k x = cond (eqb k 7) (only_if (not (in_day x)) (Fraction x)) (only_if (eqb k 10) (only_if (not (finite x)) (Offset x)))

-- ---- nanoseconds: 8
unfoldable pub nanos_field : ℕ → Named
nanos_field n = only_if (not (ltb n 1000000000)) (Nanos n)

-- ---- a block of so many bytes, with its two sizes: 12, 13, 14. A block under 8 bytes is not 8 + 16 * size bytes long, whatever its size
unfoldable pub block_field : ℕ → ℕ → ℕ → ℕ → Named
block_field k length size second =
    cond (eqb k 12) (only_if (not (eqb size second)) (SecondSize second))
    (cond (eqb k 13) (only_if (not (leb size 4000)) (Size size))
    (only_if (eqb k 14) (only_if (not (eqb length (8 + 16 * size))) (WholeLength length))))

-- the field that the number names, of the values that are given
unfoldable pub offending : ℕ → Values → Named
offending k NoValues = NoField
offending k (Date y m d) = date_field k y m d
offending k (Time hour minute second leap) = only_if (eqb k 4) (time_field hour minute second leap)
offending k (Parts a b) = parts_field k a b
offending k (Number x) = float_field k x
offending k (Count n) = only_if (eqb k 8) (nanos_field n)
offending k (Block length size second) = block_field k length size second
