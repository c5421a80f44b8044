-- What demands 1 to 3 and document 02, items 9 and 14, ask of the calendar call and of stamps. Written from the mission and document 02. Assumes nothing.
use Rattle.std.specs.Prelude.{◌≡◌, ◌&&◌, false, true, ◌↔◌, ℕ, T, ℤ, nat_abs, pos, Float}
use Rattle.std.specs.Int.Signed.{le_z}
use Rattle.std.specs.Float.{binary64}
use Rattle.std.specs.Float.Ieee.{fits}
use Rattle.std.specs.Float.Ieee.Scale.{finite}
use Rattle.refusals.specs.Outcome.{answer, onward, refusal}
use Rattle.floats.specs.Whole.{nought}
use Rattle.calendar.specs.Calendar.{date, date_of}
use Rattle.calendar.specs.DayCount.{mjd_of}
use Rattle.julian.specs.declared.JulianDate.{JulianDate}
use Rattle.julian.specs.declared.CalendarFields.{CalendarFields}
use Rattle.julian.specs.declared.same_stamps.Stamp.{Stamp}
use Rattle.julian.specs.Calendar.{calendar_to_julian, fields, julian_to_calendar}
use Rattle.julian.specs.Equality.{equal}
use Rattle.julian.specs.Finite.{finite_parts}
use Rattle.julian.specs.Worth.{SmallParts}
use Rattle.julian.specs.day_number.ExactDay.{GridSumInRange, OnGrid, exact_day, exact_fraction, fraction_of, grid_sum}
use Rattle.julian.specs.laws.CalendarAnswers.{DayPlusFraction}
use Rattle.julian.specs.same_stamps.Same.{julian_of, same}
use Rattle.julian.specs.same_stamps.TwoSum.{NoOverflow}

-- a part that is not finite is 6
abbrev pub CalendarRefuses : Float → Float → Type 0
CalendarRefuses x y = finite x && finite y ≡ false → julian_to_calendar x y ≡ refusal 6

-- no other number comes
abbrev pub CalendarBySix : Float → Float → Type 0
CalendarBySix x y = (n : ℕ) → julian_to_calendar x y ≡ refusal n → n ≡ 6

-- two parts on the grid: the exact day and the exact fraction of their exact sum
abbrev pub ExactDate : Type 0
ExactDate = (x y : Float) → T (fits binary64 x) → T (fits binary64 y) → (a : OnGrid x) (b : OnGrid y) → GridSumInRange (grid_sum a b)
    → julian_to_calendar x y ≡ answer (fields (date_of (exact_day (grid_sum a b))) (fraction_of (exact_fraction (grid_sum a b))))

-- a date up to Julian date 10^9, of modified Julian day n, to a Julian date and back
abbrev pub SameDateBack : ℤ → ℤ → ℤ → ℤ → Type 0
SameDateBack y m d n = mjd_of y m d ≡ answer n → le_z n (pos 997599999) ≡ true
    → onward (calendar_to_julian y m d) (λ j. julian_to_calendar j.jd1 j.jd2) ≡ answer (fields (date y (nat_abs m) (nat_abs d)) nought)

-- any parts under 2^52 that are accepted: within 2^-51 day of the exact sum plus one half
abbrev pub NearExactDate : JulianDate → Type 0
NearExactDate j = SmallParts j → (f : CalendarFields) → julian_to_calendar j.jd1 j.jd2 ≡ answer f → DayPlusFraction j f

-- the same stamp is one with the same scale and bits, since a stamp holds the patterns of its parts
abbrev pub SameIsAlike : Stamp → Stamp → Type 0
SameIsAlike a b = (same a b ≡ true) ↔ (a ≡ b)

-- the same stamp is equal by document 01's test where its two-sum does not overflow
abbrev pub SameIsEqual : Stamp → Stamp → Type 0
SameIsEqual a b = same a b ≡ true → finite_parts (julian_of a) ≡ true → NoOverflow (julian_of a).jd1 (julian_of a).jd2
    → equal (julian_of a) (julian_of b) ≡ true
