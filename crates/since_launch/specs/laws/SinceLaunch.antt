-- What is asked of the milliseconds from the launch to a stamp of the same uniform scale. Assumes nothing.
use Rattle.std.specs.Prelude.{◌≡◌, ℕ, ◌*◌, ◌+◌, ◌-◌, ◌^◌, ◌≤◌}
use Rattle.std.specs.Float.{binary64}
use Rattle.std.specs.Float.Ieee.{of_bits}
use Rattle.refusals.specs.Outcome.{answer, refusal}
use Rattle.rounding.specs.Value.{L, minus_z, plus_z}
use Rattle.julian.specs.declared.JulianDate.{JulianDate}
use Rattle.julian.specs.JulianDate.{julian}
use Rattle.julian.specs.Worth.{SmallParts, Worth}
use Rattle.scales.specs.Conversions.{answer_of, gps-tai}
use Rattle.scales.specs.gps_weeks.WeekDate.{week_date}
use Rattle.scales.specs.laws.Meaning.{Apart}
use Rattle.since_launch.specs.Millis.{millis_from_to}
use Rattle.since_launch.specs.laws.GridDates.{GridDate, sum_of}
use Rattle.since_launch.specs.laws.NearestMillis.{MillisDecided}
use Rattle.since_launch.specs.laws.NearSums.{NearMillis}
use Rattle.since_launch.specs.laws.OwnMillis.{Own, week_millis}
use Rattle.since_launch.specs.laws.Refusals.{OneNotFinite}

-- on the grid the nearest, halves up, and 18 exactly where it is not 0 to 2^40 - 1
abbrev pub NearestOnGrid : JulianDate → JulianDate → Type 0
NearestOnGrid from to = (a : GridDate from) (b : GridDate to)
    → MillisDecided (plus_z (sum_of b) + minus_z (sum_of a)) (minus_z (sum_of b) + plus_z (sum_of a)) (millis_from_to from to)

-- from a launch of (P - N) / L days to a stamp of (P' - N') / L days, parts under 2^52, there are r milliseconds
pub record CountedTo (from to : JulianDate) (P N P' N' r : ℕ) : Type 0 where
  pub small_from : SmallParts from
  pub small_to : SmallParts to
  pub worth_from : Worth from P N L
  pub worth_to : Worth to P' N' L
  pub given : millis_from_to from to ≡ answer r

-- the exact milliseconds from the one to the other are exact_millis / millis_units, and millis_off / millis_units are half a millisecond and 96 ps
abbrev pub exact_millis : ℕ → ℕ → ℕ → ℕ → ℕ
exact_millis P N P' N' = 2 ^ 43 * (86400000 * (P' + N)) - 2 ^ 43 * (86400000 * (N' + P))

abbrev pub millis_units : ℕ
millis_units = 2 ^ 43 * L

abbrev pub millis_off : ℕ
millis_off = (2 ^ 42 + 10 * 84375) * L

-- they are within half a millisecond and 96 ps of the exact ones
abbrev pub NearAnywhere : JulianDate → JulianDate → Type 0
NearAnywhere from to = (P N P' N' r : ℕ) → CountedTo from to P N P' N' r → NearMillis P N P' N' r

-- dates made of GPS weeks and milliseconds give the difference of their milliseconds, and so do their TAI
pub record OwnMilliseconds (from to : JulianDate) (week ms week' ms' : ℕ) : Type 0 where
  pub own : week_date week ms ≡ answer from → week_date week' ms' ≡ answer to → Own (week_millis week ms) (week_millis week' ms') (millis_from_to from to)
  pub own_tai : week_date week ms ≡ answer from → week_date week' ms' ≡ answer to → (t t' : JulianDate) → answer_of gps-tai from ≡ answer t
      → answer_of gps-tai to ≡ answer t' → Own (week_millis week ms) (week_millis week' ms') (millis_from_to t t')

-- a part that is not finite, by its bits, is 9, whatever the rest
abbrev pub NotFiniteIsNine : Type 0
NotFiniteIsNine = (a b c d : ℕ) → OneNotFinite a b c d
    → millis_from_to (julian (of_bits binary64 a) (of_bits binary64 b)) (julian (of_bits binary64 c) (of_bits binary64 d)) ≡ refusal 9

-- two stamps in TAI of one instant, at most ps picoseconds apart, ps up to 999,999,000, and their milliseconds r and r' from one launch
pub record OneInstantCounted (from x y : JulianDate) (ps r r' : ℕ) : Type 0 where
  pub P : ℕ
  pub N : ℕ
  pub launch : Worth from P N L
  pub small_launch : SmallParts from
  pub small_x : SmallParts x
  pub small_y : SmallParts y
  pub apart : Apart ps x y
  pub most : ps ≤ 999999000
  pub given_x : millis_from_to from x ≡ answer r
  pub given_y : millis_from_to from y ≡ answer r'

-- they are at most one millisecond apart
abbrev pub AtMostOneApart : JulianDate → JulianDate → JulianDate → Type 0
AtMostOneApart from x y = (ps r r' : ℕ) → OneInstantCounted from x y ps r r' → (r ≤ r' + 1) × (r' ≤ r + 1)
