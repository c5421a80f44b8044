-- What the theorems say of an outcome: which refusals can occur, and which dates. Written from document 01, "Refusals by number" and "Scale dates". Assumes
-- nothing.
use Rattle.std.specs.Prelude.{ℕ, ◌≡◌, Bool, true, false, ◌||◌, ◌⊎◌, negsuc, Float, T}
use Rattle.std.specs.Int.Signed.{lt_z}
use Rattle.std.specs.Float.{binary64}
use Rattle.std.specs.Float.Ieee.{fits}
use Rattle.refusals.specs.Outcome.{Outcome, answer, refusal}
use Rattle.calendar.specs.Gregorian.{gregorian_date}
use Rattle.julian.specs.day_number.DayNumber.{day_of}
use Rattle.julian.specs.day_number.ExactDay.{OnGrid}
use Rattle.julian.specs.declared.JulianDate.{JulianDate}
use Rattle.utc_scales.specs.days.LargerPart.{first_is_kept, kept_parts}

-- A holds of the answer, or R of the refusal's number
pub data Holds {X : Type 0} (A : X → Type 0) (R : ℕ → Type 0) : Outcome X → Type 0 where
  answers : {x : X} → A x → Holds A R (answer x)
  refuses : {n : ℕ} → R n → Holds A R (refusal n)

abbrev pub Any : {X : Type 0} → X → Type 0
Any x = Unit

abbrev pub SixOrOne : ℕ → Type 0
SixOrOne n = (n ≡ 6) ⊎ (n ≡ 1)

abbrev pub TenNineSixOrOne : ℕ → Type 0
TenNineSixOrOne n = (n ≡ 10) ⊎ ((n ≡ 9) ⊎ SixOrOne n)

-- the number of an announced table that is refused
abbrev pub OfTable : ℕ → Type 0
OfTable n = (n ≡ 20) ⊎ ((n ≡ 21) ⊎ (n ≡ 22))

-- that, where the call reads a table, or one of R
abbrev pub WithTable : (reads : Bool) → (ℕ → Type 0) → ℕ → Type 0
WithTable true R n = OfTable n ⊎ R n
WithTable false R n = R n

-- 6 where the sum is not in the range, 1 where it is and the year is before -4799, and else a date
abbrev pub DecidedDay : (in_range early : Bool) → Outcome JulianDate → Type 0
DecidedDay false e o = o ≡ refusal 6
DecidedDay true true o = o ≡ refusal 1
DecidedDay true false o = (u : JulianDate) × (o ≡ answer u)

-- 10 where DUT1 is not finite, and else as above
abbrev pub DecidedUt1 : (finiteDut1 in_range early : Bool) → Outcome JulianDate → Type 0
DecidedUt1 false r e o = o ≡ refusal 10
DecidedUt1 true r e o = DecidedDay r e o

-- whether the year of the day of a pair of parts is before -4799
abbrev pub early_day : Float → Float → Bool
early_day x y = lt_z (gregorian_date (day_of x y).day).year (negsuc 4798)

-- the same of a date as UTC to UT1 reads it: the larger part first for TAI, and then jd1 first for TAI-UTC
abbrev pub early_utc : JulianDate → Bool
early_utc d = early_day (kept_parts d).larger (kept_parts d).smaller || early_day d.jd1 d.jd2

-- enough for one day in both orders: jd1 is the larger part, or both parts are on the grid
abbrev pub OneDay : JulianDate → Type 0
OneDay d = (first_is_kept d ≡ true) ⊎ (OnGrid d.jd1 × OnGrid d.jd2)

-- the part in the place of the larger part of d, where b says whether that is jd1
abbrev pub part_at : Bool → JulianDate → Float
part_at true d = d.jd1
part_at false d = d.jd2

-- u has the larger part of d, the same float in the same place
abbrev pub KeepsLarger : JulianDate → JulianDate → Type 0
KeepsLarger d u = part_at (first_is_kept d) u ≡ part_at (first_is_kept d) d

-- x is an f64
abbrev pub Fits : Float → Type 0
Fits x = T (fits binary64 x)
