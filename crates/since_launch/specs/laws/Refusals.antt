-- Which number is given exactly when: 9, then 6, then 18. Written from the request and document 01, "Refusals by number". Assumes nothing.
use Rattle.std.specs.Prelude.{◌≡◌, ◌⊎◌, true, false, ◌&&◌, ℕ}
use Rattle.refusals.specs.Outcome.{Outcome, refusal}
use Rattle.floats.specs.ExponentField.{exponent_field}
use Rattle.julian.specs.declared.JulianDate.{JulianDate}
use Rattle.julian.specs.day_number.DayNumber.{accepted, day_of}
use Rattle.julian.specs.Finite.{finite_parts}
use Rattle.since_launch.specs.Millis.{place_of, units_of}
use Rattle.since_launch.specs.laws.NearestMillis.{MillisDecided}

-- 9 exactly where a part of either is not finite, else 6 exactly where the rounded sum of either is out of document 01's range, else by the places
pub data MillisInOrder (from to : JulianDate) : Outcome ℕ → Type 0 where
  not_finite : finite_parts from && finite_parts to ≡ false → MillisInOrder from to (refusal 9)
  no_day : finite_parts from && finite_parts to ≡ true → accepted from.jd1 from.jd2 && accepted to.jd1 to.jd2 ≡ false
      → MillisInOrder from to (refusal 6)
  counted : (o : Outcome ℕ) → finite_parts from && finite_parts to ≡ true → accepted from.jd1 from.jd2 && accepted to.jd1 to.jd2 ≡ true
      → MillisDecided (units_of (place_of (day_of to.jd1 to.jd2))) (units_of (place_of (day_of from.jd1 from.jd2))) o → MillisInOrder from to o

-- one of four floats has the exponent field all ones, by its bits: an infinity or a NaN of any sign and payload (IEEE 754)
abbrev pub OneNotFinite : ℕ → ℕ → ℕ → ℕ → Type 0
OneNotFinite a b c d =
    ((exponent_field a ≡ 2047) ⊎ (exponent_field b ≡ 2047)) ⊎ ((exponent_field c ≡ 2047) ⊎ (exponent_field d ≡ 2047))
