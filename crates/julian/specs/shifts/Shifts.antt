-- A date so many days later or earlier, and what is refused first. Written from the Rust's files of scales/conversions, each operation rounded once, and from
-- document 01, "Scale dates" and the order of refusals (9 before 10). Assumes nothing.
use Rattle.std.specs.Prelude.{Float, Result, Ok, Err}
use Rattle.std.specs.Float.{binary64}
use Rattle.std.specs.Float.Ieee.{add, sub, div}
use Rattle.refusals.specs.Outcome.{Outcome, answer, onward}
use Rattle.constants.specs.Constants.{seconds_per_day}
use Rattle.julian.specs.declared.JulianDate.{JulianDate}
use Rattle.julian.specs.Finite.{finite_jd, finite_arg}
use Rattle.julian.specs.shifts.SmallerPart.{map_smaller_part}

-- so many seconds, in days
unfoldable pub days_of : Float → Float
days_of seconds = div binary64 seconds seconds_per_day

-- so many days more, and less
unfoldable pub plus : Float → Float → Float → Float
plus days larger smaller = add binary64 smaller days

unfoldable pub minus : Float → Float → Float → Float
minus days larger smaller = sub binary64 smaller days

-- the date with its smaller part changed
unfoldable pub changed : (Float → Float → Float) → JulianDate → Outcome JulianDate
changed f d = answer (map_smaller_part f d)

-- the same of a date that may be refused, by whatever names the refusal: that stays
unfoldable pub shifted : {E : Type 0} → (Float → Float → Float) → Result JulianDate E → Result JulianDate E
shifted f (Ok d) = Ok (map_smaller_part f d)
shifted f (Err e) = Err e

-- the same, and 9 where a part is not finite
unfoldable pub converted : (Float → Float → Float) → JulianDate → Outcome JulianDate
converted f d = onward (finite_jd d) (changed f)

-- the date, and 10 where the offset is not finite
unfoldable pub finite_offset : Float → JulianDate → Outcome JulianDate
finite_offset seconds d = onward (finite_arg seconds) (λ (s : Float). answer d)

-- the date: 9 where a part is not finite, and then 10 where the offset is not
unfoldable pub finite_both : Float → JulianDate → Outcome JulianDate
finite_both seconds d = onward (finite_jd d) (finite_offset seconds)

-- so many seconds later, or earlier
unfoldable pub converted_by : (Float → Float → Float → Float) → Float → JulianDate → Outcome JulianDate
converted_by f seconds d = onward (finite_both seconds d) (changed (f (days_of seconds)))
