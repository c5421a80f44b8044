-- What the scale conversions ask of a date and of an offset before they compute. Written from document 01, "Refusals by number" (9 and 10), and the Rust's
-- julian/mod.rs. Assumes nothing.
use Rattle.std.specs.Prelude.{Bool, cond, ◌&&◌, Float}
use Rattle.std.specs.Float.Ieee.Scale.{finite}
use Rattle.refusals.specs.Outcome.{Outcome, answer, refusal}
use Rattle.julian.specs.declared.JulianDate.{JulianDate}

abbrev pub both_finite : Float → Float → Bool
both_finite a b = finite a && finite b

-- whether both parts are finite
abbrev pub finite_parts : JulianDate → Bool
finite_parts d = both_finite d.jd1 d.jd2

-- 9: a part of the date is not finite
unfoldable pub finite_jd : JulianDate → Outcome JulianDate
finite_jd d = cond (finite_parts d) (answer d) (refusal 9)

-- 10: the offset is not finite
unfoldable pub finite_arg : Float → Outcome Float
finite_arg x = cond (finite x) (answer x) (refusal 10)
