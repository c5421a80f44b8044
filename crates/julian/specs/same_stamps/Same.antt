-- When two stamps are the same. Written from document 02, item 9: "the same stamp means the same scale and both parts with the same bits". Assumes nothing.
use Rattle.std.specs.Prelude.{ℕ, Bool, ◌&&◌, eqb}
use Rattle.std.specs.Float.{binary64}
use Rattle.std.specs.Float.Ieee.{of_bits}
use Rattle.julian.specs.declared.JulianDate.{JulianDate}
use Rattle.julian.specs.JulianDate.{julian}
use Rattle.julian.specs.declared.same_stamps.Stamp.{Stamp}

-- the stamp with this scale and these patterns
abbrev pub stamp : ℕ → ℕ → ℕ → Stamp
stamp scale a b = record { scale = scale; jd1 = a; jd2 = b }

unfoldable pub same : Stamp → Stamp → Bool
same a b = eqb a.scale b.scale && (eqb a.jd1 b.jd1 && eqb a.jd2 b.jd2)

-- the Julian date that a stamp's patterns are; every NaN's pattern is the one NaN
unfoldable pub julian_of : Stamp → JulianDate
julian_of s = julian (of_bits binary64 s.jd1) (of_bits binary64 s.jd2)
