-- What the functions of `runs::ways` ask and ensure. Written from Ways: the steps that read no row, and the ways that read one. Assumes nothing.
use Rattle.std.specs.Prelude.{ℕ, Bool, cond, not, ◌||◌, eqb, Float}
use Rattle.std.specs.Float.Ieee.{neg}
use Rattle.constants.specs.scale_numbers.Scales.{UTC, TT, GPS}
use Rattle.scales.specs.Formulas.{gps_days, tt_days}

-- the scales that are a fixed offset from TAI
unfoldable pub is_shifted : ℕ → Bool
is_shifted n = eqb n TT || eqb n GPS

-- the days that are added to a date of such a scale for TAI, and to a date of TAI for such a scale
unfoldable pub days_into_tai : ℕ → Float
days_into_tai n = cond (eqb n TT) (neg tt_days) gps_days

unfoldable pub days_out_of_tai : ℕ → Float
days_out_of_tai n = cond (eqb n TT) tt_days (neg gps_days)

-- whether the way reads TAI-UTC on a day: one of the two scales is UTC, and the other is not
unfoldable pub reads_day : ℕ → ℕ → Bool
reads_day from to = cond (eqb from UTC) (not (eqb to UTC)) (eqb to UTC)
