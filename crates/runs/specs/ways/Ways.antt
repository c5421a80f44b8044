-- The way of a stamp from one scale to another: the single calls, one after the other, through TAI. This project's own: each step is a call of the port, and a
-- call that goes from the one scale to the other is taken itself (TT to TCG and back). A scale is its number in include/celestial_time.h: UTC 0, TAI 1, TT 3,
-- GPS 4, TCG 5. Assumes nothing.
use Rattle.std.specs.Prelude.{ℕ, Bool, cond, ◌&&◌, ◌||◌, List, eqb}
use Rattle.constants.specs.scale_numbers.Scales.{UTC, TAI, TT, GPS, TCG}
use Rattle.refusals.specs.Outcome.{Outcome, answer, onward}
use Rattle.julian.specs.declared.JulianDate.{JulianDate}
use Rattle.julian.specs.Finite.{finite_jd}
use Rattle.leap_table.specs.rows.Table.{Row}
use Rattle.scales.specs.Conversions.{answer_of, gps-tai, tai-gps, tai-tt, tt-tai, tcg-tt, tt_tcg, tai-tcg, tcg-tai}
use Rattle.utc_scales.specs.UtcTai.{utc_to_tai, tai_to_utc}

-- the five scales between which no number is asked of the caller
unfoldable pub is_run_scale : ℕ → Bool
is_run_scale n = eqb n UTC || (eqb n TAI || (eqb n TT || (eqb n GPS || eqb n TCG)))

-- a date of scale `from` in TAI; a date of TAI is there already
unfoldable pub into_tai : List Row → ℕ → JulianDate → Outcome JulianDate
into_tai rows from d =
    cond (eqb from UTC) (utc_to_tai rows d)
    (cond (eqb from TT) (answer_of tt-tai d)
    (cond (eqb from GPS) (answer_of gps-tai d)
    (cond (eqb from TCG) (answer_of tcg-tai d)
    (answer d))))

-- a date of TAI in scale `to`
unfoldable pub out_of_tai : List Row → ℕ → JulianDate → Outcome JulianDate
out_of_tai rows to d =
    cond (eqb to UTC) (tai_to_utc rows d)
    (cond (eqb to TT) (answer_of tai-tt d)
    (cond (eqb to GPS) (answer_of tai-gps d)
    (cond (eqb to TCG) (answer_of tai-tcg d)
    (answer d))))

-- from one scale to another
unfoldable pub between : List Row → ℕ → ℕ → JulianDate → Outcome JulianDate
between rows from to d =
    cond (eqb from TT && eqb to TCG) (answer_of tt_tcg d)
    (cond (eqb from TCG && eqb to TT) (answer_of tcg-tt d)
    (onward (into_tai rows from d) (out_of_tai rows to)))

-- the same scale is the test for stamps that are not finite: the date itself, and 9 where a part is not finite
unfoldable pub way_of : List Row → ℕ → ℕ → JulianDate → Outcome JulianDate
way_of rows from to d = cond (eqb from to) (finite_jd d) (between rows from to d)
