-- The way between each two of the five scales, written out. From docs/DECISIONS.md 75. Assumes nothing.
use Rattle.std.specs.Prelude.{◌≡◌, List}
use Rattle.refusals.specs.Outcome.{onward}
use Rattle.julian.specs.declared.JulianDate.{JulianDate}
use Rattle.julian.specs.Finite.{finite_jd}
use Rattle.leap_table.specs.rows.Table.{Row}
use Rattle.scales.specs.Conversions.{answer_of, gps-tai, tai-gps, tai-tt, tt-tai, tcg-tt, tt_tcg, tai-tcg, tcg-tai}
use Rattle.utc_scales.specs.UtcTai.{utc_to_tai, tai_to_utc}
use Rattle.runs.specs.ways.Ways.{way_of}

-- UTC 0, TAI 1, TT 3, GPS 4, TCG 5
pub record EachWay (rows : List Row) (d : JulianDate) : Type 0 where
  pub utc_utc : way_of rows 0 0 d ≡ finite_jd d
  pub utc_tai : way_of rows 0 1 d ≡ utc_to_tai rows d
  pub utc_tt : way_of rows 0 3 d ≡ onward (utc_to_tai rows d) (answer_of tai-tt)
  pub utc_gps : way_of rows 0 4 d ≡ onward (utc_to_tai rows d) (answer_of tai-gps)
  pub utc_tcg : way_of rows 0 5 d ≡ onward (utc_to_tai rows d) (answer_of tai-tcg)
  pub tai_utc : way_of rows 1 0 d ≡ tai_to_utc rows d
  pub tai_tai : way_of rows 1 1 d ≡ finite_jd d
  pub tai_to_tt : way_of rows 1 3 d ≡ answer_of tai-tt d
  pub tai_to_gps : way_of rows 1 4 d ≡ answer_of tai-gps d
  pub tai_to_tcg : way_of rows 1 5 d ≡ answer_of tai-tcg d
  pub tt_utc : way_of rows 3 0 d ≡ onward (answer_of tt-tai d) (tai_to_utc rows)
  pub tt_to_tai : way_of rows 3 1 d ≡ answer_of tt-tai d
  pub tt_tt : way_of rows 3 3 d ≡ finite_jd d
  pub tt_gps : way_of rows 3 4 d ≡ onward (answer_of tt-tai d) (answer_of tai-gps)
  pub tt-to-tcg : way_of rows 3 5 d ≡ answer_of tt_tcg d
  pub gps_utc : way_of rows 4 0 d ≡ onward (answer_of gps-tai d) (tai_to_utc rows)
  pub gps_to_tai : way_of rows 4 1 d ≡ answer_of gps-tai d
  pub gps_tt : way_of rows 4 3 d ≡ onward (answer_of gps-tai d) (answer_of tai-tt)
  pub gps_gps : way_of rows 4 4 d ≡ finite_jd d
  pub gps_tcg : way_of rows 4 5 d ≡ onward (answer_of gps-tai d) (answer_of tai-tcg)
  pub tcg_utc : way_of rows 5 0 d ≡ onward (answer_of tcg-tai d) (tai_to_utc rows)
  pub tcg_to_tai : way_of rows 5 1 d ≡ answer_of tcg-tai d
  pub tcg-to-tt : way_of rows 5 3 d ≡ answer_of tcg-tt d
  pub tcg_gps : way_of rows 5 4 d ≡ onward (answer_of tcg-tai d) (answer_of tai-gps)
  pub tcg_tcg : way_of rows 5 5 d ≡ finite_jd d
