-- THE WAY BETWEEN EACH TWO SCALES is the single calls, one after the other. Assumes nothing.
use mathlib.Core.Path.{◌≡◌, refl}
use mathlib.Core.List.{List}
use Rattle.refusals.specs.Outcome.{Outcome, answer, refusal, onward}
use Rattle.julian.specs.declared.JulianDate.{JulianDate}
use Rattle.leap_table.specs.rows.Table.{Row}
use Rattle.scales.specs.Conversions.{answer_of, tt-tai, gps-tai, tcg-tai}
use Rattle.utc_scales.specs.UtcTai.{utc_to_tai}
use Rattle.runs.specs.ways.Ways.{into_tai, out_of_tai, between, way_of}
use Rattle.runs.specs.laws.EachWay.{EachWay}

-- TAI is reached: the last step stays
at_tai : (rows : List Row) (o : Outcome JulianDate) → onward o (out_of_tai rows 1) ≡ o
unfolding onward out_of_tai
at_tai rows (answer d) = refl
at_tai rows (refusal n) = refl

pub each_way : (rows : List Row) (d : JulianDate) → EachWay rows d
unfolding way_of between into_tai out_of_tai onward
each_way rows d = record {
  utc_utc = refl;
  utc_tai = at_tai rows (utc_to_tai rows d);
  utc_tt = refl;
  utc_gps = refl;
  utc_tcg = refl;
  tai_utc = refl;
  tai_tai = refl;
  tai_to_tt = refl;
  tai_to_gps = refl;
  tai_to_tcg = refl;
  tt_utc = refl;
  tt_to_tai = at_tai rows (answer_of tt-tai d);
  tt_tt = refl;
  tt_gps = refl;
  tt-to-tcg = refl;
  gps_utc = refl;
  gps_to_tai = at_tai rows (answer_of gps-tai d);
  gps_tt = refl;
  gps_gps = refl;
  gps_tcg = refl;
  tcg_utc = refl;
  tcg_to_tai = at_tai rows (answer_of tcg-tai d);
  tcg-to-tt = refl;
  tcg_gps = refl;
  tcg_tcg = refl;
}
