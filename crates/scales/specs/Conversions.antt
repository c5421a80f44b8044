-- The sixteen conversions that read no table, as one table: what each answers for a date. Written from document 01, "Scale dates" and the order of refusals
-- (9 before 10), and from the Rust's files of scales/conversions. Assumes nothing.
use Rattle.std.specs.Prelude.{Float}
use Rattle.floats.specs.Whole.{nought}
use Rattle.refusals.specs.Outcome.{Outcome, onward}
use Rattle.julian.specs.declared.JulianDate.{JulianDate}
use Rattle.scales.specs.Formulas.{gps_days, tt_days, tcg_to_tt, tt_to_tcg, tcb_to_tdb, tdb_to_tcb}
use Rattle.julian.specs.shifts.Shifts.{plus, minus, converted, converted_by}

-- from the first scale to the second; the last six by an offset in seconds that the caller gives
pub data Conversion : Type 0 where
  gps-tai tai-gps tai-tt tt-tai tcg-tt tt_tcg tcb-tdb tdb-tcb tai-tcg tcg-tai : Conversion
  tai-ut1 ut1-tai ut1-tt tt-ut1 tt-tdb tdb-tt : (seconds : Float) → Conversion

-- the table: what each conversion answers
unfoldable pub answer_of : Conversion → JulianDate → Outcome JulianDate
answer_of gps-tai d = converted (plus gps_days) d
answer_of tai-gps d = converted (minus gps_days) d
answer_of tai-tt d = converted (plus tt_days) d
answer_of tt-tai d = converted (minus tt_days) d
answer_of tcg-tt d = converted tcg_to_tt d
answer_of tt_tcg d = converted tt_to_tcg d
answer_of tcb-tdb d = converted tcb_to_tdb d
answer_of tdb-tcb d = converted tdb_to_tcb d
answer_of tai-tcg d = onward (converted (plus tt_days) d) (converted tt_to_tcg)
answer_of tcg-tai d = onward (converted tcg_to_tt d) (converted (minus tt_days))
answer_of (tai-ut1 seconds) d = converted_by plus seconds d
answer_of (ut1-tai seconds) d = converted_by minus seconds d
answer_of (ut1-tt seconds) d = converted_by plus seconds d
answer_of (tt-ut1 seconds) d = converted_by minus seconds d
answer_of (tt-tdb seconds) d = converted_by plus seconds d
answer_of (tdb-tt seconds) d = converted_by minus seconds d

-- the offset that the caller gives, and 0 where none is given
unfoldable pub offset_of : Conversion → Float
offset_of gps-tai = nought
offset_of tai-gps = nought
offset_of tai-tt = nought
offset_of tt-tai = nought
offset_of tcg-tt = nought
offset_of tt_tcg = nought
offset_of tcb-tdb = nought
offset_of tdb-tcb = nought
offset_of tai-tcg = nought
offset_of tcg-tai = nought
offset_of (tai-ut1 seconds) = seconds
offset_of (ut1-tai seconds) = seconds
offset_of (ut1-tt seconds) = seconds
offset_of (tt-ut1 seconds) = seconds
offset_of (tt-tdb seconds) = seconds
offset_of (tdb-tt seconds) = seconds
