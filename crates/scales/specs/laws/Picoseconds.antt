-- By how many picoseconds the exact value of an answer may miss what it means, on the two ranges of dates (`Practical` and `Modified`). The bounds are this
-- project's own: those that the roundings of the formulas add up to. Assumes nothing.
use Rattle.std.specs.Prelude.{ℕ}
use Rattle.scales.specs.Conversions.{Conversion, gps-tai, tai-gps, tai-tt, tt-tai, tcg-tt, tt_tcg, tcb-tdb, tdb-tcb, tai-tcg, tcg-tai, tai-ut1}
use Rattle.scales.specs.Conversions.{ut1-tai, ut1-tt, tt-ut1, tt-tdb, tdb-tt}

-- by a fixed offset; between TCG and TT; the two of TCB and TDB; the two through TT; by a given offset
pub record Picoseconds : Type 0 where
  pub fixed : ℕ
  pub tcg_tt : ℕ
  pub tcb_tdb : ℕ
  pub tdb_tcb : ℕ
  pub tai_tcg : ℕ
  pub tcg_tai : ℕ
  pub given : ℕ

unfoldable pub bound_of : Picoseconds → Conversion → ℕ
bound_of b gps-tai = b.fixed
bound_of b tai-gps = b.fixed
bound_of b tai-tt = b.fixed
bound_of b tt-tai = b.fixed
bound_of b tcg-tt = b.tcg_tt
bound_of b tt_tcg = b.tcg_tt
bound_of b tcb-tdb = b.tcb_tdb
bound_of b tdb-tcb = b.tdb_tcb
bound_of b tai-tcg = b.tai_tcg
bound_of b tcg-tai = b.tcg_tai
bound_of b (tai-ut1 s) = b.given
bound_of b (ut1-tai s) = b.given
bound_of b (ut1-tt s) = b.given
bound_of b (tt-ut1 s) = b.given
bound_of b (tt-tdb s) = b.given
bound_of b (tdb-tt s) = b.given

-- the smaller part at most a day: half a unit in its last place is 9.6 ps
abbrev pub practical_bounds : Picoseconds
practical_bounds = record {
  fixed = 10;
  tcg_tt = 10;
  tcb_tdb = 24;
  tdb_tcb = 23;
  tai_tcg = 21;
  tcg_tai = 20;
  given = 15;
}

-- the smaller part at most 2 ^ 17 - 1 days: half a unit in its last place is 0.63 microseconds, and TCB and TDB and the two through TT round it twice
abbrev pub modified_bounds : Picoseconds
modified_bounds = record {
  fixed = 628643;
  tcg_tt = 628643;
  tcb_tdb = 1257291;
  tdb_tcb = 1257290;
  tai_tcg = 1257287;
  tcg_tai = 1257286;
  given = 628648;
}
