-- SOFA'S RELATIONS AND THE IERS'S TABLE: all twenty conversions to picoseconds, TAI-UTC row by row, and there and back, for every table that is taken. Assumes
-- nothing.
use mathlib.Core.Path.{◌≡◌}
use mathlib.Core.List.{List}
use lib.IntN.{ℤ}
use lib.Ieee.{Float}
use Rattle.refusals.specs.Outcome.{answer}
use Rattle.julian.specs.declared.JulianDate.{JulianDate}
use Rattle.leap_table.specs.declared.rows.AnnouncedRows.{AnnouncedRows}
use Rattle.leap_table.specs.rows.Table.{Row}
use Rattle.leap_table.specs.rows.Announced.{table_of}
use Rattle.leap_days.proofs.EveryTable.{every_table}
use Rattle.leap_days.proofs.Formula.{drift-formula}
use Rattle.scales.proofs.laws.Meant.{practical}
use Rattle.utc_scales.specs.ut1_laws.Sofa.{IersTable, NanosecondBack, SofaRelations}
use Rattle.utc_scales.proofs.round_trip.Meant.{table-utc-to-tai-means}
use Rattle.utc_scales.proofs.round_trip.UtcMeant.{table-tai-to-utc-means}
use Rattle.utc_scales.proofs.round_trip.RoundTrip.{table-there-and-back, there_and_back}
use Rattle.utc_scales.proofs.round_trip.Steps.{rates-are, steps-are}
use Rattle.utc_scales.proofs.ut1_laws.Ut1.{table-utc-to-ut1-means}
use Rattle.utc_scales.proofs.ut1_laws.Back.{table-ut1-to-utc-means}

module _ (t : AnnouncedRows) (rows : List Row) (e : table_of t ≡ answer rows) where
  pub sofa_relations : (j : JulianDate) (dut1 : Float) → SofaRelations rows j dut1
  sofa_relations j dut1 = record {
    formulas = λ k. practical k j;
    utc-to-tai = table-utc-to-tai-means t rows e;
    tai-to-utc = table-tai-to-utc-means t rows e;
    utc-to-ut1 = λ h s. table-utc-to-ut1-means t rows e h dut1 s.0 s.1;
    ut1-to-utc = λ h x n s. table-ut1-to-utc-means t rows e h x n dut1 s.0 s.1;
  }

  pub iers_table : (m d : ℤ) (x : Float) → IersTable t rows m d x
  iers_table m d x = record { steps_told = steps-are; rates_told = rates-are; table = every_table t rows e; drift = λ y f. drift-formula y m d f x }

  pub nanosecond_back : (j : JulianDate) → NanosecondBack rows j
  nanosecond_back j h = (there_and_back h, table-there-and-back t rows e h)
