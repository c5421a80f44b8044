-- All twenty conversions, by every table that is taken: for parts under 2 ^ 52 in size and offsets at most 10 ^ 9 s the answer is a date with finite parts, or
-- a refusal by 6 or 1. Assumes nothing.
use mathlib.Core.Path.{◌≡◌}
use mathlib.Core.List.{List}
use Rattle.refusals.specs.Outcome.{Outcome, answer, refusal}
use Rattle.julian.specs.declared.JulianDate.{JulianDate}
use Rattle.julian.specs.Worth.{SmallParts}
use Rattle.leap_table.specs.declared.rows.AnnouncedRows.{AnnouncedRows}
use Rattle.leap_table.specs.rows.Table.{Row, fixed}
use Rattle.leap_table.specs.rows.Announced.{table_of}
use Rattle.leap_table.proofs.rows.NoRows.{none-announced, fixed-taken}
use Rattle.scales.specs.Conversions.{answer_of}
use Rattle.scales.specs.laws.Ranges.{Billion, FiniteDate, FiniteParts}
use Rattle.scales.proofs.laws.Finiteness.{finite-dates}
use Rattle.utc_scales.specs.laws.Claims.{Holds, answers, SixOrOne}
use Rattle.utc_scales.specs.laws.Twenty.{Twenty, by-formula, utc_tai, tai_utc, utc-ut1, ut1-utc, answer_of_any, given_offset}
use Rattle.utc_scales.proofs.laws.FiniteDates.{table-utc-to-tai-finite, table-tai-to-utc-finite, table-utc-to-ut1-finite, table-ut1-to-utc-finite}

finite-date-holds : (o : Outcome JulianDate) → FiniteDate o → Holds FiniteParts SixOrOne o
finite-date-holds (answer u) h = answers h
finite-date-holds (refusal n) h = absurd h

-- ---- NO NAN AND NO INFINITY, by every table that is taken
module _ (t : AnnouncedRows) (rows : List Row) (taken : table_of t ≡ answer rows) where
  pub table-no-nan-no-infinity : (k : Twenty) (d : JulianDate) → SmallParts d → Billion (given_offset k) → Holds FiniteParts SixOrOne (answer_of_any rows k d)
  unfolding answer_of_any given_offset
  table-no-nan-no-infinity (by-formula k) d h b = finite-date-holds (answer_of k d) (finite-dates k d h b)
  table-no-nan-no-infinity utc_tai d h b = table-utc-to-tai-finite t rows taken d h
  table-no-nan-no-infinity tai_utc d h b = table-tai-to-utc-finite t rows taken d h
  table-no-nan-no-infinity (utc-ut1 dut1) d h b = table-utc-to-ut1-finite t rows taken d dut1 h b
  table-no-nan-no-infinity (ut1-utc dut1) d h b = table-ut1-to-utc-finite t rows taken d dut1 h b

-- by the fixed one
pub no_nan_no_infinity : (k : Twenty) (d : JulianDate) → SmallParts d → Billion (given_offset k) → Holds FiniteParts SixOrOne (answer_of_any fixed k d)
no_nan_no_infinity = table-no-nan-no-infinity none-announced fixed fixed-taken
