-- All twenty conversions against SOFA's relations, TAI-UTC against the IERS's table, and there and back: what demand 2 and document 02, item 14, ask, in one
-- place. Assumes nothing.
use Rattle.std.specs.Prelude.{◌≡◌, List, ℕ, ◌≤◌, T, ℤ, nat_abs, pos, Float}
use Rattle.std.specs.Float.{binary64}
use Rattle.std.specs.Float.Ieee.{fits, le}
use Rattle.refusals.specs.Outcome.{answer}
use Rattle.floats.specs.Whole.{abs, one}
use Rattle.calendar.specs.DayCount.{mjd_of}
use Rattle.julian.specs.declared.JulianDate.{JulianDate}
use Rattle.leap_table.specs.declared.rows.AnnouncedRows.{AnnouncedRows}
use Rattle.leap_table.specs.rows.Table.{Row, fixed, month_of, reached, starts}
use Rattle.leap_table.specs.offsets.Offset.{row_at, tai_utc_offset}
use Rattle.leap_days.specs.Formula.{NearFormula}
use Rattle.leap_days.specs.Tables.{EveryTable}
use Rattle.scales.specs.Conversions.{Conversion, offset_of}
use Rattle.scales.specs.laws.Ranges.{HalfDay, Practical}
use Rattle.scales.specs.laws.Meaning.{Right}
use Rattle.utc_scales.specs.round_trip.Ranges.{HalfDaySplit}
use Rattle.utc_scales.specs.round_trip.UtcDays.{ExactDay}
use Rattle.utc_scales.specs.round_trip.Relation.{RightTai, RightUtc}
use Rattle.utc_scales.specs.round_trip.RoundTrip.{ThereAndBack}
use Rattle.utc_scales.specs.round_trip.Steps.{published_rates, published_steps, rates, steps}
use Rattle.utc_scales.specs.ut1_laws.Ut1.{RightUt1}
use Rattle.utc_scales.specs.ut1_laws.Back.{NoLeapNear, RightUtcOfUt1}

-- DUT1 is at most 1 s in size
abbrev pub SmallDut1 : Float → Type 0
SmallDut1 x = T (fits binary64 x) × T (le (abs x) one)

-- to picoseconds: the sixteen by their formulas; of the four that read the table, each way
pub record SofaRelations (rows : List Row) (j : JulianDate) (dut1 : Float) : Type 0 where
  pub formulas : (k : Conversion) → Practical j → HalfDay (offset_of k) → Right k j
  pub utc-to-tai : HalfDaySplit j → RightTai rows 77 j
  pub tai-to-utc : HalfDaySplit j → RightUtc rows 173 j
  pub utc-to-ut1 : HalfDaySplit j → SmallDut1 dut1 → RightUt1 rows 87 j dut1
  pub ut1-to-utc : {n : ℕ} → HalfDaySplit j → ExactDay j n → NoLeapNear rows n → SmallDut1 dut1 → RightUtcOfUt1 rows 10 j dut1

-- the fixed rows' steps and rates are the IERS's, the table is they and then the announced rows, and in the years of drift an offset is the row's formula to
-- 10^-12 s
pub record IersTable (t : AnnouncedRows) (rows : List Row) (m d : ℤ) (x : Float) : Type 0 where
  pub steps_told : steps fixed ≡ published_steps
  pub rates_told : rates fixed ≡ published_rates
  pub table : EveryTable t rows
  pub drift : (y : ℕ) (f : Float) → 1960 ≤ y → y ≤ 1971 → T (fits binary64 f) → tai_utc_offset fixed (pos y) m d f ≡ answer x
      → (j : ℕ) × (mjd_of (pos y) m d ≡ answer (pos j)) × NearFormula (row_at (reached (starts fixed) (month_of y (nat_abs m)))) j f x

-- TAI to UTC and back: within 1 ns by the fixed table, and within 173 ps by every table
abbrev pub NanosecondBack : List Row → JulianDate → Type 0
NanosecondBack rows j = HalfDaySplit j → ThereAndBack fixed 1000 j × ThereAndBack rows 173 j
