-- THE THREE DEMANDS, for every table that is taken. Assumes nothing.
use mathlib.Core.Path.{◌≡◌}
use mathlib.Core.List.{List}
use Prim.Native.Nat.{ℕ}
use lib.IntN.{ℤ}
use lib.Ieee.{Float}
use Rattle.refusals.specs.Outcome.{answer}
use Rattle.calendar.proofs.laws.IsoCalendar.{iso_calendar}
use Rattle.julian.specs.declared.JulianDate.{JulianDate}
use Rattle.julian.proofs.laws.CalendarDays.{calendar-not-finite, exact-date, only-six}
use Rattle.julian.proofs.laws.RoundTrip.{round_trip}
use Rattle.leap_table.specs.declared.rows.AnnouncedRows.{AnnouncedRows}
use Rattle.leap_table.specs.rows.Table.{Row}
use Rattle.leap_table.specs.rows.Announced.{table_of}
use Rattle.utc_scales.specs.laws.Twenty.{Twenty}
use Rattle.utc_scales.proofs.laws.Asked.{conversion_refuses}
use Rattle.utc_scales.proofs.laws.AnnouncedCalls.{announced_no_nan_no_infinity, announced_refuses}
use Rattle.utc_scales.proofs.ut1_laws.Sofa.{iers_table, sofa_relations}
use Rattle.utc.proofs.laws.Calls.{calls_decided, refused-text-stays, texts_refuse}
use Rattle.utc.proofs.laws.OneText.{table-text-for-every-buffer}
use Rattle.worked_cases.proofs.Cases.{sixteen, starred-cases}
use Rattle.promises.specs.Promises.{Demand1, Demand2, Demand3, StarredCases}

module _ (t : AnnouncedRows) (rows : List Row) (e : table_of t ≡ answer rows) where
  pub demand_1 : (k : Twenty) (j : JulianDate) (x : Float) (y m d : ℤ) (n : ℕ) (before after : List ℕ) → Demand1 t rows k j x y m d n before after
  demand_1 k j x y m d n before after = record {
    refuses = (conversion_refuses t rows e k j, calendar-not-finite j.jd1 j.jd2, texts_refuse rows j);
    ends = (announced_refuses t k j, only-six j.jd1 j.jd2, calls_decided t j x y m d n before after);
    stays = refused-text-stays before after;
    finite = announced_no_nan_no_infinity t k j;
  }

  pub demand_2 : (n y m d : ℤ) (j : JulianDate) (x dut1 : Float) → Demand2 t rows n y m d j x dut1
  demand_2 n y m d j x dut1 = record {
    calendar = iso_calendar n y m d;
    tai_utc = iers_table t rows e m d x;
    scales = sofa_relations t rows e j dut1;
    there_and_back = round_trip y m d n;
  }

  pub demand_3 : Demand3 rows
  demand_3 = record { calendar = exact-date; text = table-text-for-every-buffer t rows e }

pub starred : StarredCases
starred = record { answered = (sixteen, starred-cases) }
