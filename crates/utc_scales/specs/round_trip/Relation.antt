-- The exact relation of UTC and TAI from 1972 on by a table's rows, and what it is for an answer to mean it. Written from document 01, "Scale dates", and
-- SOFA's Time Scale and Calendar Tools: UTC is a quasi Julian date, whose day is 86,401 s long where it ends in a leap second and 86,399 s where one is left
-- out, so that a leap second is spread over its day. Assumes nothing.
use Rattle.std.specs.Prelude.{◌≡◌, List, ℕ, ◌+◌, ◌-◌, ◌*◌}
use Rattle.refusals.specs.Outcome.{answer}
use Rattle.rounding.specs.Value.{L}
use Rattle.julian.specs.declared.JulianDate.{JulianDate}
use Rattle.leap_table.specs.rows.Table.{Row}
use Rattle.scales.specs.laws.Meaning.{Meaning, Means, back, then_by, tai_over_gps}
use Rattle.utc_scales.specs.UtcTai.{utc_to_tai, tai_to_utc}
use Rattle.utc_scales.specs.round_trip.UtcDays.{H, ExactDay, seconds_on, leap_after, short_after}

-- on day n, with TAI-UTC D seconds at its start and s seconds more at its end, s being 0, 1 or -1: TAI = UTC + (D + s * (UTC + 1/2 - n)) / 86400 days
abbrev pub tai_over_utc : List Row → ℕ → Meaning
tai_over_utc rows n = record {
  num = 86400 + leap_after rows n - short_after rows n;
  den = 86400;
  more = seconds_on rows n * L + (leap_after rows n * H + short_after rows n * (n * L));
  less = leap_after rows n * (n * L) + short_after rows n * H;
}

-- GPS from UTC on day n, through TAI
abbrev pub gps_over_utc : List Row → ℕ → Meaning
gps_over_utc rows n = then_by (tai_over_utc rows n) (back tai_over_gps)

-- UTC to TAI of d is answered, and the answer is the TAI of d by the relation of d's exact day, to ps picoseconds
pub record RightTai (rows : List Row) (ps : ℕ) (d : JulianDate) : Type 0 where
  pub n : ℕ
  pub on : ExactDay d n
  pub date : JulianDate
  pub is : utc_to_tai rows d ≡ answer date
  pub means : Means ps (tai_over_utc rows n) d date

-- TAI to UTC of d is answered, and d is the TAI of the answer by the relation of the answer's exact day, to ps picoseconds
pub record RightUtc (rows : List Row) (ps : ℕ) (d : JulianDate) : Type 0 where
  pub date : JulianDate
  pub is : tai_to_utc rows d ≡ answer date
  pub n : ℕ
  pub on : ExactDay date n
  pub means : Means ps (tai_over_utc rows n) date d
