-- What the customer's three recorders need: when a stamp by GPS, one by TAI and one by UTC are of one instant, and what it is for their TAI dates to agree.
-- Written from document 01, "Scale dates". Assumes nothing.
use Rattle.std.specs.Prelude.{◌≡◌, List, ℕ, ◌+◌}
use Rattle.refusals.specs.Outcome.{answer}
use Rattle.julian.specs.declared.JulianDate.{JulianDate}
use Rattle.leap_table.specs.rows.Table.{Row}
use Rattle.scales.specs.Conversions.{gps-tai, answer_of}
use Rattle.scales.specs.laws.Meaning.{Apart, Means, tai_over_gps}
use Rattle.utc_scales.specs.UtcTai.{utc_to_tai}
use Rattle.utc_scales.specs.round_trip.UtcDays.{ExactDay}
use Rattle.utc_scales.specs.round_trip.Relation.{tai_over_utc, gps_over_utc}

-- g by GPS, t by TAI and u by UTC stamp one instant, each two of them to e picoseconds: t = g + 19 s, and t and g are what the exact relation of u's exact day
-- gives
pub record OneInstant (rows : List Row) (e : ℕ) (g t u : JulianDate) : Type 0 where
  pub n : ℕ
  pub on : ExactDay u n
  pub by_gps : Means e tai_over_gps g t
  pub by_utc : Means e (tai_over_utc rows n) u t
  pub gps_by_utc : Means e (gps_over_utc rows n) u g

-- GPS to TAI of g answers x, UTC to TAI of u answers y, and t, x and y are pairwise within 10 + e, 77 + e and 87 + e picoseconds
pub record Agree (rows : List Row) (e : ℕ) (g t u : JulianDate) : Type 0 where
  pub x : JulianDate
  pub y : JulianDate
  pub from_gps : answer_of gps-tai g ≡ answer x
  pub from_utc : utc_to_tai rows u ≡ answer y
  pub gps_tai_apart : Apart (10 + e) t x
  pub utc_tai_apart : Apart (77 + e) t y
  pub gps_utc_apart : Apart (87 + e) x y
