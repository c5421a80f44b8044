-- TAI to UTC and back. Written from document 02's request 14: neither call refuses, and what comes back is near what was given. Assumes nothing.
use Rattle.std.specs.Prelude.{◌≡◌, List, ℕ}
use Rattle.refusals.specs.Outcome.{answer}
use Rattle.julian.specs.declared.JulianDate.{JulianDate}
use Rattle.leap_table.specs.rows.Table.{Row}
use Rattle.scales.specs.laws.Meaning.{Apart}
use Rattle.utc_scales.specs.UtcTai.{utc_to_tai, tai_to_utc}

-- TAI to UTC of d answers u, UTC to TAI of u answers t, and t is within ps picoseconds of d at their exact values
pub record ThereAndBack (rows : List Row) (ps : ℕ) (d : JulianDate) : Type 0 where
  pub u : JulianDate
  pub t : JulianDate
  pub there : tai_to_utc rows d ≡ answer u
  pub back : utc_to_tai rows u ≡ answer t
  pub apart : Apart ps d t
