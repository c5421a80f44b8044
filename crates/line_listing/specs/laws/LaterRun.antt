-- What it is that a run begins and ends later than another as two scales do. Assumes nothing.
use Rattle.std.specs.Prelude.{◌≡◌, ℕ, true, List}
use Rattle.refusals.specs.Outcome.{answer}
use Rattle.leap_table.specs.rows.Table.{Row}
use Rattle.since_launch.specs.Millis.{millis_from_to}
use Rattle.line_listing.specs.declared.summary.Ends.{Ends}
use Rattle.line_listing.specs.summary.Look.{as_scales, seconds_on_day}

-- b later than a: both have ordered stamps, and from first to first and from last to last are milliseconds that are both a difference of two scales, by
-- TAI-UTC on the day of the first stamp of a
pub record LaterRun (rows : List Row) (a b : Ends) : Type 0 where
  pub any_of_a : a.any ≡ true
  pub any_of_b : b.any ≡ true
  pub of_firsts : ℕ
  pub of_lasts : ℕ
  pub firsts : millis_from_to a.first b.first ≡ answer of_firsts
  pub lasts : millis_from_to a.last b.last ≡ answer of_lasts
  pub as-scales : as_scales of_firsts of_lasts (seconds_on_day rows a.first) ≡ true
