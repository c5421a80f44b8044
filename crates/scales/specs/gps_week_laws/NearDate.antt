-- How near a week and its milliseconds are to the exact date. Written from IS-GPS-200's count: week w and ms milliseconds are 604,800,000 w + ms milliseconds
-- after Julian date 2444244.5 GPS. Assumes nothing.
use Rattle.std.specs.Prelude.{◌≡◌, ℕ, ◌+◌, ◌*◌, ◌<◌, ◌≤◌}
use Rattle.rounding.specs.Value.{L}
use Rattle.scales.specs.declared.gps_weeks.WeekTime.{WeekTime}

-- milliseconds since 1980-01-06 0h
abbrev pub millis_since : WeekTime → ℕ
millis_since t = 604800000 * t.week + t.millis

-- t stands for so many milliseconds since midnight of day 0, of which 211182768000000 are before the first week, and its numbers are within their limits
pub record OfCount (count : ℕ) (t : WeekTime) : Type 0 where
  pub is : millis_since t + 211182768000000 ≡ count
  pub week : t.week ≤ 100000
  pub millis : t.millis < 604800000

-- They are within 0.50000005 ms of a date worth (P - N) / L days: 2444244.5 days are 211182724800000 ms, and both sides are taken times 20000000 L
pub record NearWeek (P N : ℕ) (t : WeekTime) : Type 0 where
  pub over : 20000000 * ((millis_since t + 211182724800000) * L + 86400000 * N) ≤ 20000000 * (86400000 * P) + 10000001 * L
  pub under : 20000000 * (86400000 * P) ≤ 20000000 * ((millis_since t + 211182724800000) * L + 86400000 * N) + 10000001 * L
