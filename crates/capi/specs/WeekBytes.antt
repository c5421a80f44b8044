-- A week and its milliseconds as bytes: 4 each, little-endian. Written from include/celestial_time.h. Assumes nothing.
use Rattle.std.specs.Prelude.{ℕ, List, ◌++◌}
use Rattle.scales.specs.declared.gps_weeks.WeekTime.{WeekTime}
use Rattle.c_answers.specs.Fields.{four_bytes}

unfoldable pub week_bytes : WeekTime → List ℕ
week_bytes t = four_bytes t.week ++ four_bytes t.millis
