-- A standby bill as bytes: quarters, first and second share, 8 each, little-endian. Written from include/celestial_time.h. Assumes nothing.
use Rattle.std.specs.Prelude.{ℕ, ℤ, List}
use Rattle.standby.specs.declared.Bill.{Bill}
use Rattle.standby.specs.declared.UtcTime.{UtcTime}
use Rattle.c_answers.specs.WideFields.{three_eights}

unfoldable pub bill_bytes : Bill → List ℕ
bill_bytes b = three_eights b.quarters b.first b.second

-- the time of seven fields
abbrev pub utc_time : ℤ → ℕ → ℕ → ℕ → ℕ → ℕ → ℕ → UtcTime
utc_time y m d h n s ms = record { year = y; month = m; day = d; hour = h; minute = n; second = s; millis = ms }
