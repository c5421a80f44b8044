-- The Modified Julian Date of a date by the formula of the Rust's `calendar_to_julian` (scales/conversions/utc_tai/mod.rs). With my = (month - 14) / 12, which
-- is -1 in January and February and else 0, and iypmy = year + my, it is (1461 * (iypmy + 4800)) / 4 + (367 * (month - 2 - 12 * my)) / 12 - (3 * ((iypmy +
-- 4900) / 100)) / 4 + day - 2432076. From year -4799 no dividend but month - 14 is below 0. That the value is the day of that date is proved (`mjd-meaning`).
-- Assumes nothing.
use Rattle.std.specs.Prelude.{ℕ, ◌+◌, ◌-◌, ◌*◌, ◌/◌, cond, ◌≡◌, leb, ℤ, pos, nat_abs, ◌+ℤ◌, ◌-ℤ◌}
use Rattle.refusals.specs.Outcome.{Outcome, answer, onward}
use Rattle.calendar.specs.Refusals.{valid_date}
use Rattle.calendar.specs.Calendar.{date, date_of, Counted}

-- the count in a year that begins in March: y is that year + 4800 (iypmy + 4800), and month 1 is March
abbrev pub march_count : ℕ → ℕ → ℕ → ℕ
march_count y m d = 1461 * y / 4 + 367 * m / 12 - 3 * ((y + 100) / 100) / 4 + d

-- the count by the calendar's months; y is the year + 4800
unfoldable pub civil_count : ℕ → ℕ → ℕ → ℕ
civil_count y m d = cond (leb m 2) (march_count (y - 1) (m + 10) d) (march_count y (m - 2) d)

unfoldable pub mjd_number : ℤ → ℤ → ℤ → ℤ
mjd_number y m d = pos (civil_count (nat_abs (y +ℤ pos 4800)) (nat_abs m) (nat_abs d)) -ℤ pos 2432076

unfoldable pub mjd_of : ℤ → ℤ → ℤ → Outcome ℤ
mjd_of y m d = onward (valid_date y m d) (λ _. answer (mjd_number y m d))

-- a date that is not refused has an MJD n, day n + 2400001 has that date, and no other number is so
pub record MjdMeaning (y m d : ℤ) : Type 0 where
  pub n : ℤ
  pub given : mjd_of y m d ≡ answer n
  pub counted_day : Counted (n +ℤ pos 2400001)
  pub has_date : date_of (n +ℤ pos 2400001) ≡ date y (nat_abs m) (nat_abs d)
  pub only : (x : ℤ) → Counted (x +ℤ pos 2400001) → date_of (x +ℤ pos 2400001) ≡ date y (nat_abs m) (nat_abs d) → x ≡ n
