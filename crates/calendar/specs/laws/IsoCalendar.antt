-- The calendar of ISO 8601 by day numbers, that no other count is so, and that both ways of the library between a date and its number are that count. Written
-- from document 01, "Calendar date". Assumes nothing.
use Rattle.std.specs.Prelude.{◌≡◌, false, ℤ, negsuc, pos}
use Rattle.std.proofs.Math.IntN.{suc_ℤ}
use Rattle.std.specs.Int.Signed.{lt_z}
use Rattle.refusals.specs.Outcome.{answer}
use Rattle.calendar.specs.declared.CalendarDate.{CalendarDate}
use Rattle.calendar.specs.Calendar.{Counted, date, date_of, next}
use Rattle.calendar.specs.Refusals.{valid_date}
use Rattle.calendar.specs.DayCount.{MjdMeaning}
use Rattle.calendar.specs.Gregorian.{gregorian_date}
use Rattle.calendar.specs.InCalendar.{InCalendar}
use Rattle.calendar.specs.laws.RustDate.{rust_date}

-- of the day n and of the date y-m-d
pub record IsoCalendar (n y m d : ℤ) : Type 0 where
  pub anchor : date_of (pos 2451545) ≡ date (pos 2000) 1 1
  pub step : Counted n → date_of (suc_ℤ n) ≡ next (date_of n)
  pub no_other : (f : ℤ → CalendarDate) → ((n : ℤ) → Counted n → InCalendar (f n)) → ((n : ℤ) → Counted n → f (suc_ℤ n) ≡ next (f n))
      → f (pos 2451545) ≡ date (pos 2000) 1 1 → Counted n → f n ≡ date_of n
  pub to_date : lt_z n (negsuc 68568) ≡ false → lt_z (pos 1000000000) n ≡ false → gregorian_date n ≡ date_of n
  pub to_day : valid_date y m d ≡ answer tt → MjdMeaning y m d

-- the date of day n, from -68570 to 10^9, is the Rust's
abbrev pub RustsDate : ℤ → Type 0
RustsDate n = lt_z n (negsuc 68569) ≡ false → lt_z (pos 1000000000) n ≡ false
    → rust_date n ≡ record { year = (gregorian_date n).year; month = pos (gregorian_date n).month; day = pos (gregorian_date n).day }
