-- Closed cases of a standby bill under the fixed table: a leap second, a full quarter, the ends of the range, one case of each refusal's order. Computed.
-- Assumes nothing.
use mathlib.Core.Path.{◌≡◌, refl}
use Prim.Native.Nat.{ℕ}
use lib.IntN.{pos}
use Rattle.refusals.specs.Outcome.{answer, refusal, onward}
use Rattle.calendar.specs.Calendar.{leap_size, lengths, days_in_month, next}
use Rattle.calendar.specs.Refusals.{valid_date, next_of}
use Rattle.calendar.specs.DayCount.{civil_count, mjd_number}
use Rattle.leap_table.specs.rows.Table.{fixed, reached, month_number}
use Rattle.leap_table.specs.offsets.WholeSeconds.{whole_seconds}
use Rattle.standby.specs.declared.UtcTime.{UtcTime}
use Rattle.standby.specs.Times.{last_minute, in_its_day, time_seconds, tai_ms, instant_on, instant}
use Rattle.standby.specs.Bills.{quarters, over_limit, bill, shares, bill_between, standby_bill}

abbrev time : ℕ → ℕ → ℕ → ℕ → ℕ → ℕ → ℕ → UtcTime
time y m d h n s ms = record { year = pos y; month = m; day = d; hour = h; minute = n; second = s; millis = ms }

-- 23:45:00 to 0h is 901 s where a leap second is between
pub over-a-leap-second : standby_bill fixed (time 2016 12 31 23 45 0 0) (time 2017 1 1 0 0 0 0) 100 1 1 ≡ answer (bill 2 100 100)
unfolding standby_bill bill_between shares over_limit quarters instant instant_on tai_ms time_seconds in_its_day last_minute whole_seconds month_number reached
    fixed
    mjd_number civil_count next_of valid_date next days_in_month lengths leap_size onward
over-a-leap-second = refl

-- and 900 s a year later
pub a-full-quarter : standby_bill fixed (time 2017 12 31 23 45 0 0) (time 2018 1 1 0 0 0 0) 100 1 1 ≡ answer (bill 1 50 50)
unfolding standby_bill bill_between shares over_limit quarters instant instant_on tai_ms time_seconds in_its_day last_minute whole_seconds month_number reached
    fixed
    mjd_number civil_count next_of valid_date next days_in_month lengths leap_size onward
a-full-quarter = refl

-- one millisecond more, and the shares of an odd cent by their remainders: 2 × 25 cents by 1 and 2 metres are 16 2/3 and 33 1/3
pub a-started-quarter : standby_bill fixed (time 2017 12 31 23 45 0 0) (time 2018 1 1 0 0 0 1) 25 1 2 ≡ answer (bill 2 17 33)
unfolding standby_bill bill_between shares over_limit quarters instant instant_on tai_ms time_seconds in_its_day last_minute whole_seconds month_number reached
    fixed
    mjd_number civil_count next_of valid_date next days_in_month lengths leap_size onward
a-started-quarter = refl

-- a tie: one cent by equal lengths goes to the first
pub a-tie : standby_bill fixed (time 2016 12 31 23 59 60 0) (time 2016 12 31 23 59 60 999) 1 7 7 ≡ answer (bill 1 1 0)
unfolding standby_bill bill_between shares over_limit quarters instant instant_on tai_ms time_seconds in_its_day last_minute whole_seconds month_number reached
    fixed
    mjd_number civil_count next_of valid_date next days_in_month lengths leap_size onward
a-tie = refl

-- the whole range: 27, and the other way round 26
pub from-first-to-last : standby_bill fixed (time 1972 1 1 0 0 0 0) (time 2147483647 12 30 23 59 59 999) 1 1 1 ≡ refusal 27
unfolding standby_bill bill_between shares over_limit quarters instant instant_on tai_ms time_seconds in_its_day last_minute whole_seconds month_number reached
    fixed
    mjd_number civil_count next_of valid_date next days_in_month lengths leap_size onward
from-first-to-last = refl

pub from-last-to-first : standby_bill fixed (time 2147483647 12 30 23 59 59 999) (time 1972 1 1 0 0 0 0) 1000001 0 0 ≡ refusal 26
unfolding standby_bill bill_between shares over_limit quarters instant instant_on tai_ms time_seconds in_its_day last_minute whole_seconds month_number reached
    fixed
    mjd_number civil_count next_of valid_date next days_in_month lengths leap_size onward
from-last-to-first = refl

-- 5 before 4, 1 before 2, 4 for a millisecond of 1000, and the start before the end
pub no_next_day_first : instant fixed (time 2147483647 12 31 99 0 0 0) ≡ refusal 5
unfolding instant instant_on tai_ms time_seconds in_its_day last_minute whole_seconds month_number reached fixed mjd_number civil_count next_of valid_date next
    days_in_month lengths leap_size onward
no_next_day_first = refl

pub year-first : instant fixed (time 1971 13 1 0 0 0 0) ≡ refusal 1
unfolding instant onward next_of valid_date
year-first = refl

pub millisecond_1000 : instant fixed (time 2000 1 1 0 0 59 1000) ≡ refusal 4
unfolding instant instant_on tai_ms time_seconds in_its_day last_minute whole_seconds month_number reached fixed mjd_number civil_count next_of valid_date next
    days_in_month lengths leap_size onward
millisecond_1000 = refl

pub start_first : standby_bill fixed (time 2000 13 1 0 0 0 0) (time 1971 1 1 0 0 0 0) 0 0 0 ≡ refusal 2
unfolding standby_bill instant next_of valid_date onward
start_first = refl

-- equal times with a rate over the limit are 27, with both lengths 0 as well; with a rate within it 28
pub limits_before_lengths : standby_bill fixed (time 2000 1 1 0 0 0 0) (time 2000 1 1 0 0 0 0) 1000001 0 0 ≡ refusal 27
unfolding standby_bill bill_between shares over_limit quarters instant instant_on tai_ms time_seconds in_its_day last_minute whole_seconds month_number reached
    fixed
    mjd_number civil_count next_of valid_date next days_in_month lengths leap_size onward
limits_before_lengths = refl

pub lengths-last : standby_bill fixed (time 2000 1 1 0 0 0 0) (time 2000 1 1 0 0 0 0) 1000000 0 0 ≡ refusal 28
unfolding standby_bill bill_between shares over_limit quarters instant instant_on tai_ms time_seconds in_its_day last_minute whole_seconds month_number reached
    fixed
    mjd_number civil_count next_of valid_date next days_in_month lengths leap_size onward
lengths-last = refl

-- the lengths of `a-started-quarter` the other way round: the larger remainder is the second's
pub cent-to-the-second : standby_bill fixed (time 2017 12 31 23 45 0 0) (time 2018 1 1 0 0 0 1) 25 2 1 ≡ answer (bill 2 33 17)
unfolding standby_bill bill_between shares over_limit quarters instant instant_on tai_ms time_seconds in_its_day last_minute whole_seconds month_number reached
    fixed
    mjd_number civil_count next_of valid_date next days_in_month lengths leap_size onward
cent-to-the-second = refl
