-- WHAT THE BITS 4 AND 8 OF `look` ASK. A stamp is after a day where the day number of its UTC, by the rows that are lent, is larger than that of the day. A
-- run is later than another exactly where both have ordered stamps and both times between their ends are answered and are as two scales differ; TAI-UTC is
-- that of the rows in the month of the first stamp's UTC, and 0 where it has none. Assumes nothing.
use Rattle.std.proofs.Common.{◌≡◌, ℕ, ◌+◌, Bool, true, false, ◌&&◌, ltb, List, sym, refl, arith}
use lib.Ieee.{lt}
use Rattle.refusals.specs.Outcome.{Outcome, answer, refusal, onward}
use Rattle.time_of_day.specs.TimeShown.{from_zero}
use Rattle.floats.specs.Whole.{nought}
use Rattle.julian.specs.declared.JulianDate.{JulianDate}
use Rattle.julian.specs.JulianDate.{rounded_sum}
use Rattle.julian.specs.declared.CalendarFields.{CalendarFields}
use Rattle.julian.specs.declared.day_number.DayNumber.{DayNumber}
use Rattle.julian.specs.day_number.Answer.{day_number_and_fraction}
use Rattle.julian.specs.Calendar.{julian_to_calendar}
use Rattle.leap_table.specs.rows.Table.{Row}
use Rattle.leap_table.specs.offsets.WholeSeconds.{whole_seconds}
use Rattle.utc_scales.specs.UtcTai.{tai_to_utc}
use Rattle.since_launch.specs.Millis.{millis_from_to}
use Rattle.line_listing.specs.declared.summary.Ends.{Ends}
use Rattle.line_listing.specs.summary.Look.{day_after, after_by, is_after, seconds_by, seconds_on_day, apart_by, run_later}
use Rattle.line_listing.specs.laws.LaterRun.{LaterRun}

-- ---- 4
module _ (rows : List Row) (day : ℕ) (d : JulianDate) where
  pub after-by-day : (u : JulianDate) (n : DayNumber) → tai_to_utc rows d ≡ answer u → day_number_and_fraction u.jd1 u.jd2 ≡ answer n
      → is_after rows day d ≡ ltb (day + 2400001) (from_zero n.day)
  unfolding is_after after_by day_after
  after-by-day u n e f = rw (e, f) refl

  pub not_after_without_day : (u : JulianDate) (k : ℕ) → tai_to_utc rows d ≡ answer u → day_number_and_fraction u.jd1 u.jd2 ≡ refusal k
      → is_after rows day d ≡ false
  unfolding is_after after_by day_after
  not_after_without_day u k e f = rw (e, f) refl

  pub after-by-sign : (k : ℕ) → tai_to_utc rows d ≡ refusal k → is_after rows day d ≡ lt nought (rounded_sum d)
  unfolding is_after after_by
  after-by-sign k e = rw e refl

-- ---- TAI-UTC on a stamp's day
module _ (rows : List Row) (d : JulianDate) where
  pub seconds-by-month : (u : JulianDate) (f : CalendarFields) → tai_to_utc rows d ≡ answer u → julian_to_calendar u.jd1 u.jd2 ≡ answer f
      → seconds_on_day rows d ≡ whole_seconds rows f.date.year f.date.month
  unfolding seconds_on_day seconds_by onward
  seconds-by-month u f e g = rw (e, g) refl

  pub no_seconds_without_utc : (k : ℕ) → tai_to_utc rows d ≡ refusal k → seconds_on_day rows d ≡ 0
  unfolding seconds_on_day seconds_by onward
  no_seconds_without_utc k e = rw e refl

  pub no_seconds_without_day : (u : JulianDate) (k : ℕ) → tai_to_utc rows d ≡ answer u → julian_to_calendar u.jd1 u.jd2 ≡ refusal k
      → seconds_on_day rows d ≡ 0
  unfolding seconds_on_day seconds_by onward
  no_seconds_without_day u k e g = rw (e, g) refl

-- ---- 8
true_false : {A : Type 0} → true ≡ false → A
true_false e = let y : ◌≡◌ {A = ℕ} 0 1 = cc e in let z : ⊥ = omega arith in absurd z

module _ (rows : List Row) (a b : Ends) where
  pub later-when : LaterRun rows a b → run_later rows a b ≡ true
  unfolding run_later apart_by
  later-when h = rw (h.any_of_a, h.any_of_b, h.firsts, h.lasts) h.as-scales

  pub later-only : run_later rows a b ≡ true → LaterRun rows a b
  unfolding run_later apart_by
  later-only e = any_a a.any b.any refl refl e
    where
      times : (o q : Outcome ℕ) → a.any ≡ true → b.any ≡ true → millis_from_to a.first b.first ≡ o → millis_from_to a.last b.last ≡ q
          → apart_by (seconds_on_day rows a.first) o q ≡ true → LaterRun rows a b
      times (answer x) (answer y) f g i j h =
          record { any_of_a = f; any_of_b = g; of_firsts = x; of_lasts = y; firsts = i; lasts = j; as-scales = h }
      times (answer x) (refusal k) f g i j h = true_false (sym h)
      times (refusal k) q f g i j h = true_false (sym h)

      any_a : (p q : Bool) → a.any ≡ p → b.any ≡ q
          → ((p && q) && apart_by (seconds_on_day rows a.first) (millis_from_to a.first b.first) (millis_from_to a.last b.last)) ≡ true
          → LaterRun rows a b
      any_a true true f g h = times (millis_from_to a.first b.first) (millis_from_to a.last b.last) f g refl refl h
      any_a true false f g h = true_false (sym h)
      any_a false q f g h = true_false (sym h)
