-- The dates that a text can show: from year -4799 to day 10^9 a date is not refused, the next day number has its next date, and both are dates that a text can
-- be read back from. Assumes nothing.
use mathlib.Core.Path.{◌≡◌, refl, sym, ap, ◌∙◌, subst}
use mathlib.Core.Bool.{Bool, true, false}
use Prim.Native.Nat.{zero, suc, ◌≤◌}
use native.Mathlib.Omega.{arith}
use lib.IntN.{ℤ, pos, negsuc, suc_ℤ}
use lib.Signed.{lt_z}
use borrow.Author.Tests.{le-ltb, ltb-true, ltb-false}
use Rattle.refusals.specs.Outcome.{answer, refusal, onward}
use Rattle.rounding.proofs.Casts.{plus_z, minus_z}
use Rattle.calendar.specs.Calendar.{date, date_of, next, leap_size, lengths, days_in_month, Counted}
use Rattle.calendar.specs.DayCount.{civil_count, mjd_number, mjd_of}
use Rattle.calendar.specs.Refusals.{valid_date}
use Rattle.calendar.proofs.Accepted.{in_calendar_valid, year-refused}
use Rattle.calendar.proofs.Days.{next-number-is-next-date}
use Rattle.calendar.proofs.Gregorian.{gregorian_is_date_of_day}
use Rattle.calendar.proofs.Mjd.{date-of-mjd}
use Rattle.calendar.proofs.Years.{DateInRange, gregorian_in_range, valid_of, year-before-first, from-lower, date-of-in-calendar}
use Rattle.julian.specs.day_number.Ranges.{InDays}
use Rattle.julian.proofs.laws.CalendarDays.{not_above}

pub early-refused : (n : ℤ) → lt_z (date_of n).year (negsuc 4798) ≡ true → valid_of (date_of n) ≡ refusal 1
early-refused n e = sym (year-refused (date_of n).year (pos (date_of n).month) (pos (date_of n).day) e)

counted-days : (n : ℤ) → minus_z n ≤ 68570 → Counted n
counted-days (pos a) h = refl
counted-days (negsuc a) h = le-ltb 178140 a (omega arith)

-- day 10^9 is 2733194-11-27
last-mjd : mjd_of (pos 2733194) (pos 11) (pos 27) ≡ answer (pos 997599999)
unfolding mjd_of mjd_number civil_count valid_date days_in_month leap_size lengths onward
last-mjd = refl

last-date : date_of (pos 1000000000) ≡ date (pos 2733194) 11 27
last-date = sym (gregorian_is_date_of_day (pos 1000000000) refl refl) ∙ date-of-mjd (pos 2733194) (pos 11) (pos 27) (pos 997599999) last-mjd refl

after_last : next (date (pos 2733194) 11 27) ≡ date (pos 2733194) 11 28
unfolding next lengths
after_last = refl

module _ (n : ℤ) (low : lt_z (date_of n).year (negsuc 4798) ≡ false) (i : InDays n) where
  counted : Counted n
  counted = counted-days n i.bottom

  from_first : lt_z n (negsuc 31737) ≡ false
  from_first = sym (year-before-first n counted) ∙ low

  pub in_range : DateInRange (date_of n)
  in_range = subst DateInRange (gregorian_is_date_of_day n (from-lower n from_first) (not_above n i.top)) (gregorian_in_range n)

  pub date-valid : valid_of (date_of n) ≡ answer tt
  date-valid = in_calendar_valid (date_of n) (date-of-in-calendar n) low

  pub next-is : date_of (suc_ℤ n) ≡ next (date_of n)
  next-is = next-number-is-next-date n counted

  pub next-in-range : DateInRange (next (date_of n))
  next-in-range = go (lt_z (pos 999999999) n) refl
    where
      later : (z : ℤ) → lt_z z (negsuc 31737) ≡ false → lt_z (suc_ℤ z) (negsuc 68568) ≡ false
      later (pos a) e = refl
      later (negsuc zero) e = refl
      later (negsuc (suc a)) e = le-ltb 68568 a (omega (arith, ltb-false 31737 (suc a) e))

      up_to : (z : ℤ) → lt_z (pos 999999999) z ≡ false → lt_z (pos 1000000000) (suc_ℤ z) ≡ false
      up_to (pos a) e = le-ltb 1000000000 (suc a) (omega (arith, ltb-false 999999999 a e))
      up_to (negsuc zero) e = refl
      up_to (negsuc (suc a)) e = refl

      last : (z : ℤ) → lt_z (pos 999999999) z ≡ true → plus_z z ≤ 1000000000 → z ≡ pos 1000000000
      last (pos a) e h = ap pos (omega (arith, ltb-true 999999999 a e))
      last (negsuc a) e h = cc

      go : (b : Bool) → lt_z (pos 999999999) n ≡ b → DateInRange (next (date_of n))
      go false e = subst DateInRange (gregorian_is_date_of_day (suc_ℤ n) (later n from_first) (up_to n e) ∙ next-is) (gregorian_in_range (suc_ℤ n))
      go true e =
          subst DateInRange (sym (ap (λ (z : ℤ). next (date_of z)) (last n e i.top) ∙ ap next last-date ∙ after_last))
          (record { year_low = refl; year_high = refl; month-low = omega arith; month-high = omega arith; day-low = omega arith; day-high = omega arith })
