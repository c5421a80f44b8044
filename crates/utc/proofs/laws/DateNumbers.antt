-- Which numbers UTC from Unix time and UTC from the calendar can be refused with. Assumes nothing.
use mathlib.Core.Path.{◌≡◌, refl, sym, ◌∙◌, subst}
use mathlib.Core.Bool.{Bool, true, false, cond, ◌||◌}
use mathlib.Core.Logic.{◌⊎◌, inl, inr}
use mathlib.Core.List.{List}
use Prim.Native.Nat.{ℕ, ◌/◌, ◌%◌}
use lib.Dec.{ltb}
use lib.IntN.{ℤ, pos, negsuc}
use lib.Signed.{lt_z}
use lib.Ieee.{Float, binary64, of_int, add}
use Rattle.refusals.specs.Outcome.{Outcome, answer, refusal, onward}
use Rattle.constants.specs.Constants.{unix_epoch_jd}
use Rattle.calendar.specs.declared.CalendarDate.{CalendarDate}
use Rattle.calendar.specs.Calendar.{days_in_month}
use Rattle.calendar.specs.Refusals.{valid_date}
use Rattle.calendar.proofs.Years.{valid_of}
use Rattle.julian.specs.declared.JulianDate.{JulianDate}
use Rattle.julian.specs.declared.CalendarFields.{CalendarFields}
use Rattle.julian.specs.JulianDate.{julian}
use Rattle.julian.specs.DayFraction.{time_in_day, day_fraction}
use Rattle.julian.specs.Calendar.{julian_to_calendar}
use Rattle.julian.proofs.laws.CalendarDays.{only-six}
use Rattle.leap_table.specs.rows.Table.{Row}
use Rattle.leap_table.specs.offsets.Leap.{day_offsets, leap_of, leap_at_end_of_day}
use Rattle.leap_table.specs.declared.offsets.DayOffsets.{DayOffsets}
use Rattle.leap_table.proofs.offsets.Days.{day-refusals}
use Rattle.utc.specs.FromCalendar.{midnight_plus, utc_from_calendar}
use Rattle.utc.specs.UnixTime.{unix_day, second_of_unix_day, second_with_nanos, utc_new}
use Rattle.julian.proofs.Dates.{date-in-range}
use Rattle.utc.proofs.UnixTimes.{nanos-refused, day-refused, day-given}
use Rattle.utc.proofs.laws.DayTexts.{has-leap}
use Rattle.utc.proofs.laws.Numbers.{not_both, one_number, date-refusal}
use Rattle.utc.proofs.laws.FromCalendars.{date_refused, leap-refused, on-date}

only-four : (hour minute : ℕ) (second leap : Float) (d : JulianDate) (k : ℕ) → midnight_plus d (day_fraction hour minute second leap) ≡ refusal k → k ≡ 4
unfolding midnight_plus day_fraction onward
only-four hour minute second leap d k = go _ (time_in_day hour minute second leap)
  where
    go : (x : Float) (b : Bool) → onward (cond b (answer x) (refusal 4)) (λ f. answer (julian d.jd1 (add binary64 d.jd2 f))) ≡ refusal k → k ≡ 4
    go x true e = absurd (not_both _ _ k refl e)
    go x false e = cc

-- a date with a next one, so that only the time can be refused
time-numbers : (rows : List Row) (t : CalendarDate) (hour minute : ℕ) (second : Float) (k : ℕ) → valid_of t ≡ answer tt → lt_z (pos 2733194) t.year ≡ false
    → utc_from_calendar rows t.year t.month t.day hour minute second ≡ refusal k → k ≡ 4
time-numbers rows t hour minute second k v h e =
    only-four hour minute second _ _ k (sym (on-date rows t.year t.month t.day hour minute second v _ (has-leap rows t v h)) ∙ e)

-- THE NUMBERS of UTC from Unix time: 8, 6, 1 and 4
pub new_numbers : (rows : List Row) (seconds : ℤ) (nanos k : ℕ) → utc_new rows seconds nanos ≡ refusal k → (k ≡ 8) ⊎ ((k ≡ 6) ⊎ ((k ≡ 1) ⊎ (k ≡ 4)))
new_numbers rows seconds nanos k e = go (ltb nanos 1000000000) refl
  where
    u : Float
    u = of_int binary64 (unix_day seconds)

    s : ℕ
    s = second_of_unix_day seconds

    go : (b : Bool) → ltb nanos 1000000000 ≡ b → (k ≡ 8) ⊎ ((k ≡ 6) ⊎ ((k ≡ 1) ⊎ (k ≡ 4)))
    go false p = inl (one_number _ k 8 e (nanos-refused rows seconds nanos p))
    go true p = inr (by_day (julian_to_calendar unix_epoch_jd u) refl)
      where
        by-date : (c : CalendarFields) → julian_to_calendar unix_epoch_jd u ≡ answer c → (valid_of c.date ≡ answer tt) ⊎ (valid_of c.date ≡ refusal 1)
            → (k ≡ 6) ⊎ ((k ≡ 1) ⊎ (k ≡ 4))
        by-date c q (inl v) =
            inr (inr (time-numbers rows c.date (s / 3600) (s % 3600 / 60) (second_with_nanos s nanos) k v (date-in-range unix_epoch_jd u c q).year_high
            (day-given rows seconds nanos p c q c.date.year s (second_with_nanos s nanos) refl refl refl ∙ e)))
        by-date c q (inr v) =
            inr (inl (one_number _ k 1 e (sym (day-given rows seconds nanos p c q c.date.year s (second_with_nanos s nanos) refl refl refl)
            ∙ date_refused rows c.date.year c.date.month c.date.day (s / 3600) (s % 3600 / 60) (second_with_nanos s nanos) 1 v)))

        by_day : (o : Outcome CalendarFields) → julian_to_calendar unix_epoch_jd u ≡ o → (k ≡ 6) ⊎ ((k ≡ 1) ⊎ (k ≡ 4))
        by_day (refusal n) q = inl (one_number _ k n e (day-refused rows seconds nanos p n q) ∙ only-six unix_epoch_jd u n q)
        by_day (answer c) q = by-date c q (date-refusal unix_epoch_jd u c q)

-- THE NUMBERS of UTC from the calendar: 1, 2 and 3 of the date, 5 and 4
date-numbers : (y m d : ℤ) (k : ℕ) → valid_date y m d ≡ refusal k → (k ≡ 1) ⊎ ((k ≡ 2) ⊎ (k ≡ 3))
unfolding valid_date
date-numbers y m d k = go (lt_z y (negsuc 4798)) (lt_z m (pos 1) || lt_z (pos 12) m) (lt_z d (pos 1) || lt_z (pos (days_in_month y m)) d)
  where
    go : (a b c : Bool) → ◌≡◌ {A = Outcome Unit} (cond a (refusal 1) (cond b (refusal 2) (cond c (refusal 3) (answer tt)))) (refusal k) → (k ≡ 1)
        ⊎ ((k ≡ 2) ⊎ (k ≡ 3))
    go true b c e = inl (cc)
    go false true c e = inr (inl (cc))
    go false false true e = inr (inr (cc))
    go false false false e = absurd (not_both (answer tt) tt k refl e)

leap-numbers : (rows : List Row) (y m d : ℤ) (k : ℕ) → valid_date y m d ≡ answer tt → leap_at_end_of_day rows y m d ≡ refusal k → k ≡ 5
unfolding leap_at_end_of_day onward
leap-numbers rows y m d k v e = go (day_offsets rows y m d) refl e
  where
    given : (valid_date y m d ≡ refusal k) ⊎ ((valid_date y m d ≡ answer tt) × (k ≡ 5)) → k ≡ 5
    given (inl r) = absurd (not_both (valid_date y m d) tt k v r)
    given (inr r) = r.1

    go : (o : Outcome DayOffsets) → day_offsets rows y m d ≡ o → onward o (λ p. answer (leap_of p)) ≡ refusal k → k ≡ 5
    go (answer p) q r = absurd (not_both (answer (leap_of p)) (leap_of p) k refl r)
    go (refusal n) q r = given (day-refusals rows y m d k (q ∙ cc))

pub from-calendar-numbers : (rows : List Row) (y : ℤ) (m d hour minute : ℕ) (second : Float) (k : ℕ) → utc_from_calendar rows y m d hour minute second
    ≡ refusal k
    → ((k ≡ 1) ⊎ ((k ≡ 2) ⊎ (k ≡ 3))) ⊎ ((k ≡ 5) ⊎ (k ≡ 4))
from-calendar-numbers rows y m d hour minute second k e = go (valid_date y (pos m) (pos d)) refl
  where
    by-leap : valid_date y (pos m) (pos d) ≡ answer tt → (o : Outcome Float) → leap_at_end_of_day rows y (pos m) (pos d) ≡ o → (k ≡ 5) ⊎ (k ≡ 4)
    by-leap v (answer x) p = inr (only-four hour minute second x _ k (sym (on-date rows y m d hour minute second v x p) ∙ e))
    by-leap v (refusal n) p = inl (one_number _ k n e (leap-refused rows y m d hour minute second v n p) ∙ leap-numbers rows y (pos m) (pos d) n v p)

    go : (o : Outcome Unit) → valid_date y (pos m) (pos d) ≡ o → ((k ≡ 1) ⊎ ((k ≡ 2) ⊎ (k ≡ 3))) ⊎ ((k ≡ 5) ⊎ (k ≡ 4))
    go (answer u) p = inr (by-leap p (leap_at_end_of_day rows y (pos m) (pos d)) refl)
    go (refusal n) p = inl (subst (λ (j : ℕ). (j ≡ 1) ⊎ ((j ≡ 2) ⊎ (j ≡ 3))) (one_number _ n k (date_refused rows y m d hour minute second n p) e)
        (date-numbers y (pos m) (pos d) n p))
