-- WHICH NUMBERS `UTC::new` GIVES, AND EXACTLY WHEN, by every announced table: its day in whole numbers, and 4 only past the end of a day that ends in a step
-- back, which is from 1972 on second 86399 of a day with the leap -1.0. Assumes nothing.
use mathlib.Core.Path.{◌≡◌, refl, sym, ap, subst, ◌∙◌}
use mathlib.Core.Bool.{Bool, true, false, not, true≢false}
use mathlib.Core.Logic.{◌⊎◌}
use mathlib.Core.List.{List}
use Prim.Native.Nat.{ℕ, ◌/◌, ◌%◌, ◌≤◌, ◌<◌}
use native.Mathlib.Omega.{arith}
use lib.Dec.{T, ltb}
use lib.IntN.{ℤ, pos, negsuc}
use lib.Signed.{lt_z}
use lib.Ieee.{Float, nan, inf, fin, binary64, fits, of_bits, of_int, add, lt}
use lib.Ieee.Fits.{sub-fits}
use lib.Ieee.Scale.{finite}
use borrow.Author.Tests.{ltb-true, ltb-false}
use mir.Syntax.{w64}
use mir.Val.{SFits}
use Rattle.refusals.specs.Outcome.{Outcome, answer, refusal, onward}
use Rattle.floats.specs.Whole.{nought}
use Rattle.refusals.proofs.Onward.{went, stopped}
use Rattle.constants.specs.Constants.{decimal, unix_epoch_jd}
use Rattle.calendar.specs.declared.CalendarDate.{CalendarDate}
use Rattle.calendar.proofs.Years.{valid_of, gregorian_in_range, gregorian_refusal}
use Rattle.julian.specs.day_number.DayNumber.{accepted, day_of}
use Rattle.julian.proofs.day_number.Answer.{answered, refused}
use Rattle.leap_days.specs.drift.Small.{small}
use Rattle.julian.specs.declared.CalendarFields.{CalendarFields}
use Rattle.julian.specs.DayFraction.{time_in_day}
use Rattle.julian.specs.Calendar.{fields, julian_to_calendar}
use Rattle.leap_table.specs.declared.rows.AnnouncedRows.{AnnouncedRows}
use Rattle.leap_table.specs.rows.Table.{Row, month_number}
use Rattle.time_of_day.specs.ExactTime.{minus_one_f}
use Rattle.leap_table.specs.rows.Announced.{rows_of, table_of}
use Rattle.leap_table.specs.offsets.Leap.{leap_of, leap_at_end_of_day}
use Rattle.leap_table.proofs.offsets.Days.{leap-came}
use Rattle.leap_days.specs.Tables.{StepLeap, no_row, row_up, row_down}
use Rattle.leap_days.proofs.TableLeaps.{table-leap, leap-is-step}
use Rattle.utc.specs.FromCalendar.{utc_from_calendar}
use Rattle.utc.specs.UnixTime.{unix_day, second_of_unix_day, second_with_nanos, utc_new}
use Rattle.utc.proofs.laws.FromCalendars.{date_refused, time-given}
use Rattle.utc.proofs.UnixDays.{seconds-most}
use Rattle.utc.proofs.UnixTimes.{nanos-refused, day-refused, day-given}
use Rattle.utc.proofs.laws.DayTexts.{has-leap}
use Rattle.utc.specs.laws.Ladder.{Ladder, done, refuse, Decided}
use Rattle.utc.specs.laws.Ladders.{date_in, new_ladder, PastShortEnd, day_outside, unix_date}
use Rattle.utc.proofs.laws.Ladders.{reaches, stops, passes, by-year}
use Rattle.utc.proofs.laws.UnixDates.{day-accepted, unix_date_is}
use Rattle.utc.proofs.laws.UnixClock.{in_last_minute, not_in_day, steps_back, only-last-second, last-second-past}
use Rattle.leap_days.specs.Leaps as Leaps
use Rattle.utc.proofs.laws.Decided.{decided-if, time-refused}

module _ (t : AnnouncedRows) where
  abbrev rows : List Row
  rows = rows_of t

  abbrev by_table : {A : Type 0} → (List Row → Outcome A) → Outcome A
  by_table call = onward (table_of t) call

  -- ---- UTC FROM UNIX TIME: 8 by the nanoseconds, 6 by the day, 1 by its year, 4 only past the end of a day that ends in a step back
  module _ (is-taken : table_of t ≡ answer rows) (y m d : ℤ) (x : Float) (e : leap_at_end_of_day rows y m d ≡ answer x) where
    small-finite : (z : Float) → T (small z) → T (finite z)
    small-finite nan h = absurd h
    small-finite (inf b) h = absurd h
    small-finite (fin b k c) h = tt

    leap-finite : T (finite x)
    unfolding of_bits
    leap-finite = go (table-leap t rows is-taken y m d x e)
      where
        go : Leaps.TableLeap x → T (finite x)
        go (Leaps.within h) = small-finite x h
        go (Leaps.second p) = subst (λ (z : Float). T (finite z)) (sym p) tt
        go (Leaps.first p) = subst (λ (z : Float). T (finite z)) (sym p) tt
        go (Leaps.shorter p) = subst (λ (z : Float). T (finite z)) (sym p) tt

    leap-fits : T (fits binary64 x)
    unfolding leap_of
    leap-fits = subst (λ (z : Float). T (fits binary64 z)) (sym (leap-came rows y m d x e).2) (sub-fits binary64 _ _)

  module _ (seconds : ℤ) (nanos : ℕ) (held : SFits w64 seconds) where
    abbrev n : ℤ
    n = unix_day seconds

    abbrev u : Float
    u = of_int binary64 n

    abbrev s : ℕ
    s = second_of_unix_day seconds

    abbrev on : CalendarDate
    on = unix_date n

    abbrev C : CalendarFields
    C = record { date = on; fraction = (day_of unix_epoch_jd u).fraction }

    abbrev past_end : Ladder
    past_end = refuse 4 (PastShortEnd rows on s nanos) done

    module _ (below : ltb nanos 1000000000 ≡ true) where
      small-nanos : nanos < 1000000000
      small-nanos = ltb-true nanos 1000000000 below

      -- on a date that is not refused
      on-its-date : table_of t ≡ answer rows → valid_of on ≡ answer tt → (x : Float) → leap_at_end_of_day rows on.year (pos on.month) (pos on.day) ≡ answer x
          → Decided (utc_from_calendar rows on.year on.month on.day (s / 3600) (s % 3600 / 60) (second_with_nanos s nanos)) past_end
      on-its-date k v x e = go (time_in_day (s / 3600) (s % 3600 / 60) (second_with_nanos s nanos) x) refl
        where
          reason : time_in_day (s / 3600) (s % 3600 / 60) (second_with_nanos s nanos) x ≡ false → PastShortEnd rows on s nanos
          reason h =
              let (m, p) = not_in_day s nanos (seconds-most seconds) small-nanos x (leap-finite k _ _ _ x e) h in
              record {
                leap = x;
                leap_is = e;
                step_back =
                    steps_back s nanos (seconds-most seconds) small-nanos x (leap-fits k _ _ _ x e) (leap-finite k _ _ _ x e) p;
                last-minute = m;
                past = p;
              }

          no_reason : time_in_day (s / 3600) (s % 3600 / 60) (second_with_nanos s nanos) x ≡ true → PastShortEnd rows on s nanos → ⊥
          no_reason h r =
              let z : x ≡ r.leap = same r.leap r.leap_is in
              true≢false (sym h ∙ in_last_minute s nanos (seconds-most seconds) small-nanos r.last-minute x (leap-finite k _ _ _ x e)
              ∙ ap (λ (w : Float). lt (second_with_nanos s nanos) (add binary64 (decimal 60 0) w)) z ∙ r.past)
            where
              same : (w : Float) → leap_at_end_of_day rows on.year (pos on.month) (pos on.day) ≡ answer w → x ≡ w
              same w q = cc

          go : (b : Bool) → time_in_day (s / 3600) (s % 3600 / 60) (second_with_nanos s nanos) x ≡ b
              → Decided (utc_from_calendar rows on.year on.month on.day (s / 3600) (s % 3600 / 60) (second_with_nanos s nanos)) past_end
          go false h = stops (reason h) (time-refused t on.year on.month on.day (s / 3600) (s % 3600 / 60) (second_with_nanos s nanos) v x e h)
          go true h = passes (no_reason h)
              (reaches _ (time-given rows on.year on.month on.day (s / 3600) (s % 3600 / 60) (second_with_nanos s nanos) v x e h))

      -- on a day that has a date
      module _ (o : day_outside n ≡ false) where
        in_range : accepted unix_epoch_jd u ≡ true
        in_range = day-accepted seconds held ∙ ap not o

        date-is : date_in unix_epoch_jd u ≡ on
        date-is = unix_date_is seconds held in_range o

        has_date : julian_to_calendar unix_epoch_jd u ≡ answer C
        unfolding julian_to_calendar
        has_date = went _ (answered unix_epoch_jd u in_range) ∙ ap (λ (d : CalendarDate). answer (fields d (day_of unix_epoch_jd u).fraction)) date-is

        its_refusal : (valid_of on ≡ answer tt) ⊎ (valid_of on ≡ refusal 1)
        its_refusal = subst (λ (d : CalendarDate). (valid_of d ≡ answer tt) ⊎ (valid_of d ≡ refusal 1)) date-is (gregorian_refusal (day_of unix_epoch_jd u).day)

        year_high : lt_z (pos 2733194) on.year ≡ false
        year_high = subst (λ (d : CalendarDate). lt_z (pos 2733194) d.year ≡ false) date-is (gregorian_in_range (day_of unix_epoch_jd u).day).year_high

        as-calendar : utc_from_calendar rows on.year on.month on.day (s / 3600) (s % 3600 / 60) (second_with_nanos s nanos) ≡ utc_new rows seconds nanos
        as-calendar = day-given rows seconds nanos below C has_date on.year s (second_with_nanos s nanos) refl refl refl

        on-a-date : table_of t ≡ answer rows → Decided (utc_new rows seconds nanos) (refuse 1 (lt_z on.year (negsuc 4798) ≡ true) past_end)
        on-a-date k = by-year on past_end its_refusal
            (λ v. sym as-calendar ∙ date_refused rows on.year on.month on.day (s / 3600) (s % 3600 / 60) (second_with_nanos s nanos) 1 v)
            (λ v. subst (λ o. Decided o past_end) as-calendar (on-its-date k v _ (has-leap rows on v year_high)))

    no_date : day_outside n ≡ true → julian_to_calendar unix_epoch_jd u ≡ refusal 6
    unfolding julian_to_calendar
    no_date o = stopped _ (refused unix_epoch_jd u (day-accepted seconds held ∙ ap not o))

    pub new_decided : Decided (by_table (λ rows. utc_new rows seconds nanos)) (new_ladder t seconds nanos)
    new_decided = decided-if t (λ rows. utc_new rows seconds nanos) _ (λ k. go k (ltb nanos 1000000000) refl)
      where
        by_day : table_of t ≡ answer rows → ltb nanos 1000000000 ≡ true → (b : Bool) → day_outside n ≡ b
            → Decided (utc_new rows seconds nanos) (refuse 6 (day_outside n ≡ true) (refuse 1 (lt_z on.year (negsuc 4798) ≡ true) past_end))
        by_day k e true o = stops o (day-refused rows seconds nanos e 6 (no_date o))
        by_day k e false o = passes (λ p. true≢false (sym p ∙ o)) (on-a-date e o k)

        go : table_of t ≡ answer rows → (b : Bool) → ltb nanos 1000000000 ≡ b
            → Decided (utc_new rows seconds nanos)
            (refuse 8 (1000000000 ≤ nanos) (refuse 6 (day_outside n ≡ true) (refuse 1 (lt_z on.year (negsuc 4798) ≡ true) past_end)))
        go k false e = stops (ltb-false nanos 1000000000 e) (nanos-refused rows seconds nanos e)
        go k true e = passes (λ h. omega (arith, ltb-true nanos 1000000000 e)) (by_day k e (day_outside n) refl)

    -- ---- FROM 1972 ON 4 is given in second 86399 of a day with the leap -1.0, and in no other
    pub four-from-1972 : table_of t ≡ answer rows → nanos < 1000000000 → 23664 ≤ month_number on.year on.month
        → (PastShortEnd rows on s nanos → (s ≡ 86399) × (leap_at_end_of_day rows on.year (pos on.month) (pos on.day) ≡ answer minus_one_f))
        × ((s ≡ 86399) × (leap_at_end_of_day rows on.year (pos on.month) (pos on.day) ≡ answer minus_one_f) → PastShortEnd rows on s nanos)
    unfolding of_bits lt
    four-from-1972 k below h = (there, back)
      where
        by-step : {a b : ℕ} {x : Float} → StepLeap rows a b x → lt x nought ≡ true → x ≡ minus_one_f
        by-step (no_row p e) q = absurd (true≢false (sym (sym (ap (λ (z : Float). lt z nought) e) ∙ q)))
        by-step (row_up p r e) q = absurd (true≢false (sym (sym (ap (λ (z : Float). lt z nought) e) ∙ q)))
        by-step (row_down p r e) q = e

        minus_one : (x : Float) → leap_at_end_of_day rows on.year (pos on.month) (pos on.day) ≡ answer x → lt x nought ≡ true → x ≡ minus_one_f
        minus_one x e q = let c = leap-came rows on.year (pos on.month) (pos on.day) x e in by-step
            (leap-is-step t rows k on.year (pos on.month) (pos on.day) c.0 x h c.1 e) q

        there : PastShortEnd rows on s nanos → (s ≡ 86399) × (leap_at_end_of_day rows on.year (pos on.month) (pos on.day) ≡ answer minus_one_f)
        there r =
            let e = minus_one r.leap r.leap_is r.step_back in (
              only-last-second s nanos (seconds-most seconds) below r.last-minute
                  (sym (ap (λ (z : Float). lt (second_with_nanos s nanos) (add binary64 (decimal 60 0) z)) e) ∙ r.past),
              r.leap_is ∙ ap answer e,
            )

        back : (s ≡ 86399) × (leap_at_end_of_day rows on.year (pos on.month) (pos on.day) ≡ answer minus_one_f) → PastShortEnd rows on s nanos
        back (p, e) = record {
          leap = minus_one_f;
          leap_is = e;
          step_back = refl;
          last-minute = omega arith;
          past =
              last-second-past s nanos (seconds-most seconds) below p;
        }
