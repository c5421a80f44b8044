-- WHICH NUMBERS, AND EXACTLY WHEN, by every announced table, one that is refused too: the look-up, the leap, and UTC from the calendar. UTC from Unix time and
-- the text stand in NewDecided and TextDecided. Assumes nothing.
use mathlib.Core.Path.{◌≡◌, refl, sym, ap, subst, ◌∙◌}
use mathlib.Core.Bool.{Bool, true, false, true≢false}
use mathlib.Core.List.{List}
use Prim.Native.Nat.{ℕ}
use lib.IntN.{ℤ, pos, nat_abs}
use lib.Ieee.{Float}
use Rattle.refusals.specs.Outcome.{Outcome, answer, refusal, onward}
use Rattle.refusals.proofs.Onward.{went, stopped}
use Rattle.calendar.specs.Calendar.{date, next}
use Rattle.calendar.specs.Refusals.{valid_date, last_date, next_of}
use Rattle.calendar.proofs.NextDates.{by, refused-next}
use Rattle.calendar.proofs.Mjd.{mjd-refused, mjd-given}
use Rattle.julian.specs.DayFraction.{time_in_day, day_fraction}
use Rattle.leap_table.specs.declared.rows.AnnouncedRows.{AnnouncedRows}
use Rattle.leap_table.specs.rows.Table.{Row}
use Rattle.leap_table.specs.rows.Announced.{rows_of, table_of}
use Rattle.leap_table.specs.offsets.Offset.{in_day}
use Rattle.leap_table.specs.offsets.Leap.{leap_at_end_of_day}
use Rattle.leap_table.specs.offsets.Rule.{with_rule, offset_by_rule}
use Rattle.leap_table.proofs.offsets.Offsets as Offsets
use Rattle.leap_table.proofs.offsets.Days.{day-offsets-are, leap-given}
use Rattle.utc.specs.FromCalendar.{midnight_plus, utc_from_calendar}
use Rattle.utc.proofs.laws.FromCalendars.{date_refused, leap-refused, on-date, time-given}
use Rattle.utc.specs.laws.Ladder.{Ladder, done, refuse, Decided}
use Rattle.utc.specs.laws.Ladders.{table_first, offset_ladder, leap_ladder, from_calendar_ladder, TimeOutside}
use Rattle.utc.proofs.laws.Ladders.{reaches, stops, passes, by-test, under_table, by-date}

module _ (t : AnnouncedRows) where
  abbrev rows : List Row
  rows = rows_of t

  abbrev by_table : {A : Type 0} → (List Row → Outcome A) → Outcome A
  by_table call = onward (table_of t) call

  -- the table's numbers come first, whatever the call
  pub decided-if : {A : Type 0} (call : List Row → Outcome A) (l : Ladder) → (table_of t ≡ answer rows → Decided (call rows) l)
      → Decided (by_table call) (table_first t l)
  decided-if call l d = under_table t l (λ n e. stopped call e) (λ e. subst (λ o. Decided o l) (sym (went call e)) (d e))

  pub decided-by : {A : Type 0} (call : List Row → Outcome A) (l : Ladder) → Decided (call rows) l → Decided (by_table call) (table_first t l)
  decided-by call l d = decided-if call l (λ e. d)

  is_true : (b : Bool) → (b ≡ false → ⊥) → b ≡ true
  is_true true h = refl
  is_true false h = absurd (h refl)

  is_false : (b : Bool) → (b ≡ true → ⊥) → b ≡ false
  is_false false h = refl
  is_false true h = absurd (h refl)

  -- ---- THE LOOK-UP: 7 by the fraction, then 1, 2, 3 by the date
  pub offset-decided : (y m d : ℤ) (fraction : Float) → Decided (by_table (λ rows. offset_by_rule rows y m d fraction)) (offset_ladder t y m d fraction)
  unfolding offset_by_rule with_rule
  offset-decided y m d f = decided-by (λ rows. offset_by_rule rows y m d f) _ (by-test (in_day f) false
      (λ e. stopped _ (Offsets.fraction-refused rows y m d f e))
      (λ n. let i = is_true (in_day f) n in by-date y m d done
      (λ k e. stopped _ (Offsets.date_refused rows y m d f i k (mjd-refused y m d k e)))
      (λ v. reaches _ (went _ (Offsets.offset-given rows y m d f i _ (mjd-given y m d v))))))

  -- ---- THE LEAP: 1, 2, 3 by the date, then 5 on the last date
  module _ (y m d : ℤ) where
    no_next_day : valid_date y m d ≡ answer tt → last_date y (nat_abs m) (nat_abs d) ≡ true → next_of y m d ≡ refusal 5
    no_next_day v e = by y m d v true e

    next-day : valid_date y m d ≡ answer tt → (last_date y (nat_abs m) (nat_abs d) ≡ true → ⊥) → next_of y m d ≡ answer (next (date y (nat_abs m) (nat_abs d)))
    next-day v n = by y m d v false (is_false (last_date y (nat_abs m) (nat_abs d)) n)

    leap-as-next : (k : ℕ) → next_of y m d ≡ refusal k → leap_at_end_of_day rows y m d ≡ refusal k
    unfolding leap_at_end_of_day
    leap-as-next k e = stopped _ (day-offsets-are rows y m d ∙ stopped _ e)

    pub leap-decided : Decided (by_table (λ rows. leap_at_end_of_day rows y m d)) (leap_ladder t y m d)
    leap-decided = decided-by (λ rows. leap_at_end_of_day rows y m d) _ (by-date y m d _
        (λ k e. leap-as-next k (refused-next y m d k e))
        (λ v. by-test (last_date y (nat_abs m) (nat_abs d)) true (λ e. leap-as-next 5 (no_next_day v e))
        (λ n. reaches _ (leap-given rows y m d _ (next-day v n)))))

  -- ---- A TIME of a date that has a next one: 4 where it is not in the day
  module _ (y : ℤ) (m d hour minute : ℕ) (second : Float) (v : valid_date y (pos m) (pos d) ≡ answer tt) (x : Float)
      (e : leap_at_end_of_day rows y (pos m) (pos d) ≡ answer x) where
    pub time-refused : time_in_day hour minute second x ≡ false → utc_from_calendar rows y m d hour minute second ≡ refusal 4
    unfolding midnight_plus day_fraction onward
    time-refused h = on-date rows y m d hour minute second v x e ∙ rw h

    time-decided : Decided (utc_from_calendar rows y m d hour minute second) (refuse 4 (TimeOutside rows y (pos m) (pos d) hour minute second) done)
    time-decided = go (time_in_day hour minute second x) refl
      where
        one-leap : (z : Float) → leap_at_end_of_day rows y (pos m) (pos d) ≡ answer z → x ≡ z
        one-leap z p = cc

        go : (b : Bool) → time_in_day hour minute second x ≡ b
            → Decided (utc_from_calendar rows y m d hour minute second) (refuse 4 (TimeOutside rows y (pos m) (pos d) hour minute second) done)
        go false h = stops (x, e, h) (time-refused h)
        go true h = passes (λ f. true≢false (sym h ∙ ap (time_in_day hour minute second) (one-leap f.0 f.1) ∙ f.2))
            (reaches _ (time-given rows y m d hour minute second v x e h))

  -- ---- UTC FROM THE CALENDAR: 1, 2, 3 by the date, 5 on the last date, 4 by the time
  pub from-calendar-decided : (y : ℤ) (m d hour minute : ℕ) (second : Float)
      → Decided (by_table (λ rows. utc_from_calendar rows y m d hour minute second)) (from_calendar_ladder t y m d hour minute second)
  from-calendar-decided y m d hour minute second = decided-by (λ rows. utc_from_calendar rows y m d hour minute second) _ (by-date y (pos m) (pos d) _
      (λ k e. date_refused rows y m d hour minute second k e)
      (λ v. by-test (last_date y m d) true
      (λ e. leap-refused rows y m d hour minute second v 5 (leap-as-next y (pos m) (pos d) 5 (no_next_day y (pos m) (pos d) v e)))
      (λ n. time-decided y m d hour minute second v _ (leap-given rows y (pos m) (pos d) _ (next-day y (pos m) (pos d) v n)))))
