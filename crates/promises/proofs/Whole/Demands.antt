-- THE THREE DEMANDS, for every table that is taken. Assumes nothing.
use mathlib.Core.Path.{◌≡◌, refl, ap, ◌∙◌}
use mathlib.Core.Bool.{Bool, true, false, true≢false, ◌&&◌}
use mathlib.Core.List.{List}
use Prim.Native.Nat.{ℕ}
use lib.Ieee.{Float}
use lib.Ieee.Scale.{finite}
use Rattle.std.specs.Prelude.{Err}
use Rattle.refusals.specs.declared.Refusal.{Refusal}
use Rattle.refusals.specs.Outcome.{Outcome, answer, refusal, onward, outcome}
use Rattle.refusals.proofs.Onward.{stopped}
use Rattle.julian.specs.declared.JulianDate.{JulianDate}
use Rattle.julian.specs.Finite.{finite_parts}
use Rattle.julian.specs.Calendar.{julian_to_calendar}
use Rattle.julian.proofs.day_number.NotFinite as DayNumber
use Rattle.julian.proofs.laws.CalendarDays.{only-six, exact-date}
use Rattle.julian.proofs.laws.RoundTrip.{round_trip}
use Rattle.calendar.proofs.Unique.{the_calendar}
use Rattle.calendar.proofs.Gregorian.{gregorian_is_date_of_day}
use Rattle.calendar.proofs.Mjd.{mjd-meaning}
use Rattle.calendar.proofs.Days.{day-2451545-is-2000-01-01, next-number-is-next-date}
use Rattle.leap_table.specs.declared.rows.AnnouncedRows.{AnnouncedRows}
use Rattle.leap_table.specs.rows.Table.{Row}
use Rattle.leap_table.specs.rows.Announced.{table_of}
use Rattle.leap_days.proofs.EveryTable.{every_table}
use Rattle.leap_days.proofs.Formula.{drift-formula}
use Rattle.julian.specs.shifts.SmallerPart.{map_smaller_part}
use Rattle.scales.specs.Formulas.{tcg_to_tt}
use Rattle.scales.specs.Conversions.{Conversion, gps-tai, tai-gps, tai-tt, tt-tai, tcg-tt, tt_tcg, tcb-tdb, tdb-tcb, tai-tcg, tcg-tai, tai-ut1}
use Rattle.scales.specs.Conversions.{ut1-tai, ut1-tt, tt-ut1, tt-tdb, tdb-tt, answer_of, offset_of}
use Rattle.scales.specs.Refusals.{tested_finite, DecidedFinite}
use Rattle.scales.specs.laws.Ranges.{Held}
use Rattle.scales.proofs.laws.Refuses.{refuses}
use Rattle.scales.proofs.laws.Meant.{practical}
use Rattle.utc_scales.specs.to_ut1.UtcUt1.{utc_to_ut1}
use Rattle.utc_scales.specs.from_ut1.Ut1Utc.{ut1_to_utc}
use Rattle.utc_scales.specs.laws.Twenty.{Twenty, by-formula, utc_tai, tai_utc, utc-ut1, ut1-utc, announced_answer, answer_of_any, given_offset}
use Rattle.utc_scales.proofs.laws.NotFinite.{utc-to-tai-not-finite, tai-to-utc-not-finite, utc-to-ut1-not-finite, ut1-to-utc-not-finite}
use Rattle.utc_scales.proofs.laws.NotFinite.{utc-to-ut1-no-offset, ut1-to-utc-no-offset}
use Rattle.utc_scales.proofs.laws.AnnouncedCalls.{announced_refuses, announced_no_nan_no_infinity, by-its-rows}
use Rattle.utc_scales.proofs.round_trip.Meant.{table-utc-to-tai-means}
use Rattle.utc_scales.proofs.round_trip.UtcMeant.{table-tai-to-utc-means}
use Rattle.utc_scales.proofs.round_trip.Steps.{steps-are, rates-are}
use Rattle.utc_scales.proofs.ut1_laws.Ut1.{table-utc-to-ut1-means}
use Rattle.utc_scales.proofs.ut1_laws.Back.{table-ut1-to-utc-means}
use Rattle.leap_table.specs.declared.offsets.Rule.{Rule}
use Rattle.leap_table.specs.offsets.Rule.{forget}
use Rattle.utc.specs.iso_texts.ByRule.{TextRuleCall}
use Rattle.utc.proofs.iso_texts.TextRules.{rule-call-forgets}
use Rattle.utc.proofs.laws.Numbers as Text
use Rattle.utc.proofs.laws.HalfEvenTexts.{even-not-finite}
use Rattle.utc.proofs.laws.ExpandedTexts.{expanded-not-finite}
use Rattle.utc.proofs.laws.Decided.{offset-decided, leap-decided, from-calendar-decided}
use Rattle.utc.proofs.laws.NewDecided.{new_decided}
use Rattle.utc.proofs.laws.TextDecided.{text-call-decided}
use Rattle.utc.proofs.laws.Alike.{nothing_written}
use Rattle.utc.proofs.laws.OneText.{table-text-for-every-buffer}
use Rattle.worked_cases.proofs.Cases.{sixteen, starred-cases}
use Rattle.promises.specs.Demands.{Demand1, Demand2, Demand3, StarredCases}

-- ---- a part or an offset that is not finite

-- who answers has finite parts and a finite offset
not_tested : (k : Conversion) (d : JulianDate) → finite_parts d ≡ false → tested_finite k d ≡ false
unfolding tested_finite
not_tested gps-tai d h = h
not_tested tai-gps d h = h
not_tested tai-tt d h = h
not_tested tt-tai d h = h
not_tested tcg-tt d h = h
not_tested tt_tcg d h = h
not_tested tcb-tdb d h = h
not_tested tdb-tcb d h = h
not_tested tai-tcg d h = h
not_tested tcg-tai d h = ap (λ (b : Bool). b && finite_parts (map_smaller_part tcg_to_tt d)) h
not_tested (tai-ut1 s) d h = h
not_tested (ut1-tai s) d h = h
not_tested (ut1-tt s) d h = h
not_tested (tt-ut1 s) d h = h
not_tested (tt-tdb s) d h = h
not_tested (tdb-tt s) d h = h

abbrev Refuses : Outcome JulianDate → Type 0
Refuses o = (n : ℕ) × (o ≡ refusal n)

by_tests : (b c : Bool) (o : Outcome JulianDate) → b && c ≡ false → DecidedFinite b c o → Refuses o
by_tests false c o h e = (9, e)
by_tests true false o h e = (10, e)
by_tests true true o h e = absurd (true≢false h)

both_false : (b b' c : Bool) → (b ≡ false → b' ≡ false) → b && c ≡ false → b' && c ≡ false
both_false false b' c f h = ap (λ (x : Bool). x && c) (f refl)
both_false true false c f h = refl
both_false true true c f h = h

formula_refuses : (k : Conversion) (d : JulianDate) → Held d → finite_parts d && finite (offset_of k) ≡ false → Refuses (answer_of k d)
formula_refuses k d held h = by_tests (tested_finite k d) (finite (offset_of k)) (answer_of k d)
    (both_false (finite_parts d) (tested_finite k d) (finite (offset_of k)) (not_tested k d) h) (refuses k d held)

by-offset : (b c : Bool) (n : ℕ) (o : Outcome JulianDate) → b && c ≡ false → (c ≡ false → o ≡ refusal 10) → (c ≡ true → b ≡ false → o ≡ refusal n) → Refuses o
by-offset b false n o h f g = (10, f refl)
by-offset false true n o h f g = (n, g refl refl)
by-offset true true n o h f g = absurd (true≢false h)

-- the offset 0.0 is finite
parts-false : (b : Bool) → b && true ≡ false → b ≡ false
parts-false false h = refl
parts-false true h = h

module _ (rows : List Row) (d : JulianDate) where
  four-refuse : (k : Twenty) → Held d → finite_parts d && finite (given_offset k) ≡ false → Refuses (answer_of_any rows k d)
  unfolding answer_of_any given_offset
  four-refuse (by-formula k) held h = formula_refuses k d held h
  four-refuse utc_tai held h = (6, utc-to-tai-not-finite rows d (parts-false (finite_parts d) h))
  four-refuse tai_utc held h = (6, tai-to-utc-not-finite rows d (parts-false (finite_parts d) h))
  four-refuse (utc-ut1 s) held h = by-offset (finite_parts d) (finite s) 6 (utc_to_ut1 rows d s) h (utc-to-ut1-no-offset rows d s)
      (utc-to-ut1-not-finite rows d s)
  four-refuse (ut1-utc s) held h = by-offset (finite_parts d) (finite s) 9 (ut1_to_utc rows d s) h (ut1-to-utc-no-offset rows d s)
      (ut1-to-utc-not-finite rows d s)

pub calendar-not-finite : (x y : Float) → finite x && finite y ≡ false → julian_to_calendar x y ≡ refusal 6
unfolding julian_to_calendar
calendar-not-finite x y h = stopped _ (DayNumber.not_finite x y h)

pub refused-stays : (o : Outcome (List ℕ × Rule)) (before after : List ℕ) (k : Refusal) → TextRuleCall o before (Err k) after → after ≡ before
unfolding outcome forget onward
refused-stays o before after k c = nothing_written (forget o) before after k (rule-call-forgets o before after (Err k) (Err k) refl c)

-- ---- the demands
module _ (t : AnnouncedRows) (rows : List Row) (e : table_of t ≡ answer rows) where
  pub any_refuses : (k : Twenty) (d : JulianDate) → Held d → finite_parts d && finite (given_offset k) ≡ false → Refuses (announced_answer t k d)
  any_refuses k d held h = let r = four-refuse rows d k held h in (r.0, by-its-rows t rows e k d ∙ r.1)

  pub demand_1 : Demand1 t rows
  demand_1 = record {
    conversions_refuse = any_refuses;
    calendar_refuses = calendar-not-finite;
    texts_refuse = λ d h. (Text.not_finite rows d h, even-not-finite rows d h, expanded-not-finite rows d h);
    conversions_answer = announced_refuses t;
    calendar_answers = only-six;
    texts_answer = text-call-decided t;
    offset_answers = offset-decided t;
    leap_answers = leap-decided t;
    fields_answer = from-calendar-decided t;
    unix_answers = new_decided t;
    text_stays = refused-stays;
    finite_answers = announced_no_nan_no_infinity t;
  }

  pub demand_2 : Demand2 t rows
  demand_2 = record {
    anchor = day-2451545-is-2000-01-01;
    step = next-number-is-next-date;
    no_other = the_calendar;
    to_date = gregorian_is_date_of_day;
    to_day = mjd-meaning;
    steps_told = steps-are;
    rates_told = rates-are;
    table = every_table t rows e;
    drift = drift-formula;
    formulas = practical;
    utc-to-tai = table-utc-to-tai-means t rows e;
    tai-to-utc = table-tai-to-utc-means t rows e;
    utc-to-ut1 = λ h dut1 s. table-utc-to-ut1-means t rows e h dut1 s.0 s.1;
    ut1-to-utc = λ h x n dut1 s. table-ut1-to-utc-means t rows e h x n dut1 s.0 s.1;
    there_and_back = round_trip;
  }

  pub demand_3 : Demand3 rows
  demand_3 = record { calendar = exact-date; text = table-text-for-every-buffer t rows e }

pub starred : StarredCases
starred = record { sixteen = sixteen; answered = starred-cases }
