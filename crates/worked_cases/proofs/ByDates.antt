-- The answers of the calls with another function from day numbers to dates in the place of the calendar's: the Rust's divisions there change no answer.
-- Assumes nothing.
use mathlib.Core.Path.{◌≡◌, refl, ap, sym, ◌∙◌}
use mathlib.Core.Bool.{cond}
use mathlib.Core.List.{List}
use Prim.Native.Nat.{ℕ, ◌/◌, ◌%◌}
use lib.Dec.{ltb}
use lib.IntN.{ℤ}
use lib.Ieee.{Float, binary64, of_int}
use Rattle.refusals.specs.Outcome.{Outcome, answer, refusal, onward}
use Rattle.constants.specs.Constants.{unix_epoch_jd}
use Rattle.calendar.specs.declared.CalendarDate.{CalendarDate}
use Rattle.calendar.specs.Gregorian.{gregorian_date}
use Rattle.julian.specs.day_number.Answer.{day_number_and_fraction}
use Rattle.julian.specs.declared.JulianDate.{JulianDate}
use Rattle.julian.specs.declared.CalendarFields.{CalendarFields}
use Rattle.julian.specs.JulianDate.{julian}
use Rattle.julian.specs.Calendar.{fields, julian_to_calendar}
use Rattle.leap_table.specs.rows.Table.{fixed}
use Rattle.utc.specs.FromCalendar.{utc_from_calendar}
use Rattle.utc.specs.UnixTime.{unix_day, second_of_unix_day, second_with_nanos, utc_new}
use Rattle.utc.specs.iso_texts.IsoText.{day_text, iso_text_by, iso_text}
use Rattle.worked_cases.specs.Calls.{UtcCall, utc-from-calendar, utc-new, utc_parts, utc_of, Value, parts_value, fields_value, put, call_outcome}
use Rattle.worked_cases.specs.Calls.{Call, calendar-to-julian, julian-to-calendar, get_tai_utc_offset, utc, to_iso8601}
use Rattle.worked_cases.specs.Calls.{nearest-int, convert, utc-to-ut1, block_stamps}
use Rattle.julian.proofs.laws.Divisions.{divided_date, divided-date}

-- the definitions of `julian_to_calendar`, `UTC::new` and `to_iso8601`, with `dates` for `gregorian_date`
abbrev pub to_calendar : (ℤ → CalendarDate) → Float → Float → Outcome CalendarFields
to_calendar dates jd1 jd2 = onward (day_number_and_fraction jd1 jd2) (λ n. answer (fields (dates n.day) n.fraction))

abbrev pub new_by : (ℤ → CalendarDate) → ℤ → ℕ → Outcome JulianDate
new_by dates seconds nanos =
    cond (ltb nanos 1000000000)
    (onward (to_calendar dates unix_epoch_jd (of_int binary64 (unix_day seconds))) (λ c.
    let s = second_of_unix_day seconds in
    utc_from_calendar fixed c.date.year c.date.month c.date.day (s / 3600) (s % 3600 / 60) (second_with_nanos s nanos)))
    (refusal 8)

abbrev pub text_by : (ℤ → CalendarDate) → JulianDate → Outcome (List ℕ)
text_by dates t = onward (to_calendar dates t.jd1 t.jd2) (λ c. day_text fixed c.date c.fraction)

abbrev pub utc_by : (ℤ → CalendarDate) → UtcCall → Outcome JulianDate
utc_by dates (utc-from-calendar y m d hour minute second) = utc_from_calendar fixed y m d hour minute second
utc_by dates (utc-new seconds nanos) = new_by dates seconds nanos
utc_by dates (utc_parts jd1 jd2) = answer (julian jd1 jd2)

-- the other calls stay as they are: they need no date of a day number, or, as `utc_scales::to_ut1` of a DUT1 that is no number, refuse before they need it
unfoldable pub answer_by : (ℤ → CalendarDate) → Call → Outcome Value
answer_by dates (calendar-to-julian y m d) = call_outcome (calendar-to-julian y m d)
answer_by dates (julian-to-calendar jd1 jd2) = onward (to_calendar dates jd1 jd2) (λ c. fields_value c)
answer_by dates (get_tai_utc_offset y m d fraction) = call_outcome (get_tai_utc_offset y m d fraction)
answer_by dates (utc u) = onward (utc_by dates u) (λ t. parts_value t)
answer_by dates (to_iso8601 u n) = onward (utc_by dates u) (λ t. put n (text_by dates t))
answer_by dates (nearest-int x) = call_outcome (nearest-int x)
answer_by dates (convert c jd1 jd2) = call_outcome (convert c jd1 jd2)
answer_by dates (utc-to-ut1 jd1 jd2 dut1) = call_outcome (utc-to-ut1 jd1 jd2 dut1)
answer_by dates (block_stamps block) = call_outcome (block_stamps block)

-- by the calendar's own function they are the calls' answers
by-calendar-utc : (u : UtcCall) → utc_by gregorian_date u ≡ utc_of u
unfolding utc_of utc_new julian_to_calendar
by-calendar-utc (utc-from-calendar y m d hour minute second) = refl
by-calendar-utc (utc-new seconds nanos) = refl
by-calendar-utc (utc_parts jd1 jd2) = refl

by_calendar : (c : Call) → answer_by gregorian_date c ≡ call_outcome c
unfolding answer_by call_outcome julian_to_calendar iso_text_by
by_calendar (calendar-to-julian y m d) = refl
by_calendar (julian-to-calendar jd1 jd2) = refl
by_calendar (get_tai_utc_offset y m d fraction) = refl
by_calendar (utc u) = ap (λ (o : Outcome JulianDate). onward o (λ t. parts_value t)) (by-calendar-utc u)
by_calendar (to_iso8601 u n) = ap (λ (o : Outcome JulianDate). onward o (λ t. put n (iso_text fixed t))) (by-calendar-utc u)
by_calendar (nearest-int x) = refl
by_calendar (convert c jd1 jd2) = refl
by_calendar (utc-to-ut1 jd1 jd2 dut1) = refl
by_calendar (block_stamps block) = refl

pub by-division : (c : Call) → call_outcome c ≡ answer_by divided_date c
by-division c = sym (by_calendar c) ∙ ap (λ (dates : ℤ → CalendarDate). answer_by dates c) (λ i n. divided-date n i)
