-- What the mission and document 02, items 4 to 6 and 8, ask of the texts and of the calls on UTC, call by call. Assumes nothing.
use Rattle.std.specs.Prelude.{◌≡◌, ◌&&◌, false, true, List, ◌++◌, ◌⊎◌, ℕ, ◌*◌, ◌+◌, ◌<◌, ◌≤◌, ℤ, negsuc, pos, length, Float, Result, Err}
use Rattle.std.specs.Float.Ieee.{le, lt}
use Rattle.std.specs.Int.{w64}
use Rattle.std.proofs.Common.{SFits}
use Rattle.refusals.specs.declared.Refusal.{Refusal}
use Rattle.refusals.specs.Outcome.{Outcome, answer, onward, refusal, outcome}
use Rattle.floats.specs.Whole.{away, nought}
use Rattle.constants.specs.Constants.{decimal}
use Rattle.calendar.specs.declared.CalendarDate.{CalendarDate}
use Rattle.calendar.specs.Refusals.{valid_date}
use Rattle.julian.specs.declared.JulianDate.{JulianDate}
use Rattle.julian.specs.Calendar.{julian_to_calendar}
use Rattle.julian.specs.Finite.{finite_parts}
use Rattle.julian.specs.day_number.ExactDay.{GridSumInRange}
use Rattle.time_of_day.specs.declared.TimeOfDay.{TimeOfDay}
use Rattle.time_of_day.specs.ExactTime.{GoodTime, minus_one_f}
use Rattle.time_of_day.specs.TimeShown.{count_by}
use Rattle.leap_table.specs.declared.offsets.Rule.{Rule}
use Rattle.leap_table.specs.declared.rows.AnnouncedRows.{AnnouncedRows}
use Rattle.leap_table.specs.rows.Table.{Row}
use Rattle.leap_table.specs.rows.Announced.{table_of}
use Rattle.leap_table.specs.offsets.Leap.{leap_at_end_of_day}
use Rattle.leap_table.specs.offsets.Rule.{offset_by_rule, rule_on}
use Rattle.leap_table.specs.offsets.Told.{WithRule}
use Rattle.utc.specs.FromCalendar.{utc_from_calendar}
use Rattle.utc.specs.UnixTime.{utc_new}
use Rattle.utc.specs.text.Ascii.{ascii_bytes}
use Rattle.utc.specs.text.Expanded.{expanded_text, expanded_year}
use Rattle.utc.specs.text.Text.{after_year, utc_text, year_text}
use Rattle.utc.specs.iso_texts.TextForm.{TextForm}
use Rattle.utc.specs.iso_texts.IsoText.{iso_text, iso_text_by, standard_form}
use Rattle.utc.specs.iso_texts.HalfEven.{half_even_form, iso_text_half_even}
use Rattle.utc.specs.iso_texts.Expanded.{expanded_form, iso_text_expanded}
use Rattle.utc.specs.iso_texts.ByRule.{TextRuleCall, text_by_rule}
use Rattle.utc.specs.laws.Beside.{Beside}
use Rattle.utc.specs.laws.Ladder.{Decided}
use Rattle.utc.specs.laws.Ladders.{from_calendar_ladder, leap_ladder, new_ladder, offset_ladder, text_call_ladder}
use Rattle.utc.specs.laws.OneText.{OneText}
use Rattle.utc.specs.laws.Promises.{even_promise, expanded_promise}
use Rattle.utc.specs.laws.Shows.{promise01}

-- P holds of each of the three text calls
abbrev pub EachText : List Row → ((JulianDate → Outcome (List ℕ)) → Type 0) → Type 0
EachText rows P = P (iso_text rows) × P (iso_text_half_even rows) × P (iso_text_expanded rows)

-- a date with a part that is not finite has no text: 6
abbrev pub TextsRefuse : List Row → JulianDate → Type 0
TextsRefuse rows j = finite_parts j ≡ false → EachText rows (λ text. text j ≡ refusal 6)

-- each call refuses exactly by its order of tests, and else answers: the texts, into a buffer that held `before`; the look-up of an offset and of a leap, UTC
-- from calendar fields and from Unix time
pub record CallsDecided (t : AnnouncedRows) (j : JulianDate) (x : Float) (y m d : ℤ) (n : ℕ) (before after : List ℕ) : Type 0 where
  pub texts : (form : TextForm) (r : Result (ℕ × Rule) Refusal) → TextRuleCall (onward (table_of t) (λ l. text_by_rule form l j)) before r after
      → Decided (outcome r) (text_call_ladder form t j (length before))
  pub offset : Decided (onward (table_of t) (λ l. offset_by_rule l y m d x)) (offset_ladder t y m d x)
  pub leap : Decided (onward (table_of t) (λ l. leap_at_end_of_day l y m d)) (leap_ladder t y m d)
  pub from_fields : (m d hour minute : ℕ)
      → Decided (onward (table_of t) (λ l. utc_from_calendar l y m d hour minute x)) (from_calendar_ladder t y m d hour minute x)
  pub from_unix : SFits w64 y → Decided (onward (table_of t) (λ l. utc_new l y n)) (new_ladder t y n)

-- a refused text call changes no byte of its buffer
abbrev pub RefusedTextStays : List ℕ → List ℕ → Type 0
RefusedTextStays before after = (o : Outcome (List ℕ × Rule)) (k : Refusal) → TextRuleCall o before (Err k) after → after ≡ before

-- one text or one refusal for all divisions of a date on the grid and every buffer, right to 0.501 ms, or 0.5 ms to even
abbrev pub OneTextEach : List Row → Type 0
OneTextEach rows = (sum : ℤ) → GridSumInRange sum → OneText standard_form promise01 rows sum

abbrev pub OneHalfEvenText : List Row → Type 0
OneHalfEvenText rows = (sum : ℤ) → GridSumInRange sum → OneText half_even_form even_promise rows sum

abbrev pub OneExpandedText : List Row → Type 0
OneExpandedText rows = (sum : ℤ) → GridSumInRange sum → OneText expanded_form expanded_promise rows sum

-- document 01's text rounds halves away from zero
abbrev pub HalvesAway : Type 0
HalvesAway = (f l : Float) → standard_form.count f l ≡ count_by away f l

-- a text passes on the rule of the calendar's date at 0h, and is else as before
abbrev pub TextsPassOn : TextForm → List Row → JulianDate → Type 0
TextsPassOn form rows j = WithRule (text_by_rule form rows j) (iso_text_by form rows j)
    (onward (julian_to_calendar j.jd1 j.jd2) (λ c. answer (rule_on rows c.date)))

-- document 01's text but for the year, which outside 0 to 9999 is a sign and seven digits
pub record ExpandedLike01 (rows : List Row) (j : JulianDate) (d : CalendarDate) (u : TimeOfDay) : Type 0 where
  pub beside : Beside utc_text expanded_text (iso_text rows j) (iso_text_expanded rows j)
  pub to_9999 : (n : ℕ) → d.year ≡ pos n → n ≤ 9999 → expanded_text d u ≡ utc_text d u
  pub after-year : (expanded_text d u ≡ expanded_year d.year ++ after_year d u) × (utc_text d u ≡ year_text d.year ++ after_year d u)
  pub minus_1 : expanded_year (negsuc 0) ≡ ascii_bytes "-0000001"
  pub year_12000 : expanded_year (pos 12000) ≡ ascii_bytes "+0012000"

-- 23 bytes or 27
abbrev pub Of23Or27 : List Row → JulianDate → Type 0
Of23Or27 rows j = (s : List ℕ) → iso_text_expanded rows j ≡ answer s → (length s ≡ 23) ⊎ (length s ≡ 27)

-- the day of a date ends a second early
abbrev pub EndsEarly : List Row → ℤ → ℕ → ℕ → Type 0
EndsEarly rows y m d = (valid_date y (pos m) (pos d) ≡ answer tt) × (leap_at_end_of_day rows y (pos m) (pos d) ≡ answer minus_one_f)

-- a time that a text shows on such a day is below 86,399,000 ms, and its last minute takes seconds below 59
pub record ShortDay (rows : List Row) (y : ℤ) (m d : ℕ) (second : Float) : Type 0 where
  pub text_ends : (u : TimeOfDay) → GoodTime u minus_one_f → 3600000 * u.hour + 60000 * u.minute + 1000 * u.second + u.milli < 86399000
  pub refused : EndsEarly rows y m d → le nought second && lt second (decimal 59 0) ≡ false → utc_from_calendar rows y m d 23 59 second ≡ refusal 4
  pub taken : EndsEarly rows y m d → le nought second && lt second (decimal 59 0) ≡ true
      → (x : JulianDate) × (utc_from_calendar rows y m d 23 59 second ≡ answer x)
