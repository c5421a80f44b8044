-- What reading a text answers: the six fields, and for UTC the date too, or a refusal in the order 15, 16, 2, 3, 4. Written from document 02, item 1 ("15 for a
-- text outside the grammar .., first; 16 for more than 13, next; then 01's date and time numbers, where hour above 23, minute above 59 or second from 61 up are
-- 4"), and the Rust's parsing/mod.rs and `FromStr` (scales/utc/mod.rs). Assumes nothing.
use Rattle.std.specs.Prelude.{ℕ, ◌*◌, ◌^◌, List, Bool, true, cond, ◌&&◌, leb, ltb, pos}
use Rattle.refusals.specs.Outcome.{Outcome, answer, refusal, onward}
use Rattle.constants.specs.Constants.{decimal}
use Rattle.calendar.specs.Refusals.{valid_date}
use Rattle.julian.specs.declared.JulianDate.{JulianDate}
use Rattle.julian.specs.Calendar.{from_calendar}
use Rattle.leap_table.specs.rows.Table.{Row}
use Rattle.utc.specs.FromCalendar.{utc_from_calendar}
use Rattle.parsing.specs.declared.ParsedDateTime.{ParsedDateTime}
use Rattle.parsing.specs.declared.ParsedUtc.{ParsedUtc}
use Rattle.parsing.specs.scan.Written.{Written}
use Rattle.parsing.specs.scan.Form.{form_of}

-- the fields of what was written; the second is the float nearest to the decimal
abbrev pub fields_of : Written → ParsedDateTime
fields_of w = record { year = pos w.year; month = w.month; day = w.day; hour = w.hour; minute = w.minute; second = decimal w.whole w.places }

-- hour 0 to 23, minute 0 to 59, second below 61
unfoldable pub time_fits : Written → Bool
time_fits w = leb w.hour 23 && (leb w.minute 59 && ltb w.whole (61 * 10 ^ w.places))

-- 16 for more than 13 digits of a fraction, then the date's number, then 4
unfoldable pub judged : Written → Outcome ParsedDateTime
judged w =
    cond (leb w.places 13)
    (onward (valid_date (pos w.year) (pos w.month) (pos w.day)) (λ _. cond (time_fits w) (answer (fields_of w)) (refusal 4)))
    (refusal 16)

-- 15 first
unfoldable pub parsed : Bool → List ℕ → Outcome ParsedDateTime
parsed utc t = onward (form_of utc t) judged

-- the Julian date of some fields, by `from_calendar`: the Rust's `to_julian_date`
unfoldable pub to_julian_date : ParsedDateTime → Outcome JulianDate
to_julian_date p = from_calendar p.year p.month p.day p.hour p.minute p.second

-- the UTC date of some fields, in a table of rows, beside them
unfoldable pub dated : List Row → ParsedDateTime → Outcome ParsedUtc
dated rows p =
    onward (utc_from_calendar rows p.year p.month p.day p.hour p.minute p.second)
    (λ jd. answer (record { fields = p; date = record { 0 = jd } }))

-- a text of UTC names what `utc_from_calendar` accepts
unfoldable pub parsed_utc : List Row → List ℕ → Outcome ParsedUtc
parsed_utc rows t = onward (parsed true t) (dated rows)
