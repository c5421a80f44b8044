-- What is judged of a scanned text behind its form: its fraction, its date and its time. Written from document 02, item 1: "15, then 16, then the date's
-- number, then 4". No public contract cites it. Assumes nothing.
use Rattle.std.specs.Prelude.{ℕ, ◌^◌, Bool, cond, ◌&&◌, leb, pos, Float}
use Rattle.std.specs.Float.{binary64}
use Rattle.std.specs.Float.Ieee.{of_int, div}
use Rattle.refusals.specs.Outcome.{Outcome, answer, refusal, onward}
use Rattle.constants.specs.Constants.{decimal}
use Rattle.calendar.specs.Refusals.{valid_date}
use Rattle.parsing.specs.declared.scan.Form.{Form}
use Rattle.parsing.specs.declared.ParsedDateTime.{ParsedDateTime}

-- the quotient of the whole number and the power of ten
unfoldable pub quotient : ℕ → ℕ → Float
quotient whole places = div binary64 (of_int binary64 (pos whole)) (decimal (10 ^ places) 0)

abbrev pub time_in : Form → Bool
time_in f = leb f.hour 23 && (leb f.minute 59 && leb f.second 60)

abbrev pub fields_by : Form → ParsedDateTime
fields_by f = record { year = pos f.year; month = f.month; day = f.day; hour = f.hour; minute = f.minute; second = quotient f.whole f.places }

unfoldable pub judged_form : Form → Outcome ParsedDateTime
judged_form f =
    cond (leb f.places 13)
    (onward (valid_date (pos f.year) (pos f.month) (pos f.day)) (λ _. cond (time_in f) (answer (fields_by f)) (refusal 4)))
    (refusal 16)
