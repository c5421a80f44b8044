-- What is told of a stamp that is not finite, by numbers or with sentences: `refused`, its number and, where sentences are asked for, the number's sentence
-- with the field at fault. The words are those of the comment at the head of programs/line_up.c and of document 02, item 13. Assumes nothing.
use Rattle.std.specs.Prelude.{ℕ, Bool, cond, List, [], ◌++◌}
use Rattle.julian.specs.declared.JulianDate.{JulianDate}
use Rattle.utc.specs.text.Ascii.{ascii_bytes}
use Rattle.reasons.specs.Offending.{sum_field, part_field}
use Rattle.reasons.specs.sentences.Render.{named_text}

-- in UTC: the sum of the parts is in no calendar
unfoldable pub six_told : Bool → JulianDate → List ℕ
six_told sentences d =
    ascii_bytes "refused 6" ++ cond sentences (ascii_bytes ": date is outside the calendar" ++ named_text (sum_field d.jd1 d.jd2)) []

-- in GPS time and TAI: the first part that is not finite
unfoldable pub nine_told : Bool → JulianDate → List ℕ
nine_told sentences d =
    ascii_bytes "refused 9" ++ cond sentences (ascii_bytes ": part or sum of a date is not finite" ++ named_text (part_field d.jd1 d.jd2)) []
