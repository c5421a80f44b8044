-- UTC text with a sign and seven digits for a year that four digits do not hold: ISO 8601's expanded representation. Written from document 02, item 6: "writes
-- such years as a sign and seven digits, so -1 is `-0000001` and 12000 is `+0012000`". Assumes nothing.
use Rattle.std.specs.Prelude.{ℕ, suc, List, ◌∷◌, ◌++◌, cond, ℤ, pos, negsuc, ltb}
use Rattle.calendar.specs.declared.CalendarDate.{CalendarDate}
use Rattle.time_of_day.specs.declared.TimeOfDay.{TimeOfDay}
use Rattle.utc.specs.text.Text.{four, seven, after_year}

-- Years 0000 to 9999 have four digits and no sign, 0 too. Of a year with more than seven digits the last seven are shown; no caller has one: the calendar's
-- years are -4900 to 2733194
unfoldable pub expanded_year : ℤ → List ℕ
expanded_year (pos n) = cond (ltb n 10000) (four n) (43 ∷ seven n)
expanded_year (negsuc n) = 45 ∷ seven (suc n)

-- the text of a date and a time of day
unfoldable pub expanded_text : CalendarDate → TimeOfDay → List ℕ
unfolding expanded_year
expanded_text d t = expanded_year d.year ++ after_year d t
