-- UTC text as a list of ASCII codes. Written from document 01, "UTC text", and from the Rust's `iso_string` (scales/utc/mod.rs):
-- `{:04}-{:02}-{:02}T{:02}:{:02}:{:02}.{:03}`. Assumes nothing.
use Rattle.std.specs.Prelude.{ℕ, suc, ◌/◌, List, [], ◌∷◌, ◌++◌, cond, ℤ, pos, negsuc, ltb}
pub use Rattle.numerals.specs.digits.Decimal.{last}
use Rattle.calendar.specs.declared.CalendarDate.{CalendarDate}
use Rattle.time_of_day.specs.declared.TimeOfDay.{TimeOfDay}

-- the last two, three, .. seven decimal digits of n
abbrev pub two : ℕ → List ℕ
two n = last (n / 10) ∷ last n ∷ []

abbrev pub three : ℕ → List ℕ
three n = last (n / 100) ∷ two n

abbrev pub four : ℕ → List ℕ
four n = last (n / 1000) ∷ three n

abbrev pub five : ℕ → List ℕ
five n = last (n / 10000) ∷ four n

abbrev pub six : ℕ → List ℕ
six n = last (n / 100000) ∷ five n

abbrev pub seven : ℕ → List ℕ
seven n = last (n / 1000000) ∷ six n

-- The year has at least four characters, the sign counted: 0 is 0000, -1 is -001. Of a year with more than seven digits, or four after a sign, the last ones
-- are shown; no caller has one: the calendar's years are -4900 to 2733194
unfoldable pub year_text : ℤ → List ℕ
year_text (pos n) = cond (ltb n 10000) (four n) (cond (ltb n 100000) (five n) (cond (ltb n 1000000) (six n) (seven n)))
year_text (negsuc n) = 45 ∷ cond (ltb (suc n) 1000) (three (suc n)) (four (suc n))

-- -MM-DDThh:mm:ss.mmm
abbrev pub after_year : CalendarDate → TimeOfDay → List ℕ
after_year d t =
    (45 ∷ []) ++ (two d.month ++
    ((45 ∷ []) ++ (two d.day ++ ((84 ∷ [])
    ++ (two t.hour ++ ((58 ∷ []) ++ (two t.minute ++ ((58 ∷ []) ++ (two t.second ++ ((46 ∷ []) ++ three t.milli))))))))))

-- the text of a date and a time of day
unfoldable pub utc_text : CalendarDate → TimeOfDay → List ℕ
unfolding year_text
utc_text d t = year_text d.year ++ after_year d t
