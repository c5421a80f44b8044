-- The day that a run of texts keeps: the characters of its date, its leap and its end, and what a text comes to by it. Written from IsoText and Text: a text
-- of a year of four digits taken apart behind the T of its date, and the leap and the end that `shown_by` finds of the day alone. This project's own; no
-- contract of a public function cites it. Assumes nothing.
use Rattle.std.specs.Prelude.{ℕ, ◌<◌, ◌≡◌, Bool, true, false, List, [], ◌∷◌, ◌++◌, length, get_or, drop, pos, Float}
use Rattle.std.specs.Float.{binary64}
use Rattle.std.specs.Float.Ieee.{of_bits, le}
use Rattle.refusals.specs.Outcome.{Outcome, answer}
use Rattle.calendar.specs.declared.CalendarDate.{CalendarDate}
use Rattle.calendar.specs.Gregorian.{gregorian_date}
use Rattle.julian.specs.declared.JulianDate.{JulianDate}
use Rattle.julian.specs.day_number.Midnights.{day_from, Midnight}
use Rattle.leap_table.specs.rows.Table.{Row}
use Rattle.leap_table.specs.offsets.Leap.{leap_at_end_of_day}
use Rattle.time_of_day.specs.declared.TimeOfDay.{TimeOfDay}
use Rattle.time_of_day.specs.Milliseconds.{whole_leap}
use Rattle.time_of_day.specs.TimeShown.{day_end, shown_by}
use Rattle.utc.specs.declared.iso_texts.NamedForm.{NamedForm}
use Rattle.utc.specs.declared.run_texts.kept_day.KeptDay.{KeptDay}
use Rattle.utc.specs.text.Text.{two, three, four}
use Rattle.utc.specs.iso_texts.IsoText.{shown_text_by, iso_text_by}
use Rattle.utc.specs.iso_texts.Named.{form_named}

-- ---- a text of a year of four digits in two pieces: YYYY-MM-DDT and hh:mm:ss.mmm
abbrev pub date_characters : ℕ → ℕ → ℕ → List ℕ
date_characters y m d = four y ++ ((45 ∷ []) ++ (two m ++ ((45 ∷ []) ++ (two d ++ (84 ∷ [])))))

abbrev pub time_characters : TimeOfDay → List ℕ
time_characters t = two t.hour ++ ((58 ∷ []) ++ (two t.minute ++ ((58 ∷ []) ++ (two t.second ++ ((46 ∷ []) ++ three t.milli)))))

-- the first eleven bytes, one by one
abbrev pub eleven : List ℕ → List ℕ
eleven d = get_or d 0 0 ∷ get_or d 1 0 ∷ get_or d 2 0 ∷ get_or d 3 0 ∷ get_or d 4 0 ∷ get_or d 5 0 ∷ get_or d 6 0 ∷ get_or d 7 0 ∷ get_or d 8 0 ∷ get_or d 9 0 ∷
    get_or d 10 0 ∷ []

-- ---- the day
-- 5373483.5, the midnight of 9999-12-31
abbrev pub last_midnight : Float
last_midnight = of_bits binary64 0x4154_7f8a_e000_0000

-- h has what the texts of the date d with this leap share
pub record DayKept (d : CalendarDate) (leap : Float) (h : KeptDay) : Type 0 where
  pub year : ℕ
  pub basic : year < 10000
  pub in_year : d.year ≡ pos year
  pub counts : h.leap ≡ whole_leap leap
  pub ends : h.end ≡ day_end h.leap
  pub characters : h.date ≡ date_characters year d.month d.day

-- it is what is kept of that day, where it serves
unfoldable pub KeptOf : Float → CalendarDate → Float → KeptDay → Type 0
KeptOf midnight d leap h = 0 < h.end → (h.midnight ≡ midnight) × DayKept d leap h

-- the day that begins at h's midnight, by the rows of a table
pub record ServedDay (rows : List Row) (h : KeptDay) : Type 0 where
  pub begins : Midnight h.midnight
  pub early : le h.midnight last_midnight ≡ true
  pub leap : Float
  pub read :
      leap_at_end_of_day rows (gregorian_date (day_from h.midnight)).year (pos (gregorian_date (day_from h.midnight)).month)
      (pos (gregorian_date (day_from h.midnight)).day)
      ≡ answer leap
  pub kept : DayKept (gregorian_date (day_from h.midnight)) leap h

-- where it serves, it is the day of its midnight by these rows
unfoldable pub RightKept : List Row → KeptDay → Type 0
RightKept rows h = 0 < h.end → ServedDay rows h

-- ---- a text that is put
-- o is a text of 23 bytes, and the buffer begins with it
pub record ShortPut (o : Outcome (List ℕ)) (out out' : List ℕ) : Type 0 where
  pub text : List ℕ
  pub is : o ≡ answer text
  pub long : length text ≡ 23
  pub holds : out' ≡ text ++ drop 23 out

-- what is put of a fraction is the text of the date that is kept
unfoldable pub PutsTime : NamedForm → Float → KeptDay → List ℕ → Bool → List ℕ → Type 0
PutsTime textForm f h out true out' =
    (d : CalendarDate) (leap : Float) → DayKept d leap h
    → ShortPut (shown_text_by (form_named textForm).write d (shown_by (form_named textForm).count f leap)) out out'
PutsTime textForm f h out false out' = out' ≡ out

-- what is put of a date is its text, whichever table the day is right for
unfoldable pub PutsByDay : NamedForm → JulianDate → KeptDay → List ℕ → Bool → List ℕ → Type 0
PutsByDay textForm jd h out true out' = (rows : List Row) → RightKept rows h → ShortPut (iso_text_by (form_named textForm) rows jd) out out'
PutsByDay textForm jd h out false out' = out' ≡ out
