-- The day that a run of texts keeps: the bytes of its date, its midnight and its leap, and the date that a time has by it. Written from Scan, Judging and
-- Parsed, of which the calendar's part is taken out: a text whose first eleven bytes are those of a date that was read has its midnight and its leap. This
-- project's own; no contract of a public function cites it. Assumes nothing.
use Rattle.std.specs.Prelude.{ℕ, ◌≤◌, ◌≡◌, Bool, true, false, cond, ◌&&◌, List, [], ◌∷◌, leb, Float, length, get_or, drop, Option, Some}
use Rattle.refusals.specs.Outcome.{Outcome, answer, refusal, onward, outcome}
use Rattle.julian.specs.declared.JulianDate.{JulianDate}
use Rattle.julian.specs.JulianDate.{julian}
use Rattle.julian.specs.DayFraction.{day_fraction}
use Rattle.leap_table.specs.rows.Table.{Row}
use Rattle.utc.specs.FromCalendar.{midnight_plus}
use Rattle.parsing.specs.declared.scan.Form.{Form}
use Rattle.parsing.specs.declared.run_dates.kept_day.KeptDay.{KeptDay}
use Rattle.parsing.specs.declared.run_dates.kept_day.TextRead.{TextRead}
use Rattle.parsing.specs.scan.Form.{byte_at, two_say, is_blank, fraction_digits, after_fraction, end_right}
use Rattle.parsing.specs.scan.Scan.{pairs_at, kept, form_with}
use Rattle.parsing.specs.Judging.{quotient, time_in}
use Rattle.parsing.specs.run_dates.RunDates.{date_read}

-- the first eleven bytes, one by one: YYYY-MM-DD and what stands behind it
abbrev pub first_eleven : List ℕ → List ℕ
first_eleven d =
    get_or d 0 0 ∷ get_or d 1 0 ∷ get_or d 2 0 ∷ get_or d 3 0 ∷ get_or d 4 0 ∷ get_or d 5 0 ∷ get_or d 6 0 ∷ get_or d 7 0 ∷ get_or d 8 0 ∷ get_or d 9 0 ∷ get_or
    d 10 0 ∷ []

-- ---- the time of a text: what the scan finds behind the date
abbrev pub time_form : List ℕ → Form
time_form t =
    form_with 0 0 0 (two_say (byte_at t 11) (byte_at t 12)) (two_say (byte_at t 14) (byte_at t 15)) (two_say (byte_at t 17) (byte_at t 18))
    (kept (two_say (byte_at t 17) (byte_at t 18)) (drop 19 t)) (length (fraction_digits (drop 19 t)))

unfoldable pub time_scanned : List ℕ → Outcome Form
time_scanned t = cond (pairs_at 58 t 11 && end_right true (after_fraction (drop 19 t))) (answer (time_form t)) (refusal 15)

-- 16 for more than 13 digits of a fraction, then 4, and the time's fraction of the day that is kept
unfoldable pub time_judged : KeptDay → Form → Outcome JulianDate
time_judged h f =
    cond (leb f.places 13)
    (cond (time_in f)
    (midnight_plus (julian h.jd1 h.jd2) (day_fraction f.hour f.minute (quotient f.whole f.places) h.leap))
    (refusal 4))
    (refusal 16)

unfoldable pub time_read : KeptDay → List ℕ → Outcome JulianDate
time_read h t = onward (time_scanned t) (time_judged h)

-- ---- the day
-- the day h serves the text t
pub record Served (h : KeptDay) (t : List ℕ) : Type 0 where
  pub long : 19 ≤ length t
  pub same : first_eleven t ≡ first_eleven h.date

-- what a test found says so
unfoldable pub SameDate : List ℕ → List ℕ → Bool → Type 0
SameDate t d found = found ≡ true → first_eleven t ≡ first_eleven d

unfoldable pub IsServed : KeptDay → List ℕ → Bool → Type 0
IsServed h t found = found ≡ true → Served h t

-- where it serves a text, the time alone gives the date that the single call reads
unfoldable pub RightForTexts : List Row → Option KeptDay → Type 0
RightForTexts rows k = (h : KeptDay) → k ≡ Some h → (t : List ℕ) → Served h t → date_read rows t ≡ time_read h t

-- h has what the texts with the date of t share: no blank stands in front of it
pub record DayOf (t : List ℕ) (midnight : JulianDate) (leap : Float) (h : KeptDay) : Type 0 where
  pub in_front : is_blank (get_or t 0 0) ≡ false
  pub long : 19 ≤ length t
  pub characters : h.date ≡ first_eleven t
  pub first : h.jd1 ≡ midnight.jd1
  pub second : h.jd2 ≡ midnight.jd2
  pub counts : h.leap ≡ leap

unfoldable pub KeptOfText : List ℕ → JulianDate → Float → Option KeptDay → Type 0
KeptOfText t midnight leap k = (h : KeptDay) → k ≡ Some h → DayOf t midnight leap h

-- what a text is read as is its date, and the day that is kept is right
pub record RightRead (rows : List Row) (t : List ℕ) (r : TextRead) : Type 0 where
  pub found : outcome r.found ≡ date_read rows t
  pub kept : RightForTexts rows r.kept
